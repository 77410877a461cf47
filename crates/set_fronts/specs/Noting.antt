-- Nodes of a set that note what they take and put on each connection. What is in flight are lists.
use Rattle.std.specs.Prelude.{ℕ, ◌==◌, List, [], ◌∷◌, ◌++◌, if◌then◌else◌}
use Rattle.set_model.specs.declared.source.Change.{Change}
use Rattle.set_rules.specs.Nodes.{Nodes}
use Rattle.set_rules.specs.World.{Beginning}

-- what an end took and what it put on one connection, in order
pub record Talked (A : Type 0) : Type 0 where
  pub taken : List A
  pub put : List A

-- one that a server accepted, under a number
pub record Accepted (A : Type 0) : Type 0 where
  pub number : ℕ
  pub talked : Talked A

-- a life of a server, the number and the values of the items with which it began, and its connections, newest first
pub record NotedLife (S A : Type 0) : Type 0 where
  pub node : S
  pub boot : ℕ
  pub current : List Change
  pub connections : List (Accepted A)

-- a client, and of each link, by the number of its server, its connections, newest first
pub record NotedClient (C A : Type 0) : Type 0 where
  pub node : C
  pub dials : ℕ → List (Talked A)

module _ {A : Type 0} where
  abbrev pub nothing_talked : Talked A
  nothing_talked = record { taken = []; put = [] }

  abbrev pub takes : List A → Talked A → Talked A
  takes more t = record t { taken = t.taken ++ more }

  abbrev pub puts : List A → Talked A → Talked A
  puts more t = record t { put = t.put ++ more }

  -- ---- a server's connections

  abbrev pub accepted_as : ℕ → List (Accepted A) → List (Accepted A)
  accepted_as number earlier = record { number = number; talked = nothing_talked } ∷ earlier

  abbrev pub changed_if : ℕ → (Talked A → Talked A) → Accepted A → Accepted A
  changed_if number change c = if c.number == number then record c { talked = change c.talked } else c

  -- on the newest connection, where it has this number
  abbrev pub on_newest : ℕ → (Talked A → Talked A) → List (Accepted A) → List (Accepted A)
  on_newest number change [] = []
  on_newest number change (c ∷ earlier) = changed_if number change c ∷ earlier

  -- ---- a client's connections

  abbrev pub on_last : (Talked A → Talked A) → List (Talked A) → List (Talked A)
  on_last change [] = []
  on_last change (t ∷ earlier) = change t ∷ earlier

  -- of the link to this server
  abbrev pub of_link : ℕ → (List (Talked A) → List (Talked A)) → (ℕ → List (Talked A)) → ℕ → List (Talked A)
  of_link server change dials number = if number == server then change (dials number) else dials number

-- a client that begins has dialled nobody
abbrev pub noted_client : {C A : Type 0} → C → NotedClient C A
noted_client client = record { node = client; dials = λ server. [] }

abbrev pub noted_life : {S A : Type 0} → Beginning S → Beginning (NotedLife S A)
noted_life begins number boot current =
    record { node = begins number boot current; boot = boot; current = current; connections = [] }

module _ {S C A : Type 0} (n : Nodes S C (List A)) where
  -- what was put is noted where it is taken into flight
  abbrev pub noting : Nodes (NotedLife S A) (NotedClient C A) (List A)
  noting = record {
    nothing = n.nothing;
    joined = n.joined;
    accepts = λ number s. record s { node = n.accepts number s.node; connections = accepted_as number s.connections };
    ends = λ number s. record s { node = n.ends number s.node };
    hears = λ number l s. record s { node = n.hears number l s.node; connections = on_newest number (takes l) s.connections };
    feeds = λ change s. record s { node = n.feeds change s.node };
    ticks = λ ms s. record s { node = n.ticks ms s.node };
    levels = λ level s. record s { node = n.levels level s.node };
    answered = λ number s. n.answered number s.node;
    emptied = λ number s. record s {
      node = n.emptied number s.node;
      connections = on_newest number (puts (n.answered number s.node)) s.connections;
    };
    is_closing = λ number s. n.is_closing number s.node;
    connects = λ server c. record { node = n.connects server c.node; dials = of_link server (λ earlier. nothing_talked ∷ earlier) c.dials };
    is_refused = λ server c. record c { node = n.is_refused server c.node };
    loses = λ server c. record c { node = n.loses server c.node };
    learns = λ server l c. record { node = n.learns server l c.node; dials = of_link server (on_last (takes l)) c.dials };
    waits = λ ms c. record c { node = n.waits ms c.node };
    asked = λ server c. n.asked server c.node;
    cleared = λ server c. record { node = n.cleared server c.node; dials = of_link server (on_last (puts (n.asked server c.node))) c.dials };
    wish = λ server c. n.wish server c.node;
    wish_taken = λ server c. record c { node = n.wish_taken server c.node };
  }
