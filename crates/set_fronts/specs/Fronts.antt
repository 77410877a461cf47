-- On each connection, in each direction, what one end took is a front of what the other put.
use Rattle.std.specs.Prelude.{◌≡◌, ◌≤◌, ℕ, ◌+◌, ◌-◌, ◌^◌, min, List, [], ◌∷◌, ◌++◌, length, Option, Some, None}
use Rattle.scenario.specs.declared.line.Line.{Line}
use Rattle.set_rules.specs.State.{Connection, SetState, Slot}
use Rattle.set_rules.specs.Nodes.{Nodes}
use Rattle.set_rules.specs.Moves.{slot_at}
use Rattle.set_rules.specs.World.{Beginning, after_all, new_set}
use Rattle.set_fronts.specs.Lives.{before, over_after}
use Rattle.set_fronts.specs.Noting.{Accepted, NotedClient, NotedLife, Talked, noted_client, noted_life, noting}

-- ---- the same set

-- the same life behind its notes, or none
abbrev pub SameLife : {S A : Type 0} → Option S → Option (NotedLife S A) → Type 0
SameLife None None = Unit {0}
SameLife None (Some t) = ⊥
SameLife (Some s) None = ⊥
SameLife (Some s) (Some t) = s ≡ t.node

pub record SameSlot {S A : Type 0} (s : Slot S (List A)) (z : Slot (NotedLife S A) (List A)) : Type 0 where
  pub boot : s.boot ≡ z.boot
  pub position : s.position ≡ z.position
  pub held : s.held ≡ z.held
  pub given : s.given ≡ z.given
  pub life : SameLife s.life z.life
  pub connection : s.connection ≡ z.connection

-- a set, and the same set whose nodes note what they take and put
pub record AreSame {S C A : Type 0} (w : SetState S C (List A)) (v : SetState (NotedLife S A) (NotedClient C A) (List A)) : Type 0 where
  pub source : w.source ≡ v.source
  pub client : w.client ≡ v.client.node
  pub count : length w.slots ≡ length v.slots
  pub slots : (place : ℕ) → place + 1 ≤ length w.slots → SameSlot (slot_at place w) (slot_at place v)

module _ {A : Type 0} where
  -- ---- what was put is taken

  abbrev pub IsFront : List A → List A → Type 0
  IsFront taken put = (rest : List A) × (put ≡ taken ++ rest)

  -- the two ends of a connection: what each took is a front of what the other put
  pub record AreEnds (dial : Talked A) (accepted : Accepted A) : Type 0 where
    pub there : IsFront accepted.talked.taken dial.put
    pub back : IsFront dial.taken accepted.talked.put

  -- each connection that a client made is one that a life of its server accepted, in the same order
  abbrev pub AllMeet : List (Talked A) → List (Accepted A) → Type 0
  AllMeet [] [] = Unit {0}
  AllMeet [] (c ∷ connections) = ⊥
  AllMeet (d ∷ dials) [] = ⊥
  AllMeet (d ∷ dials) (c ∷ connections) = AreEnds d c × AllMeet dials connections

  -- what was put and isn't taken is in flight
  pub record StandsOn (c : Connection (List A)) (dial : Talked A) (accepted : Accepted A) : Type 0 where
    pub number : accepted.number ≡ c.number
    pub there : dial.put ≡ accepted.talked.taken ++ c.there
    pub back : accepted.talked.put ≡ dial.taken ++ c.back

  -- from 1 on, as far as 32 bits go
  abbrev pub AreCounted : List (Accepted A) → Type 0
  AreCounted [] = Unit {0}
  AreCounted (c ∷ earlier) = (c.number ≡ min (length earlier + 1) (2 ^ 32 - 1)) × AreCounted earlier

module _ {S A : Type 0} where
  -- ---- lives

  -- the connections of all these lives
  abbrev pub connections_of : List (NotedLife S A) → List (Accepted A)
  connections_of [] = []
  connections_of (life ∷ earlier) = life.connections ++ connections_of earlier

  -- a connection that stands is the newest one of the link, and of the life that runs
  abbrev pub NewestStands : Option (Connection (List A)) → List (Talked A) → Option (NotedLife S A) → Type 0
  NewestStands None dials life = Unit {0}
  NewestStands (Some c) dials None = ⊥
  NewestStands (Some c) dials (Some life) =
      (dial : Talked A) × (earlier : List (Talked A)) × (accepted : Accepted A) × (others : List (Accepted A))
      × (dials ≡ dial ∷ earlier) × (life.connections ≡ accepted ∷ others) × StandsOn c dial accepted

  -- a server's lives are numbered from 1 on, as far as 16 bits go; and the connections of each
  abbrev pub AreNumbered : List (NotedLife S A) → Type 0
  AreNumbered [] = Unit {0}
  AreNumbered (life ∷ earlier) =
      (life.boot ≡ min (length earlier + 1) (2 ^ 16 - 1)) × AreCounted life.connections × AreNumbered earlier

-- of one server: its slot, the client's connections to it, and its lives that are over
pub record AreFronts {S A : Type 0} (z : Slot (NotedLife S A) (List A)) (dials : List (Talked A)) (over : List (NotedLife S A)) : Type 0 where
  pub meet : AllMeet dials (connections_of (before z.life over))
  pub stands : NewestStands z.connection dials z.life
  pub numbered : AreNumbered (before z.life over)

-- ---- sets from their beginning on

module _ {S C A : Type 0} (n : Nodes S C (List A)) (begins : Beginning S) (items : ℕ) where
  abbrev pub plain_after : List Line → ℕ → C → SetState S C (List A)
  plain_after lines servers client = after_all n begins items lines (new_set begins servers client)

  abbrev pub first_noted : ℕ → C → SetState (NotedLife S A) (NotedClient C A) (List A)
  first_noted servers client = new_set (noted_life begins) servers (noted_client client)

  abbrev pub noted_after : List Line → ℕ → C → SetState (NotedLife S A) (NotedClient C A) (List A)
  noted_after lines servers client = after_all (noting n) (noted_life begins) items lines (first_noted servers client)

  -- the lives of the server at a place that are over, newest first
  abbrev pub lives_over : List Line → ℕ → C → ℕ → List (NotedLife S A)
  lives_over lines servers client = over_after (noting n) (noted_life begins) items lines (first_noted servers client) (λ place. [])

  -- of every server of the set
  abbrev pub AllFronts : List Line → ℕ → C → Type 0
  AllFronts lines servers client = (place : ℕ) → place + 1 ≤ servers
      → AreFronts (slot_at place (noted_after lines servers client)) ((noted_after lines servers client).client.dials (place + 1))
      (lives_over lines servers client place)
