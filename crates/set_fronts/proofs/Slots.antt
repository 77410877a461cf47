-- One server of a set whose nodes note what they take and put: its connections are those that the client made, and on each
-- what one end took is a front of what the other put.
use Rattle.std.proofs.Common.{◌≡◌, ℕ, suc, ◌+◌, ◌-◌, ◌^◌, ◌==◌, min, Bool, true, false, cond, List, [], ◌∷◌, ◌++◌, length, Option, Some, None, is_some, refl, sym, ap, subst, ◌∙◌, append_assoc, arith}
use Rattle.std.proofs.lemmas.Bool.Decides.{nat_tests}
use Rattle.std.proofs.lemmas.List.{append-nil}
use Rattle.set_model.specs.declared.source.Change.{Change}
use Rattle.set_rules.specs.State.{Connection, Slot}
use Rattle.set_rules.specs.Nodes.{Nodes}
use Rattle.set_rules.specs.Slots.{accepted, fed_all, happens, parted, served, started, stopped}
use Rattle.set_rules.specs.World.{Beginning}
use Rattle.set_fronts.specs.Lives.{before}
use Rattle.set_fronts.specs.Noting.{Accepted, NotedLife, Talked, changed_if, noted_life, nothing_talked, noting, on_last, on_newest, puts, takes}
use Rattle.set_fronts.specs.Fronts.{AllMeet, AreCounted, AreEnds, AreFronts, AreNumbered, NewestStands, StandsOn, connections_of}

-- ---- numbers

pub same_number : (k : ℕ) → (k == k) ≡ true
same_number k = grind (arith, nat_tests)

next_least : (given count most : ℕ) → given ≡ min count most → min (given + 1) most ≡ min (count + 1) most
next_least given count most is = omega (arith, is)

one_more : (number count most : ℕ) → number ≡ min (count + 1) most → number ≡ min (suc count) most
one_more number count most is = omega (arith, is)

-- ---- connections

module _ {A : Type 0} where
  ends_of : (c : Connection (List A)) (dial : Talked A) (accepted : Accepted A) → StandsOn c dial accepted → AreEnds dial accepted
  ends_of c dial accepted x = record { there = (c.there, x.there); back = (c.back, x.back) }

  changed_here : (number : ℕ) (change : Talked A → Talked A) (c : Accepted A) → c.number ≡ number → changed_if number change c ≡ record c { talked = change c.talked }
  changed_here number change c is =
      ap (λ b. cond b (record c { talked = change c.talked }) c) (ap (λ k. k == number) is ∙ same_number number)

  number_by : (b : Bool) (c : Accepted A) (t : Talked A) → (cond b (record c { talked = t }) c).number ≡ c.number
  number_by true c t = refl
  number_by false c t = refl

  long_on : (number : ℕ) (change : Talked A → Talked A) (connections : List (Accepted A)) → length (on_newest number change connections) ≡ length connections
  long_on number change [] = refl
  long_on number change (c ∷ earlier) = refl

  counted_on : (number : ℕ) (change : Talked A → Talked A) (connections : List (Accepted A)) → AreCounted connections → AreCounted (on_newest number change connections)
  counted_on number change [] x = tt
  counted_on number change (c ∷ earlier) x = (number_by (c.number == number) c (change c.talked) ∙ x.0, x.1)

-- ---- a server

module _ {S A : Type 0} where
  -- a connection that stands, and all before it
  pub record Stands (c : Connection (List A)) (connections : List (Accepted A)) (dials : List (Talked A)) (over : List (NotedLife S A)) : Type 0 where
    pub dial : Talked A
    pub earlier : List (Talked A)
    pub accepted : Accepted A
    pub others : List (Accepted A)
    pub dials_are : dials ≡ dial ∷ earlier
    pub connections_are : connections ≡ accepted ∷ others
    pub ends : StandsOn c dial accepted
    pub rest : AllMeet earlier (others ++ connections_of over)

  -- the numbers of a life that runs, and of those before it
  pub record Runs (boot given : ℕ) (life : NotedLife S A) (over : List (NotedLife S A)) : Type 0 where
    pub number : life.boot ≡ min (length over + 1) (2 ^ 16 - 1)
    pub counted : AreCounted life.connections
    pub numbered : AreNumbered over
    pub boot_is : boot ≡ min (length over + 1) (2 ^ 16 - 1)
    pub given_is : given ≡ min (length life.connections) (2 ^ 32 - 1)

  -- of lives that are all over
  pub record AreOver (boot : ℕ) (dials : List (Talked A)) (over : List (NotedLife S A)) : Type 0 where
    pub meet : AllMeet dials (connections_of over)
    pub numbered : AreNumbered over
    pub boot_is : boot ≡ min (length over) (2 ^ 16 - 1)

  -- a server's numbers, life and connection, the client's connections to it, and its lives that are over
  abbrev pub Fits : ℕ → ℕ → Option (NotedLife S A) → Option (Connection (List A)) → List (Talked A) → List (NotedLife S A) → Type 0
  Fits boot given None None dials over = AreOver boot dials over
  Fits boot given None (Some c) dials over = ⊥
  Fits boot given (Some t) None dials over = AllMeet dials (t.connections ++ connections_of over) × Runs boot given t over
  Fits boot given (Some t) (Some c) dials over = Stands c t.connections dials over × Runs boot given t over

  abbrev pub FitsSlot : Slot (NotedLife S A) (List A) → List (Talked A) → List (NotedLife S A) → Type 0
  FitsSlot z dials over = Fits z.boot z.given z.life z.connection dials over

  -- an event of a life that takes and puts nothing
  pub record IsQuiet (g : NotedLife S A → NotedLife S A) : Type 0 where
    pub boot : (t : NotedLife S A) → (g t).boot ≡ t.boot
    pub connections : (t : NotedLife S A) → (g t).connections ≡ t.connections

  runs_on : (boot given : ℕ) (t u : NotedLife S A) (over : List (NotedLife S A)) → u.boot ≡ t.boot → length u.connections ≡ length t.connections
      → AreCounted u.connections → Runs boot given t over → Runs boot given u over
  runs_on boot given t u over same long counted x = record {
    number = same ∙ x.number;
    counted = counted;
    numbered = x.numbered;
    boot_is = x.boot_is;
    given_is = x.given_is ∙ ap (λ k. min k (2 ^ 32 - 1)) (sym long);
  }

  runs_quietly : (g : NotedLife S A → NotedLife S A) (boot given : ℕ) (t : NotedLife S A) (over : List (NotedLife S A)) → IsQuiet g
      → Runs boot given t over → Runs boot given (g t) over
  runs_quietly g boot given t over is x =
      runs_on boot given t (g t) over (is.boot t) (ap length (is.connections t)) (subst AreCounted (sym (is.connections t)) x.counted) x

  -- ---- what the lives that are over leave

  meet_of : (c : Connection (List A)) (connections : List (Accepted A)) (dials : List (Talked A)) (over : List (NotedLife S A)) → Stands c connections dials over
      → AllMeet dials (connections ++ connections_of over)
  meet_of c connections dials over x =
      subst (λ l. AllMeet l (connections ++ connections_of over)) (sym x.dials_are)
      (subst (λ l. AllMeet (x.dial ∷ x.earlier) (l ++ connections_of over)) (sym x.connections_are)
      (ends_of c x.dial x.accepted x.ends, x.rest))

  ends_with : (boot given : ℕ) (t : NotedLife S A) (dials : List (Talked A)) (over : List (NotedLife S A)) → AllMeet dials (t.connections ++ connections_of over)
      → Runs boot given t over → AreOver boot dials (t ∷ over)
  ends_with boot given t dials over meet x = record {
    meet = meet;
    numbered = (x.number, x.counted, x.numbered);
    boot_is = one_more boot (length over) (2 ^ 16 - 1) x.boot_is;
  }

  all_over : (boot given : ℕ) (life : Option (NotedLife S A)) (c : Option (Connection (List A))) (dials : List (Talked A)) (over : List (NotedLife S A))
      → Fits boot given life c dials over → AreOver boot dials (before life over)
  all_over boot given None None dials over x = x
  all_over boot given None (Some c) dials over x = absurd x
  all_over boot given (Some t) None dials over x = ends_with boot given t dials over x.0 x.1
  all_over boot given (Some t) (Some c) dials over x = ends_with boot given t dials over (meet_of c t.connections dials over x.0) x.1

  pub stopped_fits : (z : Slot (NotedLife S A) (List A)) (dials : List (Talked A)) (over : List (NotedLife S A)) → FitsSlot z dials over
      → FitsSlot (stopped z) dials (before z.life over)
  stopped_fits z dials over x = all_over z.boot z.given z.life z.connection dials over x

  pub started_fits : (begins : Beginning S) (number position : ℕ) (current : List Change) (z : Slot (NotedLife S A) (List A)) (dials : List (Talked A)) (over : List (NotedLife S A))
      → FitsSlot z dials over → FitsSlot (started (noted_life begins number (min (z.boot + 1) (2 ^ 16 - 1)) current) position z) dials (before z.life over)
  started_fits begins number position current z dials over x =
      let y = all_over z.boot z.given z.life z.connection dials over x in
      let next = next_least z.boot (length (before z.life over)) (2 ^ 16 - 1) y.boot_is in
      (y.meet, record { number = next; counted = tt; numbered = y.numbered; boot_is = next; given_is = refl })

  newest : (boot given : ℕ) (life : Option (NotedLife S A)) (c : Option (Connection (List A))) (dials : List (Talked A)) (over : List (NotedLife S A))
      → Fits boot given life c dials over → NewestStands c dials life
  newest boot given life None dials over x = tt
  newest boot given None (Some c) dials over x = absurd x
  newest boot given (Some t) (Some c) dials over x = let y = x.0 in
      (y.dial, y.earlier, y.accepted, y.others, y.dials_are, y.connections_are, y.ends)

  pub fronts_of : (z : Slot (NotedLife S A) (List A)) (dials : List (Talked A)) (over : List (NotedLife S A)) → FitsSlot z dials over → AreFronts z dials over
  fronts_of z dials over x = let y = all_over z.boot z.given z.life z.connection dials over x in
      record { meet = y.meet; stands = newest z.boot z.given z.life z.connection dials over x; numbered = y.numbered }

module _ {S C A : Type 0} (n : Nodes S C (List A)) (none : n.nothing ≡ []) (joins : (x y : List A) → n.joined x y ≡ x ++ y) where
  abbrev pub Life : Type 0
  Life = NotedLife S A

  -- ---- each end puts and takes

  stands_put : (more : List A) (c : Connection (List A)) (connections : List (Accepted A)) (dials : List (Talked A)) (over : List Life) → Stands c connections dials over
      → Stands (record c { back = n.joined c.back more }) (on_newest c.number (puts more) connections) dials over
  stands_put more c connections dials over x = record {
    dial = x.dial;
    earlier = x.earlier;
    accepted = record x.accepted { talked = puts more x.accepted.talked };
    others = x.others;
    dials_are = x.dials_are;
    connections_are = ap (on_newest c.number (puts more)) x.connections_are ∙ ap (λ (k : Accepted A). k ∷ x.others) (changed_here c.number (puts more) x.accepted x.ends.number);
    ends = record {
      number = x.ends.number;
      there = x.ends.there;
      back = ap (λ (l : List A). l ++ more) x.ends.back ∙ append_assoc x.dial.taken c.back more ∙ ap (λ (l : List A). x.dial.taken ++ l) (sym (joins c.back more));
    };
    rest = x.rest;
  }

  -- all of it came
  arrived : (l taken flight : List A) → l ≡ taken ++ flight → l ≡ (taken ++ flight) ++ n.nothing
  arrived l taken flight is = is ∙ sym (append-nil (taken ++ flight)) ∙ ap (λ (k : List A). (taken ++ flight) ++ k) (sym none)

  stands_heard : (c : Connection (List A)) (connections : List (Accepted A)) (dials : List (Talked A)) (over : List Life) → Stands c connections dials over
      → Stands (record c { there = n.nothing }) (on_newest c.number (takes c.there) connections) dials over
  stands_heard c connections dials over x = record {
    dial = x.dial;
    earlier = x.earlier;
    accepted = record x.accepted { talked = takes c.there x.accepted.talked };
    others = x.others;
    dials_are = x.dials_are;
    connections_are = ap (on_newest c.number (takes c.there)) x.connections_are
        ∙ ap (λ (k : Accepted A). k ∷ x.others) (changed_here c.number (takes c.there) x.accepted x.ends.number);
    ends = record { number = x.ends.number; there = arrived x.dial.put x.accepted.talked.taken c.there x.ends.there; back = x.ends.back };
    rest = x.rest;
  }

  stands_asked : (more : List A) (c : Connection (List A)) (connections : List (Accepted A)) (dials : List (Talked A)) (over : List Life) → Stands c connections dials over
      → Stands (record c { there = n.joined c.there more }) connections (on_last (puts more) dials) over
  stands_asked more c connections dials over x = record {
    dial = puts more x.dial;
    earlier = x.earlier;
    accepted = x.accepted;
    others = x.others;
    dials_are = ap (on_last (puts more)) x.dials_are;
    connections_are = x.connections_are;
    ends = record {
      number = x.ends.number;
      there = ap (λ (l : List A). l ++ more) x.ends.there ∙ append_assoc x.accepted.talked.taken c.there more
          ∙ ap (λ (l : List A). x.accepted.talked.taken ++ l) (sym (joins c.there more));
      back = x.ends.back;
    };
    rest = x.rest;
  }

  stands_learned : (c : Connection (List A)) (connections : List (Accepted A)) (dials : List (Talked A)) (over : List Life) → Stands c connections dials over
      → Stands (record c { back = n.nothing }) connections (on_last (takes c.back) dials) over
  stands_learned c connections dials over x = record {
    dial = takes c.back x.dial;
    earlier = x.earlier;
    accepted = x.accepted;
    others = x.others;
    dials_are = ap (on_last (takes c.back)) x.dials_are;
    connections_are = x.connections_are;
    ends = record { number = x.ends.number; there = x.ends.there; back = arrived x.accepted.talked.put x.dial.taken c.back x.ends.back };
    rest = x.rest;
  }

  pub asked_fits : (more : List A) (boot given : ℕ) (life : Option Life) (c : Connection (List A)) (dials : List (Talked A)) (over : List Life)
      → Fits boot given life (Some c) dials over → Fits boot given life (Some (record c { there = n.joined c.there more })) (on_last (puts more) dials) over
  asked_fits more boot given None c dials over x = absurd x
  asked_fits more boot given (Some t) c dials over x = (stands_asked more c t.connections dials over x.0, x.1)

  pub learned_fits : (boot given : ℕ) (life : Option Life) (c : Connection (List A)) (dials : List (Talked A)) (over : List Life)
      → Fits boot given life (Some c) dials over → Fits boot given life (Some (record c { back = n.nothing })) (on_last (takes c.back) dials) over
  learned_fits boot given None c dials over x = absurd x
  learned_fits boot given (Some t) c dials over x = (stands_learned c t.connections dials over x.0, x.1)

  collect : (boot given : ℕ) (t : Life) (c : Connection (List A)) (dials : List (Talked A)) (over : List Life) → Fits boot given (Some t) (Some c) dials over
      → Fits boot given (Some ((noting n).emptied c.number t)) (Some (record c { back = n.joined c.back (n.answered c.number t.node) })) dials over
  collect boot given t c dials over x = let more = n.answered c.number t.node in (
    stands_put more c t.connections dials over x.0,
    runs_on boot given t ((noting n).emptied c.number t) over refl (long_on c.number (puts more) t.connections) (counted_on c.number (puts more) t.connections x.1.counted) x.1,
  )

  -- ---- what happens to a server

  module _ (dials : List (Talked A)) (over : List Life) where
    happens_in : (g : Life → Life) → IsQuiet g → (boot position given : ℕ) (held : Bool) (life : Option Life) (c : Option (Connection (List A))) → Fits boot given life c dials over
        → FitsSlot (happens (noting n) g (record { boot = boot; life = life; position = position; held = held; given = given; connection = c })) dials over
    happens_in g is boot position given held None None x = x
    happens_in g is boot position given held None (Some c) x = absurd x
    happens_in g is boot position given held (Some t) None x =
        (subst (λ (l : List (Accepted A)). AllMeet dials (l ++ connections_of over)) (sym (is.connections t)) x.0, runs_quietly g boot given t over is x.1)
    happens_in g is boot position given held (Some t) (Some c) x =
        collect boot given (g t) c dials over
        (subst (λ (l : List (Accepted A)). Stands c l dials over) (sym (is.connections t)) x.0, runs_quietly g boot given t over is x.1)

    pub happens_fits : (g : Life → Life) → IsQuiet g → (z : Slot Life (List A)) → FitsSlot z dials over → FitsSlot (happens (noting n) g z) dials over
    happens_fits g is z x = happens_in g is z.boot z.position z.given z.held z.life z.connection x

    pub fed_fits : (changes : List Change) (z : Slot Life (List A)) → FitsSlot z dials over → FitsSlot (fed_all (noting n) changes z) dials over
    fed_fits [] z x = x
    fed_fits (change ∷ changes) z x =
        fed_fits changes (happens (noting n) ((noting n).feeds change) z)
        (happens_fits ((noting n).feeds change) (record { boot = λ t. refl; connections = λ t. refl }) z x)

    served_in : (boot position given : ℕ) (held : Bool) (life : Option Life) (c : Option (Connection (List A))) → Fits boot given life c dials over
        → FitsSlot (served (noting n) (record { boot = boot; life = life; position = position; held = held; given = given; connection = c })) dials over
    served_in boot position given held life None x = x
    served_in boot position given held None (Some c) x = absurd x
    served_in boot position given held (Some t) (Some c) x =
        collect boot given ((noting n).hears c.number c.there t) (record c { there = n.nothing }) dials over (
          stands_heard c t.connections dials over x.0,
          runs_on boot given t ((noting n).hears c.number c.there t) over refl (long_on c.number (takes c.there) t.connections)
              (counted_on c.number (takes c.there) t.connections x.1.counted) x.1,
        )

    pub served_fits : (z : Slot Life (List A)) → FitsSlot z dials over → FitsSlot (served (noting n) z) dials over
    served_fits z x = served_in z.boot z.position z.given z.held z.life z.connection x

    parted_in : (boot position given : ℕ) (held : Bool) (life : Option Life) (c : Option (Connection (List A))) → Fits boot given life c dials over
        → FitsSlot (parted (noting n) (record { boot = boot; life = life; position = position; held = held; given = given; connection = c })) dials over
    parted_in boot position given held life None x = x
    parted_in boot position given held None (Some c) x = absurd x
    parted_in boot position given held (Some t) (Some c) x =
        (meet_of c t.connections dials over x.0, runs_on boot given t ((noting n).ends c.number t) over refl refl x.1.counted x.1)

    pub parted_fits : (z : Slot Life (List A)) → FitsSlot z dials over → FitsSlot (parted (noting n) z) dials over
    parted_fits z x = parted_in z.boot z.position z.given z.held z.life z.connection x

    -- ---- a connection begins

    begins_on : (boot given : ℕ) (t : Life) → Fits boot given (Some t) None dials over
        → Fits boot (min (given + 1) (2 ^ 32 - 1)) (Some ((noting n).accepts (min (given + 1) (2 ^ 32 - 1)) t))
        (Some (record { number = min (given + 1) (2 ^ 32 - 1); there = n.nothing; back = n.nothing })) (nothing_talked ∷ dials) over
    begins_on boot given t x =
        let next = next_least given (length t.connections) (2 ^ 32 - 1) x.1.given_is in (
          record {
            dial = nothing_talked;
            earlier = dials;
            accepted = record { number = min (given + 1) (2 ^ 32 - 1); talked = nothing_talked };
            others = t.connections;
            dials_are = refl;
            connections_are = refl;
            ends = record { number = refl; there = sym none; back = sym none };
            rest = x.0;
          },
          record {
            number = x.1.number;
            counted = (next, x.1.counted);
            numbered = x.1.numbered;
            boot_is = x.1.boot_is;
            given_is = one_more (min (given + 1) (2 ^ 32 - 1)) (length t.connections) (2 ^ 32 - 1) next;
          },
        )

    accepted_in : (boot position given : ℕ) (held : Bool) (t : Life) → Fits boot given (Some t) None dials over
        → FitsSlot (accepted (noting n) (record { boot = boot; life = Some t; position = position; held = held; given = given; connection = None })) (nothing_talked ∷ dials) over
    accepted_in boot position given held t x = let k = min (given + 1) (2 ^ 32 - 1) in
        collect boot k ((noting n).accepts k t) (record { number = k; there = n.nothing; back = n.nothing }) (nothing_talked ∷ dials) over (begins_on boot given t x)

    dialled_in : (boot position given : ℕ) (held : Bool) (life : Option Life) (c : Option (Connection (List A))) → is_some life ≡ true → Fits boot given life c dials over
        → FitsSlot (accepted (noting n) (parted (noting n) (record { boot = boot; life = life; position = position; held = held; given = given; connection = c })))
        (nothing_talked ∷ dials) over
    dialled_in boot position given held None c runs x = absurd cc
    dialled_in boot position given held (Some t) None runs x = accepted_in boot position given held t x
    dialled_in boot position given held (Some t) (Some c) runs x =
        accepted_in boot position given held ((noting n).ends c.number t) (parted_in boot position given held (Some t) (Some c) x)

    pub dialled_fits : (z : Slot Life (List A)) → is_some z.life ≡ true → FitsSlot z dials over
        → FitsSlot (accepted (noting n) (parted (noting n) z)) (nothing_talked ∷ dials) over
    dialled_fits z runs x = dialled_in z.boot z.position z.given z.held z.life z.connection runs x
