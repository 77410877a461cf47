-- Lines of a scenario, for a set whose nodes note what they take and put.
use Rattle.std.proofs.Common.{◌≡◌, ℕ, zero, suc, ◌+◌, ◌≤◌, Bool, true, false, List, [], ◌∷◌, ◌++◌, take, drop, length, map, Option, Some, None, refl, sym, ap, subst, ◌∙◌}
use Rattle.std.proofs.lemmas.List.{map-append}
use Rattle.set_model.specs.declared.source.Change.{Change}
use Rattle.direct_world.specs.Server.{place_in}
use Rattle.scenario.specs.declared.line.Line.{Line}
use Rattle.scenario.specs.declared.line.Line.TheVariants as line
use Rattle.set_rules.specs.State.{SetState, Slot}
use Rattle.set_rules.specs.Nodes.{Nodes}
use Rattle.set_rules.specs.Slots.{currents, fed, happens, new_slot, next_boot, started}
use Rattle.set_rules.specs.Moves.{ended, halved, in_slot, lost, slot_at}
use Rattle.set_rules.specs.World.{Beginning, after, after_all, at_place, at_server, begun, new_slots}
use Rattle.set_rules.proofs.Places.{place_within, slot_new, slots_long}
use Rattle.set_fronts.specs.Lives.{over_after, over_at, over_by}
use Rattle.set_fronts.specs.Noting.{NotedClient, NotedLife, noted_life, noting}
use Rattle.set_fronts.specs.Fronts.{AllFronts, AreSame, SameLife, SameSlot, first_noted, noted_after, plain_after}
use Rattle.set_fronts.proofs.Plain as notes
use Rattle.set_fronts.proofs.Plain.{fed_same, halved_same, leveled_same, long_plain, lost_same, ended_same, plain, plain_slot, rounds_same, slot_plain, ticked_same}
use Rattle.set_fronts.proofs.Slots.{FitsSlot, fed_fits, fronts_of, happens_fits, started_fits}
use Rattle.set_fronts.proofs.Sets.{Keeps, ended_keeps, halved_keeps, in_one, life_over, lost_keeps, rounds_keep, ticked_keeps}

-- ---- the notes change nothing

same_life : {S A : Type 0} (life : Option (NotedLife S A)) → SameLife (notes.plain_life life) life
same_life None = tt
same_life (Some t) = refl

same_slot : {S A : Type 0} (z : Slot (NotedLife S A) (List A)) → SameSlot (plain_slot z) z
same_slot z = record { boot = refl; position = refl; held = refl; given = refl; life = same_life z.life; connection = refl }

same_set : {S C A : Type 0} (v : SetState (NotedLife S A) (NotedClient C A) (List A)) → AreSame (plain v) v
same_set v = record {
  source = refl;
  client = refl;
  count = long_plain v;
  slots = λ place here. subst (λ s. SameSlot s (slot_at place v)) (sym (slot_plain place v)) (same_slot (slot_at place v));
}

new_plain : {S A : Type 0} (begins : Beginning S) (count : ℕ) → map plain_slot (new_slots {W = List A} (noted_life {A = A} begins) count) ≡ new_slots begins count
unfolding new_slots
new_plain begins zero = refl
new_plain begins (suc count) =
    map-append plain_slot (new_slots (noted_life begins) count) (new_slot (noted_life begins (count + 1) 1 []) ∷ [])
    ∙ ap (λ l. l ++ new_slot (begins (count + 1) 1 []) ∷ []) (new_plain begins count)

module _ {S C A : Type 0} (n : Nodes S C (List A)) (begins : Beginning S) (items : ℕ) where
  abbrev pub Plain : Type 0
  Plain = SetState S C (List A)

  abbrev pub Noting : Type 0
  Noting = SetState (NotedLife S A) (NotedClient C A) (List A)

  at_cases : (found : Option ℕ) (f : ℕ → Plain → Plain) (g : ℕ → Noting → Noting) → ((place : ℕ) (v : Noting) → plain (g place v) ≡ f place (plain v)) → (v : Noting)
      → plain (at_place (noting n) (noted_life begins) items found g v) ≡ at_place n begins items found f (plain v)
  at_cases None f g is v = refl
  at_cases (Some place) f g is v = is place v

  at_same : (number : ℕ) (f : ℕ → Plain → Plain) (g : ℕ → Noting → Noting) → ((place : ℕ) (v : Noting) → plain (g place v) ≡ f place (plain v)) → (v : Noting)
      → plain (at_server (noting n) (noted_life begins) items number g v) ≡ at_server n begins items number f (plain v)
  at_same number f g is v =
      at_cases (place_in number (length v.slots)) f g is v
      ∙ ap (λ k. at_place n begins items (place_in number k) f (plain v)) (sym (long_plain v))

  fed_slot : (amount : ℕ) (source : List Change) (z : Slot (NotedLife S A) (List A)) → plain_slot (fed (noting n) amount source z) ≡ fed n amount source (plain_slot z)
  fed_slot amount source z = let changes = take amount (drop z.position source) in
      ap (λ (s : Slot S (List A)). record s { position = z.position + length changes }) (fed_same n changes z)

  begun_same : (place : ℕ) (v : Noting) → plain (begun (noting n) (noted_life begins) items place v) ≡ begun n begins items place (plain v)
  begun_same place v =
      notes.in_one n place (λ s. started (begins (place + 1) (next_boot s) (currents items v.source)) (length v.source) s)
      (λ z. started (noted_life begins (place + 1) (next_boot z) (currents items v.source)) (length v.source) z) (λ z. refl) v

  line_same : (l : Line) (v : Noting) → plain (after (noting n) (noted_life begins) items l v) ≡ after n begins items l (plain v)
  line_same (line.Change change) v = refl
  line_same (line.Feed server amount) v =
      at_same server (λ place. in_slot place (fed n amount v.source)) (λ place. in_slot place (fed (noting n) amount v.source))
      (λ place u. notes.in_one n place (fed n amount v.source) (fed (noting n) amount v.source) (fed_slot amount v.source) u) v
  line_same (line.Tick ms) v = ticked_same n ms v
  line_same (line.Pass amount) v = rounds_same n amount v
  line_same (line.Level server level) v =
      at_same server (λ place. in_slot place (happens n (n.levels level))) (λ place. in_slot place (happens (noting n) ((noting n).levels level)))
      (λ place u. notes.in_one n place (happens n (n.levels level)) (happens (noting n) ((noting n).levels level)) (leveled_same n level) u) v
  line_same (line.Stop server) v = at_same server (ended n) (ended (noting n)) (ended_same n) v
  line_same (line.Start server) v = at_same server (begun n begins items) (begun (noting n) (noted_life begins) items) begun_same v
  line_same (line.Cut server) v = at_same server (lost n) (lost (noting n)) (lost_same n) v
  line_same (line.Half server) v = at_same server (halved n) (halved (noting n)) (halved_same n) v
  line_same (line.Hold server) v =
      at_same server (λ place. in_slot place (λ s. record s { held = true })) (λ place. in_slot place (λ z. record z { held = true }))
      (λ place u. notes.in_one n place (λ s. record s { held = true }) (λ z. record z { held = true }) (λ z. refl) u) v
  line_same (line.Free server) v =
      at_same server (λ place. in_slot place (λ s. record s { held = false })) (λ place. in_slot place (λ z. record z { held = false }))
      (λ place u. notes.in_one n place (λ s. record s { held = false }) (λ z. record z { held = false }) (λ z. refl) u) v
  line_same other v = refl

  lines_same : (lines : List Line) (v : Noting) → plain (after_all (noting n) (noted_life begins) items lines v) ≡ after_all n begins items lines (plain v)
  lines_same [] v = refl
  lines_same (l ∷ lines) v =
      lines_same lines (after (noting n) (noted_life begins) items l v) ∙ ap (λ (w : Plain). after_all n begins items lines w) (line_same l v)

  pub same : (lines : List Line) (servers : ℕ) (c : C) → AreSame (plain_after n begins items lines servers c) (noted_after n begins items lines servers c)
  same lines servers c =
      subst (λ (w : Plain). AreSame w (noted_after n begins items lines servers c))
      (lines_same lines (first_noted n begins items servers c)
      ∙ ap (λ (l : List (Slot S (List A))). after_all n begins items lines (record { source = []; slots = l; client = c })) (new_plain begins servers))
      (same_set (noted_after n begins items lines servers c))

-- ---- each server fits its connections and lives

module _ {S C A : Type 0} (n : Nodes S C (List A)) (none : n.nothing ≡ []) (joins : (x y : List A) → n.joined x y ≡ x ++ y) (begins : Beginning S) (items : ℕ) where
  abbrev pub Noted : Type 0
  Noted = SetState (NotedLife S A) (NotedClient C A) (List A)

  abbrev pub Over : Type 0
  Over = ℕ → List (NotedLife S A)

  found_keeps : (found : Option ℕ) (number count : ℕ) (over : Over) (g : ℕ → Noted → Noted) (v : Noted) → place_in number count ≡ found
      → ((place : ℕ) → place + 1 ≤ count → Keeps count over (g place v)) → Keeps count over v → Keeps count over (at_place (noting n) (noted_life begins) items found g v)
  found_keeps None number count over g v is step x = x
  found_keeps (Some place) number count over g v is step x = step place (place_within number count place is)

  at_keeps : (number count : ℕ) (over : Over) (g : ℕ → Noted → Noted) (v : Noted) → ((place : ℕ) → place + 1 ≤ count → Keeps count over (g place v)) → Keeps count over v
      → Keeps count over (at_server (noting n) (noted_life begins) items number g v)
  at_keeps number count over g v step x =
      subst (λ k. Keeps count over (at_place (noting n) (noted_life begins) items (place_in number k) g v)) (sym x.slots)
      (found_keeps (place_in number count) number count over g v refl step x)

  -- a life there is over
  found_over : (found : Option ℕ) (number count : ℕ) (over : Over) (g : ℕ → Noted → Noted) (v : Noted) → place_in number count ≡ found
      → ((place : ℕ) → place + 1 ≤ count → Keeps count (over_at (Some place) v over) (g place v)) → Keeps count over v
      → Keeps count (over_at found v over) (at_place (noting n) (noted_life begins) items found g v)
  found_over None number count over g v is step x = x
  found_over (Some place) number count over g v is step x = step place (place_within number count place is)

  at_over : (number count : ℕ) (over : Over) (g : ℕ → Noted → Noted) (v : Noted)
      → ((place : ℕ) → place + 1 ≤ count → Keeps count (over_at (Some place) v over) (g place v)) → Keeps count over v
      → Keeps count (over_at (place_in number (length v.slots)) v over) (at_server (noting n) (noted_life begins) items number g v)
  at_over number count over g v step x =
      subst (λ k. Keeps count (over_at (place_in number k) v over) (at_place (noting n) (noted_life begins) items (place_in number k) g v)) (sym x.slots)
      (found_over (place_in number count) number count over g v refl step x)

  fed_set : (amount place count : ℕ) (over : Over) (v : Noted) → place + 1 ≤ count → Keeps count over v → Keeps count over (in_slot place (fed (noting n) amount v.source) v)
  fed_set amount place count over v here x =
      in_one n none joins count over place (fed (noting n) amount v.source) v here
      (λ dials lives z. fed_fits n none joins dials lives (take amount (drop z.position v.source)) z) x

  held_set : (held : Bool) (place count : ℕ) (over : Over) (v : Noted) → place + 1 ≤ count → Keeps count over v → Keeps count over (in_slot place (λ s. record s { held = held }) v)
  held_set held place count over v here x = in_one n none joins count over place (λ s. record s { held = held }) v here (λ dials lives z y. y) x

  begun_set : (place count : ℕ) (over : Over) (v : Noted) → place + 1 ≤ count → Keeps count over v
      → Keeps count (over_at (Some place) v over) (begun (noting n) (noted_life begins) items place v)
  begun_set place count over v here x =
      let z = slot_at place v in
      life_over n none joins place count over v (started (noted_life begins (place + 1) (next_boot z) (currents items v.source)) (length v.source) z) here x
      (started_fits begins (place + 1) (length v.source) (currents items v.source) z (v.client.dials (place + 1)) (over place) (x.each place here))

  line_keeps : (l : Line) (count : ℕ) (over : Over) (v : Noted) → Keeps count over v → Keeps count (over_by l v over) (after (noting n) (noted_life begins) items l v)
  line_keeps (line.Change change) count over v x = record { slots = x.slots; each = x.each }
  line_keeps (line.Feed server amount) count over v x =
      at_keeps server count over (λ place. in_slot place (fed (noting n) amount v.source)) v (λ place here. fed_set amount place count over v here x) x
  line_keeps (line.Tick ms) count over v x = ticked_keeps n none joins count over ms v x
  line_keeps (line.Pass amount) count over v x = rounds_keep n none joins count over amount v x
  line_keeps (line.Level server level) count over v x =
      at_keeps server count over (λ place. in_slot place (happens (noting n) ((noting n).levels level))) v
      (λ place here. in_one n none joins count over place (happens (noting n) ((noting n).levels level)) v here
      (λ dials lives z. happens_fits n none joins dials lives ((noting n).levels level) (record { boot = λ t. refl; connections = λ t. refl }) z) x) x
  line_keeps (line.Stop server) count over v x = at_over server count over (ended (noting n)) v (λ place here. ended_keeps n none joins place count over v here x) x
  line_keeps (line.Start server) count over v x =
      at_over server count over (begun (noting n) (noted_life begins) items) v (λ place here. begun_set place count over v here x) x
  line_keeps (line.Cut server) count over v x = at_keeps server count over (lost (noting n)) v (λ place here. lost_keeps n none joins count over place v here x) x
  line_keeps (line.Half server) count over v x = at_keeps server count over (halved (noting n)) v (λ place here. halved_keeps n none joins count over place v here x) x
  line_keeps (line.Hold server) count over v x =
      at_keeps server count over (λ place. in_slot place (λ s. record s { held = true })) v (λ place here. held_set true place count over v here x) x
  line_keeps (line.Free server) count over v x =
      at_keeps server count over (λ place. in_slot place (λ s. record s { held = false })) v (λ place here. held_set false place count over v here x) x
  line_keeps other count over v x = x

  lines_keep : (lines : List Line) (count : ℕ) (over : Over) (v : Noted) → Keeps count over v
      → Keeps count (over_after (noting n) (noted_life begins) items lines v over) (after_all (noting n) (noted_life begins) items lines v)
  lines_keep [] count over v x = x
  lines_keep (l ∷ lines) count over v x =
      lines_keep lines count (over_by l v over) (after (noting n) (noted_life begins) items l v) (line_keeps l count over v x)

  new_keeps : (servers : ℕ) (c : C) → Keeps servers (λ place. []) (first_noted n begins items servers c)
  new_keeps servers c = record {
    slots = slots_long (List A) (noted_life begins) servers;
    each = λ place here.
        subst (λ (z : Slot (NotedLife S A) (List A)). FitsSlot z [] []) (sym (slot_new (List A) (noted_life begins) servers place here))
        (tt, record { number = refl; counted = tt; numbered = tt; boot_is = refl; given_is = refl });
  }

  pub fronts : (lines : List Line) (servers : ℕ) (c : C) → AllFronts n begins items lines servers c
  fronts lines servers c = let x = lines_keep lines servers (λ place. []) (first_noted n begins items servers c) (new_keeps servers c) in
      λ place here. fronts_of (slot_at place (noted_after n begins items lines servers c)) ((noted_after n begins items lines servers c).client.dials (place + 1))
      (over_after (noting n) (noted_life begins) items lines (first_noted n begins items servers c) (λ here. []) place) (x.each place here)
