-- Lists by how many of them are done: none, and one more.
use Rattle.std.proofs.Common.{◌≡◌, ◌∙◌, ℕ, zero, suc, ◌+◌, List, [], ◌∷◌, ◌++◌, length, Some, refl, ap, arith}
use Rattle.std.proofs.lemmas.List.{length-append}
use Rattle.set_model.specs.declared.source.Change.{Change}
use Rattle.set_model.specs.Source.{last_of}
use Rattle.set_rules.specs.Moves.{gathered_among, gathered_at, in_slot}
use Rattle.set_rules.specs.Rounds.{round, rounds, ticked_among, turn_if_free, turns_among}
use Rattle.set_rules.specs.Slots.{current_of, currents, happens, new_slot}
use Rattle.set_rules.specs.World.{new_slots}
use Rattle.set_world.specs.Bytes.{beginning, nodes}
use Rattle.set_world.specs.State.{ByteSet, first_slots}
use Rattle.ua_base.specs.declared.modes.SetMode.{SetMode}
use Rattle.set_world.specs.Texts.{member, members, url_text, urls}

next : (count : ℕ) → count + 1 ≡ suc count
next count = omega arith

pub members_none : members 0 ≡ []
unfolding members
members_none = refl

pub members_next : (count : ℕ) → members (count + 1) ≡ members count ++ member (count + 1) ∷ []
unfolding members
members_next count = ap members (next count)

pub urls_none : urls 0 ≡ []
unfolding urls
urls_none = refl

pub urls_next : (count : ℕ) → urls (count + 1) ≡ urls count ++ Some (url_text (count + 1)) ∷ []
unfolding urls
urls_next count = ap urls (next count)

pub urls_count : (count : ℕ) → length (urls count) ≡ count
unfolding urls
urls_count zero = refl
urls_count (suc count) =
    length-append (urls count) (Some (url_text (count + 1)) ∷ []) ∙ ap (λ n. n + 1) (urls_count count) ∙ next count

-- ---- what is done for each of so many servers

pub gathered_none : (w : ByteSet) → gathered_among nodes 0 w ≡ w
unfolding gathered_among
gathered_none w = refl

pub gathered_next : (place : ℕ) (w : ByteSet) → gathered_among nodes (place + 1) w ≡ gathered_at nodes place (gathered_among nodes place w)
unfolding gathered_among
gathered_next place w = ap (λ n. gathered_among nodes n w) (next place)

pub turns_none : (w : ByteSet) → turns_among nodes 0 w ≡ w
unfolding turns_among
turns_none w = refl

pub turns_next : (place : ℕ) (w : ByteSet) → turns_among nodes (place + 1) w ≡ turn_if_free nodes place (turns_among nodes place w)
unfolding turns_among
turns_next place w = ap (λ n. turns_among nodes n w) (next place)

pub rounds_none : (w : ByteSet) → rounds nodes 0 w ≡ w
unfolding rounds
rounds_none w = refl

pub rounds_next : (count : ℕ) (w : ByteSet) → rounds nodes (count + 1) w ≡ round nodes (rounds nodes count w)
unfolding rounds
rounds_next count w = ap (λ n. rounds nodes n w) (next count)

pub ticks_none : (ms : ℕ) (w : ByteSet) → ticked_among nodes ms 0 w ≡ w
unfolding ticked_among
ticks_none ms w = refl

pub ticks_next : (ms place : ℕ) (w : ByteSet)
    → ticked_among nodes ms (place + 1) w ≡ in_slot place (happens nodes (nodes.ticks ms)) (ticked_among nodes ms place w)
unfolding ticked_among
ticks_next ms place w = ap (λ n. ticked_among nodes ms n w) (next place)

pub currents_none : (source : List Change) → currents 0 source ≡ []
unfolding currents
currents_none source = refl

pub currents_next : (count : ℕ) (source : List Change) → currents (count + 1) source ≡ currents count source ++ current_of (last_of (count + 1) source)
unfolding currents
currents_next count source = ap (λ n. currents n source) (next count)

-- ---- the servers of a set that begins

pub slots_none : (mode : SetMode) (servers items : ℕ) → first_slots mode servers items 0 ≡ []
unfolding new_slots
slots_none mode servers items = refl

pub slots_next : (mode : SetMode) (servers items count : ℕ)
    → first_slots mode servers items (count + 1)
    ≡ first_slots mode servers items count ++ new_slot (beginning mode servers items (count + 1) 1 []) ∷ []
unfolding new_slots
slots_next mode servers items count = ap (λ n. first_slots mode servers items n) (next count)

pub slots_count : (mode : SetMode) (servers items count : ℕ) → length (first_slots mode servers items count) ≡ count
unfolding new_slots
slots_count mode servers items zero = refl
slots_count mode servers items (suc count) =
    length-append (first_slots mode servers items count) (new_slot (beginning mode servers items (count + 1) 1 []) ∷ [])
    ∙ ap (λ n. n + 1) (slots_count mode servers items count) ∙ next count
