-- The entries that a queue holds, as places among the changes of its item.
use Rattle.std.proofs.Common.{◌≡◌, ℕ, zero, suc, ◌+◌, ◌-◌, ◌≤◌, List, [], ◌∷◌, ◌++◌, Bool, true, false, Some, length, take, drop, refl, sym, arith}
use Rattle.std.specs.Prelude.{slice_get, nat_lt, nat_le, if◌then◌else◌}
use Rattle.std.proofs.lemmas.Bool.Decides.{nat_tests}
use Rattle.set_model.specs.declared.source.Change.{Change}
use Rattle.item_queue.specs.declared.queue.Entry.{Entry}
use Rattle.item_queue.specs.Queue.{with_change, without_room, marked_first, unmarked, replacing}

-- The entries are changes, in order, up to the place `end`. The first comes at the place `next` or later; an unmarked one
-- comes at the place after the one before it.
abbrev pub HeldFrom : List Change → ℕ → List Entry → ℕ → Type 0
HeldFrom changes next [] end = next ≡ end
HeldFrom changes next (entry ∷ entries) end =
    (place : ℕ) × (slice_get changes place ≡ Some entry.change) × (next ≤ place) × (entry.marked ≡ false → place ≡ next) × HeldFrom changes (place + 1) entries end

-- one more change is appended
held_more : (cs : List Change) (next : ℕ) (entries : List Entry) (end : ℕ) (c : Change) → HeldFrom cs next entries end
    → slice_get cs end ≡ Some c → HeldFrom cs next (entries ++ unmarked c ∷ []) (end + 1)
held_more cs next [] end c h at = (end, at, omega (arith, h), λ u. sym h, refl)
held_more cs next (entry ∷ entries) end c h at = (h.0, h.1, h.2, h.3, held_more cs (h.0 + 1) entries end c h.4 at)

-- the oldest entry is dropped, and the next is marked
held_marked : (cs : List Change) (next : ℕ) (a b : Entry) (entries : List Entry) (end : ℕ) → HeldFrom cs next (a ∷ b ∷ entries) end
    → HeldFrom cs next (record b { marked = true } ∷ entries) end
held_marked cs next a b entries end h =
    let later = h.4 in
    (later.0, later.1, omega (arith, h.2, later.2), λ u. absurd cc, later.4)

held_full : (cs : List Change) (next size : ℕ) (entries : List Entry) (end : ℕ) (c : Change) → 2 ≤ size → size ≤ length entries
    → HeldFrom cs next entries end → slice_get cs end ≡ Some c → HeldFrom cs next (marked_first (drop 1 entries) ++ unmarked c ∷ []) (end + 1)
held_full cs next size [] end c two long h at = absurd (omega arith)
held_full cs next size (a ∷ []) end c two long h at = absurd (omega arith)
held_full cs next size (a ∷ b ∷ entries) end c two long h at =
    held_more cs next (record b { marked = true } ∷ entries) end c (held_marked cs next a b entries end h) at

-- the places of the entries lie before the end
held_least : (cs : List Change) (next : ℕ) (entries : List Entry) (end : ℕ) → HeldFrom cs next entries end → next ≤ end
held_least cs next [] end h = omega arith
held_least cs next (entry ∷ entries) end h = let more = held_least cs (h.0 + 1) entries end h.4 in omega (arith, h.2)

-- the newest entry is dropped, and the one that comes in its place is marked
held_replaced : (cs : List Change) (next size count : ℕ) (entries : List Entry) (end : ℕ) (c : Change) → 2 ≤ size → length entries ≡ suc count
    → HeldFrom cs next entries end → slice_get cs end ≡ Some c → HeldFrom cs next (take count entries ++ replacing size c ∷ []) (end + 1)
held_replaced cs next size count [] end c two long h at = absurd (omega arith)
held_replaced cs next size zero (entry ∷ entries) end c two long h at =
    let more = held_least cs (h.0 + 1) entries end h.4 in
    let marks : nat_le 2 size ≡ true = grind (arith, nat_tests) in
    (end, at, omega (arith, h.2), λ u. absurd (cc (u, marks)), refl)
held_replaced cs next size (suc count) (entry ∷ entries) end c two long h at =
    (h.0, h.1, h.2, h.3, held_replaced cs (h.0 + 1) size count entries end c two (omega arith) h.4 at)

held_without : (oldest : Bool) (cs : List Change) (next size : ℕ) (entries : List Entry) (end : ℕ) (c : Change) → 2 ≤ size → size ≤ length entries
    → HeldFrom cs next entries end → slice_get cs end ≡ Some c → HeldFrom cs next (without_room oldest size c entries) (end + 1)
held_without true cs next size entries end c two long h at = held_full cs next size entries end c two long h at
held_without false cs next size entries end c two long h at =
    held_replaced cs next size (length entries - 1) entries end c two (omega arith) h at

held_by : (oldest : Bool) (cs : List Change) (next size : ℕ) (entries : List Entry) (end : ℕ) (c : Change) (room : Bool)
    → nat_lt (length entries) size ≡ room → 2 ≤ size → HeldFrom cs next entries end → slice_get cs end ≡ Some c
    → HeldFrom cs next (if room then entries ++ unmarked c ∷ [] else without_room oldest size c entries) (end + 1)
held_by oldest cs next size entries end c true is two h at = held_more cs next entries end c h at
held_by oldest cs next size entries end c false is two h at = held_without oldest cs next size entries end c two (grind (arith, nat_tests)) h at

-- a queue of at least two places takes in the change at the place where it ends, whichever entry it discards
pub held_push : (oldest : Bool) (cs : List Change) (next size : ℕ) (entries : List Entry) (end : ℕ) (c : Change) → 2 ≤ size → HeldFrom cs next entries end
    → slice_get cs end ≡ Some c → HeldFrom cs next (with_change oldest size c entries) (end + 1)
held_push oldest cs next size entries end c two h at = held_by oldest cs next size entries end c _ refl two h at
