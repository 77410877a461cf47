-- The entry of an id, found from the front of the list.
use Rattle.std.proofs.Common.{◌≡◌, ℕ, suc, ◌+◌, ◌-◌, ◌≤◌, ◌==◌, List, [], ◌∷◌, Bool, true, false, cond, None, Some, map, refl, sym, ◌∙◌, ap, arith, slice_index_or}
use Rattle.std.specs.List.{remove}
use Rattle.fanout.specs.Hearing.{Hearing}
use Rattle.fanout.specs.State.{Attached, FanoutState}
use Rattle.fanout.specs.Calls.{tally_of, without}
use Rattle.fanout.specs.Shown.{one_shown, place_from}
use Rattle.fanout.specs.declared.attached.Entry.{Entry}
use Rattle.fanout.specs.declared.hearing.Tally.{Tally}

module _ {Kinds : Type 0} {Held : Kinds → Type 0} (heard : Entry Kinds Held → Hearing) where
  -- the entry at a place counted from a first one is the one of the id
  pub record IsFound (id first place : ℕ) (entries : List (Entry Kinds Held)) : Type 0 where
    pub least : first ≤ place
    pub removed : map (one_shown heard) (remove entries (place - first)) ≡ without id (map (one_shown heard) entries)
    pub tally : (d : Entry Kinds Held) → tally_of id (map (one_shown heard) entries) ≡ Some (heard (slice_index_or entries (place - first) d)).tally

  found_by : (id first place : ℕ) (entry : Entry Kinds Held) (entries : List (Entry Kinds Held)) (b : Bool) → (entry.id == id) ≡ b
      → cond b (Some first) (place_from (first + 1) id entries) ≡ Some place
      → (place_from (first + 1) id entries ≡ Some place → IsFound id (first + 1) place entries)
      → IsFound id first place (entry ∷ entries)
  found_by id first place entry entries true is at more =
      let same : place ≡ first = cc in
      let none : place - first ≡ 0 = omega arith in
      record {
        least = omega arith;
        removed = ap (λ n. map (one_shown heard) (remove (entry ∷ entries) n)) none ∙ sym (ap (λ b. cond b (map (one_shown heard) entries) (one_shown heard entry ∷ without id (map (one_shown heard) entries))) is);
        tally = λ d. ap (λ b. cond b (Some (heard entry).tally) (tally_of id (map (one_shown heard) entries))) is ∙ sym (ap (λ n. Some (heard (slice_index_or (entry ∷ entries) n d)).tally) none);
      }
  found_by id first place entry entries false is at more =
      let found = more at in
      let least : first + 1 ≤ place = found.least in
      let on : place - first ≡ suc (place - (first + 1)) = omega arith in
      record {
        least = omega arith;
        removed = ap (λ n. map (one_shown heard) (remove (entry ∷ entries) n)) on ∙ ap (λ l. one_shown heard entry ∷ l) found.removed
            ∙ sym (ap (λ b. cond b (map (one_shown heard) entries) (one_shown heard entry ∷ without id (map (one_shown heard) entries))) is);
        tally = λ d. ap (λ b. cond b (Some (heard entry).tally) (tally_of id (map (one_shown heard) entries))) is ∙ found.tally d
            ∙ sym (ap (λ n. Some (heard (slice_index_or (entry ∷ entries) n d)).tally) on);
      }

  pub found : (id first place : ℕ) (entries : List (Entry Kinds Held)) → place_from first id entries ≡ Some place → IsFound id first place entries
  found id first place [] at = absurd cc
  found id first place (entry ∷ entries) at = found_by id first place entry entries (entry.id == id) refl at (found id (first + 1) place entries)

  -- no entry is of the id
  pub record IsMissing (id : ℕ) (entries : List (Entry Kinds Held)) : Type 0 where
    pub same : without id (map (one_shown heard) entries) ≡ map (one_shown heard) entries
    pub tally : tally_of id (map (one_shown heard) entries) ≡ None

  missing_by : (id first : ℕ) (entry : Entry Kinds Held) (entries : List (Entry Kinds Held)) (b : Bool) → (entry.id == id) ≡ b
      → cond b (Some first) (place_from (first + 1) id entries) ≡ None
      → (place_from (first + 1) id entries ≡ None → IsMissing id entries)
      → IsMissing id (entry ∷ entries)
  missing_by id first entry entries true is at more = absurd cc
  missing_by id first entry entries false is at more =
      let missing = more at in
      record {
        same = ap (λ b. cond b (map (one_shown heard) entries) (one_shown heard entry ∷ without id (map (one_shown heard) entries))) is ∙ ap (λ l. one_shown heard entry ∷ l) missing.same;
        tally = ap (λ b. cond b (Some (heard entry).tally) (tally_of id (map (one_shown heard) entries))) is ∙ missing.tally;
      }

  pub missing : (id first : ℕ) (entries : List (Entry Kinds Held)) → place_from first id entries ≡ None → IsMissing id entries
  missing id first [] at = record { same = refl; tally = refl }
  missing id first (entry ∷ entries) at = missing_by id first entry entries (entry.id == id) refl at (missing id (first + 1) entries)

  pub gone_found : (id place last : ℕ) (entries more : List (Entry Kinds Held)) → place_from 0 id entries ≡ Some place → more ≡ remove entries place
      → ◌≡◌ {A = FanoutState} (record { attached = map (one_shown heard) more; last = last }) (record { attached = without id (map (one_shown heard) entries); last = last })
  gone_found id place last entries more at is =
      let F : List Attached → FanoutState = λ l. record { attached = l; last = last } in
      let same : place ≡ place - 0 = omega arith in
      ap F (ap (map (one_shown heard)) (is ∙ ap (remove entries) same) ∙ (found id 0 place entries at).removed)

  pub none_gone : (id last : ℕ) (entries : List (Entry Kinds Held)) → place_from 0 id entries ≡ None
      → ◌≡◌ {A = FanoutState} (record { attached = map (one_shown heard) entries; last = last }) (record { attached = without id (map (one_shown heard) entries); last = last })
  none_gone id last entries at =
      let F : List Attached → FanoutState = λ l. record { attached = l; last = last } in
      ap F (sym (missing id 0 entries at).same)

  pub tally_found : (id place : ℕ) (entries : List (Entry Kinds Held)) (gone : Entry Kinds Held) (tally : Tally) → place_from 0 id entries ≡ Some place
      → gone ≡ slice_index_or entries place gone → tally ≡ (heard gone).tally → tally_of id (map (one_shown heard) entries) ≡ Some tally
  tally_found id place entries gone tally at is told =
      let same : place - 0 ≡ place = omega arith in
      (found id 0 place entries at).tally gone ∙ ap (λ n. Some (heard (slice_index_or entries n gone)).tally) same
      ∙ sym (ap (λ e. Some (heard e).tally) is) ∙ sym (ap Some told)
