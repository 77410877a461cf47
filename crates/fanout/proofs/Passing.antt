-- One listener more was told a line.
use Rattle.std.proofs.Common.{◌≡◌, ℕ, zero, suc, ◌+◌, ◌<◌, List, [], ◌∷◌, ◌++◌, length, map, refl, sym, ◌∙◌, ap, ap₂, subst, arith, append_assoc, length-append, slice_index_or, slice_set}
use Rattle.std.proofs.lemmas.List.{append-nil}
use Rattle.std.specs.List.{remove}
use Rattle.set_model.specs.declared.line.LogLine.{LogLine}
use Rattle.fanout.specs.Hearing.{Hearing}
use Rattle.fanout.specs.State.{Attached}
use Rattle.fanout.specs.Calls.{Outcome, Stays, Stops, Become, Becomes, Remains, Leaves, staying, stopping}
use Rattle.fanout.specs.Shown.{one_shown}
use Rattle.fanout.specs.Walk.{IsUnderWay}
use Rattle.fanout.specs.declared.attached.Entry.{Entry}
use Rattle.fanout.specs.declared.hearing.Stopped.{Stopped}

pub staying_more : (outcomes : List Outcome) (more : List Outcome) → staying (outcomes ++ more) ≡ staying outcomes ++ staying more
staying_more [] more = refl
staying_more (Stays one ∷ outcomes) more = ap (λ l. one ∷ l) (staying_more outcomes more)
staying_more (Stops one ∷ outcomes) more = staying_more outcomes more

pub stopping_more : (outcomes : List Outcome) (more : List Outcome) → stopping (outcomes ++ more) ≡ stopping outcomes ++ stopping more
stopping_more [] more = refl
stopping_more (Stays one ∷ outcomes) more = stopping_more outcomes more
stopping_more (Stops one ∷ outcomes) more = ap (λ l. one ∷ l) (stopping_more outcomes more)

become_more : (told : LogLine) (done : List Attached) (outcomes : List Outcome) (one : Attached) (outcome : Outcome)
    → Become told done outcomes → Becomes told one outcome → Become told (done ++ one ∷ []) (outcomes ++ outcome ∷ [])
become_more told [] [] one outcome become becomes = (becomes, become)
become_more told [] (other ∷ outcomes) one outcome become becomes = absurd become
become_more told (first ∷ done) [] one outcome become becomes = absurd become
become_more told (first ∷ done) (other ∷ outcomes) one outcome become becomes =
    (become.0, become_more told done outcomes one outcome become.1 becomes)

-- before any was told
pub starts : (told : LogLine) (olds : List Attached) (before to : List Stopped) → to ≡ before → IsUnderWay told olds before olds to 0
starts told olds before to same = record {
  done = [];
  rest = olds;
  outcomes = [];
  olds_are = refl;
  nows_are = refl;
  place_is = refl;
  become = tt {0};
  to_are = same ∙ sym (append-nil before);
}

module _ {Kinds : Type 0} {Held : Kinds → Type 0} (heard : Entry Kinds Held → Hearing) where
  remove_set : (entries : List (Entry Kinds Held)) (place : ℕ) (x : Entry Kinds Held) → remove (slice_set entries place x) place ≡ remove entries place
  remove_set [] place x = refl
  remove_set (entry ∷ entries) zero x = refl
  remove_set (entry ∷ entries) (suc place) x = ap (λ l. entry ∷ l) (remove_set entries place x)

  -- the first of the rest, and the list with another one in its place or without it
  record IsNext (entries : List (Entry Kinds Held)) (stayed rest : List Attached) (place : ℕ) (d : Entry Kinds Held) : Type 0 where
    pub more : List Attached
    pub rest_is : rest ≡ one_shown heard (slice_index_or entries place d) ∷ more
    pub set : (x : Entry Kinds Held) → map (one_shown heard) (slice_set entries place x) ≡ stayed ++ one_shown heard x ∷ more
    pub removed : map (one_shown heard) (remove entries place) ≡ stayed ++ more

  next : (entries : List (Entry Kinds Held)) (stayed rest : List Attached) (d : Entry Kinds Held)
      → map (one_shown heard) entries ≡ stayed ++ rest → length stayed < length entries → IsNext entries stayed rest (length stayed) d
  next [] stayed rest d are within = absurd (omega arith)
  next (entry ∷ entries) [] rest d are within =
      record { more = map (one_shown heard) entries; rest_is = sym are; set = λ x. refl; removed = refl }
  next (entry ∷ entries) (one ∷ stayed) rest d are within =
      let first : one_shown heard entry ≡ one = cc in
      let others : map (one_shown heard) entries ≡ stayed ++ rest = cc in
      let after = next entries stayed rest d others (omega arith) in
      record {
        more = after.more;
        rest_is = after.rest_is;
        set = λ x. ap₂ (λ a l. a ∷ l) first (after.set x);
        removed = ap₂ (λ a l. a ∷ l) first after.removed;
      }

  next_at : (entries : List (Entry Kinds Held)) (stayed rest : List Attached) (place : ℕ) (d : Entry Kinds Held)
      → map (one_shown heard) entries ≡ stayed ++ rest → place ≡ length stayed → place < length entries → IsNext entries stayed rest place d
  next_at entries stayed rest place d are is within =
      let P : ℕ → Type 0 = λ n. IsNext entries stayed rest n d in
      subst P (sym is) (next entries stayed rest d are (omega arith))

  pub stays_on : (told : LogLine) (olds : List Attached) (before to : List Stopped) (entries : List (Entry Kinds Held)) (place : ℕ) (d x : Entry Kinds Held)
      → place < length entries → d ≡ slice_index_or entries place d → Remains told (one_shown heard d) (one_shown heard x)
      → IsUnderWay told olds before (map (one_shown heard) entries) to place
      → IsUnderWay told olds before (map (one_shown heard) (slice_set entries place x)) to (place + 1)
  stays_on told olds before to entries place d x within is remains way =
      let P : Entry Kinds Held → Type 0 = λ e. Remains told (one_shown heard e) (one_shown heard x) in
      let n = next_at entries (staying way.outcomes) way.rest place d way.nows_are way.place_is within in
      let one = one_shown heard (slice_index_or entries place d) in
      let new = one_shown heard x in
      let stayed : staying (way.outcomes ++ Stays new ∷ []) ≡ staying way.outcomes ++ new ∷ [] = staying_more way.outcomes (Stays new ∷ []) in
      let stopped : stopping (way.outcomes ++ Stays new ∷ []) ≡ stopping way.outcomes = stopping_more way.outcomes (Stays new ∷ []) ∙ append-nil (stopping way.outcomes) in
      let size : length (staying (way.outcomes ++ Stays new ∷ [])) ≡ length (staying way.outcomes) + 1 = ap length stayed ∙ length-append (staying way.outcomes) (new ∷ []) in
      record {
        done = way.done ++ one ∷ [];
        rest = n.more;
        outcomes = way.outcomes ++ Stays new ∷ [];
        olds_are = way.olds_are ∙ ap (λ l. way.done ++ l) n.rest_is ∙ sym (append_assoc way.done (one ∷ []) n.more);
        nows_are = n.set x ∙ sym (append_assoc (staying way.outcomes) (new ∷ []) n.more) ∙ sym (ap (λ l. l ++ n.more) stayed);
        place_is = ap (λ k. k + 1) way.place_is ∙ sym size;
        become = become_more told way.done way.outcomes one (Stays new) way.become (subst P is remains);
        to_are = way.to_are ∙ sym (ap (λ l. before ++ l) stopped);
      }

  pub leaves_on : (told : LogLine) (olds : List Attached) (before to : List Stopped) (entries : List (Entry Kinds Held)) (place : ℕ) (d x : Entry Kinds Held) (gone : Stopped)
      → place < length entries → d ≡ slice_index_or entries place d → Leaves told (one_shown heard d) gone
      → IsUnderWay told olds before (map (one_shown heard) entries) to place
      → IsUnderWay told olds before (map (one_shown heard) (remove (slice_set entries place x) place)) (to ++ gone ∷ []) place
  leaves_on told olds before to entries place d x gone within is leaves way =
      let P : Entry Kinds Held → Type 0 = λ e. Leaves told (one_shown heard e) gone in
      let n = next_at entries (staying way.outcomes) way.rest place d way.nows_are way.place_is within in
      let one = one_shown heard (slice_index_or entries place d) in
      let stayed : staying (way.outcomes ++ Stops gone ∷ []) ≡ staying way.outcomes = staying_more way.outcomes (Stops gone ∷ []) ∙ append-nil (staying way.outcomes) in
      let stopped : stopping (way.outcomes ++ Stops gone ∷ []) ≡ stopping way.outcomes ++ gone ∷ [] = stopping_more way.outcomes (Stops gone ∷ []) in
      record {
        done = way.done ++ one ∷ [];
        rest = n.more;
        outcomes = way.outcomes ++ Stops gone ∷ [];
        olds_are = way.olds_are ∙ ap (λ l. way.done ++ l) n.rest_is ∙ sym (append_assoc way.done (one ∷ []) n.more);
        nows_are = ap (map (one_shown heard)) (remove_set entries place x) ∙ n.removed ∙ sym (ap (λ l. l ++ n.more) stayed);
        place_is = way.place_is ∙ sym (ap length stayed);
        become = become_more told way.done way.outcomes one (Stops gone) way.become (subst P is leaves);
        to_are = ap (λ l. l ++ gone ∷ []) way.to_are ∙ append_assoc before (stopping way.outcomes) (gone ∷ []) ∙ sym (ap (λ l. before ++ l) stopped);
      }
