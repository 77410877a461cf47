-- Why a safe log tells its reader what it should.
use Rattle.std.proofs.Common.{◌≡◌, ℕ, ◌+◌, ◌<◌, ◌≤◌, ◌⊎◌, inl, inr, List, [], ◌∷◌, ◌++◌, Bool, true, false, Some, slice_get, refl, sym, ◌∙◌, ap, subst, arith}
use Rattle.std.proofs.lemmas.List.{map-append}
use Rattle.set_model.specs.declared.line.LogLine.{LogLine}
use Rattle.set_model.specs.declared.line.Seen.{Seen}
use Rattle.set_model.specs.declared.source.Change.{Change}
use Rattle.set_model.specs.declared.stamp.Stamp.{Stamp}
use Rattle.set_model.specs.Source.{of_item, stamp_of, IsSource, Rises}
use Rattle.set_model.specs.Stamp.{is_before}
use Rattle.delivery_log.specs.Safe.{Part, DataLine, GapLine, OtherLine, HeardLine, IsChangeAt, MaySkip, MayShow, SafeFrom, Safe, part_of, parts_of}
use Rattle.delivery_log.specs.Reading.{is_data, HaveNoData, AreHeard, EndInGap, AreNeighbours, Tells}
use Rattle.delivery_log.proofs.Places.{before_from_stamp, stamp_from_place}

-- what is safe from some state on
pub record SafeSomehow (changes : List Change) (parts : List Part) : Type 0 where
  pub next : ℕ
  pub gap : Bool
  pub safe : SafeFrom changes next gap parts

after_front : (cs : List Change) (next : ℕ) (gap : Bool) (xs ys : List Part) → SafeFrom cs next gap (xs ++ ys) → SafeSomehow cs ys
after_front cs next gap [] ys h = record { next = next; gap = gap; safe = h }
after_front cs next gap (DataLine stamp value ∷ xs) ys h = after_front cs (h.0 + 1) false xs ys h.2
after_front cs next gap (GapLine ∷ xs) ys h = after_front cs next true xs ys h
after_front cs next gap (OtherLine ∷ xs) ys h = after_front cs next false xs ys h
after_front cs next gap (HeardLine ∷ xs) ys h = after_front cs next gap xs ys h

-- the flag after lines without a data line
abbrev pub flag_by : Bool → Part → Bool
flag_by gap (DataLine stamp value) = false
flag_by gap GapLine = true
flag_by gap OtherLine = false
flag_by gap HeardLine = gap

abbrev pub flag_after : ℕ → Bool → List LogLine → Bool
flag_after item gap [] = gap
flag_after item gap (line ∷ lines) = flag_after item (flag_by gap (part_of item line)) lines

over_part : (cs : List Change) (next : ℕ) (gap : Bool) (part : Part) (rest : List Part) → is_data part ≡ false → SafeFrom cs next gap (part ∷ rest) → SafeFrom cs next (flag_by gap part) rest
over_part cs next gap (DataLine stamp value) rest n h = absurd cc
over_part cs next gap GapLine rest n h = h
over_part cs next gap OtherLine rest n h = h
over_part cs next gap HeardLine rest n h = h

over_lines : (cs : List Change) (next : ℕ) (gap : Bool) (item : ℕ) (lines : List LogLine) (rest : List Part) → HaveNoData item lines
    → SafeFrom cs next gap (parts_of item lines ++ rest) → SafeFrom cs next (flag_after item gap lines) rest
over_lines cs next gap item [] rest n h = h
over_lines cs next gap item (line ∷ lines) rest n h =
    over_lines cs next (flag_by gap (part_of item line)) item lines rest n.1 (over_part cs next gap (part_of item line) (parts_of item lines ++ rest) n.0 h)

-- where the flag is set after lines, a gap line is the last that counts, or it was set before
end_by : (item : ℕ) (gap : Bool) (line : LogLine) (lines : List LogLine) (part : Part) → part_of item line ≡ part
    → EndInGap item lines ⊎ ((flag_by gap part ≡ true) × AreHeard item lines) → EndInGap item (line ∷ lines) ⊎ ((gap ≡ true) × AreHeard item (line ∷ lines))
end_by item gap line lines part e (inl d) =
    inl (record { before = line ∷ d.before; gap = d.gap; heard = d.heard; are = ap (λ more. line ∷ more) d.are; gap_is = d.gap_is; heard_are = d.heard_are })
end_by item gap line lines (DataLine stamp value) e (inr h) = absurd (cc h.0)
end_by item gap line lines GapLine e (inr h) = inl (record { before = []; gap = line; heard = lines; are = refl; gap_is = e; heard_are = h.1 })
end_by item gap line lines OtherLine e (inr h) = absurd (cc h.0)
end_by item gap line lines HeardLine e (inr h) = inr (h.0, (e, h.1))

end_of : (item : ℕ) (gap : Bool) (lines : List LogLine) → flag_after item gap lines ≡ true → EndInGap item lines ⊎ ((gap ≡ true) × AreHeard item lines)
end_of item gap [] e = inr (e, tt)
end_of item gap (line ∷ lines) e =
    end_by item gap line lines (part_of item line) refl (end_of item (flag_by gap (part_of item line)) lines e)

end_in_gap : (item : ℕ) (lines : List LogLine) → EndInGap item lines ⊎ ((false ≡ true) × AreHeard item lines) → EndInGap item lines
end_in_gap item lines (inl d) = d
end_in_gap item lines (inr h) = absurd (cc h.0)

-- the parts around a data line
parts_around : (item : ℕ) (front back : List LogLine) (line : LogLine) (part : Part) → part_of item line ≡ part
    → parts_of item (front ++ line ∷ back) ≡ parts_of item front ++ part ∷ parts_of item back
parts_around item front back line part e = map-append (part_of item) front (line ∷ back) ∙ ap (λ p. parts_of item front ++ p ∷ parts_of item back) e

-- what is safe from a data line on
from_data : (cs : List Change) (item : ℕ) (log front back : List LogLine) (line : LogLine) (stamp : Stamp) (value : Seen) → log ≡ front ++ line ∷ back
    → part_of item line ≡ DataLine stamp value → SafeFrom cs 0 false (parts_of item log) → SafeSomehow cs (DataLine stamp value ∷ parts_of item back)
from_data cs item log front back line stamp value is e h =
    let P : List Part → Type 0 = SafeFrom cs 0 false in
    after_front cs 0 false (parts_of item front) (DataLine stamp value ∷ parts_of item back)
    (subst P (ap (parts_of item) is ∙ parts_around item front back line (DataLine stamp value) e) h)

-- two neighbouring data lines are changes, and the second may come after the first
pub record IsPair (changes : List Change) (first second : Stamp) (gap : Bool) : Type 0 where
  pub former_value : Seen
  pub latter_value : Seen
  pub former_place : ℕ
  pub latter_place : ℕ
  pub former_at : IsChangeAt changes former_place first former_value
  pub latter_may : MayShow changes (former_place + 1) gap latter_place second latter_value

pair_of : (cs : List Change) (item : ℕ) (log : List LogLine) (first second : Stamp) (between : List LogLine) → SafeFrom cs 0 false (parts_of item log)
    → AreNeighbours item log first between second → IsPair cs first second (flag_after item false between)
pair_of cs item log first second between h n =
    let s : SafeSomehow cs (DataLine first n.former_value ∷ parts_of item (between ++ n.latter ∷ n.back)) =
    from_data cs item log n.front (between ++ n.latter ∷ n.back) n.former first n.former_value n.are n.former_is h in
    let P : List Part → Type 0 = SafeFrom cs (s.safe.0 + 1) false in
    let rest : SafeFrom cs (s.safe.0 + 1) (flag_after item false between) (DataLine second n.latter_value ∷ parts_of item n.back) =
    over_lines cs (s.safe.0 + 1) false item between (DataLine second n.latter_value ∷ parts_of item n.back) n.none
    (subst P (parts_around item between n.back n.latter (DataLine second n.latter_value) n.latter_is) s.safe.2) in
    record {
      former_value = n.former_value;
      latter_value = n.latter_value;
      former_place = s.safe.0;
      latter_place = rest.0;
      former_at = s.safe.1.shows;
      latter_may = rest.1;
    }

pair_rises : (cs : List Change) (first second : Stamp) (gap : Bool) → Rises cs → IsPair cs first second gap → is_before first second ≡ true
pair_rises cs first second gap rises p =
    let forward : p.former_place + 1 ≤ p.latter_place = p.latter_may.forward in
    let P : Stamp → Type 0 = λ t. is_before t second ≡ true in
    let Q : Stamp → Type 0 = λ t. is_before (stamp_of p.former_at.change) t ≡ true in
    subst P (sym p.former_at.stamp_is) (subst Q (sym p.latter_may.shows.stamp_is)
    (stamp_from_place cs p.former_place p.latter_place p.former_at.change p.latter_may.shows.change rises (omega arith) p.former_at.here p.latter_may.shows.here))

skipped_flag : (next place : ℕ) (gap : Bool) → 1 ≤ next → next < place → MaySkip next place gap → gap ≡ true
skipped_flag next place gap some less (inl none) = absurd (omega arith)
skipped_flag next place gap some less (inr (inl same)) = absurd (omega arith)
skipped_flag next place gap some less (inr (inr told)) = told

pair_flag : (cs : List Change) (first second : Stamp) (gap : Bool) (place : ℕ) (missing : Change) → Rises cs → IsPair cs first second gap
    → slice_get cs place ≡ Some missing → is_before first (stamp_of missing) ≡ true → is_before (stamp_of missing) second ≡ true → gap ≡ true
pair_flag cs first second gap place missing rises p at low high =
    let P : Stamp → Type 0 = λ t. is_before t (stamp_of missing) ≡ true in
    let Q : Stamp → Type 0 = λ t. is_before (stamp_of missing) t ≡ true in
    let above : p.former_place < place = before_from_stamp cs p.former_place place p.former_at.change missing rises (subst P p.former_at.stamp_is low) p.former_at.here at in
    let below : place < p.latter_place = before_from_stamp cs place p.latter_place missing p.latter_may.shows.change rises (subst Q p.latter_may.shows.stamp_is high) at p.latter_may.shows.here in
    skipped_flag (p.former_place + 1) p.latter_place gap (omega arith) (omega arith) p.latter_may.skip

change_of : (cs : List Change) (stamp : Stamp) (value : Seen) (rest : List Part) → SafeSomehow cs (DataLine stamp value ∷ rest) → (place : ℕ) × IsChangeAt cs place stamp value
change_of cs stamp value rest s = (s.safe.0, s.safe.1.shows)

-- WHAT A SAFE LOG TELLS
pub tells_from_safe : (source : List Change) (log : List LogLine) → IsSource source → Safe source log → Tells source log
tells_from_safe source log h s = record {
  change = λ item stamp value n.
      change_of (of_item item source) stamp value (parts_of item n.back) (from_data (of_item item source) item log n.front n.back n.shown stamp value n.is n.shown_is (s.each item));
  order = λ item first second between n.
      pair_rises (of_item item source) first second (flag_after item false between) (h.rises item) (pair_of (of_item item source) item log first second between (s.each item) n);
  gap = λ item first second between n place missing at low high.
      end_in_gap item between (end_of item false between
      (pair_flag (of_item item source) first second (flag_after item false between) place missing (h.rises item)
      (pair_of (of_item item source) item log first second between (s.each item) n) at low high));
}
