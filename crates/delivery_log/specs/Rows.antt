-- Tables of joints.
use Rattle.std.specs.Prelude.{◌≡◌, ℕ, ◌<◌, List, [], length, slice_index_or}
use Rattle.delivery_log.specs.declared.rule.Joint.{Joint}

-- each server has so many joints
pub record HaveWidth (width : ℕ) (joints : List (List Joint)) : Type 0 where
  pub each : (place : ℕ) → place < length joints → length (slice_index_or joints place []) ≡ width
