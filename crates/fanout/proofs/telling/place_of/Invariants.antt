use Rattle.std.proofs.Common.{◌≡◌, drop}
use Rattle.fanout.specs.Shown.{place_from}
use Rattle.fanout.proofs.telling.place_of.Given as goal

abbrev pub invariant-loop-place : goal.invariant-loop-place
invariant-loop-place g l = place_from l.place l.id (drop l.place l.entries) ≡ place_from 0 l.id l.entries
