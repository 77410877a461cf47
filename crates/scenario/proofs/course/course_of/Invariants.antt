use Rattle.std.proofs.Common.{◌≡◌}
use Rattle.scenario.specs.Generate as drawing
use Rattle.scenario.proofs.course.course_of.Given as goal

-- the lines so far
abbrev pub invariant-loop-place : goal.invariant-loop-place
invariant-loop-place l = l.course ≡ drawing.course_of l.place l.fn.seed
