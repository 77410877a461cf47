use Rattle.std.proofs.Common.{◌≡◌, drop}
use Rattle.set_world.specs.Worlds.{all_taken}
use Rattle.uaset.proofs.replay.run.Given as goal

-- the world after what is left is the world after all
abbrev pub invariant-loop-line : goal.invariant-loop-line
invariant-loop-line l = all_taken (drop l.line-index l.lines) l.world ≡ all_taken l.lines l.fn.world
