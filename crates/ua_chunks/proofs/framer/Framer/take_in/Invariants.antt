use Rattle.std.proofs.Common.{◌≡◌, length}
use Rattle.ua_chunks.specs.Framing.{Gains, after_feed, frames_of}
use Rattle.ua_chunks.proofs.framer.Framer.take_in.Given as goal

abbrev pub invariant-loop-rest : goal.invariant-loop-rest
invariant-loop-rest l =
    (after_feed l.rest l.self ≡ after_feed l.bytes l.fn.self) × Gains (frames_of l.bytes l.fn.self) l.fn.to.items l.to.items (frames_of l.rest l.self)

abbrev pub decreases-loop-rest : goal.decreases-loop-rest
decreases-loop-rest l = length l.rest
