use Rattle.std.proofs.Common.{◌≡◌, ◌++◌, take}
use Rattle.std.specs.List.{flat_map}
use Rattle.show.specs.Stream.{frame_line}
use Rattle.show.proofs.stream.put_frames.Given as goal

abbrev pub invariant-loop-frame : goal.invariant-loop-frame
invariant-loop-frame l = l.to.items ≡ l.fn.to.items ++ flat_map frame_line (take l.frame-index l.frames)
