use Rattle.std.proofs.Common.{◌≡◌, drop}
use Rattle.ua_channel.specs.Node.{node_of, with_frames}
use Rattle.ua_channel.proofs.node.take_frames.Given as goal

abbrev pub invariant-loop-frame : goal.invariant-loop-frame
invariant-loop-frame g l =
    with_frames (g.C.Core.ears l.conn) (g.C.Core.answer l.conn) (drop l.frame-index l.frames) (node_of l.core l.channel)
    ≡ with_frames (g.C.Core.ears l.conn) (g.C.Core.answer l.conn) l.frames (node_of l.fn.core l.fn.channel)
