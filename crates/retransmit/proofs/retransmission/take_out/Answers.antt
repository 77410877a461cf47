use Rattle.std.proofs.Common.{rules}
use Rattle.retransmit.proofs.Turns.{turned_more}
use Rattle.retransmit.proofs.retransmission.take_out.Goals as goal

pub loop-i-preserved : goal.loop-i-preserved
loop-i-preserved g c = let more = turned_more c.args.number c.args.ring.now.items c.loop-i._i in search rules
