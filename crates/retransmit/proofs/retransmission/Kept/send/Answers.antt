use Rattle.std.proofs.Common.{◌≡◌, ◌∙◌, ap, rules}
use Rattle.retransmit.proofs.Available.{sent_given}
use Rattle.retransmit.specs.Kept.{message_of, with_sent}
use Rattle.retransmit.proofs.retransmission.Kept.send.Goals as goal

pub returns-clause-given : goal.returns-clause-given
returns-clause-given g c =
    let sent : c.push_back.new.self.items ≡ with_sent c.args.number c.args.message c.args.self.now = search rules in
    ap (message_of c.args.number) sent ∙ sent_given c.args.number c.args.message c.args.self.now
