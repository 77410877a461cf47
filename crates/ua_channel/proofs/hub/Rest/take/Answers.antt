use Rattle.std.proofs.Common.{◌∙◌, rules, sym}
use Rattle.ua_channel.proofs.Sharings.{taken_is}
use Rattle.ua_channel.proofs.hub.Rest.take.Goals as goal

pub returns : goal.returns
returns g c =
    taken_is g.H.Hub.ears g.H.Hub.answers c.args.conn c.args.bytes.now c.args.self.now c.take_bytes.new.core c.swap-channel.new.self c.swap.new.self c.new.result
    c.swap-channel.result c.take_bytes.new.channel (sym c.contains.ensures ∙ search rules) c.new.ensures c.swap-channel.ensures.state c.swap-channel.ensures.channel
    c.in_ok-take_bytes.ensures c.swap.ensures.state
