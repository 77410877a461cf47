use Rattle.std.proofs.Common.{◌∙◌, rules, sym, ap}
use Rattle.ua_channel.specs.State.{ChannelState}
use Rattle.ua_channel.specs.Orders.{obeyed}
use Rattle.ua_channel.specs.Sharing.{Ends, with_end}
use Rattle.ua_channel.proofs.Sharings.{obeyed_there}
use Rattle.ua_channel.proofs.ends.obey_at.Goals as goal

pub returns : goal.returns
returns c =
    let ends = c.args.channels.now in
    let order = c.args.order.now in
    let number = c.args.number in
    c.swap.ensures.state
    ∙ ap (λ (es : Ends). with_end number c.obey_one.new.channel es) c.swap-channel.ensures.state
    ∙ ap (λ (d : ChannelState). with_end number d (with_end number c.new.result ends)) c.in_ok-obey_one.ensures
    ∙ ap (λ (d : ChannelState). with_end number (obeyed order d) (with_end number c.new.result ends)) c.swap-channel.ensures.channel
    ∙ obeyed_there number order ends c.new.result (sym c.contains.ensures ∙ search rules)
