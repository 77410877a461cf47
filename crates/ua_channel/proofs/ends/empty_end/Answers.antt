use Rattle.std.proofs.Common.{[], ◌∙◌, rules, sym, ap}
use Rattle.ua_channel.specs.State.{ChannelState}
use Rattle.ua_channel.specs.Sharing.{Ends, with_end}
use Rattle.ua_channel.proofs.OneEnd.{emptied_there}
use Rattle.ua_channel.proofs.ends.empty_end.Goals as goal

pub returns-then-contains : goal.returns-then-contains
returns-then-contains c =
    let ends = c.args.channels.now in
    let number = c.args.number in
    c.swap.ensures.state
    ∙ ap (λ (es : Ends). with_end number c.take_out.new.self es) c.swap-channel.ensures.state
    ∙ ap (λ (d : ChannelState). with_end number d (with_end number c.new.result ends)) c.take_out.ensures.state
    ∙ ap (λ (d : ChannelState). with_end number (record d { out = [] }) (with_end number c.new.result ends)) c.swap-channel.ensures.channel
    ∙ emptied_there number ends c.new.result (sym c.contains.ensures ∙ search rules)
