use Rattle.std.proofs.Common.{◌∙◌, rules, sym, ap}
use Rattle.ua_channel.specs.State.{ChannelState, shut}
use Rattle.ua_channel.specs.Sharing.{Ends, with_end}
use Rattle.ua_channel.proofs.OneEnd.{shut_there}
use Rattle.ua_channel.proofs.ends.shut_end.Goals as goal

pub returns-then-contains : goal.returns-then-contains
returns-then-contains c =
    let ends = c.args.channels.now in
    let number = c.args.number in
    c.swap.ensures.state
    ∙ ap (λ (es : Ends). with_end number c.shut.new.self es) c.swap-channel.ensures.state
    ∙ ap (λ (d : ChannelState). with_end number d (with_end number c.new.result ends)) c.shut.ensures
    ∙ ap (λ (d : ChannelState). with_end number (shut d) (with_end number c.new.result ends)) c.swap-channel.ensures.channel
    ∙ shut_there number ends c.new.result (sym c.contains.ensures ∙ search rules)
