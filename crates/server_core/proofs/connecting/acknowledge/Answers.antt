use Rattle.std.proofs.Common.{◌≡◌, ◌∙◌, rules, ap}
use Rattle.std.specs.Prelude.{ℕ, List}
use Rattle.ua_chunks.specs.declared.frame.Kind.TheVariants as kind
use Rattle.ua_chunks.specs.Bodies.{written_greeting}
use Rattle.ua_channel.specs.declared.wire.Order.{Order}
use Rattle.ua_channel.specs.declared.wire.Order.TheVariants as order
use Rattle.ua_channel.specs.State.{LimitState, WireState}
use Rattle.server_rules.specs.Connecting.{acknowledged}
use Rattle.server_core.proofs.Saying.{two_said}
use Rattle.server_core.proofs.connecting.acknowledge.Goals as goal

pub returns-clause-orders : goal.returns-clause-orders
unfolding acknowledged
returns-clause-orders c =
    let conn = c.args.conn in
    two_said _ _ _ _ _ _ _ c.in_ok-push.ensures.items c.in_ok-push-2.ensures.items
    (ap (λ (l : LimitState). (conn.number, order.Limit l)) c.limits_of.ensures)
    (ap (λ (w : WireState). (conn.number, order.Put w)) (c.new.ensures
    ∙ ap (λ (body : List ℕ). record {
      kind = kind.Ack;
      channel = conn.channel;
      token = conn.token;
      request = 0;
      body = body;
    }) (c.in_ok-body.ensures.body ∙ ap written_greeting c.acknowledgement.ensures)))
