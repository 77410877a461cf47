-- Connections that are opened or closed without effect.
use Rattle.std.proofs.Common.{◌≡◌, ℕ, false, cond, Option, None, is_some, ap}
use Rattle.ua_channel.specs.State.{ChannelState}
use Rattle.ua_channel.specs.Sharing.{end_at}
use Rattle.server_rules.specs.Connecting.{is_above}
use Rattle.server_rules.specs.Step.{Closes, Opens, after}
use Rattle.ua_server.specs.State.{BytesState}
use Rattle.ua_server.specs.Step.{closed_bytes, end_closed, end_opened, opened_bytes, with_ends}

pub closes_nothing : (conn : ℕ) (s : BytesState) → end_at conn s.channels ≡ None → closed_bytes conn s ≡ s
closes_nothing conn s e =
    ap (λ (o : Option ChannelState). cond (is_some o) (with_ends (end_closed conn s.channels) (after (Closes conn) s.hub)) s) e

pub opens_nothing : (conn : ℕ) (s : BytesState) → is_above s.hub.highest conn ≡ false → opened_bytes conn s ≡ s
opens_nothing conn s e = ap (λ b. cond b (with_ends (end_opened conn s.channels) (after (Opens conn) s.hub)) s) e
