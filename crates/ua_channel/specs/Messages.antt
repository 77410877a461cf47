-- The same end over whole messages: no bytes, no pieces and no numbers, only who is asked for and who answers.
use Rattle.std.specs.Prelude.{ℕ, Bool, true, ◌==◌, ◌||◌, not, List, [], ◌∷◌, ◌++◌, None, if◌then◌else◌}
use Rattle.ua_base.specs.Status.{bad_secure_channel_token_unknown, bad_tcp_message_type_invalid, bad_tcp_secure_channel_unknown}
use Rattle.ua_chunks.specs.declared.frame.Kind.{Kind}
use Rattle.ua_chunks.specs.declared.frame.Kind.TheVariants as kind
use Rattle.ua_chunks.specs.Assembly.{Tokens, is_former, used}
use Rattle.ua_chunks.specs.Traffic.{renewed_tokens}
use Rattle.ua_channel.specs.declared.ear.Ear.{Ear}
use Rattle.ua_channel.specs.declared.heard.Heard.{Heard}
use Rattle.ua_channel.specs.declared.heard.Heard.TheVariants as said
use Rattle.ua_channel.specs.declared.wire.Order.{Order}
use Rattle.ua_channel.specs.declared.wire.Order.TheVariants as order
use Rattle.ua_channel.specs.State.{WireState, is_deaf}
use Rattle.ua_channel.specs.Hearing.{takes}

-- ---- what is heard of a message whose numbers follow

-- what is said, and which tokens are taken then
pub record Judged : Type 0 where
  pub heard : Heard
  pub tokens : Tokens

abbrev pub judges : Heard → Tokens → Judged
judges h t = record { heard = h; tokens = t }

-- the token, or until one with it came the former one
abbrev pub takes_token_of : ℕ → Tokens → Bool
takes_token_of token t = token == t.token || is_former token t.former

abbrev pub message_of_channel : Heard → WireState → Tokens → Judged
message_of_channel h w t =
    if not (w.channel == t.channel) then judges (said.Fault bad_tcp_secure_channel_unknown) t
    else if not (takes_token_of w.token t) then judges (said.Fault bad_secure_channel_token_unknown) t
    else judges h (used w.token t)

abbrev pub judged_by : Kind → WireState → Tokens → Judged
judged_by kind.Hel w t = judges (said.Greeting w.body) t
judged_by kind.Ack w t = judges (said.Greeting w.body) t
judged_by kind.Err w t = judges (said.Fault bad_tcp_message_type_invalid) t
judged_by kind.Opn w t = judges (said.Opening w.channel true w.request w.body) t
judged_by kind.Msg w t = message_of_channel (said.Message w.request w.body) w t
judged_by kind.Clo w t = message_of_channel said.Close w t

unfoldable pub hearing_of : Ear → WireState → Tokens → Judged
hearing_of e w t =
    if takes e w.kind then judged_by w.kind w t
    else judges (said.Fault bad_tcp_message_type_invalid) t

-- ---- an end

-- what answers, which tokens are taken, and the messages put that weren't taken
pub record MessageState (C : Type 0) : Type 0 where
  pub core : C
  pub tokens : Tokens
  pub out : List WireState

-- those of a deaf end, and of a new one
abbrev pub no_tokens : Tokens
no_tokens = record { channel = 0; token = 0; former = None }

module _ {C : Type 0} where
  -- limits change no message
  abbrev pub obeyed_message : Order → MessageState C → MessageState C
  obeyed_message (order.Put w) k = record k { out = k.out ++ w ∷ [] }
  obeyed_message (order.Limit l) k = k
  obeyed_message (order.Renew channel token) k = record k { tokens = renewed_tokens channel token k.tokens }

  abbrev pub obeyed_messages : List Order → MessageState C → MessageState C
  obeyed_messages [] k = k
  obeyed_messages (o ∷ orders) k = obeyed_messages orders (obeyed_message o k)

module _ {C : Type 0} (ears : C → Ear) (answer : Heard → C → C × List Order) where
  abbrev pub is_deaf_end : MessageState C → Bool
  is_deaf_end k = is_deaf (ears k.core)

  abbrev pub settled_messages : MessageState C → MessageState C
  settled_messages k = if is_deaf_end k then record k { tokens = no_tokens } else k

  unfoldable pub message_told : Heard → MessageState C → MessageState C
  message_told h k = settled_messages (obeyed_messages (answer h k.core).1 (record k { core = (answer h k.core).0 }))

  unfoldable pub message_after : WireState → MessageState C → MessageState C
  message_after w k =
      if is_deaf_end k then k
      else message_told (hearing_of (ears k.core) w k.tokens).heard
      (record k { tokens = (hearing_of (ears k.core) w k.tokens).tokens })
