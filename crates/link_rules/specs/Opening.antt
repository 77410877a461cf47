-- How a connection is made and its secure channel opened, and how the channel's token is renewed (OPC 10000-6, 7.1.2 and
-- 7.1.3; OPC 10000-4, 5.5.2).
use Rattle.std.specs.Prelude.{ℕ, pos, ◌==◌, ◌&&◌, nat_le, length, List, Bool, true, false, not, Option, Some, None, Result, Ok, Err, if◌then◌else◌}
use Rattle.ua_values.specs.Reading.{Fault, input}
use Rattle.ua_chunks.specs.declared.greeting.Greeting.{Greeting}
use Rattle.ua_chunks.specs.Bodies.{greeting_at, value_of, whole_at}
use Rattle.ua_chunks.specs.Sending.{limit_of, new_sending}
use Rattle.ua_channel.specs.State.{LimitState}
use Rattle.ua_session_msgs.specs.declared.channel.ChannelSecurityToken.{ChannelSecurityToken}
use Rattle.ua_session_msgs.specs.declared.channel.OpenSecureChannelResponse.{OpenSecureChannelResponse}
use Rattle.ua_session_msgs.specs.declared.reply.SessionReply.TheVariants as session_reply
use Rattle.ua_services.specs.declared.reply.Reply.{Reply}
use Rattle.ua_services.specs.declared.reply.Reply.TheVariants as reply
use Rattle.link_rules.specs.declared.phase.Phase.{Phase}
use Rattle.link_rules.specs.declared.phase.Phase.TheVariants as phase
use Rattle.link_rules.specs.State.{LinkState, is_idle, is_ready, new_conversation, null_node, with_conversation, with_phase}
use Rattle.link_rules.specs.Said.{LinkDid, Greeted, Limited, Renewed, and_then, nothing, says}
use Rattle.link_rules.specs.Closing.{broken, dropped}
use Rattle.link_rules.specs.Asking.{asked, asked_opening, is_answer}
use Rattle.link_rules.specs.Requests.{channel_request, hello, session_request_of}
use Rattle.link_rules.specs.Ready.{is_answer_to}

-- ---- the connection

-- it has not given the notice Unsupported, and no wait keeps it
abbrev pub may_dial : LinkState → Bool
may_dial l = is_idle l && (l.wait == 0) && not l.unsupported

-- it wishes for a connection, where it may
abbrev pub dials : LinkState → LinkState
dials l = if may_dial l then with_phase (phase.Dialing false) l else l

-- nothing is left of the connection before
abbrev pub connected : Option (List ℕ) → LinkState → LinkState
connected url l =
    with_phase phase.Hello (record l { url = url; session = null_node; conversation = new_conversation })

-- the encoded value of the URL is below 4096 bytes (OPC 10000-6, 7.1.2.3)
abbrev pub is_short : Option (List ℕ) → Bool
is_short None = true
is_short (Some run) = nat_le (length run) 4091

-- a HEL
unfoldable pub greets : Option (List ℕ) → LinkState → LinkDid
greets url l = if is_short url then says (Greeted hello url) l else broken l

abbrev pub opened_in : Phase → Option (List ℕ) → LinkState → LinkDid
opened_in phase.Idle url l = nothing (record l { closes = true })
opened_in (phase.Dialing taken) url l = greets url (connected url l)
opened_in other url l = broken l

-- a connection to this endpoint was made: one that wasn't wished for is to be closed
unfoldable pub opened : Option (List ℕ) → LinkState → LinkDid
opened url l = opened_in l.phase url l

-- bytes that weren't taken when a connection is opened were for one before
abbrev pub is_apart : Phase → Bool
is_apart phase.Idle = true
is_apart (phase.Dialing taken) = true
is_apart other = false

abbrev pub begins_anew : LinkState → Bool
begins_anew l = is_apart l.phase

abbrev pub refused_in : Phase → LinkState → LinkDid
refused_in (phase.Dialing taken) l = dropped l
refused_in other l = nothing l

-- none could be made
unfoldable pub refused : LinkState → LinkDid
refused l = refused_in l.phase l

abbrev pub closed_in : Phase → LinkState → LinkDid
closed_in phase.Idle l = nothing l
closed_in (phase.Dialing taken) l = nothing l
closed_in other l = dropped l

-- the connection ended: that which was to be closed, or the one that stood
unfoldable pub closed : LinkState → LinkDid
closed l = if l.closes then nothing (record l { closes = false }) else closed_in l.phase l

-- ---- its channel

abbrev pub limits_of : Greeting → LimitState
limits_of g = record { size = g.receive; max_message = g.max_message; max_chunks = g.max_chunks }

-- how many bytes of a body the other end takes
abbrev pub limit_named : Greeting → ℕ
limit_named g = limit_of (new_sending 0 0 g.receive g.max_message g.max_chunks)

abbrev pub with_limit : ℕ → LinkState → LinkState
with_limit limit l = with_conversation (record l.conversation { limit = limit }) l

-- OpenSecureChannel: a first token
unfoldable pub opens_channel : LinkState → LinkDid
opens_channel l = asked_opening (channel_request (pos 0) l) (with_phase phase.Opening l)

-- each end takes frames of 8192 bytes at least
abbrev pub is_enough : Greeting → Bool
is_enough g = nat_le 8192 g.receive && nat_le 8192 g.send

unfoldable pub acknowledged_by : Greeting → LinkState → LinkDid
acknowledged_by g l =
    if is_enough g
    then and_then opens_channel (says (Limited (limits_of g)) (with_limit (limit_named g) l))
    else broken l

unfoldable pub greeted_by : Result Greeting Fault → LinkState → LinkDid
greeted_by (Ok g) l = acknowledged_by g l
greeted_by (Err fault) l = broken l

abbrev pub greeted_in : Phase → List ℕ → LinkState → LinkDid
greeted_in phase.Hello body l = greeted_by (value_of (whole_at greeting_at (input 0 body))) l
greeted_in other body l = broken l

-- an ACK
unfoldable pub greeted : List ℕ → LinkState → LinkDid
greeted body l = greeted_in l.phase body l

-- ---- the channel's tokens

abbrev pub with_token : ChannelSecurityToken → LinkState → LinkState
with_token t l = with_conversation (record l.conversation {
  channel = t.channel_id;
  token = t.token_id;
  opened = l.age;
  lifetime = t.revised_lifetime;
  renewal = None;
}) l

-- chunks of the new token are taken, and messages are put with it
unfoldable pub renews : ChannelSecurityToken → LinkState → LinkDid
renews t l = says (Renewed t.channel_id t.token_id) (with_token t l)

-- CreateSession
unfoldable pub creates_session : LinkState → LinkDid
creates_session l = asked (session_request_of l) (with_phase phase.Creating l)

-- a message that came doesn't change the phase, but is one in it; in Ready only messages of the subscription count
abbrev pub heard_once : LinkState → LinkState
heard_once l = record l { since = if is_ready l then l.since else l.age }

unfoldable pub channel_replied_in : Phase → OpenSecureChannelResponse → LinkState → LinkDid
channel_replied_in phase.Opening r l =
    if is_answer r.response_header l then and_then creates_session (renews r.security_token l) else broken l
channel_replied_in other r l =
    if is_answer_to l.conversation.renewal r.response_header then renews r.security_token (heard_once l)
    else broken l

-- the reply in an OPN: the first, or that of a renewal
unfoldable pub in_opening : Reply → LinkState → LinkDid
in_opening (reply.Session (session_reply.OpenSecureChannel r)) l = channel_replied_in l.phase r l
in_opening other l = broken l
