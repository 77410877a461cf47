-- A client over bytes is shown by one over messages.
use Rattle.std.specs.Prelude.{◌≡◌, ◌≢◌, ◌≤◌, ◌==◌, ◌&&◌, ℕ, true, List, [], ◌∷◌, map, Option, Some, None, if◌then◌else◌}
use Rattle.ua_chunks.specs.Assembly.{Tokens}
use Rattle.ua_channel.specs.declared.ear.Ear.{Ear}
use Rattle.ua_channel.specs.Arriving.{Chain, Sent, bytes_of}
use Rattle.ua_channel.specs.Messages.{hearing_of}
use Rattle.ua_channel.specs.Sharing.{end_at}
use Rattle.ua_channel.specs.State.{ChannelState, WireState}
use Rattle.link_rules.specs.Closing.{stands_in}
use Rattle.link_rules.specs.Opening.{begins_anew}
use Rattle.link_rules.specs.State.{LinkState}
use Rattle.link_keeps.specs.Fitting as link
use Rattle.server_keeps.specs.Fitting as server
use Rattle.client_rules.specs.State.{ClientState, is_server, link_of}
use Rattle.client_keeps.specs.Fitting.{FitsClient}
use Rattle.ua_client.specs.declared.event.ClientEvent.{ClientEvent}
use Rattle.ua_client.specs.declared.event.ClientEvent.TheVariants as event
use Rattle.ua_client.specs.State.{BytesState}
use Rattle.message_ends.specs.Showing as ends
use Rattle.client_messages.specs.Messages.{MessagesState}

-- ---- messages

-- whatever a link awaits, and whichever tokens its end takes, what it hears of this message fits
abbrev pub ComesFit : WireState → Type 0
ComesFit w = (e : Ear) (t : Tokens) → link.FitsHeard (hearing_of e w t).heard

-- so it is with each of these
abbrev pub AllComeFit : List Sent → Type 0
AllComeFit [] = Unit {0}
AllComeFit (m ∷ sent) = ComesFit m.wire × AllComeFit sent

-- and so it is with a server, to which the client puts it
abbrev pub Brings : WireState → Type 0
Brings w = (e : Ear) (t : Tokens) → server.FitsHeard (hearing_of e w t).heard

-- ---- limits

-- the link of a connection that stands says nothing longer than what its end puts
abbrev pub KnowsLimit : LinkState → ℕ → Type 0
KnowsLimit l limit = stands_in l.phase ≡ true → l.conversation.limit ≤ limit

-- the same of the link to this server, if the client has such a server
abbrev pub Limits : ℕ → ℕ → ClientState → Type 0
Limits number limit c = is_server number c ≡ true → KnowsLimit (link_of number c) limit

-- ---- clients

-- what a client keeps to, and how its ends are shown
abbrev pub Stands : (ℕ → ℕ) → BytesState → MessagesState → Type 0
Stands firsts r t = ends.Stands FitsClient Limits Brings firsts r t

-- ---- a connection that is opened

-- where the server's stream begins with it the messages put are numbered from 1 on
abbrev pub renewed_firsts : ℕ → ClientState → (ℕ → ℕ) → ℕ → ℕ
renewed_firsts server c firsts number =
    if number == server && (is_server server c && begins_anew (link_of server c)) then 1 else firsts number

-- ---- messages that are taken

-- the number with which the next message is put; without an end it is the first one
abbrev pub next_of : Option ChannelState → ℕ
next_of None = 1
next_of (Some c) = c.sending.next

-- with it begin those that are put after the others were taken
abbrev pub taken_firsts : ℕ → BytesState → (ℕ → ℕ) → ℕ → ℕ
taken_firsts server r firsts number =
    if number == server then next_of (end_at server r.channels) else firsts number

-- the bytes that are taken are those of messages, whose chunks are numbered from `first` on
pub record PutsFrom (first : ℕ) (c : ChannelState) (taken : List ℕ) (shown : List WireState) : Type 0 where
  pub sent : List Sent
  pub wires : map (λ m. m.wire) sent ≡ shown
  pub bytes : taken ≡ bytes_of sent
  pub chain : Chain first sent c.sending.next
  pub brings : ends.AllBring Brings shown

-- where no end is, nothing is put
abbrev pub Puts : ℕ → Option ChannelState → List ℕ → List WireState → Type 0
Puts first None taken shown = (taken ≡ []) × (shown ≡ [])
Puts first (Some c) taken shown = PutsFrom first c taken shown

-- ---- what is awaited

-- nothing comes from this server, and no connection to it is opened
abbrev pub IsBeside : ℕ → ClientEvent → Type 0
IsBeside number (event.Opened server) = server ≢ number
IsBeside number (event.Refused server) = Unit {0}
IsBeside number (event.Bytes server bytes) = server ≢ number
IsBeside number (event.Closed server) = Unit {0}
IsBeside number (event.Tick ms) = Unit {0}
