-- What an OpenSecureChannel response tells of the channel of its connection (OPC 10000-4, 5.5.2).
use Rattle.std.specs.Prelude.{◌≡◌, ℕ, List, [], ◌∷◌, ◌++◌, ◌⊎◌, map, Bool, true, false, Some, if◌then◌else◌}
use Rattle.ua_base.specs.Number.{after_message}
use Rattle.ua_channel.specs.declared.ear.Ear.{Ear}
use Rattle.ua_channel.specs.declared.ear.Ear.TheVariants as ear
use Rattle.ua_session_msgs.specs.declared.channel.OpenSecureChannelResponse.{OpenSecureChannelResponse}
use Rattle.subscription.specs.Sendings.{number_of}
use Rattle.server_rules.specs.declared.conn.Conn.{Conn}
use Rattle.server_rules.specs.State.{ServerState, conn_at}
use Rattle.server_rules.specs.Said.{Opened, Said, Told}
use Rattle.server_rules.specs.Step.{Happening, Hears, after, ears}
use Rattle.server_rules.specs.Acts.{state_after}
use Rattle.server_laws.specs.Facts.{RiseBetween}

-- no channel was open on the connection: the next one is, with its first token
pub record IsIssued (r : OpenSecureChannelResponse) (was : Conn) (before after : ServerState) : Type 0 where
  pub begins : was.ear ≡ ear.Opening
  pub channel : r.security_token.channel_id ≡ after_message before.channels_given
  pub last : after.channels_given ≡ r.security_token.channel_id
  pub token : r.security_token.token_id ≡ 1

-- the channel that is open on it has its next token
pub record IsRenewed (r : OpenSecureChannelResponse) (was : Conn) (before after : ServerState) : Type 0 where
  pub stays : was.ear ≡ ear.Open
  pub channel : r.security_token.channel_id ≡ was.channel
  pub last : after.channels_given ≡ before.channels_given
  pub token : r.security_token.token_id ≡ after_message was.token

-- what was said with a response is under the channel and the token of its connection, as they are then, and these are what
-- the response tells
pub record IsOpened (said : Said) (r : OpenSecureChannelResponse) (before after : ServerState) : Type 0 where
  pub was : Conn
  pub found : conn_at said.conn before.conns ≡ Some was
  pub conn : Conn
  pub there : conn_at said.conn after.conns ≡ Some conn
  pub channel : r.security_token.channel_id ≡ conn.channel
  pub token : r.security_token.token_id ≡ conn.token
  pub under : (said.channel ≡ conn.channel) × (said.token ≡ conn.token)
  pub given : IsIssued r was before after ⊎ IsRenewed r was before after

-- ---- the channels of a life

abbrev pub channel_in : Told → List ℕ
channel_in (Opened request r) = r.security_token.channel_id ∷ []
channel_in other = []

abbrev pub channels_in : List Said → List ℕ
channels_in [] = []
channels_in (said ∷ more) = channel_in said.told ++ channels_in more

abbrev pub is_opening : Ear → Bool
is_opening ear.Opening = true
is_opening other = false

-- the ids of channels that responses open, and don't renew
abbrev pub opened_by : Happening → ServerState → List ℕ
opened_by (Hears conn h) s = if is_opening (ears conn s) then channels_in (after (Hears conn h) s).said else []
opened_by other s = []

abbrev pub opened_in : List Happening → ServerState → List ℕ
opened_in [] s = []
opened_in (happening ∷ earlier) s = opened_in earlier s ++ opened_by happening (state_after earlier s)

-- these are, in order, among 1, 2 and so on, where 1 comes after 4294967295
pub record AreNext (ids : List ℕ) : Type 0 where
  pub last : ℕ
  pub places : List ℕ
  pub rise : RiseBetween 0 last places
  pub are : ids ≡ map number_of places
