-- What each event makes of a client. What comes of a server that it doesn't have is no event.
use Rattle.std.specs.Prelude.{ℕ, ◌+◌, ◌-◌, ◌^◌, min, codes, Bool, true, List, [], ◌∷◌, ◌++◌, length, Option, Some, None, if◌then◌else◌, slice_index_or}
use Rattle.std.specs.Fmt.{decimal}
use Rattle.ua_channel.specs.declared.ear.Ear.{Ear}
use Rattle.ua_channel.specs.declared.ear.Ear.TheVariants as ear
use Rattle.ua_channel.specs.declared.heard.Heard.{Heard}
use Rattle.link_rules.specs.Step as link
use Rattle.link_rules.specs.Opening as opening
use Rattle.link_rules.specs.Time.{ticked}
use Rattle.client_rules.specs.declared.config.ClientConfig.{ClientConfig}
use Rattle.client_rules.specs.State.{ClientState, idle_client, is_server, link_of, with_link}
use Rattle.client_rules.specs.Acts.{Happening, Opens, Refuses, Hears, Closes, Ticks, Happened}
use Rattle.client_rules.specs.Doing.{ClientDid, and_then, each_server, nothing}
use Rattle.client_rules.specs.Links.{linked}
use Rattle.client_rules.specs.Settling.{settled}
use Rattle.client_rules.specs.Dialling.{dialled}

-- ---- connections

-- the connections are numbered as they are opened; the last number stays
abbrev pub counted : ClientState → ClientState
counted c = record c { dials = min (c.dials + 1) (2 ^ 64 - 1) }

abbrev pub url_text : Option (List ℕ) → List ℕ
url_text None = []
url_text (Some text) = text

-- each connection has an endpoint of its own: the server's url, and behind a slash the connection's number
abbrev pub dial_text : ℕ → List ℕ
dial_text dial = codes "/" ++ decimal dial

abbrev pub endpoint : ℕ → ClientState → List ℕ
endpoint server c = url_text (slice_index_or c.config.urls (server - 1) None) ++ dial_text c.dials

abbrev pub opens : ℕ → ClientState → ClientDid
opens server c = linked server (opening.opened (Some (endpoint server (counted c)))) (counted c)

-- ---- events, without the dials at their ends

abbrev pub ticks : ℕ → ClientState → ClientDid
ticks ms c = each_server (λ server. linked server (ticked ms)) (length c.links) c

abbrev pub happens : Happening → ClientState → ClientDid
happens (Opens server) c = opens server c
happens (Refuses server) c = linked server opening.refused c
happens (Hears server h) c = linked server (link.heard h) c
happens (Closes server) c = linked server opening.closed c
happens (Ticks ms) c = ticks ms c

abbrev pub is_known : Happening → ClientState → Bool
is_known (Opens server) c = is_server server c
is_known (Refuses server) c = is_server server c
is_known (Hears server h) c = is_server server c
is_known (Closes server) c = is_server server c
is_known (Ticks ms) c = true

abbrev pub happening : Happening → ClientState → ClientDid
happening h c = record { client = c; orders = []; acts = Happened h ∷ [] }

-- it happens, with all that follows it
unfoldable pub after : Happening → ClientState → ClientDid
after h c =
    if is_known h c then and_then settled (and_then (happens h) (happening h c)) else nothing c

-- ---- what is heard

abbrev pub ears : ℕ → ClientState → Ear
ears server c = if is_server server c then link.ear_of (link_of server c) else ear.Deaf

abbrev pub heard : ℕ → Heard → ClientState → ClientDid
heard server h c = after (Hears server h) c

-- ---- wishes

-- what it wishes for the connection to a server is taken
abbrev pub without_wish : ℕ → ClientState → ClientState
without_wish server c = if is_server server c then with_link server (link.wish_taken (link_of server c)) c else c

-- ---- a client's life

-- a client that begins dials
abbrev pub new_client : ClientConfig → ClientState
new_client config = dialled (idle_client config)

-- what may happen over whole messages: an event, or the end of one; or the wish for a server's connection is taken
pub data Moment : Type 0 where
  Goes : Happening → Moment
  Ends : Moment
  Takes : ℕ → Moment

abbrev pub at_moment : Moment → ClientState → ClientDid
at_moment (Goes h) c = after h c
at_moment Ends c = nothing (dialled c)
at_moment (Takes server) c = nothing (without_wish server c)

unfoldable pub after_all : List Moment → ClientState → ClientDid
after_all [] c = nothing c
after_all (m ∷ moments) c = and_then (after_all moments) (at_moment m c)
