-- Which messages a server takes, and which it puts.
use Rattle.ua_chunks.specs.Assembly.{Tokens}
use Rattle.ua_channel.specs.declared.ear.Ear.{Ear}
use Rattle.ua_channel.specs.State.{WireState}
use Rattle.ua_channel.specs.Messages.{hearing_of}
use Rattle.server_keeps.specs.Fitting as server
use Rattle.link_keeps.specs.Fitting as link

-- whatever is taken at the moment, and with which tokens, what a server hears of it keeps the limits
abbrev pub ComesFit : WireState → Type 0
ComesFit w = (e : Ear) (tokens : Tokens) → server.FitsHeard (hearing_of e w tokens).heard

-- and so does what a client's link hears of it
abbrev pub Brings : WireState → Type 0
Brings w = (e : Ear) (tokens : Tokens) → link.FitsHeard (hearing_of e w tokens).heard
