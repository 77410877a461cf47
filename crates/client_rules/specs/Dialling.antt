-- Which links may dial: in hot and warm all, in cold one at a time, and none once all numbers are used up.
use Rattle.std.specs.Prelude.{ℕ, ◌+◌, ◌-◌, ◌^◌, nat_lt, zero, suc, ◌&&◌, Bool, true, length, Option, Some, None, if◌then◌else◌}
use Rattle.ua_base.specs.declared.modes.SetMode.{SetMode}
use Rattle.ua_base.specs.declared.modes.SetMode.TheVariants.{Direct, Hot, Warm, Cold}
use Rattle.link_rules.specs.State.{is_idle}
use Rattle.link_rules.specs.Opening.{dials, may_dial}
use Rattle.client_rules.specs.State.{ClientState, link_of, with_link}
use Rattle.client_rules.specs.Links.{server_after}

-- a link that may not dial stays as it is
abbrev pub dials_at : ℕ → ClientState → ClientState
dials_at server c = if may_dial (link_of server c) then with_link server (dials (link_of server c)) c else c

-- each of the first so many servers
unfoldable pub dials_among : ℕ → ClientState → ClientState
dials_among zero c = c
dials_among (suc count) c = dials_at (count + 1) (dials_among count c)

unfoldable pub are_idle : ℕ → ClientState → Bool
are_idle zero c = true
are_idle (suc count) c = are_idle count c && is_idle (link_of (count + 1) c)

-- the first of so many servers from one on, in a ring, that may dial
unfoldable pub first_to_dial : ℕ → ℕ → ClientState → Option ℕ
first_to_dial zero server c = None
first_to_dial (suc count) server c =
    if may_dial (link_of server c) then Some server else first_to_dial count (server_after server c) c

abbrev pub dials_if : Option ℕ → ClientState → ClientState
dials_if None c = c
dials_if (Some server) c = dials_at server c

abbrev pub dials_one : ClientState → ClientState
dials_one c =
    if are_idle (length c.links) c then dials_if (first_to_dial (length c.links) c.cursor c) c else c

abbrev pub dialled_by : SetMode → ClientState → ClientState
dialled_by Hot c = dials_among (length c.links) c
dialled_by Warm c = dials_among (length c.links) c
dialled_by Cold c = dials_one c
dialled_by Direct c = c

-- connections have numbers of 32 bits: after the last one nobody is dialled
abbrev pub has_numbers : ClientState → Bool
has_numbers c = nat_lt c.dials (2 ^ 32 - 1)

-- the end of an event
unfoldable pub dialled : ClientState → ClientState
dialled c = if has_numbers c then dialled_by c.config.mode c else c
