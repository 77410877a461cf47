-- A link does something: it moves, what it tells is noted in order, and what it says goes to its server.
use Rattle.std.specs.Prelude.{ℕ, ◌+◌, ◌==◌, ◌&&◌, not, Bool, List, [], ◌∷◌, ◌++◌, map, length, if◌then◌else◌}
use Rattle.ua_channel.specs.declared.wire.Order.{Order}
use Rattle.link_rules.specs.declared.notice.Notice.{Notice}
use Rattle.link_rules.specs.declared.notice.Notice.TheVariants as notice
use Rattle.link_rules.specs.State.{LinkState, is_idle}
use Rattle.link_rules.specs.Said.{LinkDid, orders_of}
use Rattle.client_rules.specs.State.{ClientState, link_of, with_link, with_level, with_log}
use Rattle.client_rules.specs.Acts.{Says, Tells, acted_if, seen_of_notice}
use Rattle.client_rules.specs.Doing.{ClientDid}

-- ---- what it tells

-- the level that was read last is remembered
abbrev pub with_level_told : ℕ → Notice → ClientState → ClientState
with_level_told server (notice.Level level) c = with_level server level c
with_level_told server other c = c

unfoldable pub told : ℕ → Notice → ClientState → ClientState
told server n c =
    with_level_told server n
    (with_log (acted_if (seen_of_notice c.config.mode c.config.items server n) c.log) c)

unfoldable pub all_told : ℕ → List Notice → ClientState → ClientState
all_told server [] c = c
all_told server (n ∷ notices) c = all_told server notices (told server n c)

-- ---- where it falls

-- after the last server comes the first
abbrev pub server_after : ℕ → ClientState → ℕ
server_after server c = if server == length c.links then 1 else server + 1

-- a cold client whose link fell dials the next server first
abbrev pub fell : ℕ → Bool → ClientState → ClientState
fell server falls c = if falls then record c { cursor = server_after server c } else c

-- ---- all of it

abbrev pub ordered : ℕ → List Order → List (ℕ × Order)
ordered server [] = []
ordered server (o ∷ orders) = (server, o) ∷ ordered server orders

-- a link fell where it was on its way and is idle
abbrev pub falls : LinkState → LinkState → Bool
falls before after = not (is_idle before) && is_idle after

abbrev pub moved : ℕ → LinkState → ClientState → ClientState
moved server l c = fell server (falls (link_of server c) l) (with_link server l c)

unfoldable pub linked_by : ℕ → LinkDid → ClientState → ClientDid
linked_by server did c = record {
  client = all_told server did.notices (moved server did.link c);
  orders = ordered server (orders_of did.said);
  acts = map (Tells server) did.notices ++ map (Says server) did.said;
}

abbrev pub linked : ℕ → (LinkState → LinkDid) → ClientState → ClientDid
linked server rule c = linked_by server (rule (link_of server c)) c
