-- How a link ends: the one way in which it leaves any phase but Idle.
use Rattle.std.specs.Prelude.{List, [], ◌∷◌, Bool, true, false, ◌||◌}
use Rattle.link_rules.specs.declared.notice.Notice.{Notice}
use Rattle.link_rules.specs.declared.notice.Notice.TheVariants as notice
use Rattle.link_rules.specs.declared.phase.Phase.{Phase}
use Rattle.link_rules.specs.declared.phase.Phase.TheVariants as phase
use Rattle.link_rules.specs.State.{LinkState, forgotten}
use Rattle.link_rules.specs.Said.{LinkDid}

-- there is a connection to close
abbrev pub stands_in : Phase → Bool
stands_in phase.Idle = false
stands_in (phase.Dialing taken) = false
stands_in other = true

-- only one that was ready is missed
abbrev pub loss_of : Phase → List Notice
loss_of (phase.Ready ready) = notice.Lost ∷ []
loss_of other = []

-- whether its items were made isn't known of a subscription whose items are being made: it is forgotten. Any other one
-- is remembered, with its items, its next number and what is to be acknowledged
abbrev pub left_in : Phase → LinkState → LinkState
left_in phase.Adding l = forgotten l
left_in other l = l

-- a second goes by before the next dial
abbrev pub fallen : LinkState → LinkState
fallen l = record (left_in l.phase l) { phase = phase.Idle; since = l.age; wait = 1000 }

-- the connection is gone
unfoldable pub dropped : LinkState → LinkDid
dropped l = record { link = fallen l; said = []; notices = loss_of l.phase }

-- a link is closed: it wishes that its connection be closed, if it has one
unfoldable pub broken : LinkState → LinkDid
broken l = record {
  link = record (fallen l) { closes = l.closes || stands_in l.phase };
  said = [];
  notices = loss_of l.phase;
}
