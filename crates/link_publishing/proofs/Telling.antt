-- Notices that a turn tells one after the other.
use Rattle.std.proofs.Common.{◌≡◌, List, [], ◌++◌, append_assoc, ap₂}
use Rattle.std.proofs.lemmas.List.{append-nil}
use Rattle.ua_channel.specs.declared.wire.Order.{Order}
use Rattle.link_rules.specs.declared.notice.Notice.{Notice}
use Rattle.link_rules.specs.State.{LinkState}
use Rattle.link_rules.specs.Said.{tells}
use Rattle.link_turn.specs.Turns.{TurnState, done}

abbrev turn_of : LinkState → List Order → List Notice → TurnState
turn_of l orders notices = record { link = l; orders = orders; notices = notices }

-- whatever the link was in between
pub told_more : (first more : List Notice) (former l : LinkState) (t : TurnState)
    → done (tells more l) (done (tells first former) t) ≡ done (tells (first ++ more) l) t
told_more first more former l t =
    ap₂ (λ (orders : List Order) (notices : List Notice). turn_of l orders notices)
    (append-nil (t.orders ++ [])) (append_assoc t.notices first more)
