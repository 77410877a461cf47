-- Rules one after the other, as a turn of a link sees them.
use Rattle.std.proofs.Common.{◌≡◌, List, ◌++◌, sym, ap, ap₂, ◌∙◌}
use Rattle.std.proofs.lemmas.List.{append-nil, append_assoc, map-append}
use Rattle.ua_channel.specs.declared.wire.Order.{Order}
use Rattle.link_rules.specs.declared.notice.Notice.{Notice}
use Rattle.link_rules.specs.State.{LinkState}
use Rattle.link_rules.specs.Said.{LinkDid, Said, and_then, nothing, order_of, orders_of, tells}
use Rattle.link_turn.specs.Turns.{TurnState, done, with_link}

abbrev turn_of : LinkState → List Order → List Notice → TurnState
turn_of l orders notices = record { link = l; orders = orders; notices = notices }

orders_join : (to : List Order) (one more : List Said) → to ++ orders_of one ++ orders_of more ≡ to ++ orders_of (one ++ more)
orders_join to one more = append_assoc to (orders_of one) (orders_of more) ∙ ap (λ all. to ++ all) (sym (map-append order_of one more))

-- a rule that is followed by another one
pub done_then : (rule : LinkState → LinkDid) (did : LinkDid) (t : TurnState)
    → done (and_then rule did) t ≡ done (rule did.link) (done did t)
done_then rule did t =
    ap₂ (λ (orders : List Order) (notices : List Notice). turn_of (rule did.link).link orders notices)
    (sym (orders_join t.orders did.said (rule did.link).said))
    (sym (append_assoc t.notices did.notices (rule did.link).notices))

-- a rule that changes the link alone
pub done_nothing_of : (l : LinkState) (t : TurnState) → done (nothing l) t ≡ with_link l t
done_nothing_of l t =
    ap₂ (λ (orders : List Order) (notices : List Notice). turn_of l orders notices) (append-nil t.orders) (append-nil t.notices)

-- one that does nothing
pub done_nothing : (t : TurnState) → done (nothing t.link) t ≡ t
done_nothing t = done_nothing_of t.link t

-- one that tells
pub done_tells : (told : List Notice) (l : LinkState) (t : TurnState)
    → done (tells told l) t ≡ record { link = l; orders = t.orders; notices = t.notices ++ told }
done_tells told l t = ap (λ (orders : List Order). turn_of l orders (t.notices ++ told)) (append-nil t.orders)
