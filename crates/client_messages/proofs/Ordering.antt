-- What a client orders, as its own laws say it.
use Rattle.std.proofs.Common.{◌≡◌, ℕ, List, [], ◌∷◌, refl, subst}
use Rattle.ua_chunks.specs.Sending.{Sending, limit_of}
use Rattle.ua_channel.specs.declared.wire.Order.{Order}
use Rattle.ua_channel.specs.declared.wire.Order.TheVariants as order
use Rattle.ua_channel.specs.Arriving.{after_orders}
use Rattle.ua_channel.specs.Sharing.{own}
use Rattle.client_rules.specs.State.{ClientState}
use Rattle.client_rules.specs.Acts.{Happening}
use Rattle.client_rules.specs.Step.{after}
use Rattle.client_keeps.specs.Fitting.{FitsClient, FitsHappening}
use Rattle.client_orders.specs.Coming.{PutFits, PutsFit}
use Rattle.client_orders.proofs.Whole.{client_in_use, client_puts}
use Rattle.message_ends.specs.Showing.{OrderBrings, OrdersBring}
use Rattle.message_ends.proofs.Ordering.{IsLawfulFor}
use Rattle.client_messages.specs.Showing.{Brings, Limits}
use Rattle.client_messages.proofs.Events.{Orders}

is_lawful : (h : Happening) (c : ClientState) → FitsHappening h → FitsClient c
    → (number : ℕ) → IsLawfulFor Limits number (after h c).orders c (after h c).client
is_lawful h c kept fits number s knows =
    let did = client_in_use number s h c fits kept knows in (did.lawful, did.limit)

one_brings : (o : Order) → PutFits o → OrderBrings Brings o
one_brings (order.Put w) fits = fits
one_brings (order.Limit l) fits = tt
one_brings (order.Renew channel token) fits = tt

all_bring : (orders : List (ℕ × Order)) → PutsFit orders → OrdersBring Brings orders
all_bring [] fits = tt
all_bring (o ∷ orders) fits = (one_brings o.1 fits.0, all_bring orders fits.1)

pub client_orders : Orders
client_orders = record {
  lawful = is_lawful;
  brings = λ h c kept fits. all_bring (after h c).orders (client_puts h c fits kept);
}
