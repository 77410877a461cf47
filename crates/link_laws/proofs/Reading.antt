-- What is asked, as the laws look at it.
use Rattle.std.proofs.Common.{◌≡◌, ℕ, Bool, true, false, refl}
use Rattle.ua_services.specs.declared.request.Request.{Request}
use Rattle.link_rules.specs.State.{LinkState}
use Rattle.link_rules.specs.Requests.{activation_request, channel_request, items_request, level_request, mode_request, probe_request, publish_request, republish_request, session_request_of, subscription_request, transfer_request}
use Rattle.link_laws.specs.Lockstep.{is_publish, is_put}
use Rattle.link_laws.proofs.Moves.{Asking, Channel, Session, Activation, Probe, Transfer, Again, Subscription, Items, Publish, Modes, Level, Renewal, told_by, told_of}

pub asks_put : (a : Asking) (n : ℕ) (r : Request) → is_put (told_by a n r) ≡ true
asks_put Channel n r = refl
asks_put Renewal n r = refl
asks_put other n r = refl

abbrev pub is_publishing : Asking → Bool
is_publishing (Publish ready remembered) = true
is_publishing other = false

pub asks_publish : (a : Asking) (l : LinkState) → is_publish (told_of a l) ≡ is_publishing a
unfolding activation_request channel_request items_request level_request mode_request probe_request publish_request republish_request session_request_of subscription_request transfer_request
asks_publish Channel l = refl
asks_publish Session l = refl
asks_publish Activation l = refl
asks_publish Probe l = refl
asks_publish (Transfer id) l = refl
asks_publish (Again id number wanted) l = refl
asks_publish Subscription l = refl
asks_publish (Items id) l = refl
asks_publish (Publish ready remembered) l = refl
asks_publish (Modes mode ready id) l = refl
asks_publish Level l = refl
asks_publish Renewal l = refl
