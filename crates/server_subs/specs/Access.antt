-- What callers of a server's data ask of its subscriptions, and make of them.
use Rattle.std.specs.Prelude.{◌<◌, ℕ, [], ◌∷◌, ◌++◌, length, Bool, false, Option, Some, None}
use Rattle.sessions.specs.State.{SessionsState}
use Rattle.sessions.specs.Table.{disowned, owned, owner_of, ownership_of}
use Rattle.subscription.specs.declared.spec.SubSpec.{SubSpec}
use Rattle.subscription.specs.State.{SubState}
use Rattle.subscription.specs.Items.{is_there}
use Rattle.subscription.specs.Calls.{new_sub}
use Rattle.server_rules.specs.State.{ServerState, sub_at, without_sub}
use Rattle.server_rules.specs.Moves.{is_session}

-- the sessions say that this one owns the subscription
abbrev pub is_owned : SessionsState → ℕ → SubState → Bool
is_owned sessions session sub = is_session session (owner_of (ownership_of sub.spec.id sessions.owned))

-- it may have an item more, with an id of its own
pub record HasRoom (sub : SubState) : Type 0 where
  pub items : length sub.items < 1024
  pub ids : sub.given < 4294967295

abbrev pub has_item_of : ℕ → Option SubState → Bool
has_item_of item None = false
has_item_of item (Some sub) = is_there item sub.items

-- a subscription has an item of this id
abbrev pub has_item : ℕ → ℕ → ServerState → Bool
has_item id item s = has_item_of item (sub_at id s.subs)

-- a session's new subscription, in the place of all that is known of its id
abbrev pub with_new_sub : ℕ → SubSpec → ServerState → ServerState
with_new_sub session spec s = record s {
  subs = without_sub spec.id s.subs ++ new_sub spec s.age ∷ [];
  sessions = owned spec.id session (disowned spec.id s.sessions);
}
