-- Whose a subscription stays (OPC 10000-4, 5.13.7).
use Rattle.std.specs.Prelude.{◌≡◌, ◌⊎◌, ℕ, List, [], ◌∷◌, true, false, None, Ok}
use Rattle.ua_base.specs.Status.{good}
use Rattle.sessions.specs.Table.{check_answer, lives}
use Rattle.ua_sub_msgs.specs.declared.reply.SubReply.TheVariants as sub_reply
use Rattle.ua_sub_msgs.specs.declared.subscription.TransferResult.{TransferResult}
use Rattle.ua_sub_msgs.specs.declared.subscription.TransferSubscriptionsRequest.{TransferSubscriptionsRequest}
use Rattle.ua_sub_msgs.specs.declared.subscription.TransferSubscriptionsResponse.{TransferSubscriptionsResponse}
use Rattle.ua_services.specs.declared.reply.Reply.{Reply}
use Rattle.ua_services.specs.declared.reply.Reply.TheVariants as reply
use Rattle.server_rules.specs.State.{ServerState, sub_at}
use Rattle.server_rules.specs.Moves.{owns}
use Rattle.server_rules.specs.Requests.{token_in}
use Rattle.server_rules.specs.Step.{Happening}
use Rattle.server_laws.specs.Course.{MayTransfer, leave_of}

-- no TransferSubscriptions names this subscription
abbrev pub NeverMoved : ℕ → List Happening → Type 0
NeverMoved id [] = Unit {0}
NeverMoved id (happening ∷ earlier) = (MayTransfer (leave_of happening) id → ⊥) × NeverMoved id earlier

-- a session owns a subscription; or this is no more, or the session is no more
abbrev pub StillOwns : ℕ → ℕ → ServerState → Type 0
StillOwns session id s = (owns session id s ≡ true) ⊎ ((sub_at id s.subs ≡ None) ⊎ (lives session s.sessions.sessions ≡ false))

-- each subscription whose transfer had a good result is the session's
abbrev pub AllOwn : ℕ → List ℕ → List TransferResult → ServerState → Type 0
AllOwn session [] [] s = Unit {0}
AllOwn session [] (result ∷ results) s = ⊥
AllOwn session (id ∷ ids) [] s = ⊥
AllOwn session (id ∷ ids) (result ∷ results) s = (result.status_code ≡ good → StillOwns session id s) × AllOwn session ids results s

-- a response to TransferSubscriptions is one to a session of the connection, which owns the subscriptions then
abbrev pub GivesOwner : ℕ → TransferSubscriptionsRequest → ServerState → ServerState → Reply → Type 0
GivesOwner conn r before after answer =
    (response : TransferSubscriptionsResponse) → answer ≡ reply.Subscription (sub_reply.TransferSubscriptions response)
    → (session : ℕ) × (check_answer (token_in r.request_header) conn before.sessions ≡ Ok session) × AllOwn session r.subscription_ids response.results after
