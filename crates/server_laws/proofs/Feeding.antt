-- What feeds, and what doesn't.
use Rattle.std.proofs.Common.{◌≡◌, List, [], ◌∷◌, ◌++◌, refl, sym, ap, ◌∙◌, append_assoc}
use Rattle.std.specs.Prelude.{Result, Ok, Err}
use Rattle.set_model.specs.declared.source.Change.{Change}
use Rattle.ua_channel.specs.declared.heard.Heard.{Heard}
use Rattle.ua_channel.specs.declared.heard.Heard.TheVariants as heard
use Rattle.ua_session_msgs.specs.declared.request.SessionRequest.{SessionRequest}
use Rattle.ua_session_msgs.specs.declared.request.SessionRequest.TheVariants as session_request
use Rattle.ua_sub_msgs.specs.declared.request.SubRequest.{SubRequest}
use Rattle.ua_sub_msgs.specs.declared.request.SubRequest.TheVariants as sub_request
use Rattle.ua_services.specs.declared.request.Request.{Request}
use Rattle.ua_services.specs.declared.request.Request.TheVariants as request
use Rattle.ua_services.specs.declared.request.RequestFault.{RequestFault}
use Rattle.ua_services.specs.Requests.{request_at}
use Rattle.server_laws.specs.Moves.{Move, Makes, Does, Enters, Ends, Asks, Issues, Repeats, Answers, feed_in, feeds_in}
use Rattle.server_laws.specs.Course.{Leave, MayFeed, MayMoves, leave_of_heard, leave_of_request, leave_of_session, leave_of_sub}

-- nothing is fed
abbrev pub FeedsNone : Leave → Type 0
FeedsNone leave = (change : Change) → MayFeed leave change → ⊥

-- only a feed feeds
sub_none : (r : SubRequest) → FeedsNone (leave_of_sub r)
sub_none (sub_request.SetMonitoringMode r) change h = h
sub_none (sub_request.Republish r) change h = h
sub_none _ change h = h

session_none : (r : SessionRequest) → FeedsNone (leave_of_session r)
session_none (session_request.Read r) change h = h
session_none _ change h = h

request_none : (r : Result Request RequestFault) → FeedsNone (leave_of_request r)
request_none (Ok (request.Subscription r)) change h = sub_none r change h
request_none (Ok (request.Session r)) change h = session_none r change h
request_none (Err fault) change h = h

pub heard_none : (h : Heard) → FeedsNone (leave_of_heard h)
heard_none (heard.Greeting body) change h = h
heard_none (heard.Opening channel follows number body) change h = h
heard_none (heard.Message number body) change h = request_none (request_at body) change h
heard_none heard.Close change h = h
heard_none (heard.Fault code) change h = h

pub feeds_none : (leave : Leave) → FeedsNone leave → (moves : List Move) → MayMoves leave moves → feeds_in moves ≡ []
feeds_none leave none [] may = refl
feeds_none leave none (Makes spec start ∷ moves) may = feeds_none leave none moves may.1
feeds_none leave none (Does id doing ∷ moves) may = feeds_none leave none moves may.1
feeds_none leave none (Enters change ∷ moves) may = absurd (none change may.0)
feeds_none leave none (Ends id ∷ moves) may = feeds_none leave none moves may.1
feeds_none leave none (Asks call ∷ moves) may = feeds_none leave none moves may.1
feeds_none leave none (Issues ∷ moves) may = feeds_none leave none moves may.1
feeds_none leave none (Repeats id number ∷ moves) may = feeds_none leave none moves may.1
feeds_none leave none (Answers answer ∷ moves) may = feeds_none leave none moves may.1

pub feeds_join : (one other : List Move) → feeds_in (one ++ other) ≡ feeds_in one ++ feeds_in other
feeds_join [] other = refl
feeds_join (move ∷ one) other = ap (λ l. feed_in move ++ l) (feeds_join one other) ∙ sym (append_assoc (feed_in move) (feeds_in one) (feeds_in other))
