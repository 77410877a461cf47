-- What is said of an answer, whether it fits or not.
use Rattle.std.proofs.Common.{◌≡◌, ℕ, List, [], ◌++◌, Bool, true, false, cond, Option, Some, None, refl, sym, ◌∙◌, subst}
use Rattle.std.proofs.lemmas.List.{append-nil}
use Rattle.ua_base.specs.Status.{bad_response_too_large, bad_tcp_message_too_large}
use Rattle.ua_services.specs.declared.reply.Reply.{Reply}
use Rattle.server_rules.specs.declared.conn.Asker.{Asker}
use Rattle.server_rules.specs.declared.conn.Conn.{Conn}
use Rattle.server_rules.specs.State.{ServerState, conn_at}
use Rattle.server_rules.specs.Said.{Did}
use Rattle.server_rules.specs.Answering.{fault_reply, faulted, refused_on, replied, replied_on, replied_to, replied_within, takes}
use Rattle.server_laws.specs.Moves.{Fact, IsFair, Move, facts_of, moved}
use Rattle.server_laws.specs.Facts.{IsWithin, facts_of_reply, facts_said}
use Rattle.server_laws.specs.Course.{Comes, Leave, MayMove, core_of}
use Rattle.server_laws.proofs.Within.{none_within, within_trans, all_within}
use Rattle.server_laws.proofs.Coming.{by_move, still}

-- the core stays, and what is said is within these facts
pub record Says (facts : List Fact) (s : ServerState) (did : Did) : Type 0 where
  pub same : core_of did.state ≡ core_of s
  pub told : IsWithin (facts_said did.said) facts

pub refused_says : (facts : List Fact) (conn : Conn) (code : ℕ) (s : ServerState) → Says facts s (refused_on conn code s)
unfolding refused_on
refused_says facts conn code s = record { same = refl; told = none_within facts }

within_says : (conn : Conn) (request : ℕ) (answer : Reply) (s : ServerState) → Says (facts_of_reply answer) s (replied_within conn request answer s)
unfolding replied_within
within_says conn request answer s =
    record { same = refl; told = within_less_said (facts_of_reply answer) }
  where
    within_less_said : (facts : List Fact) → IsWithin (facts ++ []) facts
    within_less_said facts = subst (λ l. IsWithin l facts) (sym (append-nil facts)) (all_within facts)

none_says : (facts : List Fact) (s : ServerState) (did : Did) → Says [] s did → Says facts s did
none_says facts s did h = record { same = h.same; told = subst (λ l. IsWithin l facts) (sym h.told) (none_within facts) }

says_either : (facts : List Fact) (b : Bool) (s : ServerState) (one other : Did) → Says facts s one → Says facts s other → Says facts s (cond b one other)
says_either facts true s one other h rest = h
says_either facts false s one other h rest = rest

on_says : (conn : Conn) (request handle : ℕ) (answer : Reply) (s : ServerState) → Says (facts_of_reply answer) s (replied_on conn request handle answer s)
unfolding replied_on
on_says conn request handle answer s =
    let fault : Reply = fault_reply handle bad_response_too_large s in
    says_either (facts_of_reply answer) (takes conn answer) s _ _ (within_says conn request answer s)
    (says_either (facts_of_reply answer) (takes conn fault) s _ _
    (none_says (facts_of_reply answer) s (replied_within conn request fault s) (within_says conn request fault s))
    (refused_says (facts_of_reply answer) conn bad_tcp_message_too_large s))

to_says : (found : Option Conn) (request handle : ℕ) (answer : Reply) (s : ServerState) → Says (facts_of_reply answer) s (replied_to found request handle answer s)
to_says None request handle answer s = record { same = refl; told = none_within (facts_of_reply answer) }
to_says (Some conn) request handle answer s = on_says conn request handle answer s

pub replied_says : (asker : Asker) (answer : Reply) (s : ServerState) → Says (facts_of_reply answer) s (replied asker answer s)
unfolding replied
replied_says asker answer s = to_says (conn_at asker.conn s.conns) asker.request asker.handle answer s

-- ---- as moves

pub says_comes : (leave : Leave) (s : ServerState) (did : Did) → Says [] s did → Comes leave s did
says_comes leave s did h = still leave s did.state did.said h.same h.told

-- an answer in which nothing is told of the moves
pub quiet : (leave : Leave) (asker : Asker) (answer : Reply) (s : ServerState) → facts_of_reply answer ≡ [] → Comes leave s (replied asker answer s)
quiet leave asker answer s none =
    says_comes leave s (replied asker answer s) (subst (λ facts. Says facts s (replied asker answer s)) none (replied_says asker answer s))

pub fault_comes : (leave : Leave) (asker : Asker) (code : ℕ) (s : ServerState) → Comes leave s (faulted asker code s)
fault_comes leave asker code s = quiet leave asker (fault_reply asker.handle code s) s refl

pub refused_comes : (leave : Leave) (conn : Conn) (code : ℕ) (s : ServerState) → Comes leave s (refused_on conn code s)
refused_comes leave conn code s = says_comes leave s (refused_on conn code s) (refused_says [] conn code s)

-- an answer that tells of a move before it
pub answer_comes : (leave : Leave) (move : Move) (s after : ServerState) (asker : Asker) (answer : Reply) → MayMove leave move → IsFair move (core_of s)
    → core_of after ≡ moved move (core_of s) → IsWithin (facts_of_reply answer) (facts_of move (core_of s)) → Comes leave s (replied asker answer after)
answer_comes leave move s after asker answer may fair leads told =
    let h = replied_says asker answer after in
    by_move leave move s (replied asker answer after) may fair (h.same ∙ leads)
    (within_trans (facts_said (replied asker answer after).said) (facts_of_reply answer) (facts_of move (core_of s)) h.told told)
