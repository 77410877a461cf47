-- A transfer leaves what subscriptions keep.
use Rattle.std.proofs.Common.{◌≡◌, ℕ, zero, suc, ◌==◌, List, [], ◌∷◌, Bool, true, false, cond, ◌||◌, Option, Some, None, refl, sym, ap, ◌∙◌, subst, arith}
use Rattle.std.proofs.lemmas.Bool.Decides.{nat_tests}
use Rattle.std.specs.Option.{option_map}
use Rattle.ua_base.specs.Status.{bad_no_subscription, good, good_subscription_transferred}
use Rattle.sessions.specs.Table.{may_transfer}
use Rattle.retransmit.specs.Kept.{numbers_of}
use Rattle.ua_sub_msgs.specs.declared.subscription.TransferResult.{TransferResult}
use Rattle.subscription.specs.State.{SubState}
use Rattle.subscription.specs.History.{Moved}
use Rattle.ua_services.specs.declared.reply.Reply.{Reply}
use Rattle.server_rules.specs.declared.conn.Asker.{Asker}
use Rattle.server_rules.specs.declared.waiting.Waiting.{Waiting}
use Rattle.server_rules.specs.State.{NoticeState, ServerState, sub_at}
use Rattle.server_rules.specs.Said.{Did, nothing}
use Rattle.server_rules.specs.Answering.{fault_reply, faulted, replied}
use Rattle.server_rules.specs.Moves.{answered_by, answered_queued, answered_within, given_sub, has_notice, has_subs, left, notice_of, notice_response, noticed, noticed_of, oldest_notice, oldest_waiting, other_than, owner, publish_reply, queued, released, served, served_by, served_if, served_within, told, told_notice, told_why, transferred_sub, unqueued, without_oldest_notice}
use Rattle.server_rules.specs.Operations.{answers, leaves}
use Rattle.server_rules.specs.Subscriptions.{sub_to_move, transfer_one, transfer_result, transfer_told}
use Rattle.server_laws.specs.Moves.{Core}
use Rattle.server_laws.specs.Lockstep.{AllTellKept, TellsKept}
use Rattle.server_laws.proofs.Finding.{called_here, called_there}
use Rattle.server_laws.proofs.Replying.{replied_says}

-- ---- nothing of a subscription changes where others are answered

pub replied_subs : (asker : Asker) (answer : Reply) (s : ServerState) → (replied asker answer s).state.subs ≡ s.subs
replied_subs asker answer s = ap (λ (c : Core). c.subs) (replied_says asker answer s).same

told_by : (waiting : Waiting) (notice : Option NoticeState) (session : ℕ) (s : ServerState) → (told_notice waiting notice session s).state.subs ≡ s.subs
told_by waiting None session s = refl
told_by waiting (Some notice) session s =
    replied_subs waiting.asker (publish_reply (notice_response waiting notice s)) (record s { notices = without_oldest_notice session s.notices })

told_subs : (waiting : Waiting) (session : ℕ) (s : ServerState) → (told waiting session s).state.subs ≡ s.subs
unfolding told
told_subs waiting session s = told_by waiting (oldest_notice session s.notices) session s

abbrev pub Keeps : (ServerState → Did) → Type 0
Keeps rule = (t : ServerState) → (rule t).state.subs ≡ t.subs

served_by_subs : (session : ℕ) (more : ServerState → Did) (waiting : Option Waiting) (s : ServerState) → Keeps more → (served_by more waiting session s).state.subs ≡ s.subs
served_by_subs session more None s rest = refl
served_by_subs session more (Some waiting) s rest = rest (told waiting session (unqueued session s)).state ∙ told_subs waiting session (unqueued session s)

served_if_subs : (session : ℕ) (more : ServerState → Did) (b : Bool) (s : ServerState) → Keeps more → (served_if b more session s).state.subs ≡ s.subs
served_if_subs session more false s rest = refl
served_if_subs session more true s rest = served_by_subs session more (oldest_waiting session s) s rest

served_subs : (most session : ℕ) (s : ServerState) → (served_within most session s).state.subs ≡ s.subs
unfolding served_within
served_subs zero session s = refl
served_subs (suc most) session s = served_if_subs session (served_within most session) (has_notice session s) s (served_subs most session)

answered_by_subs : (code session : ℕ) (more : ServerState → Did) (waiting : Option Waiting) (s : ServerState) → Keeps more
    → (answered_by more code waiting session s).state.subs ≡ s.subs
answered_by_subs code session more None s rest = refl
answered_by_subs code session more (Some waiting) s rest =
    rest (faulted waiting.asker code (unqueued session s)).state
    ∙ replied_subs waiting.asker (fault_reply waiting.asker.handle code (unqueued session s)) (unqueued session s)

pub answered_subs : (most code session : ℕ) (s : ServerState) → (answered_within most code session s).state.subs ≡ s.subs
unfolding answered_within
answered_subs zero code session s = refl
answered_subs (suc most) code session s = answered_by_subs code session (answered_within most code session) (oldest_waiting session s) s (answered_subs most code session)

either_subs : (b : Bool) (s : ServerState) (one other : Did) → one.state.subs ≡ s.subs → other.state.subs ≡ s.subs → (cond b one other).state.subs ≡ s.subs
either_subs true s one other h rest = h
either_subs false s one other h rest = rest

released_subs : (session : ℕ) (s : ServerState) → (released session s).state.subs ≡ s.subs
released_subs session s =
    either_subs (has_subs session s || has_notice session s) s (nothing s) (answered_queued bad_no_subscription session s) refl
    (answered_subs (queued session s) bad_no_subscription session s)

pub left_subs : (session : ℕ) (s : ServerState) → (left session s).state.subs ≡ s.subs
unfolding left
left_subs session s = released_subs session (served session s).state ∙ served_subs (queued session s) session s

noticed_subs : (notice : NoticeState) (s : ServerState) → (noticed notice s).subs ≡ s.subs
unfolding noticed
noticed_subs notice s = refl

noticed_of_subs : (sub : Option SubState) (session code : ℕ) (s : ServerState) → (noticed_of sub session code s).subs ≡ s.subs
noticed_of_subs None session code s = refl
noticed_of_subs (Some sub) session code s = noticed_subs (notice_of session code sub) s

pub told_why_subs : (session : Option ℕ) (code : ℕ) (sub : Option SubState) (s : ServerState) → (told_why session code sub s).state.subs ≡ s.subs
told_why_subs None code sub s = refl
told_why_subs (Some session) code sub s = left_subs session (noticed_of sub session code s) ∙ noticed_of_subs sub session code s

-- ---- a transfer

-- each subscription that is there was there, and kept the same
pub record IsSame (id : ℕ) (s : ServerState) (sub : SubState) : Type 0 where
  pub before : SubState
  pub found : sub_at id s.subs ≡ Some before
  pub kept : before.kept ≡ sub.kept

abbrev pub SameKept : ServerState → ServerState → Type 0
SameKept s after = (id : ℕ) (sub : SubState) → sub_at id after.subs ≡ Some sub → IsSame id s sub

pub same_now : (s after : ServerState) → after.subs ≡ s.subs → SameKept s after
same_now s after same id sub found = record { before = sub; found = sym (ap (sub_at id) same) ∙ found; kept = refl }

pub same_then : (s middle after : ServerState) → SameKept s middle → SameKept middle after → SameKept s after
same_then s middle after first later id sub found =
    let one = later id sub found in
    let other = first id one.before one.found in
    record { before = other.before; found = other.found; kept = other.kept ∙ one.kept }

mapped : (id : ℕ) (before : Option SubState) (s : ServerState) (sub : SubState) → sub_at id s.subs ≡ before
    → option_map (λ (x : SubState). record x { life = 0 }) before ≡ Some sub → IsSame id s sub
mapped id None s sub is found = absurd cc
mapped id (Some before) s sub is found =
    let same : ◌≡◌ {A = SubState} (record before { life = 0 }) sub = cc in
    record { before = before; found = is; kept = ap (λ (x : SubState). x.kept) same }

given_by : (b : Bool) (id other to : ℕ) (s : ServerState) (sub : SubState) → (other == id) ≡ b → sub_at id (given_sub other to s).subs ≡ Some sub → IsSame id s sub
given_by true id other to s sub test found =
    let same : other ≡ id = grind (arith, nat_tests) in
    let here : sub_at id (given_sub id to s).subs ≡ Some sub = subst (λ n. sub_at id (given_sub n to s).subs ≡ Some sub) same found in
    mapped id (sub_at id s.subs) s sub refl (sym (called_here id Moved s.subs) ∙ here)
given_by false id other to s sub test found =
    record { before = sub; found = sym (called_there id other Moved s.subs test) ∙ found; kept = refl }

given_same : (other to : ℕ) (s : ServerState) → SameKept s (given_sub other to s)
given_same other to s id sub found = given_by (other == id) id other to s sub refl found

told_same : (id to : ℕ) (s : ServerState) → SameKept s (told_why (other_than to (owner id s)) good_subscription_transferred (sub_at id s.subs) (given_sub id to s)).state
told_same id to s =
    same_then s (given_sub id to s) (told_why (other_than to (owner id s)) good_subscription_transferred (sub_at id s.subs) (given_sub id to s)).state (given_same id to s)
    (same_now (given_sub id to s) (told_why (other_than to (owner id s)) good_subscription_transferred (sub_at id s.subs) (given_sub id to s)).state
    (told_why_subs (other_than to (owner id s)) good_subscription_transferred (sub_at id s.subs) (given_sub id to s)))

pub either_same : (b : Bool) (s : ServerState) (one other : Did) → SameKept s one.state → SameKept s other.state → SameKept s (cond b one other).state
either_same true s one other h rest = h
either_same false s one other h rest = rest

transferred_same : (id to : ℕ) (s : ServerState) → SameKept s (transferred_sub id to s).state
unfolding transferred_sub
transferred_same id to s =
    either_same (may_transfer id to s.sessions) s
    (told_why (other_than to (owner id s)) good_subscription_transferred (sub_at id s.subs) (given_sub id to s)) (nothing s)
    (told_same id to s) (same_now s s refl)

pub transfer_same : (session id : ℕ) (s : ServerState) → SameKept s (transfer_one session id s).state
unfolding transfer_one
transfer_same session id s = transferred_same id session s

-- ---- what it tells

told_kept : (id : ℕ) (found : Option SubState) (s : ServerState) → (transfer_told found).status_code ≡ good
    → ((sub : SubState) → found ≡ Some sub → sub_at id s.subs ≡ Some sub)
    → (sub : SubState) × (sub_at id s.subs ≡ Some sub) × ((transfer_told found).available_sequence_numbers ≡ numbers_of sub.kept)
told_kept id None s is on = absurd cc
told_kept id (Some sub) s is on = (sub, on sub refl, refl)

moved_found : (b : Bool) (found : Option SubState) (sub : SubState) → cond b found None ≡ Some sub → found ≡ Some sub
moved_found true found sub is = is
moved_found false found sub is = absurd cc

result_kept : (session id : ℕ) (s : ServerState) → TellsKept id (transfer_result session id s) s.subs
unfolding transfer_result
result_kept session id s is =
    told_kept id (sub_to_move session id s) s is (λ sub found. moved_found (may_transfer id session s.sessions) (sub_at id s.subs) sub found)

earlier_kept : (id : ℕ) (result : TransferResult) (s after : ServerState) → SameKept s after → TellsKept id result after.subs → TellsKept id result s.subs
earlier_kept id result s after same h is =
    let one = h is in
    let was = same id one.0 one.1 in
    (was.before, was.found, one.2 ∙ ap numbers_of (sym was.kept))

all_earlier : (ids : List ℕ) (results : List TransferResult) (s after : ServerState) → SameKept s after → AllTellKept ids results after.subs → AllTellKept ids results s.subs
all_earlier [] [] s after same h = tt
all_earlier [] (result ∷ results) s after same h = absurd h
all_earlier (id ∷ ids) [] s after same h = absurd h
all_earlier (id ∷ ids) (result ∷ results) s after same h = (earlier_kept id result s after same h.0, all_earlier ids results s after same h.1)

pub results_kept : (session : ℕ) (ids : List ℕ) (s : ServerState)
    → AllTellKept ids (answers (transfer_result session) (leaves (transfer_one session)) ids s) s.subs
results_kept session [] s = tt
results_kept session (id ∷ ids) s = (
  result_kept session id s,
  all_earlier ids (answers (transfer_result session) (leaves (transfer_one session)) ids (transfer_one session id s).state) s (transfer_one session id s).state
      (transfer_same session id s) (results_kept session ids (transfer_one session id s).state),
)
