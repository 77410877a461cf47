-- What a SetMonitoringMode does, in moves: modes are set, and nothing else.
use Rattle.std.proofs.Common.{◌≡◌, ℕ, List, [], ◌∷◌, Bool, true, false, cond, Option, Some, None, refl, sym, ap, ◌∙◌, subst}
use Rattle.std.specs.Prelude.{Result, Ok, Err}
use Rattle.ua_base.specs.declared.modes.Mode.{Mode}
use Rattle.sessions.specs.Calls.{Check}
use Rattle.sessions.specs.Table.{check_answer}
use Rattle.ua_channel.specs.declared.heard.Heard.TheVariants as heard_as
use Rattle.ua_channel.specs.State.{is_deaf}
use Rattle.ua_sub_msgs.specs.declared.item.SetMonitoringModeRequest.{SetMonitoringModeRequest}
use Rattle.ua_sub_msgs.specs.declared.request.SubRequest.TheVariants as sub_request
use Rattle.ua_services.specs.declared.reply.Reply.{Reply}
use Rattle.ua_services.specs.declared.request.Request.{Request}
use Rattle.ua_services.specs.declared.request.Request.TheVariants as request
use Rattle.ua_services.specs.declared.request.RequestFault.{RequestFault}
use Rattle.ua_services.specs.Requests.{header_of, request_at}
use Rattle.server_rules.specs.declared.conn.Asker.{Asker}
use Rattle.server_rules.specs.declared.conn.Conn.{Conn}
use Rattle.server_rules.specs.State.{ServerState, conn_at}
use Rattle.server_rules.specs.Said.{Did, nothing}
use Rattle.server_rules.specs.Answering.{fault_reply, faulted, good_header, replied}
use Rattle.server_rules.specs.Operations.{after_each, answers, done, mode_named}
use Rattle.server_rules.specs.Items.{item_known, modes_checked, modes_reply, set_all, set_modes, with_mode_set}
use Rattle.server_rules.specs.Requests.{asked, asker_of, done_for, noted, requested, served, sub_served, token_in}
use Rattle.server_rules.specs.Connecting.{hears, hears_by}
use Rattle.server_rules.specs.Step.{Hears, after, ears, heard}
use Rattle.server_laws.specs.Moves.{Answered, Answers, AreFair, Asks, Core, Does, Doing, IsFair, Modes, ModesSet, Move, facts_of, facts_of_all, moved, moved_all}
use Rattle.server_laws.specs.Facts.{IsWithin, facts_of_reply, facts_said}
use Rattle.server_laws.specs.Course.{Comes, Leave, MayAnswer, MayMove, MaySet, Setting, core_of}
use Rattle.server_laws.proofs.Asking.{mode_asked}
use Rattle.server_laws.proofs.Replying.{Says, replied_says}
use Rattle.server_laws.proofs.Within.{none_within, within_join}

-- modes are set, sessions are looked at, and it is answered
abbrev pub IsMode : Doing → Type 0
IsMode (Modes item mode) = Unit {0}
IsMode other = ⊥

abbrev pub IsSet : Move → Type 0
IsSet (Does id doing) = IsMode doing
IsSet (Asks call) = Unit {0}
IsSet (Answers answer) = Unit {0}
IsSet other = ⊥

abbrev pub AreSets : List Move → Type 0
AreSets [] = Unit {0}
AreSets (move ∷ moves) = IsSet move × AreSets moves

pub record Sets (leave : Leave) (s : ServerState) (did : Did) : Type 0 where
  pub comes : Comes leave s did
  pub only : AreSets comes.moves

none_sets : (leave : Leave) (s : ServerState) (did : Did) → Says [] s did → Sets leave s did
none_sets leave s did h = record { comes = record { moves = []; may = tt; fair = tt; leads = h.same; told = h.told }; only = tt }

idle_sets : (leave : Leave) (s : ServerState) → Sets leave s (nothing s)
idle_sets leave s = none_sets leave s (nothing s) (record { same = refl; told = refl })

fault_sets : (leave : Leave) (asker : Asker) (code : ℕ) (s : ServerState) → Sets leave s (faulted asker code s)
fault_sets leave asker code s = none_sets leave s (faulted asker code s) (replied_says asker (fault_reply asker.handle code s) s)

begun_sets : (leave : Leave) (move : Move) (s before : ServerState) (did : Did) → MayMove leave move → IsFair move (core_of s) → IsSet move
    → core_of before ≡ moved move (core_of s) → Sets leave before did → Sets leave s did
begun_sets leave move s before did may fair is leads h =
    let c : Core = core_of s in
    let rest : List Move = h.comes.moves in
    record {
      comes = record {
        moves = move ∷ rest;
        may = (may, h.comes.may);
        fair = (fair, subst (AreFair rest) leads h.comes.fair);
        leads = h.comes.leads ∙ ap (moved_all rest) leads;
        told = within_join [] (facts_of move c) (facts_said did.said) (facts_of_all rest (moved move c)) (none_within (facts_of move c))
            (subst (λ d. IsWithin (facts_said did.said) (facts_of_all rest d)) leads h.comes.told);
      };
      only = (is, h.only);
    }

answered_sets : (leave : Leave) (asker : Asker) (answer : Reply) (s : ServerState) → MayAnswer leave ModesSet → facts_of_reply answer ≡ Answered ModesSet ∷ []
    → Sets leave s (replied asker answer s)
answered_sets leave asker answer s may facts =
    let h = replied_says asker answer s in
    record {
      comes = record {
        moves = Answers ModesSet ∷ [];
        may = (may, tt);
        fair = (tt, tt);
        leads = h.same;
        told = subst (IsWithin (facts_said (replied asker answer s).said)) facts h.told;
      };
      only = (tt, tt);
    }

mode_sets : (leave : Leave) (sub : ℕ) (mode : Mode) → MaySet leave sub mode → (id : ℕ) (s : ServerState) (did : Did) → Sets leave (with_mode_set sub mode id s) did
    → Sets leave s did
unfolding with_mode_set
mode_sets leave sub mode may id s did h = begun_sets leave (Does sub (Modes id mode)) s (with_mode_set sub mode id s) did may tt tt refl h

each_sets : (leave : Leave) (sub : ℕ) (mode : Mode) → MaySet leave sub mode → (ids : List ℕ) (s : ServerState) (did : Did)
    → Sets leave (after_each (with_mode_set sub mode) ids s) did → Sets leave s did
each_sets leave sub mode may [] s did h = h
each_sets leave sub mode may (id ∷ ids) s did h = mode_sets leave sub mode may id s did (each_sets leave sub mode may ids (with_mode_set sub mode id s) did h)

done_sets : {A : Type 0} (leave : Leave) (asker : Asker) (rule : A → ServerState → Did) (result : Result A ℕ) (s : ServerState)
    → ((found : A) → result ≡ Ok found → Sets leave s (rule found s)) → Sets leave s (done asker rule result s)
done_sets leave asker rule (Ok found) s on = on found refl
done_sets leave asker rule (Err code) s on = fault_sets leave asker code s

abbrev pub leave_for : SetMonitoringModeRequest → Leave
leave_for r = Setting r.subscription_id (mode_named r.monitoring_mode)

modes_sets : (asker : Asker) (session : ℕ) (r : SetMonitoringModeRequest) (s : ServerState) → Sets (leave_for r) s (set_modes asker session r s)
unfolding set_modes
modes_sets asker session r s =
    done_sets (leave_for r) asker (set_all asker r.subscription_id r.monitored_item_ids) (modes_checked session r s) s
    (λ mode is.
    let t : ServerState = after_each (with_mode_set r.subscription_id mode) r.monitored_item_ids s in
    let answer : Reply = modes_reply (answers (item_known r.subscription_id) (with_mode_set r.subscription_id mode) r.monitored_item_ids s) (good_header asker.handle t) in
    each_sets (leave_for r) r.subscription_id mode (refl, mode_asked session r mode s is) r.monitored_item_ids s (replied asker answer t)
    (answered_sets (leave_for r) asker answer t tt refl))

for_sets : (asker : Asker) (r : SetMonitoringModeRequest) (answer : Result ℕ ℕ) (s : ServerState)
    → Sets (leave_for r) s (done_for (sub_served asker (sub_request.SetMonitoringMode r)) asker answer s)
unfolding sub_served
for_sets asker r (Ok session) s = modes_sets asker session r s
for_sets asker r (Err code) s = fault_sets (leave_for r) asker code s

served_sets : (asker : Asker) (r : SetMonitoringModeRequest) (s : ServerState) → Sets (leave_for r) s (served asker (request.Subscription (sub_request.SetMonitoringMode r)) s)
unfolding served
served_sets asker r s =
    let token : Option (List ℕ) = token_in r.request_header in
    begun_sets (leave_for r) (Asks (Check token asker.conn s.age)) s (noted asker token s) _ tt tt tt refl
    (for_sets asker r (check_answer token asker.conn s.sessions) (noted asker token s))

requested_sets : (conn number : ℕ) (body : List ℕ) (r : SetMonitoringModeRequest) (s : ServerState) → request_at body ≡ Ok (request.Subscription (sub_request.SetMonitoringMode r))
    → Sets (leave_for r) s (requested conn number body s)
unfolding requested
requested_sets conn number body r s is =
    subst (λ (q : Result Request RequestFault). Sets (leave_for r) s (asked conn number q s)) (sym is)
    (served_sets (asker_of conn number (header_of (request.Subscription (sub_request.SetMonitoringMode r))).request_handle) r s)

by_conn : (found : Option Conn) (number : ℕ) (body : List ℕ) (r : SetMonitoringModeRequest) (s : ServerState)
    → request_at body ≡ Ok (request.Subscription (sub_request.SetMonitoringMode r)) → Sets (leave_for r) s (hears_by found (heard_as.Message number body) s)
by_conn None number body r s is = idle_sets (leave_for r) s
by_conn (Some conn) number body r s is = requested_sets conn.number number body r s is

either_sets : (leave : Leave) (b : Bool) (s : ServerState) (one other : Did) → Sets leave s one → Sets leave s other → Sets leave s (cond b one other)
either_sets leave true s one other h rest = h
either_sets leave false s one other h rest = rest

pub heard_sets : (conn number : ℕ) (body : List ℕ) (r : SetMonitoringModeRequest) (s : ServerState) → request_at body ≡ Ok (request.Subscription (sub_request.SetMonitoringMode r))
    → Sets (leave_for r) s (after (Hears conn (heard_as.Message number body)) s)
unfolding heard hears
heard_sets conn number body r s is =
    either_sets (leave_for r) (is_deaf (ears conn s)) s _ _ (idle_sets (leave_for r) s) (by_conn (conn_at conn s.conns) number body r s is)
