-- What services with a list of operations share (OPC 10000-4, 5.3), and how a session's subscription is found.
use Rattle.std.specs.Prelude.{ℕ, ℤ, pos, negsuc, ◌==◌, List, [], ◌∷◌, Bool, nat_lt, Option, Some, None, Result, Ok, Err, if◌then◌else◌}
use Rattle.ua_base.specs.Status.{bad_nothing_to_do, bad_subscription_id_invalid, bad_too_many_operations}
use Rattle.ua_base.specs.Modes.{mode_of, timestamps_of}
use Rattle.ua_base.specs.declared.modes.Mode.{Mode}
use Rattle.ua_base.specs.declared.modes.Timestamps.{Timestamps}
use Rattle.ua_structures.specs.declared.header.ResponseHeader.{ResponseHeader}
use Rattle.ua_structures.specs.declared.unused.UnusedDiagnostics.{UnusedDiagnostics}
use Rattle.ua_sub_msgs.specs.declared.results.ResultsResponse.{ResultsResponse}
use Rattle.ua_services.specs.declared.reply.Reply.{Reply}
use Rattle.subscription.specs.State.{SubState}
use Rattle.server_rules.specs.declared.conn.Asker.{Asker}
use Rattle.server_rules.specs.State.{ServerState, sub_at}
use Rattle.server_rules.specs.Said.{Did}
use Rattle.server_rules.specs.Answering.{faulted, good_header, replied}
use Rattle.server_rules.specs.Moves.{owns}

-- a list of so many operations is refused where it has none, or more than the server takes at once
abbrev pub operations_fault : ℕ → Option ℕ
operations_fault count =
    if count == 0 then Some bad_nothing_to_do
    else if nat_lt 1000 count then Some bad_too_many_operations
    else None

-- ---- what refuses, in order: the first status code answers

infixl 10 ◌>>=◌
abbrev pub ◌>>=◌ : {A B : Type 0} → Result A ℕ → (A → Result B ℕ) → Result B ℕ
(Ok found) >>= rule = rule found
(Err code) >>= rule = Err code

-- what is there, or else this code
abbrev pub wanted : {A : Type 0} → ℕ → Option A → Result A ℕ
wanted code None = Err code
wanted code (Some found) = Ok found

abbrev pub passes : Option ℕ → Result (Unit {0}) ℕ
passes None = Ok tt
passes (Some code) = Err code

-- where nothing refuses the request, this is done
abbrev pub done : {A : Type 0} → Asker → (A → ServerState → Did) → Result A ℕ → ServerState → Did
done asker rule (Ok found) s = rule found s
done asker rule (Err code) s = faulted asker code s

-- the reply of a service that was done
abbrev pub answered : Asker → (ResponseHeader → Reply) → ServerState → Did
answered asker reply s = replied asker (reply (good_header asker.handle s)) s

-- a code for each operation
abbrev pub coded_results : List ℕ → ResponseHeader → ResultsResponse
coded_results codes header = record { response_header = header; results = codes; diagnostic_infos = record {} }

-- ---- operations in turn

-- what they leave
abbrev pub after_each : {A : Type 0} → (A → ServerState → ServerState) → List A → ServerState → ServerState
after_each step [] s = s
after_each step (one ∷ more) s = after_each step more (step one s)

-- what each is answered, at its moment
abbrev pub answers : {A B : Type 0} → (A → ServerState → B) → (A → ServerState → ServerState) → List A → ServerState → List B
answers answer step [] s = []
answers answer step (one ∷ more) s = answer one s ∷ answers answer step more (step one s)

-- what a rule leaves, whatever it says
abbrev pub leaves : {A : Type 0} → (A → ServerState → Did) → A → ServerState → ServerState
leaves rule one s = (rule one s).state

-- ---- the session's own

-- the subscription of this id, where it is the session's
abbrev pub own_sub : ℕ → ℕ → ServerState → Option SubState
own_sub session id s = if owns session id s then sub_at id s.subs else None

abbrev pub own_or_fault : ℕ → ℕ → ServerState → Result SubState ℕ
own_or_fault session id s = wanted bad_subscription_id_invalid (own_sub session id s)

abbrev pub is_found : Option SubState → Result (Unit {0}) ℕ
is_found None = Err bad_subscription_id_invalid
is_found (Some sub) = Ok tt

-- whether it is the session's at all
abbrev pub own_checked : ℕ → ℕ → ServerState → Result (Unit {0}) ℕ
own_checked session id s = is_found (own_sub session id s)

-- ---- enumerations, which are Int32 on the wire: no number of theirs is negative

abbrev pub mode_named : ℤ → Option Mode
mode_named (pos number) = mode_of number
mode_named (negsuc number) = None

abbrev pub timestamps_named : ℤ → Option Timestamps
timestamps_named (pos number) = timestamps_of number
timestamps_named (negsuc number) = None
