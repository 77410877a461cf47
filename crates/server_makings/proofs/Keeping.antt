-- What a subscription kept at any time of a life was sent by the calls of the whole life.
use Rattle.std.proofs.Common.{◌≡◌, ℕ, List, [], ◌∷◌, ◌++◌, None, refl, sym, ap, ◌∙◌, subst, append_assoc}
use Rattle.std.proofs.lemmas.List.{append-nil}
use Rattle.ua_sub_msgs.specs.declared.notification.NotificationMessage.{NotificationMessage}
use Rattle.subscription.specs.declared.spec.SubSpec.{SubSpec}
use Rattle.subscription.specs.History.{Call}
use Rattle.server_rules.specs.State.{ServerState, sub_at}
use Rattle.server_rules.specs.Said.{Did}
use Rattle.server_rules.specs.Step.{Happening}
use Rattle.server_rules.specs.Acts.{state_after}
use Rattle.server_laws.specs.Beginning.{KeptUnder}
use Rattle.server_laws.specs.Course.{core_of}
use Rattle.server_laws.specs.Lives.{IsSent, Life, Lives, Over, Stands, Unborn, life_after, life_with, messages_for, messages_in, messages_sent}
use Rattle.server_laws.specs.Moves.{AreFair, Core, Move, facts_of_all, moved, moved_all}
use Rattle.server_laws.proofs.Saying.{Knows, are_messages, sent_before}
use Rattle.server_laws.proofs.Standing.{stands_all}
use Rattle.server_laws.proofs.Telling.{told_all}
use Rattle.server_laws.proofs.Within.{none_within}
use Rattle.server_chains.specs.Chains.{IsOfLife}
use Rattle.server_makings.specs.Kept.{AreKeptOf}

-- ---- each time has the moves until then

-- the first of these moves lead to what was after an earlier part of the happenings
pub record IsFront (moves : List Move) (earlier : List Happening) (s : ServerState) : Type 0 where
  pub before : List Move
  pub since : List Move
  pub are : moves ≡ before ++ since
  pub leads : core_of (state_after earlier s) ≡ moved_all before (core_of s)

abbrev pub HasFronts : List Happening → ServerState → List Move → Type 0
HasFronts happenings s moves = (later earlier : List Happening) → happenings ≡ later ++ earlier → IsFront moves earlier s

-- all of them lead to what is after all
whole_front : (happenings earlier : List Happening) (s : ServerState) (moves : List Move) → happenings ≡ earlier
    → core_of (state_after happenings s) ≡ moved_all moves (core_of s) → IsFront moves earlier s
whole_front happenings earlier s moves same leads =
    record { before = moves; since = []; are = sym (append-nil moves); leads = ap (λ l. core_of (state_after l s)) (sym same) ∙ leads }

more_front : (earlier : List Happening) (s : ServerState) (one other : List Move) → IsFront one earlier s → IsFront (one ++ other) earlier s
more_front earlier s one other h = record {
  before = h.before;
  since = h.since ++ other;
  are = ap (λ l. l ++ other) h.are ∙ append_assoc h.before h.since other;
  leads = h.leads;
}

pub no_fronts : (s : ServerState) → HasFronts [] s []
unfolding state_after
no_fronts s [] earlier same = whole_front [] earlier s [] same refl
no_fronts s (one ∷ later) earlier same = absurd cc

pub fronts_more : (happening : Happening) (before : List Happening) (s : ServerState) (one other : List Move) → HasFronts before s one
    → core_of (state_after (happening ∷ before) s) ≡ moved_all (one ++ other) (core_of s) → HasFronts (happening ∷ before) s (one ++ other)
fronts_more happening before s one other fronts leads [] earlier same = whole_front (happening ∷ before) earlier s (one ++ other) same leads
fronts_more happening before s one other fronts leads (last ∷ later) earlier same =
    let rest : before ≡ later ++ earlier = cc in
    more_front earlier s one other (fronts later earlier rest)

-- ---- what is kept after some moves was sent by all

fair_split : (one other : List Move) (c : Core) → AreFair (one ++ other) c → AreFair one c × AreFair other (moved_all one c)
fair_split [] other c fair = (tt, fair)
fair_split (move ∷ one) other c fair = let rest = fair_split one other (moved move c) fair.1 in ((fair.0, rest.0), rest.1)

life_join : (id : ℕ) (one other : List Move) (c : Core) (life : Life) → life_after id (one ++ other) c life ≡ life_after id other (moved_all one c) (life_after id one c life)
life_join id [] other c life = refl
life_join id (move ∷ one) other c life = life_join id one other (moved move c) (life_with id move c life)

sent_by_all : Knows → (id : ℕ) (before since : List Move) (c : Core) (t : ServerState) (number : ℕ) (message : NotificationMessage)
    → AreFair (before ++ since) c → sub_at id c.subs ≡ None → core_of t ≡ moved_all before c → KeptUnder id number message t
    → IsSent number message (messages_in (life_after id (before ++ since) c Unborn))
sent_by_all law id before since c t number message fair none leads kept =
    let both = fair_split before since c fair in
    let life : Life = life_after id before c Unborn in
    let stands : Stands id life (moved_all before c) = stands_all id before Unborn c both.0 none in
    let did : Did = record { state = t; said = [] } in
    let all = are_messages law id did c before both.0 none leads (none_within (facts_of_all before c)) in
    let grown : messages_in (life_after id (before ++ since) c Unborn) ≡ messages_in life ++ messages_for id (facts_of_all since (moved_all before c)) =
    ap messages_in (life_join id before since c Unborn) ∙ told_all id since life (moved_all before c) both.1 stands in
    subst (IsSent number message) (sym grown)
    (sent_before number message (messages_in life) (messages_for id (facts_of_all since (moved_all before c))) (all.kept kept.0 number message kept.1 kept.2))

messages_same : (life : Life) (spec : SubSpec) (start : ℕ) (calls : List Call) → IsOfLife life spec start calls → messages_in life ≡ messages_sent spec start calls
messages_same Unborn spec start calls h = sym (ap (messages_sent spec start) h)
messages_same (Lives own began made) spec start calls h =
    ap (λ x. messages_sent x began made) (sym h.0) ∙ ap (λ n. messages_sent spec n made) (sym h.1) ∙ ap (messages_sent spec start) (sym h.2)
messages_same (Over own began made) spec start calls h =
    ap (λ x. messages_sent x began made) (sym h.0) ∙ ap (λ n. messages_sent spec n made) (sym h.1) ∙ ap (messages_sent spec start) (sym h.2)

pub kept_of : Knows → (id : ℕ) (happenings : List Happening) (s : ServerState) (moves : List Move) (spec : SubSpec) (start : ℕ) (calls : List Call)
    → AreFair moves (core_of s) → sub_at id s.subs ≡ None → HasFronts happenings s moves → IsOfLife (life_after id moves (core_of s) Unborn) spec start calls
    → AreKeptOf id happenings s (messages_sent spec start calls)
kept_of law id happenings s moves spec start calls fair none fronts own later earlier number message same kept =
    let c : Core = core_of s in
    let front = fronts later earlier same in
    let sent : IsSent number message (messages_in (life_after id (front.before ++ front.since) c Unborn)) =
    sent_by_all law id front.before front.since c (state_after earlier s) number message (subst (λ l. AreFair l c) front.are fair) none front.leads kept in
    subst (IsSent number message)
    (ap (λ l. messages_in (life_after id l c Unborn)) (sym front.are) ∙ messages_same (life_after id moves c Unborn) spec start calls own) sent
