-- No status but that of an overflow comes into the log of a direct world.
use Rattle.std.proofs.Common.{◌≡◌, ℕ, ◌+◌, ◌≤◌, List, [], ◌∷◌, ◌++◌, Bool, true, false, Option, Some, None, length, take, refl, sym, subst, arith}
use Rattle.std.specs.Prelude.{All, bit_and, if◌then◌else◌}
use Rattle.std.proofs.lemmas.List.Elements.{All-cons, All-append}
use Rattle.ua_base.specs.Status.{overflow_bits}
use Rattle.set_model.specs.declared.source.Change.{Change}
use Rattle.set_model.specs.declared.line.Arrived.{Arrived}
use Rattle.set_model.specs.declared.line.LogLine.{LogLine}
use Rattle.set_model.specs.declared.line.LogLine.TheVariants as logline
use Rattle.set_model.specs.declared.stamp.Stamp.{Stamp}
use Rattle.item_queue.specs.declared.queue.Entry.{Entry}
use Rattle.item_queue.specs.State.{QueueState}
use Rattle.delivery_log.specs.declared.rule.Verdict.{Verdict}
use Rattle.delivery_log.specs.declared.rule.Verdict.TheVariants.{Nothing, Deliver, GapDeliver}
use Rattle.delivery_log.specs.Log.{timed_lines, lines_by, data_line}
use Rattle.delivery_log.specs.History.{Act, Enter, Set, TurnOne, TurnAll, Note, lines_of, lines_after}
use Rattle.scenario.specs.declared.line.Line.{Line}
use Rattle.scenario.specs.declared.line.Line.TheVariants as line
use Rattle.direct_world.specs.State.{ServerState, WorldState}
use Rattle.direct_world.specs.Acts.{entering, taking, with_acts}
use Rattle.direct_world.specs.Plain.{IsPlain}
use Rattle.direct_world.specs.Server.{place_in}
use Rattle.direct_world.specs.World.{Step, step_of, after, at_place, fed_at, fed_if, new_world, server_at, started_at, stopped_at, taken_at, taken_if, after_all}
use Rattle.direct_world.specs.History.{with_lines, history_of}
use Rattle.direct_world.proofs.Law.{world_lines}

abbrev IsPlainStatus : ℕ → Type 0
IsPlainStatus status = bit_and status 0xFFFF_FB7F ≡ 0

abbrev IsPlainAct : Act → Type 0
IsPlainAct (Enter server item entry) = IsPlainStatus entry.status
IsPlainAct (Set server item joint) = Unit {0}
IsPlainAct (TurnOne server item turn) = Unit {0}
IsPlainAct (TurnAll server turn) = Unit {0}
IsPlainAct (Note l) = IsPlain l

abbrev ArePlainActs : List Act → Type 0
ArePlainActs [] = Unit {0}
ArePlainActs (act ∷ acts) = IsPlainAct act × ArePlainActs acts

none_plain : All IsPlain []
none_plain = λ k d less. absurd (omega arith)

timed_plain : (item : ℕ) (stamp : Stamp) (entry : Arrived) (verdict : Verdict) → IsPlainStatus entry.status → All IsPlain (timed_lines item stamp entry verdict)
timed_plain item stamp entry Nothing h = none_plain
timed_plain item stamp entry Deliver h = All-cons IsPlain (data_line item stamp entry) [] h none_plain
timed_plain item stamp entry (GapDeliver cause) h =
    All-cons IsPlain (logline.Gap item cause) (data_line item stamp entry ∷ []) tt (All-cons IsPlain (data_line item stamp entry) [] h none_plain)

lines_plain_by : (item : ℕ) (stamp : Option Stamp) (entry : Arrived) (verdict : Verdict) → IsPlainStatus entry.status → All IsPlain (lines_by item stamp entry verdict)
lines_plain_by item None entry verdict h = none_plain
lines_plain_by item (Some stamp) entry verdict h = timed_plain item stamp entry verdict h

act_plain : (act : Act) (earlier : List Act) → IsPlainAct act → All IsPlain (lines_after act earlier)
act_plain (Enter server item entry) earlier h = lines_plain_by item entry.time entry _ h
act_plain (Set server item joint) earlier h = none_plain
act_plain (TurnOne server item turn) earlier h = none_plain
act_plain (TurnAll server turn) earlier h = none_plain
act_plain (Note l) earlier h = All-cons IsPlain l [] h none_plain

lines_plain : (history : List Act) → ArePlainActs history → All IsPlain (lines_of history)
lines_plain [] h = none_plain
lines_plain (act ∷ earlier) h = All-append IsPlain (lines_of earlier) (lines_after act earlier) (lines_plain earlier h.1) (act_plain act earlier h.0)

-- the acts of a world are plain
marked_plain : (marked : Bool) → IsPlainStatus (if marked then overflow_bits else 0)
marked_plain true = refl
marked_plain false = refl

entering_plain : (server item : ℕ) (entries : List Entry) → ArePlainActs (entering server item entries)
entering_plain server item [] = tt
entering_plain server item (entry ∷ entries) = (marked_plain entry.marked, entering_plain server item entries)

more_plain : (acts more : List Act) → ArePlainActs acts → ArePlainActs more → ArePlainActs (acts ++ more)
more_plain [] more h k = k
more_plain (act ∷ acts) more h k = (h.0, more_plain acts more h.1 k)

taking_plain : (server item count : ℕ) (queues : List QueueState) → ArePlainActs (taking server item count queues)
taking_plain server item count [] = tt
taking_plain server item count (queue ∷ queues) =
    more_plain (entering server item (take count queue.entries)) (taking server (item + 1) count queues)
    (entering_plain server item (take count queue.entries)) (taking_plain server (item + 1) count queues)

fed_plain : (running : Bool) (p : ℕ) (changes : List Change) (s : ServerState) (w : WorldState) → ArePlainActs (fed_if running p changes s w).acts
fed_plain true p changes s w = tt
fed_plain false p changes s w = tt

taken_plain : (running : Bool) (p count : ℕ) (s : ServerState) (w : WorldState) → ArePlainActs (taken_if running p count s w).acts
taken_plain true p count s w = taking_plain (p + 1) 1 count s.queues
taken_plain false p count s w = tt

at_plain : (at : Option ℕ) (act : ℕ → WorldState → Step) (w : WorldState) → ((p : ℕ) → ArePlainActs (act p w).acts) → ArePlainActs (at_place at act w).acts
at_plain None act w f = tt
at_plain (Some p) act w f = f p

line_plain : (l : Line) (w : WorldState) → ArePlainActs (step_of l w).acts
line_plain (line.Change c) w = tt
line_plain (line.Feed server count) w = at_plain (place_in server (length w.servers)) (fed_at count) w
    (λ p. fed_plain (server_at p w.servers).running p _ (server_at p w.servers) w)
line_plain (line.Take server count) w = at_plain (place_in server (length w.servers)) (taken_at count) w
    (λ p. taken_plain (server_at p w.servers).running p count (server_at p w.servers) w)
line_plain (line.Stop server) w = at_plain (place_in server (length w.servers)) stopped_at w (λ p. tt)
line_plain (line.Start server) w = at_plain (place_in server (length w.servers)) started_at w (λ p. (tt, tt))
line_plain _ w = tt

with_plain : (acts history : List Act) → ArePlainActs acts → ArePlainActs history → ArePlainActs (with_acts acts history)
with_plain [] history h k = k
with_plain (act ∷ acts) history h k = with_plain acts (act ∷ history) h.1 (h.0, k)

history_plain : (ls : List Line) (w : WorldState) (history : List Act) → ArePlainActs history → ArePlainActs (with_lines ls w history)
history_plain [] w history h = h
history_plain (l ∷ ls) w history h = history_plain ls (after l w) _ (with_plain (step_of l w).acts history (line_plain l w) h)

pub world_plain : (n m : ℕ) (oldest : Bool) (size : ℕ) (ls : List Line) → 2 ≤ size → All IsPlain (after_all ls (new_world n m oldest size)).log.lines
world_plain n m oldest size ls two =
    let P : List LogLine → Type 0 = All IsPlain in
    subst P (sym (world_lines n m oldest size ls two)) (lines_plain (history_of n m oldest size ls) (history_plain ls (new_world n m oldest size) [] tt))
