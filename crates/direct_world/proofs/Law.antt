-- The law of the direct world: whatever lines come, the history of its log is well fed.
use Rattle.std.proofs.Common.{◌≡◌, ℕ, zero, suc, ◌+◌, ◌-◌, ◌<◌, ◌≤◌, ◌&&◌, List, [], ◌∷◌, ◌++◌, Bool, true, false, Option, Some, None, length, take, refl, sym, ap, subst, ◌∙◌, arith, slice_set}
use Rattle.std.specs.Prelude.{if◌then◌else◌, nat_le, replicate}
use Rattle.std.proofs.lemmas.List.{append_assoc, append-nil, length-append, length-set, length-map, length-replicate}
use Rattle.std.proofs.lemmas.Bool.Decides.{nat_tests}
use Rattle.set_model.specs.declared.source.Change.{Change}
use Rattle.set_model.specs.declared.source.SourceFault.{SourceFault}
use Rattle.set_model.specs.Source.{IsSource, HavePicos, refusal}
use Rattle.set_model.proofs.SourceLemmas.{source_more, allowed_after, allowed_in_source}
use Rattle.item_queue.specs.Queue.{empty_queue, without_oldest}
use Rattle.set_model.specs.declared.line.GapCause.TheVariants.{Late}
use Rattle.delivery_log.specs.declared.rule.Joint.TheVariants.{Open}
use Rattle.set_model.specs.declared.line.LogLine.{LogLine}
use Rattle.delivery_log.specs.State.{LogState}
use Rattle.delivery_log.specs.History.{Act, AreWithin, joint_of, lines_of, log_of}
use Rattle.delivery_log.specs.WellFed.{WellFed}
use Rattle.delivery_log.specs.Safe.{Safe, InOrder}
use Rattle.delivery_log.specs.Caused.{Caused}
use Rattle.delivery_log.proofs.Kept.{log_stands}
use Rattle.delivery_log.proofs.Law.{safe_from_well_fed, in_order_from_fed, fed_from_well_fed}
use Rattle.delivery_log.proofs.Causes.{caused_lines, notes_from_fed}
use Rattle.scenario.specs.declared.line.Line.{Line}
use Rattle.scenario.specs.declared.line.Line.TheVariants as line
use Rattle.scenario.specs.Past.{changes_in, change_of}
use Rattle.direct_world.specs.State.{ServerState, WorldState}
use Rattle.direct_world.specs.Acts.{after_acts, with_acts, taking, reopening}
use Rattle.direct_world.specs.Server.{place_in, new_server, next_of, fed, left_after, started}
use Rattle.direct_world.specs.World.{Step, after, after_all, after_step, step_of, appended, appended_unless, at_place, fed_at, fed_if, new_world, server_at, started_at, stopped_at, taken_at, taken_if}
use Rattle.direct_world.specs.History.{with_lines, history_of}
use Rattle.direct_world.proofs.Fed.{same_at}
use Rattle.direct_world.proofs.Taking.{QueuesFed, takes_queues}
use Rattle.direct_world.proofs.Starting.{reopens, reopens_other, reopens_well}
use Rattle.direct_world.proofs.Servers.{ServerFed, ServersFed, servers_elsewhere, servers_set, servers_at, feeds, stops, starts}
use Rattle.direct_world.proofs.Kept.{acts_kept, taking_within, reopening_within}

-- a source that goes on
pub record GoesOn (now later : List Change) : Type 0 where
  pub more : List Change
  pub is : later ≡ now ++ more

goes_nowhere : (now : List Change) → GoesOn now now
goes_nowhere now = record { more = []; is = sym (append-nil now) }

goes_on_then : (a b c : List Change) → GoesOn a b → GoesOn b c → GoesOn a c
goes_on_then a b c f g = record { more = f.more ++ g.more; is = g.is ∙ ap (λ x. x ++ g.more) f.is ∙ append_assoc a f.more g.more }

appended_goes : (fault : Option SourceFault) (c : Change) (source : List Change) → GoesOn source (appended_unless fault c source)
appended_goes None c source = record { more = c ∷ []; is = refl }
appended_goes (Some fault) c source = goes_nowhere source

-- only a change goes into the source
step_keeps_source : (place : Option ℕ) (act : ℕ → WorldState → Step) (w : WorldState) → ((p : ℕ) → (act p w).source ≡ w.source)
    → (at_place place act w).source ≡ w.source
step_keeps_source None act w h = refl
step_keeps_source (Some p) act w h = h p

fed_keeps_source : (running : Bool) (place : ℕ) (changes : List Change) (s : ServerState) (w : WorldState) → (fed_if running place changes s w).source ≡ w.source
fed_keeps_source true place changes s w = refl
fed_keeps_source false place changes s w = refl

taken_keeps_source : (running : Bool) (place count : ℕ) (s : ServerState) (w : WorldState) → (taken_if running place count s w).source ≡ w.source
taken_keeps_source true place count s w = refl
taken_keeps_source false place count s w = refl

feed_source : (server count : ℕ) (w : WorldState) → (after (line.Feed server count) w).source ≡ w.source
feed_source server count w = step_keeps_source (place_in server (length w.servers)) (fed_at count) w
    (λ p. fed_keeps_source (server_at p w.servers).running p _ (server_at p w.servers) w)

take_source : (server count : ℕ) (w : WorldState) → (after (line.Take server count) w).source ≡ w.source
take_source server count w = step_keeps_source (place_in server (length w.servers)) (taken_at count) w
    (λ p. taken_keeps_source (server_at p w.servers).running p count (server_at p w.servers) w)

stop_source : (server : ℕ) (w : WorldState) → (after (line.Stop server) w).source ≡ w.source
stop_source server w = step_keeps_source (place_in server (length w.servers)) stopped_at w (λ p. refl)

start_source : (server : ℕ) (w : WorldState) → (after (line.Start server) w).source ≡ w.source
start_source server w = step_keeps_source (place_in server (length w.servers)) started_at w (λ p. refl)

goes_same : (now later : List Change) → later ≡ now → GoesOn now later
goes_same now later is = record { more = []; is = is ∙ sym (append-nil now) }

appended_goes_by : (fits : Bool) (c : Change) (source : List Change) → nat_le c.pico 9999 ≡ fits → GoesOn source (appended c source)
appended_goes_by true c source is =
    let same : appended c source ≡ appended_unless (refusal source c) c source = ap (λ b. if b then appended_unless (refusal source c) c source else source) is in
    let P : List Change → Type 0 = GoesOn source in
    subst P (sym same) (appended_goes (refusal source c) c source)
appended_goes_by false c source is = goes_same _ _ (ap (λ b. if b then appended_unless (refusal source c) c source else source) is)

pub line_goes : (l : Line) (w : WorldState) → GoesOn w.source (after l w).source
line_goes (line.Change c) w = appended_goes_by _ c w.source refl
line_goes (line.Feed server count) w = goes_same _ _ (feed_source server count w)
line_goes (line.Take server count) w = goes_same _ _ (take_source server count w)
line_goes (line.Stop server) w = goes_same _ _ (stop_source server w)
line_goes (line.Start server) w = goes_same _ _ (start_source server w)
line_goes _ w = goes_nowhere w.source

-- the source only goes on
pub lines_go : (ls : List Line) (w : WorldState) → GoesOn w.source (after_all ls w).source
lines_go [] w = goes_nowhere w.source
lines_go (l ∷ ls) w = goes_on_then w.source (after l w).source (after_all ls (after l w)).source (line_goes l w) (lines_go ls (after l w))

appended_is_source : (source : List Change) (c : Change) (fault : Option SourceFault) → c.pico ≤ 9999 → refusal source c ≡ fault → IsSource source
    → IsSource (appended_unless fault c source)
appended_is_source source c None fits is h = source_more source c fits h (allowed_after source c is)
appended_is_source source c (Some fault) fits is h = h

appended_source_by : (fits : Bool) (c : Change) (source : List Change) → nat_le c.pico 9999 ≡ fits → IsSource source → IsSource (appended c source)
appended_source_by true c source is h =
    let same : appended c source ≡ appended_unless (refusal source c) c source = ap (λ b. if b then appended_unless (refusal source c) c source else source) is in
    let P : List Change → Type 0 = IsSource in
    subst P (sym same) (appended_is_source source c _ (grind (arith, nat_tests)) refl h)
appended_source_by false c source is h =
    let P : List Change → Type 0 = IsSource in subst P (sym (ap (λ b. if b then appended_unless (refusal source c) c source else source) is)) h

same_source : (now later : List Change) → later ≡ now → IsSource now → IsSource later
same_source now later is h = let P : List Change → Type 0 = IsSource in subst P (sym is) h

line_is_source : (l : Line) (w : WorldState) → IsSource w.source → IsSource (after l w).source
line_is_source (line.Change c) w h = appended_source_by _ c w.source refl h
line_is_source (line.Feed server count) w h = same_source _ _ (feed_source server count w) h
line_is_source (line.Take server count) w h = same_source _ _ (take_source server count w) h
line_is_source (line.Stop server) w h = same_source _ _ (stop_source server w) h
line_is_source (line.Start server) w h = same_source _ _ (start_source server w) h
line_is_source _ w h = h

lines_are_source : (ls : List Line) (w : WorldState) → IsSource w.source → IsSource (after_all ls w).source
lines_are_source [] w h = h
lines_are_source (l ∷ ls) w h = lines_are_source ls (after l w) (line_is_source l w h)

-- what a world of so many servers and items owes, with the history of its log
pub record WorldFed (source : List Change) (n m : ℕ) (w : WorldState) (history : List Act) : Type 0 where
  pub count : length w.servers ≡ n
  pub servers : ServersFed source w.source history m 1 w.servers
  pub well : WellFed source history
  pub kept : w.log ≡ log_of n m history
  pub within : AreWithin n m history

step_feed : (source : List Change) (n m place count : ℕ) (w : WorldState) (history : List Act) → GoesOn w.source source → place < length w.servers
    → WorldFed source n m w history
    → WorldFed source n m (record w { servers = slice_set w.servers place (fed (next_of count w.source (server_at place w.servers)) (server_at place w.servers)) }) history
step_feed source n m place count w history goes under h =
    let s = server_at place w.servers in
    let P : List Change → Type 0 = λ all. ServerFed all w.source history m (1 + place) s in
    let Q : List Change → Type 0 = λ all. ServerFed all w.source history m (1 + place) (fed (next_of count w.source s) s) in
    let own = subst Q (sym goes.is) (feeds w.source goes.more history m (1 + place) count s
    (subst P goes.is (servers_at source w.source history m 1 place w.servers under h.servers))) in
    record {
      count = length-set w.servers place _ ∙ h.count;
      servers = servers_set source w.source history history m 1 place w.servers _ (λ s i off. same_at s i history) under own h.servers;
      well = h.well;
      kept = h.kept;
      within = h.within;
    }

step_stop : (source : List Change) (n m place : ℕ) (w : WorldState) (history : List Act) → place < length w.servers
    → WorldFed source n m w history → WorldFed source n m (after_step (stopped_at place w) w) history
step_stop source n m place w history under h =
    let own = stops source w.source history m (1 + place) (server_at place w.servers) (servers_at source w.source history m 1 place w.servers under h.servers) in
    record {
      count = length-set w.servers place _ ∙ h.count;
      servers = servers_set source w.source history history m 1 place w.servers _ (λ s i off. same_at s i history) under own h.servers;
      well = h.well;
      kept = h.kept;
      within = h.within;
    }

step_change : (source : List Change) (n m : ℕ) (c : Change) (w : WorldState) (history : List Act)
    → WorldFed source n m w history → WorldFed source n m (record w { source = appended c w.source }) history
step_change source n m c w history h =
    let goes : GoesOn w.source (appended c w.source) = appended_goes_by _ c w.source refl in
    let longer : length w.source ≤ length (appended c w.source) = omega (arith, ap length goes.is, length-append w.source goes.more) in
    record {
      count = h.count;
      servers = servers_elsewhere source w.source _ history history m 1 w.servers (λ s i least. same_at s i history) longer h.servers;
      well = h.well;
      kept = h.kept;
      within = h.within;
    }

step_start : (source : List Change) (n m place number : ℕ) (w : WorldState) (history : List Act) → GoesOn w.source source → place < length w.servers
    → number ≡ 1 + place → WorldFed source n m w history
    → WorldFed source n m
    (record w { servers = slice_set w.servers place (started w.source (server_at place w.servers)); log = after_acts (reopening number) w.log })
    (with_acts (reopening number) history)
step_start source n m place number w history goes under is h =
    let next = with_acts (reopening number) history in
    let P : List Change → Type 0 = λ s. ServerFed s w.source history m (1 + place) (server_at place w.servers) in
    let Q : List Change → Type 0 = λ s. ServerFed s w.source next m (1 + place) (started w.source (server_at place w.servers)) in
    let R : ℕ → Type 0 = λ k. (i : ℕ) → 1 ≤ i → i ≤ m → joint_of k i next ≡ Open Late in
    let late = subst R is (λ i least most. reopens number history i) in
    let own = subst Q (sym goes.is) (starts w.source goes.more history next m (1 + place) (server_at place w.servers) late
    (subst P goes.is (servers_at source w.source history m 1 place w.servers under h.servers))) in
    record {
      count = length-set w.servers place _ ∙ h.count;
      servers = servers_set source w.source history next m 1 place w.servers _
          (λ s i off. reopens_other number history s i (λ e. off (sym is ∙ e))) under own h.servers;
      well = reopens_well source number history h.well;
      kept = ap (after_acts (reopening number)) h.kept ∙ acts_kept n m (reopening number) history;
      within = reopening_within n m number history (omega arith) (omega (arith, h.count)) h.within;
    }

step_take : (source : List Change) (n m place number count : ℕ) (w : WorldState) (history : List Act) → place < length w.servers → number ≡ 1 + place
    → WorldFed source n m w history
    → WorldFed source n m
    (record w {
      servers = slice_set w.servers place (record (server_at place w.servers) { queues = left_after count (server_at place w.servers).queues });
      log = after_acts (taking number 1 count (server_at place w.servers).queues) w.log;
    })
    (with_acts (taking number 1 count (server_at place w.servers).queues) history)
step_take source n m place number count w history under is h =
    let s = server_at place w.servers in
    let next = with_acts (taking number 1 count s.queues) history in
    let fed = servers_at source w.source history m 1 place w.servers under h.servers in
    let P : ℕ → Type 0 = λ k. QueuesFed source history k 1 (take s.position source) s.queues in
    let took = takes_queues source number 1 (take s.position source) count s.queues history (subst P (sym is) fed.queues) h.well in
    let Q : ℕ → Type 0 = λ k. QueuesFed source next k 1 (take s.position source) (left_after count s.queues) in
    let own : ServerFed source w.source next m (1 + place) (record s { queues = left_after count s.queues }) = record {
      width = length-map s.queues (without_oldest count) ∙ fed.width;
      within = fed.within;
      queues = subst Q is took.fed;
    } in
    record {
      count = length-set w.servers place _ ∙ h.count;
      servers = servers_set source w.source history next m 1 place w.servers _ (λ t i off. took.same_server t i (λ e. off (sym is ∙ e))) under own h.servers;
      well = took.well;
      kept = ap (after_acts (taking number 1 count s.queues)) h.kept ∙ acts_kept n m (taking number 1 count s.queues) history;
      within = taking_within n m number 1 count s.queues history (omega arith) (omega (arith, h.count)) (omega arith) (omega (arith, fed.width)) h.within;
    }

-- a server that does not run is neither fed nor taken from
step_feed_if : (source : List Change) (n m place count : ℕ) (running : Bool) (w : WorldState) (history : List Act) → GoesOn w.source source → place < length w.servers
    → WorldFed source n m w history
    → let step = fed_if running place (next_of count w.source (server_at place w.servers)) (server_at place w.servers) w in
    WorldFed source n m (after_step step w) (with_acts step.acts history)
step_feed_if source n m place count false w history goes under h = h
step_feed_if source n m place count true w history goes under h = step_feed source n m place count w history goes under h

step_take_if : (source : List Change) (n m place count : ℕ) (running : Bool) (w : WorldState) (history : List Act) → place < length w.servers
    → WorldFed source n m w history
    → let step = taken_if running place count (server_at place w.servers) w in WorldFed source n m (after_step step w) (with_acts step.acts history)
step_take_if source n m place count false w history under h = h
step_take_if source n m place count true w history under h = step_take source n m place (place + 1) count w history under (omega arith) h

pub place_within : (number count place : ℕ) (low high : Bool) → nat_le 1 number ≡ low → nat_le number count ≡ high
    → (if low && high then Some (number - 1) else None) ≡ Some place → place < count
place_within number count place true true l u h =
    let is : number - 1 ≡ place = cc in
    let least : 1 ≤ number = grind (arith, nat_tests) in
    let most : number ≤ count = grind (arith, nat_tests) in
    omega arith
place_within number count place true false l u h = absurd cc
place_within number count place false high l u h = absurd cc

-- a line of a server is one of a server that is there, or does nothing
step_at : (source : List Change) (n m : ℕ) (act : ℕ → WorldState → Step) (w : WorldState) (history : List Act) (number : ℕ) (at : Option ℕ)
    → place_in number (length w.servers) ≡ at
    → ((place : ℕ) → place < length w.servers → WorldFed source n m (after_step (act place w) w) (with_acts (act place w).acts history))
    → WorldFed source n m w history
    → WorldFed source n m (after_step (at_place at act w) w) (with_acts (at_place at act w).acts history)
step_at source n m act w history number None is f h = h
step_at source n m act w history number (Some place) is f h = f place (place_within number _ place _ _ refl refl is)

-- each line keeps what the world owes
step : (source : List Change) (n m : ℕ) (l : Line) (w : WorldState) (history : List Act) → GoesOn w.source source
    → WorldFed source n m w history → WorldFed source n m (after l w) (with_acts (step_of l w).acts history)
step source n m (line.Change c) w history goes h = step_change source n m c w history h
step source n m (line.Feed server count) w history goes h = step_at source n m (fed_at count) w history server _ refl
    (λ p under. step_feed_if source n m p count (server_at p w.servers).running w history goes under h) h
step source n m (line.Take server count) w history goes h = step_at source n m (taken_at count) w history server _ refl
    (λ p under. step_take_if source n m p count (server_at p w.servers).running w history under h) h
step source n m (line.Stop server) w history goes h = step_at source n m stopped_at w history server _ refl
    (λ p under. step_stop source n m p w history under h) h
step source n m (line.Start server) w history goes h = step_at source n m started_at w history server _ refl
    (λ p under. step_start source n m p (p + 1) w history goes under (omega arith) h) h
step source n m _ w history goes h = h

steps : (source : List Change) (n m : ℕ) (ls : List Line) (w : WorldState) (history : List Act) → source ≡ (after_all ls w).source
    → WorldFed source n m w history → WorldFed source n m (after_all ls w) (with_lines ls w history)
steps source n m [] w history is h = h
steps source n m (l ∷ ls) w history is h =
    let whole = lines_go (l ∷ ls) w in
    steps source n m ls (after l w) (with_acts (step_of l w).acts history) is (step source n m l w history (record { more = whole.more; is = is ∙ whole.is }) h)

new_queues_fed : (source : List Change) (number item count : ℕ) (oldest : Bool) (size : ℕ) → 2 ≤ size
    → QueuesFed source [] number item [] (replicate count (empty_queue oldest size))
new_queues_fed source number item zero oldest size two = tt
new_queues_fed source number item (suc count) oldest size two = (
  record { size = two; next = 0; held = refl; joined = λ j. absurd cc },
  new_queues_fed source number (item + 1) count oldest size two,
)

new_servers_fed : (source : List Change) (number count items : ℕ) (oldest : Bool) (size : ℕ) → 2 ≤ size
    → ServersFed source [] [] items number (replicate count (new_server items oldest size))
new_servers_fed source number zero items oldest size two = tt
new_servers_fed source number (suc count) items oldest size two = (
  record { width = length-replicate items (empty_queue oldest size); within = omega arith; queues = new_queues_fed source number 1 items oldest size two },
  new_servers_fed source (number + 1) count items oldest size two,
)

new_world_fed : (source : List Change) (n m : ℕ) (oldest : Bool) (size : ℕ) → 2 ≤ size → WorldFed source n m (new_world n m oldest size) []
new_world_fed source n m oldest size two = record {
  count = length-replicate n (new_server m oldest size);
  servers = new_servers_fed source 1 n m oldest size two;
  well = tt;
  kept = refl;
  within = tt;
}

-- what a world owes at the end of any lines
pub world_fed : (n m : ℕ) (oldest : Bool) (size : ℕ) (ls : List Line) → 2 ≤ size
    → WorldFed (after_all ls (new_world n m oldest size)).source n m (after_all ls (new_world n m oldest size)) (history_of n m oldest size ls)
world_fed n m oldest size ls two = steps _ n m ls (new_world n m oldest size) [] refl (new_world_fed _ n m oldest size two)

pub world_source : (n m : ℕ) (oldest : Bool) (size : ℕ) (ls : List Line) → IsSource (after_all ls (new_world n m oldest size)).source
world_source n m oldest size ls = lines_are_source ls (new_world n m oldest size) (record { rises = λ item. tt; picos = tt })

-- the lines that are kept are those of the history
pub world_lines : (n m : ℕ) (oldest : Bool) (size : ℕ) (ls : List Line) → 2 ≤ size → (after_all ls (new_world n m oldest size)).log.lines ≡ lines_of (history_of n m oldest size ls)
world_lines n m oldest size ls two =
    let h = world_fed n m oldest size ls two in
    ap (λ (log : LogState). log.lines) h.kept ∙ (log_stands n m (history_of n m oldest size ls) h.within).lines

pub world_safe : (n m : ℕ) (oldest : Bool) (size : ℕ) (ls : List Line) → 2 ≤ size → Safe (after_all ls (new_world n m oldest size)).source (after_all ls (new_world n m oldest size)).log.lines
world_safe n m oldest size ls two =
    let P : List LogLine → Type 0 = Safe (after_all ls (new_world n m oldest size)).source in
    subst P (sym (world_lines n m oldest size ls two)) (safe_from_well_fed _ _ (world_source n m oldest size ls) (world_fed n m oldest size ls two).well)

pub world_in_order : (n m : ℕ) (oldest : Bool) (size : ℕ) (ls : List Line) → 2 ≤ size → InOrder (after_all ls (new_world n m oldest size)).source (after_all ls (new_world n m oldest size)).log.lines
world_in_order n m oldest size ls two =
    let P : List LogLine → Type 0 = InOrder (after_all ls (new_world n m oldest size)).source in
    subst P (sym (world_lines n m oldest size ls two)) (in_order_from_fed _ _ (world_source n m oldest size ls) (fed_from_well_fed _ _ (world_fed n m oldest size ls two).well))

pub world_caused : (n m : ℕ) (oldest : Bool) (size : ℕ) (ls : List Line) → 2 ≤ size → Caused (history_of n m oldest size ls) (after_all ls (new_world n m oldest size)).log.lines
world_caused n m oldest size ls two =
    let P : List LogLine → Type 0 = Caused (history_of n m oldest size ls) in
    subst P (sym (world_lines n m oldest size ls two)) (caused_lines _ (notes_from_fed _ _ (fed_from_well_fed _ _ (world_fed n m oldest size ls two).well)))

-- the picoseconds of a change that stands in a source
pico_within : (front : List Change) (c : Change) (back : List Change) → HavePicos (front ++ c ∷ back) → c.pico ≤ 9999
pico_within [] c back h = h.0
pico_within (d ∷ front) c back h = pico_within front c back h.1

line_adds : (l : Line) (ls : List Line) (w : WorldState) → IsSource (w.source ++ changes_in (l ∷ ls)) → length (w.source ++ changes_in (l ∷ ls)) ≤ 200000
    → (after l w).source ≡ w.source ++ change_of l
line_adds (line.Change c) ls w h few =
    let room : length w.source < 200000 = omega (arith, length-append w.source (changes_in (line.Change c ∷ ls))) in
    let pico : c.pico ≤ 9999 = pico_within w.source c (changes_in ls) h.picos in
    let fits : nat_le c.pico 9999 ≡ true = grind (arith, nat_tests) in
    ap (λ b. if b then appended_unless (refusal w.source c) c w.source else w.source) fits
    ∙ ap (λ r. appended_unless r c w.source) (allowed_in_source w.source c (changes_in ls) h room)
line_adds (line.Feed server count) ls w h few = feed_source server count w ∙ sym (append-nil w.source)
line_adds (line.Take server count) ls w h few = take_source server count w ∙ sym (append-nil w.source)
line_adds (line.Stop server) ls w h few = stop_source server w ∙ sym (append-nil w.source)
line_adds (line.Start server) ls w h few = start_source server w ∙ sym (append-nil w.source)
line_adds _ ls w h few = sym (append-nil w.source)

lines_add : (ls : List Line) (w : WorldState) → IsSource (w.source ++ changes_in ls) → length (w.source ++ changes_in ls) ≤ 200000
    → (after_all ls w).source ≡ w.source ++ changes_in ls
lines_add [] w h few = sym (append-nil w.source)
lines_add (l ∷ ls) w h few =
    let own = line_adds l ls w h few in
    let whole : w.source ++ changes_in (l ∷ ls) ≡ (after l w).source ++ changes_in ls =
    sym (append_assoc w.source (change_of l) (changes_in ls)) ∙ ap (λ x. x ++ changes_in ls) (sym own) in
    let P : List Change → Type 0 = λ x. IsSource x × (length x ≤ 200000) in
    let kept = subst P whole (h, few) in
    lines_add ls (after l w) kept.0 kept.1 ∙ sym whole

-- where the changes of the lines are a source that is not too long, they are the world's source
pub world_changes : (n m : ℕ) (oldest : Bool) (size : ℕ) (ls : List Line) → IsSource (changes_in ls) → length (changes_in ls) ≤ 200000
    → (after_all ls (new_world n m oldest size)).source ≡ changes_in ls
world_changes n m oldest size ls h few = lines_add ls (new_world n m oldest size) h few
