-- The lives of each server of a world, whatever lines come: they are the source's, and their boot numbers count the starts.
use Rattle.std.proofs.Common.{◌≡◌, ◌≢◌, ◌==◌, ◌&&◌, ℕ, zero, suc, ◌+◌, ◌-◌, ◌<◌, ◌≤◌, List, [], ◌∷◌, Bool, true, false, cond, Option, Some, None, length, min, refl, sym, ap, subst, ◌∙◌, arith, slice_set}
use Rattle.std.specs.Prelude.{if◌then◌else◌, nat_le, filter, replicate}
use Rattle.std.proofs.lemmas.Bool.Decides.{nat_tests}
use Rattle.std.proofs.lemmas.List.{length-append, length-set, length-replicate, get_or-set_other, get_or-replicate}
use Rattle.std.proofs.lemmas.Grind.{get_or-set_at}
use Rattle.set_model.specs.declared.source.Change.{Change}
use Rattle.item_queue.specs.Queue.{empty_queue}
use Rattle.scenario.specs.declared.line.Line.{Line}
use Rattle.scenario.specs.declared.line.Line.TheVariants as line
use Rattle.scenario.specs.Past.{boot_of, starts}
use Rattle.direct_world.specs.State.{ServerState, WorldState}
use Rattle.direct_world.specs.Lives.{Life, LifeAct, feeding, lives_after, values_from, AreLivesOf, down_from, first_life}
use Rattle.direct_world.specs.Server.{place_in, new_server, next_of, fed, started}
use Rattle.direct_world.specs.World.{Step, step_of, after, after_all, at_place, fed_at, fed_if, new_world, server_at, started_at, stopped_at, taken_at, taken_if}
use Rattle.direct_world.specs.History.{lives_with, lives_of}
use Rattle.direct_world.proofs.Law.{GoesOn, line_goes, lines_go, place_within}
use Rattle.direct_world.proofs.Living.{Lives, LifeStands, boots_of, lives_fed, lives_stopped, lives_taken, lives_started, lives_later, fed_other, begun_other, fed_count, begun_count, few_boots}

-- a step that changes the server of one place and is given to its lives alone
place_by : (source so_far : List Change) (items : ℕ) (servers : List ServerState) (at place : ℕ) (next : ServerState) (acts : List LifeAct) (lives : List Life) (b : Bool)
    → (at == place) ≡ b → at < length servers
    → ((l : List Life) → Lives source so_far items (server_at at servers) l → Lives source so_far items next (lives_after (at + 1) acts l))
    → ((server : ℕ) (l : List Life) → server ≢ at + 1 → lives_after server acts l ≡ l)
    → Lives source so_far items (server_at place servers) lives
    → Lives source so_far items (server_at place (slice_set servers at next)) (lives_after (place + 1) acts lives)
place_by source so_far items servers at place next acts lives true is under own other h =
    let same : at ≡ place = grind (arith, nat_tests) in
    let P : ℕ → Type 0 = λ p. Lives source so_far items (server_at p servers) lives
    → Lives source so_far items (server_at p (slice_set servers at next)) (lives_after (p + 1) acts lives) in
    let Q : ServerState → Type 0 = λ s. Lives source so_far items s (lives_after (at + 1) acts lives) in
    subst P same (λ k. subst Q (sym (get_or-set_at servers at at next (new_server 0 true 2) refl under)) (own lives k)) h
place_by source so_far items servers at place next acts lives false is under own other h =
    let apart : place ≢ at = grind (arith, nat_tests) in
    let P : ServerState → Type 0 = λ s. Lives source so_far items s (lives_after (place + 1) acts lives) in
    let Q : List Life → Type 0 = Lives source so_far items (server_at place servers) in
    subst P (sym (get_or-set_other servers at place next (new_server 0 true 2) apart))
    (subst Q (sym (other (place + 1) lives (λ e. apart (omega (arith, e))))) h)

feed_if : (source : List Change) (items place at count : ℕ) (running : Bool) (w : WorldState) (lives : List Life) → GoesOn w.source source → at < length w.servers
    → Lives source w.source items (server_at place w.servers) lives
    → let step = fed_if running at (next_of count w.source (server_at at w.servers)) (server_at at w.servers) w in
    Lives source w.source items (server_at place step.servers) (lives_after (place + 1) step.lives lives)
feed_if source items place at count false w lives goes under h = h
feed_if source items place at count true w lives goes under h =
    let s = server_at at w.servers in
    let P : List Change → Type 0 = λ all. (l : List Life) → Lives all w.source items s l
    → Lives all w.source items (fed (next_of count w.source s) s) (lives_after (at + 1) (feeding (at + 1) (next_of count w.source s)) l) in
    place_by source w.source items w.servers at place _ (feeding (at + 1) (next_of count w.source s)) lives _ refl under
    (subst P (sym goes.is) (λ l k. lives_fed w.source goes.more items count (at + 1) s l k))
    (λ server l off. fed_other server (at + 1) (next_of count w.source s) l off) h

take_if : (source : List Change) (items place at count : ℕ) (running : Bool) (w : WorldState) (lives : List Life) → at < length w.servers
    → Lives source w.source items (server_at place w.servers) lives
    → let step = taken_if running at count (server_at at w.servers) w in
    Lives source w.source items (server_at place step.servers) (lives_after (place + 1) step.lives lives)
take_if source items place at count false w lives under h = h
take_if source items place at count true w lives under h =
    place_by source w.source items w.servers at place _ [] lives _ refl under
    (λ l k. lives_taken source w.source items count (server_at at w.servers) l k) (λ server l off. refl) h

stop_at : (source : List Change) (items place at : ℕ) (w : WorldState) (lives : List Life) → at < length w.servers
    → Lives source w.source items (server_at place w.servers) lives
    → Lives source w.source items (server_at place (stopped_at at w).servers) (lives_after (place + 1) (stopped_at at w).lives lives)
stop_at source items place at w lives under h =
    place_by source w.source items w.servers at place _ [] lives _ refl under
    (λ l k. lives_stopped source w.source items (server_at at w.servers) l k) (λ server l off. refl) h

start_at : (source : List Change) (items place at : ℕ) (w : WorldState) (lives : List Life) → GoesOn w.source source → at < length w.servers
    → Lives source w.source items (server_at place w.servers) lives
    → Lives source w.source items (server_at place (started_at at w).servers) (lives_after (place + 1) (started_at at w).lives lives)
start_at source items place at w lives goes under h =
    let s = server_at at w.servers in
    let P : List Change → Type 0 = λ all. (l : List Life) → Lives all w.source items s l
    → Lives all w.source items (started w.source s) (lives_after (at + 1) (started_at at w).lives l) in
    place_by source w.source items w.servers at place _ (started_at at w).lives lives _ refl under
    (subst P (sym goes.is) (λ l k. lives_started w.source goes.more items (at + 1) s l k))
    (λ server l off. begun_other server (at + 1) _ _ l off) h

at_server : (source : List Change) (items place : ℕ) (act : ℕ → WorldState → Step) (w : WorldState) (lives : List Life) (number : ℕ) (at : Option ℕ)
    → place_in number (length w.servers) ≡ at
    → ((p : ℕ) → p < length w.servers → Lives source w.source items (server_at place (act p w).servers) (lives_after (place + 1) (act p w).lives lives))
    → Lives source w.source items (server_at place w.servers) lives
    → Lives source w.source items (server_at place (at_place at act w).servers) (lives_after (place + 1) (at_place at act w).lives lives)
at_server source items place act w lives number None is f h = h
at_server source items place act w lives number (Some p) is f h = f p (place_within number _ p _ _ refl refl is)

-- each line, with the source as far as it was before
line_lives : (source : List Change) (items place : ℕ) (l : Line) (w : WorldState) (lives : List Life) → GoesOn w.source source
    → Lives source w.source items (server_at place w.servers) lives
    → Lives source w.source items (server_at place (step_of l w).servers) (lives_after (place + 1) (step_of l w).lives lives)
line_lives source items place (line.Change c) w lives goes h = h
line_lives source items place (line.Feed server count) w lives goes h = at_server source items place (fed_at count) w lives server _ refl
    (λ p under. feed_if source items place p count (server_at p w.servers).running w lives goes under h) h
line_lives source items place (line.Take server count) w lives goes h = at_server source items place (taken_at count) w lives server _ refl
    (λ p under. take_if source items place p count (server_at p w.servers).running w lives under h) h
line_lives source items place (line.Stop server) w lives goes h = at_server source items place stopped_at w lives server _ refl
    (λ p under. stop_at source items place p w lives under h) h
line_lives source items place (line.Start server) w lives goes h = at_server source items place started_at w lives server _ refl
    (λ p under. start_at source items place p w lives goes under h) h
line_lives source items place _ w lives goes h = h

lines_lives : (source : List Change) (items place : ℕ) (ls : List Line) (w : WorldState) (lives : List Life) → source ≡ (after_all ls w).source
    → Lives source w.source items (server_at place w.servers) lives
    → Lives source (after_all ls w).source items (server_at place (after_all ls w).servers) (lives_with (place + 1) ls w lives)
lines_lives source items place [] w lives is h = h
lines_lives source items place (l ∷ ls) w lives is h =
    let whole = lines_go (l ∷ ls) w in
    let one = line_goes l w in
    let longer : length w.source ≤ length (after l w).source = omega (arith, ap length one.is, length-append w.source one.more) in
    let next = line_lives source items place l w lives (record { more = whole.more; is = is ∙ whole.is }) h in
    lines_lives source items place ls (after l w) _ is (lives_later source w.source (after l w).source items _ _ longer next)

no_values : (item count : ℕ) → replicate count None ≡ values_from item count []
no_values item zero = refl
no_values item (suc count) = ap (λ values. None ∷ values) (no_values (item + 1) count)

first_stands : (source : List Change) (items : ℕ) → LifeStands source items 1 0 (first_life items ∷ [])
first_stands source items = record {
  latest = first_life items;
  former = [];
  are = refl;
  now = record { first = 0; within = omega arith; values = no_values 1 items; fed = λ k change is. absurd cc };
  at = refl;
  formers = tt;
  boot_is = refl;
  boots = refl;
}

new_lives : (source : List Change) (n m : ℕ) (oldest : Bool) (size place : ℕ) → place < n
    → Lives source [] m (server_at place (new_world n m oldest size).servers) (first_life m ∷ [])
new_lives source n m oldest size place under =
    let P : ServerState → Type 0 = λ s. Lives source [] m s (first_life m ∷ []) in
    subst P (sym (get_or-replicate n place (new_server m oldest size) (new_server 0 true 2) under)) (record {
      stands = first_stands source m;
      within = omega arith;
      width = length-replicate m (empty_queue oldest size);
    })

pub world_lives : (n m : ℕ) (oldest : Bool) (size : ℕ) (ls : List Line) (place : ℕ) → place < n
    → let w = after_all ls (new_world n m oldest size) in Lives w.source w.source m (server_at place w.servers) (lives_of n m oldest size (place + 1) ls)
world_lives n m oldest size ls place under = lines_lives _ m place ls (new_world n m oldest size) (first_life m ∷ []) refl (new_lives _ n m oldest size place under)

-- each life is one of the source
pub world_are_lives : (n m : ℕ) (oldest : Bool) (size : ℕ) (ls : List Line) (place : ℕ) → place < n
    → AreLivesOf (after_all ls (new_world n m oldest size)).source m (lives_of n m oldest size (place + 1) ls)
world_are_lives n m oldest size ls place under =
    let h = (world_lives n m oldest size ls place under).stands in
    let P : List Life → Type 0 = AreLivesOf (after_all ls (new_world n m oldest size)).source m in
    subst P (sym h.are) (h.now, h.formers)

-- ---- how many lives there are

-- the place of a server that is there is one less than its number
same_server : (number count at place : ℕ) (low high : Bool) → nat_le 1 number ≡ low → nat_le number count ≡ high
    → (if low && high then Some (number - 1) else None) ≡ Some at → (at + 1 == place + 1) ≡ (number == place + 1)
same_server number count at place true true l u h =
    let is : number - 1 ≡ at = cc in
    let least : 1 ≤ number = grind (arith, nat_tests) in
    grind (arith, nat_tests)
same_server number count at place true false l u h = absurd cc
same_server number count at place false high l u h = absurd cc

-- a server that is not there is none of those that are
no_server : (number count place : ℕ) (low high : Bool) → nat_le 1 number ≡ low → nat_le number count ≡ high
    → (if low && high then Some (number - 1) else None) ≡ None → place < count → (number == place + 1) ≡ false
no_server number count place true true l u h under = absurd cc
no_server number count place true false l u h under = grind (arith, nat_tests)
no_server number count place false high l u h under = grind (arith, nat_tests)

start_count : (number place : ℕ) (w : WorldState) (lives : List Life) (at : Option ℕ) → place_in number (length w.servers) ≡ at → place < length w.servers
    → length (lives_after (place + 1) (at_place at started_at w).lives lives) ≡ length lives + cond (number == place + 1) 1 0
start_count number place w lives None is under =
    let none : length lives ≡ length lives + 0 = omega arith in
    none ∙ ap (λ b. length lives + cond b 1 0) (sym (no_server number _ place _ _ refl refl is under))
start_count number place w lives (Some p) is under =
    begun_count (place + 1) (p + 1) _ _ lives ∙ ap (λ b. length lives + cond b 1 0) (same_server number _ p place _ _ refl refl is)

fed_if_count : (running : Bool) (place at : ℕ) (changes : List Change) (s : ServerState) (w : WorldState) (lives : List Life)
    → length (lives_after place (fed_if running at changes s w).lives lives) ≡ length lives
fed_if_count true place at changes s w lives = fed_count place (at + 1) changes lives
fed_if_count false place at changes s w lives = refl

taken_if_count : (running : Bool) (place at count : ℕ) (s : ServerState) (w : WorldState) (lives : List Life)
    → length (lives_after place (taken_if running at count s w).lives lives) ≡ length lives
taken_if_count true place at count s w lives = refl
taken_if_count false place at count s w lives = refl

none_begun : (place : ℕ) (act : ℕ → WorldState → Step) (w : WorldState) (lives : List Life) (at : Option ℕ)
    → ((p : ℕ) → length (lives_after place (act p w).lives lives) ≡ length lives)
    → length (lives_after place (at_place at act w).lives lives) ≡ length lives + 0
none_begun place act w lives None f = omega arith
none_begun place act w lives (Some p) f = omega (arith, f p)

line_count : (l : Line) (w : WorldState) (place : ℕ) (lives : List Life) → place < length w.servers
    → length (lives_after (place + 1) (step_of l w).lives lives) ≡ length lives + cond (starts (place + 1) l) 1 0
line_count (line.Change c) w place lives under = omega arith
line_count (line.Feed server count) w place lives under = none_begun (place + 1) (fed_at count) w lives (place_in server (length w.servers))
    (λ p. fed_if_count (server_at p w.servers).running (place + 1) p _ (server_at p w.servers) w lives)
line_count (line.Take server count) w place lives under = none_begun (place + 1) (taken_at count) w lives (place_in server (length w.servers))
    (λ p. taken_if_count (server_at p w.servers).running (place + 1) p count (server_at p w.servers) w lives)
line_count (line.Stop server) w place lives under = none_begun (place + 1) stopped_at w lives (place_in server (length w.servers)) (λ p. refl)
line_count (line.Start server) w place lives under = start_count server place w lives _ refl under
line_count _ w place lives under = omega arith

servers_at : (at : Option ℕ) (act : ℕ → WorldState → Step) (w : WorldState) → ((p : ℕ) → length (act p w).servers ≡ length w.servers)
    → length (at_place at act w).servers ≡ length w.servers
servers_at None act w f = refl
servers_at (Some p) act w f = f p

fed_servers : (running : Bool) (p : ℕ) (changes : List Change) (s : ServerState) (w : WorldState) → length (fed_if running p changes s w).servers ≡ length w.servers
fed_servers true p changes s w = length-set w.servers p _
fed_servers false p changes s w = refl

taken_servers : (running : Bool) (p count : ℕ) (s : ServerState) (w : WorldState) → length (taken_if running p count s w).servers ≡ length w.servers
taken_servers true p count s w = length-set w.servers p _
taken_servers false p count s w = refl

-- a line leaves as many servers as there are
line_servers : (l : Line) (w : WorldState) → length (step_of l w).servers ≡ length w.servers
line_servers (line.Change c) w = refl
line_servers (line.Feed server count) w = servers_at (place_in server (length w.servers)) (fed_at count) w
    (λ p. fed_servers (server_at p w.servers).running p _ (server_at p w.servers) w)
line_servers (line.Take server count) w = servers_at (place_in server (length w.servers)) (taken_at count) w
    (λ p. taken_servers (server_at p w.servers).running p count (server_at p w.servers) w)
line_servers (line.Stop server) w = servers_at (place_in server (length w.servers)) stopped_at w (λ p. length-set w.servers p _)
line_servers (line.Start server) w = servers_at (place_in server (length w.servers)) started_at w (λ p. length-set w.servers p _)
line_servers _ w = refl

-- how many of the lines start a server
abbrev starts_in : ℕ → List Line → ℕ
starts_in server ls = length (filter (λ l. starts server l) ls)

start_more : (b : Bool) (l : Line) (ls : List Line) (n more : ℕ) → length ls ≡ more → n + cond b 1 0 + more ≡ n + length (cond b (l ∷ ls) ls)
start_more true l ls n more is = omega arith
start_more false l ls n more is = omega arith

lines_count : (ls : List Line) (w : WorldState) (place : ℕ) (lives : List Life) → place < length w.servers
    → length (lives_with (place + 1) ls w lives) ≡ length lives + starts_in (place + 1) ls
lines_count [] w place lives under = omega arith
lines_count (l ∷ ls) w place lives under =
    lines_count ls (after l w) place (lives_after (place + 1) (step_of l w).lives lives) (omega (arith, line_servers l w))
    ∙ ap (λ n. n + starts_in (place + 1) ls) (line_count l w place lives under)
    ∙ start_more (starts (place + 1) l) l (filter (λ m. starts (place + 1) m) ls) (length lives) (starts_in (place + 1) ls) refl

pub world_count : (n m : ℕ) (oldest : Bool) (size : ℕ) (ls : List Line) (place : ℕ) → place < n
    → length (lives_of n m oldest size (place + 1) ls) ≡ boot_of (place + 1) ls
world_count n m oldest size ls place under =
    lines_count ls (new_world n m oldest size) place (first_life m ∷ []) (omega (arith, length-replicate n (new_server m oldest size)))

-- the boot number of a server after any lines
pub world_boots : (n m : ℕ) (oldest : Bool) (size : ℕ) (ls : List Line) (place : ℕ) → place < n
    → (server_at place (after_all ls (new_world n m oldest size)).servers).boot ≡ min (boot_of (place + 1) ls) 65535
world_boots n m oldest size ls place under =
    (world_lives n m oldest size ls place under).stands.boot_is ∙ ap (λ n. min n 65535) (world_count n m oldest size ls place under)

-- as far as a scenario can start servers, the lives of a server have the boot numbers from 1 on
pub world_lives_boots : (n m : ℕ) (oldest : Bool) (size : ℕ) (ls : List Line) (place : ℕ) → place < n → boot_of (place + 1) ls ≤ 65535
    → boots_of (lives_of n m oldest size (place + 1) ls) ≡ down_from (boot_of (place + 1) ls)
world_lives_boots n m oldest size ls place under few =
    (world_lives n m oldest size ls place under).stands.boots
    ∙ few_boots _ (omega (arith, world_count n m oldest size ls place under))
    ∙ ap down_from (world_count n m oldest size ls place under)
