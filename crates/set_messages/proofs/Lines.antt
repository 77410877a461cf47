-- Lines of a scenario: over messages a set shows what one over bytes does.
use Rattle.std.proofs.Common.{◌≡◌, ℕ, zero, suc, ◌+◌, ◌-◌, ◌^◌, ◌≤◌, ◌<◌, min, nat_le, Bool, true, false, cond, List, [], ◌∷◌, ◌++◌, take, drop, length, Option, Some, None, refl, sym, ap, subst, arith}
use Rattle.std.specs.List.{AllByRecursion}
use Rattle.set_model.specs.declared.source.Change.{Change}
use Rattle.set_model.specs.declared.source.SourceFault.{SourceFault}
use Rattle.set_model.specs.Source.{refusal}
use Rattle.direct_world.specs.Server.{place_in}
use Rattle.direct_world.specs.World.{appended, appended_unless}
use Rattle.scenario.specs.declared.line.Line.{Line}
use Rattle.scenario.specs.declared.line.Line.TheVariants as line
use Rattle.server_keeps.specs.Fitting.{FitsChange}
use Rattle.server_messages.specs.Showing.{ServerStands}
use Rattle.set_rules.specs.Slots.{currents, fed, fed_with, happens, next_boot, started}
use Rattle.set_rules.specs.Moves.{ended, halved, in_slot, lost, slot_at}
use Rattle.set_rules.specs.World.{Beginning, after, after_all, at_place, at_server, begun}
use Rattle.set_rules.proofs.Places.{place_within}
use Rattle.set_world.specs.Bytes as bytes
use Rattle.set_world.specs.State.{ByteSet}
use Rattle.ua_client.specs.State as client
use Rattle.ua_server.specs.State as server
use Rattle.set_messages.specs.Fitting.{FitsLine}
use Rattle.set_messages.specs.Nodes.{Client, Server, nodes}
use Rattle.set_messages.specs.World.{MessageSet}
use Rattle.set_messages.proofs.Facts.{ClientLaws, LinkExpects, LinkHolds, ServerLaws}
use Rattle.set_messages.proofs.Slots.{MessageSlot, fed_shows, happens_shows, started_shows}
use Rattle.set_messages.proofs.Sets.{IsShown, ShowsAt}
use Rattle.set_messages.proofs.Moves.{ended_shows, halved_shows, in_one, lost_shows}
use Rattle.set_messages.proofs.Turns.{rounds_show, ticked_shows}

-- ---- changes that fit

take_fits : (n : ℕ) (changes : List Change) → AllByRecursion FitsChange changes → AllByRecursion FitsChange (take n changes)
take_fits zero changes all = tt
take_fits (suc n) [] all = tt
take_fits (suc n) (change ∷ changes) all = (all.0, take_fits n changes all.1)

drop_fits : (n : ℕ) (changes : List Change) → AllByRecursion FitsChange changes → AllByRecursion FitsChange (drop n changes)
drop_fits zero changes all = all
drop_fits (suc n) [] all = tt
drop_fits (suc n) (change ∷ changes) all = drop_fits n changes all.1

one_more : (changes : List Change) (change : Change) → AllByRecursion FitsChange changes → FitsChange change → AllByRecursion FitsChange (changes ++ change ∷ [])
one_more [] change all one = (one, tt)
one_more (x ∷ changes) change all one = (all.0, one_more changes change all.1 one)

join_fits : (xs ys : List Change) → AllByRecursion FitsChange xs → AllByRecursion FitsChange ys → AllByRecursion FitsChange (xs ++ ys)
join_fits [] ys one other = other
join_fits (x ∷ xs) ys one other = (one.0, join_fits xs ys one.1 other)

appended_unless_fits : (fault : Option SourceFault) (change : Change) (source : List Change) → AllByRecursion FitsChange source → FitsChange change
    → AllByRecursion FitsChange (appended_unless fault change source)
appended_unless_fits None change source all one = one_more source change all one
appended_unless_fits (Some fault) change source all one = all

appended_if : (b : Bool) (change : Change) (source : List Change) → AllByRecursion FitsChange source → FitsChange change
    → AllByRecursion FitsChange (cond b (appended_unless (refusal source change) change source) source)
appended_if true change source all one = appended_unless_fits (refusal source change) change source all one
appended_if false change source all one = all

module _ (Shows : (ℕ → ℕ) → client.BytesState → Client → Type 0) (sl : ServerLaws) (cl : ClientLaws Shows) where
  -- ---- feeds and levels

  fed_with_shows : (place : ℕ) (changes : List Change) (firsts : ℕ → ℕ) (rc : client.BytesState) (s : bytes.ByteSlot) (z : MessageSlot) → AllByRecursion FitsChange changes
      → ShowsAt Shows firsts rc place s z → ShowsAt Shows firsts rc place (fed_with bytes.nodes changes s) (fed_with nodes changes z)
  fed_with_shows place changes firsts rc s z fits x =
      let y = fed_shows sl (LinkExpects (place + 1) rc) (LinkHolds (place + 1) rc) (firsts (place + 1)) changes s z fits x in
      record { boot = y.boot; position = ap (λ n. n + length changes) x.position; held = y.held; given = y.given; shown = y.shown }

  fed_slot_shows : (place amount : ℕ) (source : List Change) (firsts : ℕ → ℕ) (rc : client.BytesState) (s : bytes.ByteSlot) (z : MessageSlot) → AllByRecursion FitsChange source
      → ShowsAt Shows firsts rc place s z → ShowsAt Shows firsts rc place (fed bytes.nodes amount source s) (fed nodes amount source z)
  fed_slot_shows place amount source firsts rc s z fits x =
      subst (λ n. ShowsAt Shows firsts rc place (fed bytes.nodes amount source s) (fed_with nodes (take amount (drop n source)) z)) x.position
      (fed_with_shows place (take amount (drop s.position source)) firsts rc s z (take_fits amount (drop s.position source) (drop_fits s.position source fits)) x)

  fed_set_shows : (amount place count : ℕ) (b : ByteSet) (m : MessageSet) → place + 1 ≤ count → IsShown Shows count b m
      → IsShown Shows count (in_slot place (fed bytes.nodes amount b.source) b) (in_slot place (fed nodes amount m.source) m)
  fed_set_shows amount place count b m here x =
      subst (λ l. IsShown Shows count (in_slot place (fed bytes.nodes amount b.source) b) (in_slot place (fed nodes amount l) m)) x.set.source
      (in_one Shows sl cl place count (fed bytes.nodes amount b.source) (fed nodes amount b.source) b m here
      (λ firsts s z y. fed_slot_shows place amount b.source firsts b.client s z x.set.fits y) x)

  level_shows : (level place count : ℕ) (b : ByteSet) (m : MessageSet) → level < 2 ^ 8 → place + 1 ≤ count → IsShown Shows count b m
      → IsShown Shows count (in_slot place (happens bytes.nodes (bytes.nodes.levels level)) b) (in_slot place (happens nodes (nodes.levels level)) m)
  level_shows level place count b m fits here x =
      in_one Shows sl cl place count (happens bytes.nodes (bytes.nodes.levels level)) (happens nodes (nodes.levels level)) b m here
      (λ firsts s z. happens_shows sl (LinkExpects (place + 1) b.client) (LinkHolds (place + 1) b.client) (firsts (place + 1)) (bytes.nodes.levels level) (nodes.levels level) s z (sl.leveled level fits)) x

  held_shows : (held : Bool) (place count : ℕ) (b : ByteSet) (m : MessageSet) → place + 1 ≤ count → IsShown Shows count b m
      → IsShown Shows count (in_slot place (λ s. record s { held = held }) b) (in_slot place (λ s. record s { held = held }) m)
  held_shows held place count b m here x =
      in_one Shows sl cl place count (λ s. record s { held = held }) (λ s. record s { held = held }) b m here
      (λ firsts s z y. record { boot = y.boot; position = y.position; held = refl; given = y.given; shown = y.shown }) x

  source_shows : (change : Change) (count : ℕ) (b : ByteSet) (m : MessageSet) → FitsChange change → IsShown Shows count b m
      → IsShown Shows count (record b { source = appended change b.source }) (record m { source = appended change m.source })
  source_shows change count b m fits x = record {
    firsts = x.firsts;
    set = record {
      source = ap (appended change) x.set.source;
      fits = appended_if (nat_le change.pico 9999) change b.source x.set.fits fits;
      slots = x.set.slots;
      talks = x.set.talks;
      known = x.set.known;
      client = x.set.client;
      each = x.set.each;
    };
  }

  -- ---- all lines but for the beginning of lives

  module _ (items : ℕ) (begin_bytes : Beginning server.BytesState) (begin_messages : Beginning Server)
      (begins : (place boot : ℕ) (source : List Change) → boot < 2 ^ 16 → AllByRecursion FitsChange source
      → (firsts : ℕ → ℕ) × ServerStands firsts (begin_bytes (place + 1) boot (currents items source)) (begin_messages (place + 1) boot (currents items source))
      × ((k : ℕ) → (begin_messages (place + 1) boot (currents items source)).ends k ≡ None)) where
    at_cases : (found : Option ℕ) (number count : ℕ) (f : ℕ → ByteSet → ByteSet) (g : ℕ → MessageSet → MessageSet) (b : ByteSet) (m : MessageSet)
        → place_in number count ≡ found → ((place : ℕ) → place + 1 ≤ count → IsShown Shows count (f place b) (g place m)) → IsShown Shows count b m
        → IsShown Shows count (at_place bytes.nodes begin_bytes items found f b) (at_place nodes begin_messages items found g m)
    at_cases None number count f g b m is step x = x
    at_cases (Some place) number count f g b m is step x = step place (place_within number count place is)

    at_shows : (number count : ℕ) (f : ℕ → ByteSet → ByteSet) (g : ℕ → MessageSet → MessageSet) (b : ByteSet) (m : MessageSet)
        → ((place : ℕ) → place + 1 ≤ count → IsShown Shows count (f place b) (g place m)) → IsShown Shows count b m
        → IsShown Shows count (at_server bytes.nodes begin_bytes items number f b) (at_server nodes begin_messages items number g m)
    at_shows number count f g b m step x =
        subst (λ n. IsShown Shows count (at_place bytes.nodes begin_bytes items (place_in number n) f b) (at_server nodes begin_messages items number g m)) (sym x.set.slots)
        (subst (λ n. IsShown Shows count (at_place bytes.nodes begin_bytes items (place_in number count) f b) (at_place nodes begin_messages items (place_in number n) g m)) (sym x.set.talks)
        (at_cases (place_in number count) number count f g b m refl step x))

    small_boot : (n : ℕ) → min (n + 1) (2 ^ 16 - 1) < 2 ^ 16
    small_boot n = omega arith

    begun_shows : (place count : ℕ) (b : ByteSet) (m : MessageSet) → place + 1 ≤ count → IsShown Shows count b m
        → IsShown Shows count (begun bytes.nodes begin_bytes items place b) (begun nodes begin_messages items place m)
    begun_shows place count b m here x =
        let boot = next_boot (slot_at place b) in
        let life = begins place boot b.source (small_boot (slot_at place b).boot) x.set.fits in
        let r = begin_bytes (place + 1) boot (currents items b.source) in
        subst (λ l. IsShown Shows count (begun bytes.nodes begin_bytes items place b)
        (in_slot place (started (begin_messages (place + 1) (next_boot (slot_at place m)) (currents items l)) (length l)) m)) x.set.source
        (subst (λ n. IsShown Shows count (begun bytes.nodes begin_bytes items place b)
        (in_slot place (started (begin_messages (place + 1) (min (n + 1) (2 ^ 16 - 1)) (currents items b.source)) (length b.source)) m)) (x.set.each place here).boot
        (in_one Shows sl cl place count (started r (length b.source)) (started (begin_messages (place + 1) boot (currents items b.source)) (length b.source)) b m here
        (λ firsts s z. started_shows sl (LinkExpects (place + 1) b.client) (LinkHolds (place + 1) b.client) (firsts (place + 1)) life.0 r
        (begin_messages (place + 1) boot (currents items b.source)) (length b.source) s z life.1 life.2) x))

    line_shows : (l : Line) (count : ℕ) (b : ByteSet) (m : MessageSet) → FitsLine l → IsShown Shows count b m
        → IsShown Shows count (after bytes.nodes begin_bytes items l b) (after nodes begin_messages items l m)
    line_shows (line.Change change) count b m fits x = source_shows change count b m fits x
    line_shows (line.Feed server amount) count b m fits x =
        at_shows server count (λ place. in_slot place (fed bytes.nodes amount b.source)) (λ place. in_slot place (fed nodes amount m.source)) b m (λ place here. fed_set_shows amount place count b m here x) x
    line_shows (line.Take server amount) count b m fits x = x
    line_shows (line.Tick ms) count b m fits x = ticked_shows Shows sl cl ms count b m x
    line_shows (line.Pass amount) count b m fits x = rounds_show Shows sl cl amount count b m x
    line_shows (line.Level server level) count b m fits x =
        at_shows server count (λ place. in_slot place (happens bytes.nodes (bytes.nodes.levels level))) (λ place. in_slot place (happens nodes (nodes.levels level))) b m
        (λ place here. level_shows level place count b m fits here x) x
    line_shows (line.Stop server) count b m fits x = at_shows server count (ended bytes.nodes) (ended nodes) b m (λ place here. ended_shows Shows sl cl place count b m here x) x
    line_shows (line.Start server) count b m fits x =
        at_shows server count (begun bytes.nodes begin_bytes items) (begun nodes begin_messages items) b m (λ place here. begun_shows place count b m here x) x
    line_shows (line.Cut server) count b m fits x = at_shows server count (lost bytes.nodes) (lost nodes) b m (λ place here. lost_shows Shows sl cl place count b m here x) x
    line_shows (line.Half server) count b m fits x = at_shows server count (halved bytes.nodes) (halved nodes) b m (λ place here. halved_shows Shows sl cl place count b m here x) x
    line_shows (line.Hold server) count b m fits x =
        at_shows server count (λ place. in_slot place (λ s. record s { held = true })) (λ place. in_slot place (λ s. record s { held = true })) b m (λ place here. held_shows true place count b m here x) x
    line_shows (line.Free server) count b m fits x =
        at_shows server count (λ place. in_slot place (λ s. record s { held = false })) (λ place. in_slot place (λ s. record s { held = false })) b m (λ place here. held_shows false place count b m here x) x
    line_shows other count b m fits x = x

    pub lines_show : (lines : List Line) (count : ℕ) (b : ByteSet) (m : MessageSet) → AllByRecursion FitsLine lines → IsShown Shows count b m
        → IsShown Shows count (after_all bytes.nodes begin_bytes items lines b) (after_all nodes begin_messages items lines m)
    lines_show [] count b m fits x = x
    lines_show (l ∷ lines) count b m fits x =
        lines_show lines count (after bytes.nodes begin_bytes items l b) (after nodes begin_messages items l m) fits.1 (line_shows l count b m fits.0 x)
