-- A life is what the source says of it: its current values, its feeds and its boot number, when it begins, is fed or ends.
use Rattle.std.proofs.Common.{◌≡◌, ◌≢◌, ◌==◌, ℕ, zero, suc, ◌+◌, ◌≤◌, List, [], ◌∷◌, ◌++◌, Bool, true, false, cond, Option, Some, length, take, drop, map, min, refl, sym, ap, subst, ◌∙◌, arith, slice_get}
use Rattle.std.specs.Prelude.{if◌then◌else◌}
use Rattle.std.proofs.lemmas.Bool.Decides.{nat_tests}
use Rattle.std.proofs.lemmas.List.{append_assoc, length-append, length-map, length-take, length-drop}
use Rattle.std.proofs.Math.Seq.{take-append_seam}
use Rattle.set_model.specs.declared.source.Change.{Change}
use Rattle.item_queue.specs.Queue.{without_oldest}
use Rattle.direct_world.specs.State.{ServerState}
use Rattle.direct_world.specs.Lives.{Life, Begins, IsFed, feeding, fed_more, lives_by, lives_after, values_from, IsLifeOf, AreLivesOf, down_from}
use Rattle.direct_world.specs.Server.{next_of, fed, left_after, next_boot, started, stopped, values_of}
use Rattle.direct_world.proofs.Feeding.{get_seam}
use Rattle.direct_world.proofs.Servers.{feed_split, length-opened_all, length-pushed_all}

-- the boot numbers of so many lives, the newest first: they stay at the last value of their type
abbrev pub boots_from : ℕ → List ℕ
boots_from zero = []
boots_from (suc n) = min (suc n) 65535 ∷ boots_from n

abbrev pub boots_of : List Life → List ℕ
boots_of lives = map (λ (life : Life). life.boot) lives

-- the lives of a server that has this boot number and stands at this position of the source
pub record LifeStands (source : List Change) (items boot position : ℕ) (lives : List Life) : Type 0 where
  pub latest : Life
  pub former : List Life
  pub are : lives ≡ latest ∷ former
  pub now : IsLifeOf source items latest
  pub at : position ≡ now.first + length latest.fed
  pub formers : AreLivesOf source items former
  pub boot_is : boot ≡ min (length lives) 65535
  pub boots : boots_of lives ≡ boots_from (length lives)

-- the feeds of a life, and one more
feeds_more : (source : List Change) (first : ℕ) (fed : List Change) (c : Change) → slice_get source (first + length fed) ≡ Some c
    → ((k : ℕ) (change : Change) → slice_get fed k ≡ Some change → slice_get source (first + k) ≡ Some change)
    → (k : ℕ) (change : Change) → slice_get (fed ++ c ∷ []) k ≡ Some change → slice_get source (first + k) ≡ Some change
feeds_more source first [] c here h zero change is = here ∙ is
feeds_more source first [] c here h (suc k) change is = absurd cc
feeds_more source first (x ∷ fed) c here h zero change is = h zero change is
feeds_more source first (x ∷ fed) c here h (suc k) change is =
    let same : first + suc k ≡ first + 1 + k = omega arith in
    let on : first + length (x ∷ fed) ≡ first + 1 + length fed = omega arith in
    let P : ℕ → Type 0 = λ n. slice_get source n ≡ Some c in
    let later = feeds_more source (first + 1) fed c (subst P on here)
    (λ j d g. let there : first + suc j ≡ first + 1 + j = omega arith in ap (slice_get source) (sym there) ∙ h (suc j) d g) k change is in
    ap (slice_get source) same ∙ later

fed_one : (source : List Change) (items boot position : ℕ) (lives : List Life) (c : Change) → slice_get source position ≡ Some c
    → LifeStands source items boot position lives → LifeStands source items boot (position + 1) (fed_more c lives)
fed_one source items boot position [] c here h = absurd cc
fed_one source items boot position (life ∷ lives) c here h =
    let same : life ≡ h.latest = cc in
    let rest : lives ≡ h.former = cc in
    let P : Life → Type 0 = λ l. (now : IsLifeOf source items l) × (position ≡ now.first + length l.fed) in
    let own = subst P (sym same) (h.now, h.at) in
    let Q : List Life → Type 0 = AreLivesOf source items in
    let fed_here : slice_get source ((own.0).first + length life.fed) ≡ Some c = ap (slice_get source) (sym own.1) ∙ here in
    record {
      latest = record life { fed = life.fed ++ c ∷ [] };
      former = lives;
      are = refl;
      now = record {
        first = (own.0).first;
        within = (own.0).within;
        values = (own.0).values;
        fed = feeds_more source (own.0).first life.fed c fed_here (own.0).fed;
      };
      at = let long = length-append life.fed (c ∷ []) in omega (arith, own.1);
      formers = subst Q (sym rest) h.formers;
      boot_is = h.boot_is;
      boots = h.boots;
    }

-- a server is fed these changes
fed_each : (source front changes rest : List Change) (items boot server : ℕ) (lives : List Life) → source ≡ front ++ (changes ++ rest)
    → LifeStands source items boot (length front) lives
    → LifeStands source items boot (length front + length changes) (lives_after server (feeding server changes) lives)
fed_each source front [] rest items boot server lives whole h =
    let same : length front ≡ length front + 0 = omega arith in
    let P : ℕ → Type 0 = λ n. LifeStands source items boot n lives in subst P same h
fed_each source front (c ∷ changes) rest items boot server lives whole h =
    let self : (server == server) ≡ true = grind (arith, nat_tests) in
    let here : slice_get source (length front) ≡ Some c = ap (λ s. slice_get s (length front)) whole ∙ get_seam front c (changes ++ rest) in
    let long : length (front ++ c ∷ []) ≡ length front + 1 = length-append front (c ∷ []) in
    let P : ℕ → Type 0 = λ n. LifeStands source items boot n (fed_more c lives) in
    let more = fed_each source (front ++ c ∷ []) changes rest items boot server (fed_more c lives)
    (whole ∙ sym (append_assoc front (c ∷ []) (changes ++ rest))) (subst P (sym long) (fed_one source items boot (length front) lives c here h)) in
    let end : length (front ++ c ∷ []) + length changes ≡ length front + length (c ∷ changes) = omega arith in
    let Q : ℕ → Type 0 = λ n. LifeStands source items boot n (lives_after server (feeding server changes) (fed_more c lives)) in
    let R : Bool → Type 0 = λ b. LifeStands source items boot (length front + length (c ∷ changes))
    (lives_after server (feeding server changes) (if b then fed_more c lives else lives)) in
    subst R (sym self) (subst Q end more)

-- a server and its lives: where it stands in the source so far, and how many queues it has
pub record Lives (source so_far : List Change) (items : ℕ) (s : ServerState) (lives : List Life) : Type 0 where
  pub stands : LifeStands source items s.boot s.position lives
  pub within : s.position ≤ length so_far
  pub width : length s.queues ≡ items

pub lives_fed : (so_far more : List Change) (items count server : ℕ) (s : ServerState) (lives : List Life)
    → Lives (so_far ++ more) so_far items s lives
    → Lives (so_far ++ more) so_far items (fed (next_of count so_far s) s) (lives_after server (feeding server (next_of count so_far s)) lives)
lives_fed so_far more items count server s lives h =
    let source = so_far ++ more in
    let front = take s.position source in
    let next = next_of count so_far s in
    let rest = drop count (drop s.position so_far) ++ more in
    let whole : source ≡ front ++ (next ++ rest) = feed_split so_far more s.position count h.within in
    let long : length front ≡ s.position = omega (arith, length-take s.position source, length-append so_far more, h.within) in
    let shorter : length next + s.position ≤ length so_far = omega (arith, length-take count (drop s.position so_far), length-drop s.position so_far, h.within) in
    let P : ℕ → Type 0 = λ n. LifeStands source items s.boot n lives in
    let Q : ℕ → Type 0 = λ n. LifeStands source items s.boot (n + length next) (lives_after server (feeding server next) lives) in
    record {
      stands = subst Q long (fed_each source front next rest items s.boot server lives whole (subst P (sym long) h.stands));
      within = omega arith;
      width = length-pushed_all next s.queues ∙ h.width;
    }

pub lives_stopped : (source so_far : List Change) (items : ℕ) (s : ServerState) (lives : List Life) → Lives source so_far items s lives
    → Lives source so_far items (stopped s) lives
lives_stopped source so_far items s lives h = record { stands = h.stands; within = h.within; width = h.width }

pub lives_taken : (source so_far : List Change) (items count : ℕ) (s : ServerState) (lives : List Life) → Lives source so_far items s lives
    → Lives source so_far items (record s { queues = left_after count s.queues }) lives
lives_taken source so_far items count s lives h =
    record { stands = h.stands; within = h.within; width = length-map s.queues (without_oldest count) ∙ h.width }

begins : (so_far more : List Change) (items boot position : ℕ) (lives : List Life) → LifeStands (so_far ++ more) items boot position lives
    → LifeStands (so_far ++ more) items (next_boot boot) (length so_far) (record { boot = next_boot boot; values = values_from 1 items so_far; fed = [] } ∷ lives)
begins so_far more items boot position lives h =
    let longer = length-append so_far more in
    let is = h.boot_is in
    let next : next_boot boot ≡ min (suc (length lives)) 65535 = omega arith in
    let P : List Life → Type 0 = AreLivesOf (so_far ++ more) items in
    record {
      latest = record { boot = next_boot boot; values = values_from 1 items so_far; fed = [] };
      former = lives;
      are = refl;
      now = record {
        first = length so_far;
        within = omega arith;
        values = ap (values_from 1 items) (sym (take-append_seam so_far more));
        fed = λ k change is. absurd cc;
      };
      at = omega arith;
      formers = subst P (sym h.are) (h.now, h.formers);
      boot_is = next;
      boots = ap (λ n. n ∷ boots_of lives) next ∙ ap (λ boots. min (suc (length lives)) 65535 ∷ boots) h.boots;
    }

pub lives_started : (so_far more : List Change) (items server : ℕ) (s : ServerState) (lives : List Life) → Lives (so_far ++ more) so_far items s lives
    → Lives (so_far ++ more) so_far items (started so_far s) (lives_after server (Begins server (next_boot s.boot) (values_of so_far s) ∷ []) lives)
lives_started so_far more items server s lives h =
    let self : (server == server) ≡ true = grind (arith, nat_tests) in
    let life : ℕ → Life = λ n. record { boot = next_boot s.boot; values = values_from 1 n so_far; fed = [] } in
    let P : ℕ → Type 0 = λ n. LifeStands (so_far ++ more) items (next_boot s.boot) (length so_far) (life n ∷ lives) in
    let Q : Bool → Type 0 = λ b. LifeStands (so_far ++ more) items (next_boot s.boot) (length so_far) (if b then life (length s.queues) ∷ lives else lives) in
    record {
      stands = subst Q (sym self) (subst P (sym h.width) (begins so_far more items s.boot s.position lives h.stands));
      within = omega arith;
      width = length-opened_all 1 so_far s.queues ∙ h.width;
    }

-- the source goes on
pub lives_later : (source so_far later : List Change) (items : ℕ) (s : ServerState) (lives : List Life) → length so_far ≤ length later
    → Lives source so_far items s lives → Lives source later items s lives
lives_later source so_far later items s lives longer h = record { stands = h.stands; within = omega (arith, h.within); width = h.width }

-- what another server is given leaves a server's lives as they are
pub fed_other : (server other : ℕ) (changes : List Change) (lives : List Life) → server ≢ other → lives_after server (feeding other changes) lives ≡ lives
fed_other server other [] lives off = refl
fed_other server other (c ∷ changes) lives off =
    let apart : (other == server) ≡ false = grind (arith, nat_tests) in
    ap (λ b. lives_after server (feeding other changes) (if b then fed_more c lives else lives)) apart ∙ fed_other server other changes lives off

pub begun_other : (server other boot : ℕ) (values : List (Option Change)) (lives : List Life) → server ≢ other
    → lives_after server (Begins other boot values ∷ []) lives ≡ lives
begun_other server other boot values lives off =
    let apart : (other == server) ≡ false = grind (arith, nat_tests) in
    ap (λ b. if b then record { boot = boot; values = values; fed = [] } ∷ lives else lives) apart

-- how many lives there are then
length-fed_more : (c : Change) (lives : List Life) → length (fed_more c lives) ≡ length lives
length-fed_more c [] = refl
length-fed_more c (life ∷ lives) = refl

fed_count_by : (b : Bool) (c : Change) (lives : List Life) → length (if b then fed_more c lives else lives) ≡ length lives
fed_count_by true c lives = length-fed_more c lives
fed_count_by false c lives = refl

pub fed_count : (server other : ℕ) (changes : List Change) (lives : List Life) → length (lives_after server (feeding other changes) lives) ≡ length lives
fed_count server other [] lives = refl
fed_count server other (c ∷ changes) lives =
    fed_count server other changes (lives_by server (IsFed other c) lives) ∙ fed_count_by (other == server) c lives

begun_count_by : (b : Bool) (life : Life) (lives : List Life) → length (if b then life ∷ lives else lives) ≡ length lives + cond b 1 0
begun_count_by true life lives = omega arith
begun_count_by false life lives = omega arith

pub begun_count : (server other boot : ℕ) (values : List (Option Change)) (lives : List Life)
    → length (lives_after server (Begins other boot values ∷ []) lives) ≡ length lives + cond (other == server) 1 0
begun_count server other boot values lives = begun_count_by (other == server) (record { boot = boot; values = values; fed = [] }) lives

-- as long as they are few, the boot numbers count the lives
pub few_boots : (n : ℕ) → n ≤ 65535 → boots_from n ≡ down_from n
few_boots zero few = refl
few_boots (suc n) few =
    let same : min (suc n) 65535 ≡ suc n = omega arith in
    ap (λ k. k ∷ boots_from n) same ∙ ap (λ boots. suc n ∷ boots) (few_boots n (omega arith))
