-- What the lines say, with one line more.
use Rattle.std.proofs.Common.{◌≡◌, ◌≢◌, ◌==◌, ℕ, ◌+◌, ◌-◌, ◌<◌, ◌≤◌, List, [], ◌∷◌, ◌++◌, Bool, true, false, cond, Some, length, reverse, refl, sym, ◌∙◌, ap, subst, arith, slice_index_or}
use Rattle.std.specs.Prelude.{find, filter, slice_set, ◌||◌}
use Rattle.std.proofs.lemmas.Bool.Decides.{nat_tests}
use Rattle.std.proofs.lemmas.List.{reverse-append, reverse-reverse, append-nil, length-append, get_or-set_other, get_or-replicate}
use Rattle.std.proofs.lemmas.List.Concat.{flat_map-append}
use Rattle.std.proofs.lemmas.List.Folds.{list_any-append}
use Rattle.std.proofs.lemmas.Grind.{get_or-set_at}
use Rattle.std.proofs.lemmas.List.Elements.{filter-append}
use Rattle.set_model.specs.declared.source.Change.{Change}
use Rattle.set_model.specs.Source.{End, no_end, IsEndOf}
use Rattle.set_model.proofs.SourceLemmas.{no_end_is}
use Rattle.scenario.specs.declared.line.Line.{Line}
use Rattle.scenario.specs.declared.line.Line.TheVariants as line
use Rattle.scenario.specs.declared.tally.Life.{Life}
use Rattle.scenario.specs.declared.tally.Tally.{Tally}
use Rattle.scenario.specs.Past.{sets_direct, is_direct_in, servers_of, items_of, servers_in, items_in, change_of, changes_in, starts, turns, runs_after, is_running, boot_of, ends, has_ended, listens, listens_in, ids_after, attached_before, attached_in}
use Rattle.scenario.specs.Reading.{fresh, life_of, blank_tally, tally_after, EndHasRoom, Recalls, MayFollow}

pub changes_in-more : (ls : List Line) (l : Line) → changes_in (ls ++ l ∷ []) ≡ changes_in ls ++ change_of l
changes_in-more ls l = flat_map-append change_of ls (l ∷ []) ∙ ap (λ cs. changes_in ls ++ cs) (append-nil (change_of l))

-- looking back from one line more begins with that line
reverse-more : (ls : List Line) (l : Line) → reverse (ls ++ l ∷ []) ≡ l ∷ reverse ls
reverse-more ls l = reverse-append ls (l ∷ [])

pub is_running-more : (server : ℕ) (ls : List Line) (l : Line)
    → is_running server (ls ++ l ∷ []) ≡ runs_after (cond (turns server l) (Some l) (find (λ m. turns server m) (reverse ls)))
is_running-more server ls l = ap (λ back. runs_after (find (λ m. turns server m) back)) (reverse-more ls l)

count_one : (b : Bool) (l : Line) (ls : List Line) → length (ls ++ cond b (l ∷ []) []) ≡ length ls + cond b 1 0
count_one true l ls = length-append ls (l ∷ [])
count_one false l ls = length-append ls []

pub boot_of-more : (server : ℕ) (ls : List Line) (l : Line) → boot_of server (ls ++ l ∷ []) ≡ boot_of server ls + cond (starts server l) 1 0
boot_of-more server ls l =
    let e = ap length (filter-append (λ m. starts server m) ls (l ∷ [])) ∙ count_one (starts server l) l (filter (λ m. starts server m) ls) in
    ap (λ n. 1 + n) e ∙ omega arith

pub listens_in-more : (ls : List Line) (l : Line) → listens_in (ls ++ l ∷ []) ≡ listens_in ls + cond (listens l) 1 0
listens_in-more ls l = ap length (filter-append listens ls (l ∷ [])) ∙ count_one (listens l) l (filter listens ls)

or_false : (a b : Bool) → (a || (b || false)) ≡ cond b true a
or_false true true = refl
or_false true false = refl
or_false false true = refl
or_false false false = refl

pub has_ended-more : (ls : List Line) (l : Line) → has_ended (ls ++ l ∷ []) ≡ cond (ends l) true (has_ended ls)
has_ended-more ls l = list_any-append ends ls (l ∷ []) ∙ or_false (has_ended ls) (ends l)

pub attached_in-more : (ls : List Line) (l : Line) → attached_in (ls ++ l ∷ []) ≡ ids_after (listens_in ls + 1) (attached_in ls) l
attached_in-more ls l =
    ap attached_before (reverse-more ls l) ∙ ap (λ ms. ids_after (listens_in ms + 1) (attached_in ls) l) (reverse-reverse ls)

-- the first line alone says the servers, the second the items
pub servers_in-more : (ls : List Line) (l : Line) → servers_of l ≡ 0 → servers_in (ls ++ l ∷ []) ≡ servers_in ls
servers_in-more [] l h = h
servers_in-more (m ∷ ls) l h = refl

pub items_in-more : (ls : List Line) (l : Line) → items_of l ≡ 0 → items_in (ls ++ l ∷ []) ≡ items_in ls
items_in-more [] l h = refl
items_in-more (m ∷ []) l h = h
items_in-more (m ∷ (n ∷ ls)) l h = refl

pub is_direct_in-more : (ls : List Line) (l : Line) → sets_direct l ≡ false → is_direct_in (ls ++ l ∷ []) ≡ is_direct_in ls
is_direct_in-more [] l h = h
is_direct_in-more (m ∷ ls) l h = refl

direct_first : (ls : List Line) (l : Line) → length ls ≡ 0 → is_direct_in (ls ++ l ∷ []) ≡ sets_direct l
direct_first [] l h = refl
direct_first (m ∷ ls) l h = absurd (omega arith)

changes_more : (ls : List Line) (l : Line) (n : ℕ) → n ≡ length (changes_in ls) → n + length (change_of l) ≡ length (changes_in (ls ++ l ∷ []))
changes_more ls l n e =
    let grown : length (changes_in ls ++ change_of l) ≡ length (changes_in ls) + length (change_of l) = length-append (changes_in ls) (change_of l) in
    let more : length (changes_in (ls ++ l ∷ [])) ≡ length (changes_in ls ++ change_of l) = ap length (changes_in-more ls l) in
    omega arith

servers_first : (ls : List Line) (l : Line) → length ls ≡ 0 → servers_in (ls ++ l ∷ []) ≡ servers_of l
servers_first [] l h = refl
servers_first (m ∷ ls) l h = absurd (omega arith)

items_second : (ls : List Line) (l : Line) → length ls ≡ 1 → items_in (ls ++ l ∷ []) ≡ items_of l
items_second [] l h = absurd (omega arith)
items_second (m ∷ []) l h = refl
items_second (m ∷ (n ∷ ls)) l h = absurd (omega arith)

-- a life that no line changes, and those that a stop and a start change
same_life : (server : ℕ) (ls : List Line) (l : Line) → turns server l ≡ false → starts server l ≡ false → life_of server (ls ++ l ∷ []) ≡ life_of server ls
same_life server ls l t s =
    let P : Bool → ℕ → Life = λ running boot. record { running = running; boot = boot } in
    let r : is_running server (ls ++ l ∷ []) ≡ is_running server ls =
    is_running-more server ls l ∙ ap (λ b. runs_after (cond b (Some l) (find (λ m. turns server m) (reverse ls)))) t in
    let n : boot_of server (ls ++ l ∷ []) ≡ boot_of server ls =
    boot_of-more server ls l ∙ ap (λ b. boot_of server ls + cond b 1 0) s ∙ omega arith in
    ap (λ running. P running (boot_of server (ls ++ l ∷ []))) r ∙ ap (λ boot. P (is_running server ls) boot) n

stopped_life : (server other : ℕ) (ls : List Line) → (other == server) ≡ true
    → life_of server (ls ++ line.Stop other ∷ []) ≡ record { running = false; boot = boot_of server ls }
stopped_life server other ls e =
    let P : Bool → ℕ → Life = λ running boot. record { running = running; boot = boot } in
    let r : is_running server (ls ++ line.Stop other ∷ []) ≡ false =
    is_running-more server ls (line.Stop other) ∙ ap (λ b. runs_after (cond b (Some (line.Stop other)) (find (λ m. turns server m) (reverse ls)))) e in
    let n : boot_of server (ls ++ line.Stop other ∷ []) ≡ boot_of server ls = boot_of-more server ls (line.Stop other) ∙ omega arith in
    ap (λ running. P running (boot_of server (ls ++ line.Stop other ∷ []))) r ∙ ap (λ boot. P false boot) n

started_life : (server other : ℕ) (ls : List Line) → (other == server) ≡ true
    → life_of server (ls ++ line.Start other ∷ []) ≡ record { running = true; boot = boot_of server ls + 1 }
started_life server other ls e =
    let P : Bool → ℕ → Life = λ running boot. record { running = running; boot = boot } in
    let r : is_running server (ls ++ line.Start other ∷ []) ≡ true =
    is_running-more server ls (line.Start other) ∙ ap (λ b. runs_after (cond b (Some (line.Start other)) (find (λ m. turns server m) (reverse ls)))) e in
    let n : boot_of server (ls ++ line.Start other ∷ []) ≡ boot_of server ls + 1 =
    boot_of-more server ls (line.Start other) ∙ ap (λ b. boot_of server ls + cond b 1 0) e in
    ap (λ running. P running (boot_of server (ls ++ line.Start other ∷ []))) r ∙ ap (λ boot. P true boot) n

-- the lives of eight servers are those that the lines say
abbrev pub AreLives : List Life → List Line → Type 0
AreLives lives ls = (server : ℕ) → server < 8 → slice_index_or lives server fresh ≡ life_of (server + 1) ls

lives_kept : (lives : List Life) (ls : List Line) (l : Line) → AreLives lives ls → ((server : ℕ) → turns server l ≡ false) → ((server : ℕ) → starts server l ≡ false)
    → AreLives lives (ls ++ l ∷ [])
lives_kept lives ls l h t s = λ server under. h server under ∙ sym (same_life (server + 1) ls l (t (server + 1)) (s (server + 1)))

lives_set_at : (lives : List Life) (ls : List Line) (l : Line) (other : ℕ) (life : Life) → length lives ≡ 8 → 1 ≤ other → other ≤ 8 → AreLives lives ls
    → life ≡ life_of other (ls ++ l ∷ [])
    → ((server : ℕ) → (other == server) ≡ false → (turns server l ≡ false) × (starts server l ≡ false))
    → (server : ℕ) → server < 8 → (b : Bool) → (other == server + 1) ≡ b
    → slice_index_or (slice_set lives (other - 1) life) server fresh ≡ life_of (server + 1) (ls ++ l ∷ [])
lives_set_at lives ls l other life long low high h is apart server under true e =
    let same : server ≡ other - 1 = grind (arith, nat_tests) in
    let here : other ≡ server + 1 = grind (arith, nat_tests) in
    get_or-set_at lives (other - 1) server life fresh same (omega arith) ∙ is ∙ ap (λ n. life_of n (ls ++ l ∷ [])) here
lives_set_at lives ls l other life long low high h is apart server under false e =
    let away : server ≢ other - 1 = grind (arith, nat_tests) in
    get_or-set_other lives (other - 1) server life fresh away ∙ h server under
    ∙ sym (same_life (server + 1) ls l (apart (server + 1) e).0 (apart (server + 1) e).1)

-- the life of a server in the table
life_there : (lives : List Life) (ls : List Line) (server : ℕ) → AreLives lives ls → 1 ≤ server → server ≤ 8
    → slice_index_or lives (server - 1) fresh ≡ life_of server ls
life_there lives ls server h low high =
    let e : server - 1 + 1 ≡ server = omega arith in
    h (server - 1) (omega arith) ∙ ap (λ n. life_of n ls) e

pub lives_stopped : (lives : List Life) (ls : List Line) (other : ℕ) → length lives ≡ 8 → 1 ≤ other → other ≤ 8 → AreLives lives ls
    → AreLives (slice_set lives (other - 1) (record { running = false; boot = (slice_index_or lives (other - 1) fresh).boot })) (ls ++ line.Stop other ∷ [])
lives_stopped lives ls other long low high h = λ server under.
    let P : ℕ → Life = λ boot. record { running = false; boot = boot } in
    lives_set_at lives ls (line.Stop other) other _ long low high h
    (ap (λ life. P life.boot) (life_there lives ls other h low high) ∙ sym (stopped_life other other ls (grind (arith, nat_tests))))
    (λ s e. (e, refl)) server under _ refl

pub lives_started : (lives : List Life) (ls : List Line) (other : ℕ) → length lives ≡ 8 → 1 ≤ other → other ≤ 8 → AreLives lives ls
    → AreLives (slice_set lives (other - 1) (record { running = true; boot = (slice_index_or lives (other - 1) fresh).boot + 1 })) (ls ++ line.Start other ∷ [])
lives_started lives ls other long low high h = λ server under.
    let P : ℕ → Life = λ boot. record { running = true; boot = boot + 1 } in
    lives_set_at lives ls (line.Start other) other _ long low high h
    (ap (λ life. P life.boot) (life_there lives ls other h low high) ∙ sym (started_life other other ls (grind (arith, nat_tests))))
    (λ s e. (e, e)) server under _ refl

ids_of : (n m : ℕ) (xs ys : List ℕ) (l : Line) → n ≡ m → xs ≡ ys → ids_after (n + 1) xs l ≡ ids_after (m + 1) ys l
ids_of n m xs ys l e f = ap (λ k. ids_after (k + 1) xs l) e ∙ ap (λ zs. ids_after (m + 1) zs l) f

-- what of a table has to be shown for one line more
record Told (ls : List Line) (t : Tally) (l : Line) : Type 0 where
  direct : t.direct ≡ is_direct_in (ls ++ l ∷ [])
  servers : t.servers ≡ servers_in (ls ++ l ∷ [])
  few_servers : t.servers ≤ 8
  items : t.items ≡ items_in (ls ++ l ∷ [])
  few_items : t.items ≤ 64
  changes : t.changes ≡ length (changes_in (ls ++ l ∷ []))
  lives : AreLives t.lives (ls ++ l ∷ [])
  heard : t.listens ≡ listens_in (ls ++ l ∷ [])
  ended : t.ended ≡ has_ended (ls ++ l ∷ [])

recalls_by : (ls : List Line) (end more : End) (t u : Tally) (ids : List ℕ) (l : Line) → Recalls ls end t ids → IsEndOf more (changes_in ls ++ change_of l) → Told ls u l
    → Recalls (ls ++ l ∷ []) more u (ids_after (t.listens + 1) ids l)
recalls_by ls end more t u ids l h grown told = record {
  source_is = let P : List Change → Type 0 = λ cs. IsEndOf more cs in subst P (sym (changes_in-more ls l)) grown;
  direct_is = told.direct;
  servers_are = told.servers;
  few_servers = told.few_servers;
  few_items = told.few_items;
  items_are = told.items;
  changes_are = told.changes;
  lives_are = told.lives;
  listens_are = told.heard;
  ended_is = told.ended;
  attached_are = ids_of _ _ _ _ l h.listens_are h.attached_are ∙ sym (attached_in-more ls l);
}

same_changes : (ls : List Line) (end : End) (t : Tally) (ids : List ℕ) (l : Line) → Recalls ls end t ids → length (change_of l) ≡ 0 → t.changes ≡ length (changes_in (ls ++ l ∷ []))
same_changes ls end t ids l h c =
    let more : t.changes + length (change_of l) ≡ length (changes_in (ls ++ l ∷ [])) = changes_more ls l t.changes h.changes_are in
    omega arith

-- a line that says nothing of what the table has
told_same : (ls : List Line) (end : End) (t : Tally) (ids : List ℕ) (l : Line) → Recalls ls end t ids
    → sets_direct l ≡ false → servers_of l ≡ 0 → items_of l ≡ 0 → length (change_of l) ≡ 0
    → ((server : ℕ) → turns server l ≡ false) → ((server : ℕ) → starts server l ≡ false) → listens l ≡ false → ends l ≡ false
    → Told ls t l
told_same ls end t ids l h d s i c turn start listen last = record {
  direct = h.direct_is ∙ sym (is_direct_in-more ls l d);
  servers = h.servers_are ∙ sym (servers_in-more ls l s);
  few_servers = h.few_servers;
  few_items = h.few_items;
  items = h.items_are ∙ sym (items_in-more ls l i);
  changes = same_changes ls end t ids l h c;
  lives = lives_kept t.lives ls l h.lives_are turn start;
  heard = let e : listens_in (ls ++ l ∷ []) ≡ listens_in ls + 0 = listens_in-more ls l ∙ ap (λ b. listens_in ls + cond b 1 0) listen in
      let k : t.listens ≡ listens_in ls = h.listens_are in omega arith;
  ended = h.ended_is ∙ sym (has_ended-more ls l ∙ ap (λ b. cond b true (has_ended ls)) last);
}

-- what is recalled stays what the lines say
pub recalls_more : (ls : List Line) (end more : End) (t : Tally) (ids : List ℕ) (l : Line) → length t.lives ≡ 8 → Recalls ls end t ids → MayFollow ls l → IsEndOf more (changes_in ls ++ change_of l)
    → Recalls (ls ++ l ∷ []) more (tally_after t l) (ids_after (t.listens + 1) ids l)
recalls_more ls end more t ids (line.Set mode servers) long h may grown =
    let l : Line = line.Set mode servers in
    recalls_by ls end more t _ ids l h grown (record {
      direct = sym (direct_first ls l may.0);
      changes = same_changes ls end t ids l h refl;
      servers = sym (servers_first ls l may.0);
      few_servers = may.1;
      few_items = h.few_items;
      items = h.items_are ∙ sym (items_in-more ls l refl);
      lives = lives_kept t.lives ls l h.lives_are (λ _. refl) (λ _. refl);
      heard = let e : listens_in (ls ++ line.Set mode servers ∷ []) ≡ listens_in ls + 0 = listens_in-more ls (line.Set mode servers) in let k : t.listens ≡ listens_in ls = h.listens_are in omega arith;
      ended = h.ended_is ∙ sym (has_ended-more ls l);
    })
recalls_more ls end more t ids (line.Items items queue oldest) long h may grown =
    let l : Line = line.Items items queue oldest in
    recalls_by ls end more t _ ids l h grown (record {
      direct = h.direct_is ∙ sym (is_direct_in-more ls l refl);
      changes = same_changes ls end t ids l h refl;
      servers = h.servers_are ∙ sym (servers_in-more ls l refl);
      few_servers = h.few_servers;
      few_items = may.1;
      items = sym (items_second ls l may.0);
      lives = lives_kept t.lives ls l h.lives_are (λ _. refl) (λ _. refl);
      heard = let e : listens_in (ls ++ line.Items items queue oldest ∷ []) ≡ listens_in ls + 0 = listens_in-more ls (line.Items items queue oldest) in let k : t.listens ≡ listens_in ls = h.listens_are in omega arith;
      ended = h.ended_is ∙ sym (has_ended-more ls l);
    })
recalls_more ls end more t ids (line.Change change) long h may grown =
    let l : Line = line.Change change in
    recalls_by ls end more t _ ids l h grown (record {
      direct = h.direct_is ∙ sym (is_direct_in-more ls l refl);
      changes = changes_more ls l t.changes h.changes_are;
      servers = h.servers_are ∙ sym (servers_in-more ls l refl);
      few_servers = h.few_servers;
      few_items = h.few_items;
      items = h.items_are ∙ sym (items_in-more ls l refl);
      lives = lives_kept t.lives ls l h.lives_are (λ _. refl) (λ _. refl);
      heard = let e : listens_in (ls ++ line.Change change ∷ []) ≡ listens_in ls + 0 = listens_in-more ls (line.Change change) in let k : t.listens ≡ listens_in ls = h.listens_are in omega arith;
      ended = h.ended_is ∙ sym (has_ended-more ls l);
    })
recalls_more ls end more t ids (line.Stop server) long h may grown =
    let l : Line = line.Stop server in
    let under : server ≤ 8 = let e : t.servers ≡ servers_in ls = h.servers_are in let f : t.servers ≤ 8 = h.few_servers in omega arith in
    recalls_by ls end more t _ ids l h grown (record {
      direct = h.direct_is ∙ sym (is_direct_in-more ls l refl);
      changes = same_changes ls end t ids l h refl;
      servers = h.servers_are ∙ sym (servers_in-more ls l refl);
      few_servers = h.few_servers;
      few_items = h.few_items;
      items = h.items_are ∙ sym (items_in-more ls l refl);
      lives = lives_stopped t.lives ls server long may.0 under h.lives_are;
      heard = let e : listens_in (ls ++ line.Stop server ∷ []) ≡ listens_in ls + 0 = listens_in-more ls (line.Stop server) in let k : t.listens ≡ listens_in ls = h.listens_are in omega arith;
      ended = h.ended_is ∙ sym (has_ended-more ls l);
    })
recalls_more ls end more t ids (line.Start server) long h may grown =
    let l : Line = line.Start server in
    let under : server ≤ 8 = let e : t.servers ≡ servers_in ls = h.servers_are in let f : t.servers ≤ 8 = h.few_servers in omega arith in
    recalls_by ls end more t _ ids l h grown (record {
      direct = h.direct_is ∙ sym (is_direct_in-more ls l refl);
      changes = same_changes ls end t ids l h refl;
      servers = h.servers_are ∙ sym (servers_in-more ls l refl);
      few_servers = h.few_servers;
      few_items = h.few_items;
      items = h.items_are ∙ sym (items_in-more ls l refl);
      lives = lives_started t.lives ls server long may.0 under h.lives_are;
      heard = let e : listens_in (ls ++ line.Start server ∷ []) ≡ listens_in ls + 0 = listens_in-more ls (line.Start server) in let k : t.listens ≡ listens_in ls = h.listens_are in omega arith;
      ended = h.ended_is ∙ sym (has_ended-more ls l);
    })
recalls_more ls end more t ids (line.Listen item) long h may grown =
    let l : Line = line.Listen item in
    recalls_by ls end more t _ ids l h grown (record {
      direct = h.direct_is ∙ sym (is_direct_in-more ls l refl);
      changes = same_changes ls end t ids l h refl;
      servers = h.servers_are ∙ sym (servers_in-more ls l refl);
      few_servers = h.few_servers;
      few_items = h.few_items;
      items = h.items_are ∙ sym (items_in-more ls l refl);
      lives = lives_kept t.lives ls l h.lives_are (λ _. refl) (λ _. refl);
      heard = let e : listens_in (ls ++ line.Listen item ∷ []) ≡ listens_in ls + 1 = listens_in-more ls (line.Listen item) in let k : t.listens ≡ listens_in ls = h.listens_are in omega arith;
      ended = h.ended_is ∙ sym (has_ended-more ls l);
    })
recalls_more ls end more t ids line.End long h may grown =
    recalls_by ls end more t _ ids line.End h grown (record {
      direct = h.direct_is ∙ sym (is_direct_in-more ls line.End refl);
      changes = same_changes ls end t ids line.End h refl;
      servers = h.servers_are ∙ sym (servers_in-more ls line.End refl);
      few_servers = h.few_servers;
      few_items = h.few_items;
      items = h.items_are ∙ sym (items_in-more ls line.End refl);
      lives = lives_kept t.lives ls line.End h.lives_are (λ _. refl) (λ _. refl);
      heard = let e : listens_in (ls ++ line.End ∷ []) ≡ listens_in ls + 0 = listens_in-more ls line.End in let k : t.listens ≡ listens_in ls = h.listens_are in omega arith;
      ended = sym (has_ended-more ls line.End);
    })
recalls_more ls end more t ids l long h may grown = recalls_by ls end more t _ ids l h grown (told_same ls end t ids l h refl refl refl refl (λ _. refl) (λ _. refl) refl refl)

-- before any line nothing is recalled
pub recalls_none : (end : End) → end ≡ no_end → Recalls [] end blank_tally []
recalls_none end e = record {
  source_is = no_end_is end e;
  direct_is = refl;
  changes_are = refl;
  servers_are = refl;
  few_servers = omega arith;
  items_are = refl;
  few_items = omega arith;
  lives_are = λ server under. get_or-replicate 8 server fresh fresh under;
  listens_are = refl;
  ended_is = refl;
  attached_are = refl;
}

-- equal parts recall equal lines
pub recalls_at : (ls ks : List Line) (end : End) (t u : Tally) (ids others : List ℕ) → ls ≡ ks → t ≡ u → ids ≡ others → Recalls ls end t ids → Recalls ks end u others
recalls_at ls ks end t u ids others e g i h =
    let P : List Line → Type 0 = λ x. Recalls x end u others in
    let R : Tally → Type 0 = λ x. Recalls ls end x others in
    let S : List ℕ → Type 0 = λ x. Recalls ls end t x in
    subst P e (subst R g (subst S i h))

-- what a step leaves recalls one line more
pub recalls_then : (ls ks : List Line) (end more : End) (t u : Tally) (ids others : List ℕ) (l : Line) → length t.lives ≡ 8 → Recalls ls end t ids → MayFollow ls l
    → ks ≡ ls ++ l ∷ [] → IsEndOf more (changes_in ls ++ change_of l) → u ≡ tally_after t l → others ≡ ids_after (t.listens + 1) ids l → Recalls ks more u others
recalls_then ls ks end more t u ids others l long h may e grown g i =
    recalls_at _ _ _ _ _ _ _ (sym e) (sym g) (sym i) (recalls_more ls end more t ids l long h may grown)

room_when : (n m : ℕ) → n ≡ m → m < 200000 → n < 200000
room_when n m e few = omega arith

-- a line that may follow finds room at the end of the source
pub end_has_room : (ls : List Line) (end : End) (l : Line) → IsEndOf end (changes_in ls) → MayFollow ls l → EndHasRoom end l
end_has_room ls end (line.Change change) h may = room_when _ _ h.count_is may
end_has_room ls end _ h may = tt
