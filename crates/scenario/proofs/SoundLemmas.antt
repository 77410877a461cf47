-- Each line that is made from a seed may stand after those before it.
use Rattle.std.proofs.Common.{◌≡◌, ◌≢◌, ◌==◌, ℕ, zero, suc, ◌+◌, ◌-◌, ◌*◌, ◌<◌, ◌≤◌, ◌^◌, ℤ, pos, List, [], ◌∷◌, ◌++◌, Bool, true, false, cond, not, Option, Some, Ok, length, reverse, refl, sym, ◌∙◌, ap, subst, arith, rules}
use Rattle.std.specs.Prelude.{find, int_lt, nat_lt, ◌&&◌, ◌||◌}
use Rattle.std.specs.Ordering.{int_eq}
use Rattle.std.proofs.Math.Nat.{mod-lt}
use Rattle.std.proofs.lemmas.Bool.Decides.{nat_tests}
use Rattle.std.proofs.lemmas.List.{append_assoc, append-nil, length-append, reverse-append}
use Rattle.set_model.specs.declared.source.Change.{Change}
use Rattle.set_model.specs.Source.{Follows}
use Rattle.scenario.specs.declared.line.Line.{Line}
use Rattle.scenario.specs.declared.line.Line.TheVariants as line
use Rattle.scenario.specs.Past.{is_direct, sets_direct, is_direct_in, servers_of, items_of, servers_in, items_in, change_of, changes_in, is_running, boot_of, ends, has_ended}
use Rattle.ua_base.specs.declared.modes.SetMode.{SetMode}
use Rattle.ua_base.specs.declared.modes.SetMode.TheVariants.{Hot, Warm, Cold}
use Rattle.scenario.specs.declared.rules.Rules.{Rules}
use Rattle.scenario.specs.Rules.{rules_of_replay}
use Rattle.scenario.specs.Texts.{written}
use Rattle.scenario.specs.Scenario.{scenario_of}
use Rattle.scenario.proofs.StandLemmas.{stands_may, standing_read}
use Rattle.scenario.specs.Reading.{MayFollow}
use Rattle.scenario.specs.Valid.{IsFrom, IsBetween, Stands, AllStand}
use Rattle.scenario.specs.Generate.{Course, begun, changed, other, one_more, course_of, generated, mode_of_draw, set_drawn, items_drawn, next_state, drawn, first_draw, second_draw, server_drawn, start_or_pass, run_or_start, befalling_drawn, change_drawn, line_drawn}
use Rattle.scenario.specs.Sound.{IsUpTo, AllUpTo, IsSound}
use Rattle.scenario.proofs.PastLemmas.{changes_in-more, servers_in-more, items_in-more, has_ended-more, is_direct_in-more}

pub drawn_below : (below state : ℕ) → 0 < below → drawn below state < below
unfolding drawn
drawn_below below state h = mod-lt _ h

-- what a line that is no change says of the set
record IsPlain (l : Line) : Type 0 where
  direct : sets_direct l ≡ false
  servers : servers_of l ≡ 0
  items : items_of l ≡ 0
  none : change_of l ≡ []
  open_still : ends l ≡ false

-- such a line may stand after these
record IsNext (pool : ℕ) (before : List Line) (l : Line) : Type 0 where
  stands : Stands (rules_of_replay pool) before l
  plain : IsPlain l

either : (pool : ℕ) (before : List Line) (b : Bool) (x y : Line) → IsNext pool before x → IsNext pool before y → IsNext pool before (cond b x y)
either pool before true x y h k = h
either pool before false x y h k = k

where_true : (pool : ℕ) (before : List Line) (b : Bool) (x y : Line) → (b ≡ true → IsNext pool before x) → (b ≡ false → IsNext pool before y) → IsNext pool before (cond b x y)
where_true pool before true x y h k = h refl
where_true pool before false x y h k = k refl

between : (time : ℕ) (before : List Line) → IsSound time before → IsBetween before
between time before h = (h.long, h.open_still)

over : (time : ℕ) (before : List Line) → IsSound time before → not (is_direct_in before) ≡ true
over time before h = ap not h.over_bytes

server_within : (time : ℕ) (before : List Line) (state : ℕ) → IsSound time before → IsFrom 1 (servers_in before) (server_drawn before state)
server_within time before state h =
    let some : 1 ≤ servers_in before = h.some_servers in
    let few : first_draw (servers_in before) state < servers_in before = drawn_below (servers_in before) (next_state state) (omega arith) in
    (omega arith, omega arith)

draw_within : (low below state : ℕ) → 0 < below → IsFrom low (low + below - 1) (low + first_draw below state)
draw_within low below state h =
    let few : first_draw below state < below = drawn_below below (next_state state) h in
    (omega arith, omega arith)

pass_next : (pool time : ℕ) (before : List Line) (rounds : ℕ) → IsSound time before → IsFrom 1 1000 rounds → IsNext pool before (line.Pass rounds)
pass_next pool time before rounds h k = record {
  stands = record { between = between time before h; allowed = refl; of_mode = over time before h; suit = k; needs = tt };
  plain = record { direct = refl; servers = refl; items = refl; none = refl; open_still = refl };
}

tick_next : (pool time : ℕ) (before : List Line) (ms : ℕ) → IsSound time before → IsFrom 1 3600000 ms → IsNext pool before (line.Tick ms)
tick_next pool time before ms h k = record {
  stands = record { between = between time before h; allowed = refl; of_mode = over time before h; suit = k; needs = tt };
  plain = record { direct = refl; servers = refl; items = refl; none = refl; open_still = refl };
}

piece_next : (pool time : ℕ) (before : List Line) (bytes : ℕ) → IsSound time before → IsFrom 1 1048576 bytes → IsNext pool before (line.Piece bytes)
piece_next pool time before bytes h k = record {
  stands = record { between = between time before h; allowed = refl; of_mode = over time before h; suit = k; needs = tt };
  plain = record { direct = refl; servers = refl; items = refl; none = refl; open_still = refl };
}

cut_next : (pool time : ℕ) (before : List Line) (server : ℕ) → IsSound time before → IsFrom 1 (servers_in before) server → IsNext pool before (line.Cut server)
cut_next pool time before server h k = record {
  stands = record { between = between time before h; allowed = refl; of_mode = over time before h; suit = k; needs = tt };
  plain = record { direct = refl; servers = refl; items = refl; none = refl; open_still = refl };
}

half_next : (pool time : ℕ) (before : List Line) (server : ℕ) → IsSound time before → IsFrom 1 (servers_in before) server → IsNext pool before (line.Half server)
half_next pool time before server h k = record {
  stands = record { between = between time before h; allowed = refl; of_mode = over time before h; suit = k; needs = tt };
  plain = record { direct = refl; servers = refl; items = refl; none = refl; open_still = refl };
}

hold_next : (pool time : ℕ) (before : List Line) (server : ℕ) → IsSound time before → IsFrom 1 (servers_in before) server → IsNext pool before (line.Hold server)
hold_next pool time before server h k = record {
  stands = record { between = between time before h; allowed = refl; of_mode = over time before h; suit = k; needs = tt };
  plain = record { direct = refl; servers = refl; items = refl; none = refl; open_still = refl };
}

free_next : (pool time : ℕ) (before : List Line) (server : ℕ) → IsSound time before → IsFrom 1 (servers_in before) server → IsNext pool before (line.Free server)
free_next pool time before server h k = record {
  stands = record { between = between time before h; allowed = refl; of_mode = over time before h; suit = k; needs = tt };
  plain = record { direct = refl; servers = refl; items = refl; none = refl; open_still = refl };
}

stop_next : (pool time : ℕ) (before : List Line) (server : ℕ) → IsSound time before → IsFrom 1 (servers_in before) server → is_running server before ≡ true → IsNext pool before (line.Stop server)
stop_next pool time before server h k runs = record {
  stands = record { between = between time before h; allowed = refl; of_mode = refl; suit = k; needs = runs };
  plain = record { direct = refl; servers = refl; items = refl; none = refl; open_still = refl };
}

start_next : (pool time : ℕ) (before : List Line) (server : ℕ) → IsSound time before → IsFrom 1 (servers_in before) server → is_running server before ≡ false → boot_of server before < 65535
    → IsNext pool before (line.Start server)
start_next pool time before server h k runs boots = record {
  stands = record { between = between time before h; allowed = refl; of_mode = refl; suit = k; needs = (runs, boots) };
  plain = record { direct = refl; servers = refl; items = refl; none = refl; open_still = refl };
}

feed_next : (pool time : ℕ) (before : List Line) (server count : ℕ) → IsSound time before → IsFrom 1 (servers_in before) server → IsFrom 1 200000 count → is_running server before ≡ true
    → IsNext pool before (line.Feed server count)
feed_next pool time before server count h k c runs = record {
  stands = record { between = between time before h; allowed = refl; of_mode = refl; suit = (k, c); needs = runs };
  plain = record { direct = refl; servers = refl; items = refl; none = refl; open_still = refl };
}

level_next : (pool time : ℕ) (before : List Line) (server level : ℕ) → IsSound time before → IsFrom 1 (servers_in before) server → IsFrom 0 255 level → is_running server before ≡ true
    → IsNext pool before (line.Level server level)
level_next pool time before server level h k c runs = record {
  stands = record { between = between time before h; allowed = refl; of_mode = over time before h; suit = (k, c); needs = runs };
  plain = record { direct = refl; servers = refl; items = refl; none = refl; open_still = refl };
}

eight_next : (pool time : ℕ) (before : List Line) → IsSound time before → IsNext pool before (line.Pass 8)
eight_next pool time before h = pass_next pool time before 8 h (omega arith, omega arith)

start_or_pass_next : (pool time : ℕ) (before : List Line) (server : ℕ) → IsSound time before → IsFrom 1 (servers_in before) server → IsNext pool before (start_or_pass before server)
start_or_pass_next pool time before server h k =
    where_true pool before (is_running server before) (line.Pass 8) (cond (nat_lt (boot_of server before) 65535) (line.Start server) (line.Pass 8))
    (λ _. eight_next pool time before h)
    (λ stopped. where_true pool before (nat_lt (boot_of server before) 65535) (line.Start server) (line.Pass 8)
    (λ few. start_next pool time before server h k stopped (under few)) (λ _. eight_next pool time before h))
  where
    under : nat_lt (boot_of server before) 65535 ≡ true → boot_of server before < 65535
    under few = grind (arith, nat_tests)

run_next : (pool time : ℕ) (before : List Line) (server : ℕ) (l : Line) → IsSound time before → IsFrom 1 (servers_in before) server → (is_running server before ≡ true → IsNext pool before l)
    → IsNext pool before (run_or_start before server l)
run_next pool time before server l h k f =
    where_true pool before (is_running server before) l (start_or_pass before server) f (λ _. start_or_pass_next pool time before server h k)

befalling_next : (pool time : ℕ) (before : List Line) (number state : ℕ) → IsSound time before → IsNext pool before (befalling_drawn before number state)
befalling_next pool time before number state h =
    let server : ℕ = server_drawn before state in
    let k : IsFrom 1 (servers_in before) server = server_within time before state h in
    either pool before (nat_lt number 93) _ _ (cut_next pool time before server h k)
    (either pool before (nat_lt number 94) _ _ (half_next pool time before server h k)
    (either pool before (nat_lt number 95) _ _ (hold_next pool time before server h k)
    (either pool before (nat_lt number 97) _ _ (free_next pool time before server h k)
    (either pool before (nat_lt number 98) _ _ (run_next pool time before server (line.Stop server) h k (stop_next pool time before server h k))
    (start_or_pass_next pool time before server h k)))))

tick_within : (number : ℕ) → number < 10 → IsFrom 1 3600000 (50 * (1 + number))
tick_within number h = (omega arith, omega arith)

-- a line that is no change may stand
line_next : (pool time : ℕ) (before : List Line) (number state : ℕ) → IsSound time before → IsNext pool before (line_drawn before number state)
line_next pool time before number state h =
    let server : ℕ = server_drawn before state in
    let k : IsFrom 1 (servers_in before) server = server_within time before state h in
    let feeds : second_draw 3 state < 3 = drawn_below 3 (next_state (next_state state)) (omega arith) in
    let rounds : first_draw 8 state < 8 = drawn_below 8 (next_state state) (omega arith) in
    let level : second_draw 256 state < 256 = drawn_below 256 (next_state (next_state state)) (omega arith) in
    let bytes : first_draw 4096 state < 4096 = drawn_below 4096 (next_state state) (omega arith) in
    either pool before (nat_lt number 55) _ _
    (run_next pool time before server (line.Feed server (1 + second_draw 3 state)) h k (feed_next pool time before server (1 + second_draw 3 state) h k (omega arith, omega arith)))
    (either pool before (nat_lt number 75) _ _ (pass_next pool time before (1 + first_draw 8 state) h (omega arith, omega arith))
    (either pool before (nat_lt number 87) _ _ (tick_next pool time before (50 * (1 + first_draw 10 state)) h (tick_within (first_draw 10 state) (drawn_below 10 (next_state state) (omega arith))))
    (either pool before (nat_lt number 91) _ _
    (where_true pool before (is_running server before) (line.Level server (second_draw 256 state)) (line.Pass 8)
    (level_next pool time before server (second_draw 256 state) h k (omega arith, omega arith)) (λ _. eight_next pool time before h))
    (either pool before (nat_lt number 99) _ _ (befalling_next pool time before number state h)
    (piece_next pool time before (1 + first_draw 4096 state) h (omega arith, omega arith))))))

-- with a line that is no change the lines stay sound
changes_same : (before : List Line) (l : Line) → change_of l ≡ [] → changes_in (before ++ l ∷ []) ≡ changes_in before
changes_same before l h = changes_in-more before l ∙ ap (λ cs. changes_in before ++ cs) h ∙ append-nil (changes_in before)

long_more : (before : List Line) (l : Line) → length (before ++ l ∷ []) ≡ length before + 1
long_more before l = length-append before (l ∷ [])

plain_sound : (time : ℕ) (before : List Line) (l : Line) → IsSound time before → IsPlain l → IsSound time (before ++ l ∷ [])
plain_sound time before l h p =
    let long : length (before ++ l ∷ []) ≡ length before + 1 = long_more before l in
    let was : 2 ≤ length before = h.long in
    let early : time + 20 ≤ 10 * length before = h.early in
    let servers : servers_in (before ++ l ∷ []) ≡ servers_in before = servers_in-more before l p.servers in
    let items : items_in (before ++ l ∷ []) ≡ items_in before = items_in-more before l p.items in
    let some_servers : 1 ≤ servers_in before = h.some_servers in
    let few_servers : servers_in before ≤ 8 = h.few_servers in
    let some_items : 1 ≤ items_in before = h.some_items in
    let few_items : items_in before ≤ 64 = h.few_items in
    let same : changes_in (before ++ l ∷ []) ≡ changes_in before = changes_same before l p.none in
    let count : length (changes_in (before ++ l ∷ [])) ≡ length (changes_in before) = ap length same in
    let few : length (changes_in before) + 2 ≤ length before = h.few_changes in
    let U : List Change → Type 0 = λ cs. AllUpTo time (length cs) (reverse cs) in
    record {
      long = omega arith;
      over_bytes = is_direct_in-more before l p.direct ∙ h.over_bytes;
      some_servers = omega arith;
      few_servers = omega arith;
      some_items = omega arith;
      few_items = omega arith;
      open_still = has_ended-more before l ∙ ap (λ b. cond b true (has_ended before)) p.open_still ∙ h.open_still;
      few_changes = omega arith;
      early = omega arith;
      changes_up = subst U (sym same) h.changes_up;
    }

pub other_sound : (time : ℕ) (before : List Line) (number state : ℕ) → IsSound time before → IsSound time (before ++ line_drawn before number state ∷ [])
other_sound time before number state h = plain_sound time before (line_drawn before number state) h (line_next 0 time before number state h).plain

pub other_stands : (pool time : ℕ) (before : List Line) (number state : ℕ) → IsSound time before → Stands (rules_of_replay pool) before (line_drawn before number state)
other_stands pool time before number state h = (line_next pool time before number state h).stands

-- the next change
up_more : (time later value more : ℕ) (c : Change) → time ≤ later → value ≤ more → IsUpTo time value c → IsUpTo later more c
up_more time later value more c h k u =
    let few_time : u.time_number ≤ time = u.few_time in
    let few_value : u.value_number ≤ value = u.few_value in
    record { time_number = u.time_number; time_is = u.time_is; few_time = omega arith; value_number = u.value_number; value_is = u.value_is; few_value = omega arith }

all_up : (time later value more : ℕ) (cs : List Change) → time ≤ later → value ≤ more → AllUpTo time value cs → AllUpTo later more cs
all_up time later value more [] h k u = tt
all_up time later value more (c ∷ cs) h k u = (up_more time later value more c h k u.0, all_up time later value more cs h k u.1)

found_case : (time value : ℕ) (c last : Change) (cs : List Change) (b : Bool) (found : Option Change) → IsUpTo time value c → (found ≡ Some last → IsUpTo time value last)
    → cond b (Some c) found ≡ Some last → IsUpTo time value last
found_case time value c last cs true found u more h = let e : c ≡ last = cc in let P : Change → Type 0 = λ d. IsUpTo time value d in subst P e u
found_case time value c last cs false found u more h = more h

found_up : (time value item : ℕ) (cs : List Change) (last : Change) → AllUpTo time value cs → find (λ c. c.item == item) cs ≡ Some last → IsUpTo time value last
found_up time value item [] last u h = absurd cc
found_up time value item (c ∷ cs) last u h =
    found_case time value c last cs (c.item == item) (find (λ d. d.item == item) cs) u.0 (found_up time value item cs last u.1) h

before_later : (a b : ℕ) (z w : ℤ) (rest : Bool) → z ≡ pos a → w ≡ pos b → a < b → (int_lt z w || rest) ≡ true
before_later a b z w rest d e h =
    let less : nat_lt a b ≡ true = grind (arith, nat_tests) in
    rw (d, e, less) refl

values_apart : (a b : ℕ) (z w : ℤ) → z ≡ pos a → w ≡ pos b → a < b → z ≢ w
values_apart a b z w d e h = λ same. differ (sym d ∙ same ∙ e)
  where
    differ : pos a ≡ pos b → ⊥
    differ f = let g : a ≡ b = cc in omega arith

change_follows : (time value : ℕ) (last c : Change) (later more : ℕ) → IsUpTo time value last → c.time ≡ pos later → time < later → c.value ≡ pos more → value < more → Follows last c
change_follows time value last c later more u t before v differs =
    let few_time : u.time_number ≤ time = u.few_time in
    let few_value : u.value_number ≤ value = u.few_value in
    record {
      later = before_later u.time_number later last.time c.time (int_eq last.time c.time && nat_lt last.pico c.pico) u.time_is t (omega arith);
      differs = values_apart u.value_number more last.value c.value u.value_is v (omega arith);
    }

item_within : (time : ℕ) (before : List Line) (state : ℕ) → IsSound time before → IsFrom 1 (items_in before) (1 + first_draw (items_in before) state)
item_within time before state h =
    let some : 1 ≤ items_in before = h.some_items in
    let few : first_draw (items_in before) state < items_in before = drawn_below (items_in before) (next_state state) (omega arith) in
    (omega arith, omega arith)

value_small : (n : ℕ) → n < 200000 → nat_lt (n + 1) (2 ^ 63) ≡ true
value_small n h = grind (arith, nat_tests)

pub change_stands : (pool time : ℕ) (before : List Line) (state : ℕ) → IsSound time before → length before < 200000
    → Stands (rules_of_replay pool) before (line.Change (change_drawn before time state))
change_stands pool time before state h few =
    let d : second_draw 10 state < 10 = drawn_below 10 (next_state (next_state state)) (omega arith) in
    let early : time + 20 ≤ 10 * length before = h.early in
    let changes : length (changes_in before) + 2 ≤ length before = h.few_changes in
    let time_low : 1 ≤ time + 1 + second_draw 10 state = omega arith in
    let time_high : time + 1 + second_draw 10 state ≤ 10 ^ 18 = omega arith in (
      between time before h,
      record {
        time = time + 1 + second_draw 10 state;
        item_fits = item_within time before state h;
        time_is = refl;
        time_fits = (time_low, time_high);
        pico_fits = omega arith;
        value_fits = value_small (length (changes_in before)) (omega arith);
      },
      record {
        room = omega arith;
        allowed = omega arith;
        follows = λ last found. change_follows time (length (changes_in before)) last (change_drawn before time state) (time + 1 + second_draw 10 state) (length (changes_in before) + 1)
            (found_up time (length (changes_in before)) (1 + first_draw (items_in before) state) (reverse (changes_in before)) last h.changes_up found) refl (omega arith) refl (omega arith);
      },
    )

pub change_sound : (time : ℕ) (before : List Line) (state : ℕ) → IsSound time before
    → IsSound (time + 1 + second_draw 10 state) (before ++ line.Change (change_drawn before time state) ∷ [])
change_sound time before state h =
    let c : Change = change_drawn before time state in
    let l : Line = line.Change c in
    let d : second_draw 10 state < 10 = drawn_below 10 (next_state (next_state state)) (omega arith) in
    let later : ℕ = time + 1 + second_draw 10 state in
    let long : length (before ++ line.Change (change_drawn before time state) ∷ []) ≡ length before + 1 = long_more before l in
    let was : 2 ≤ length before = h.long in
    let early : time + 20 ≤ 10 * length before = h.early in
    let servers : servers_in (before ++ line.Change (change_drawn before time state) ∷ []) ≡ servers_in before = servers_in-more before l refl in
    let items : items_in (before ++ line.Change (change_drawn before time state) ∷ []) ≡ items_in before = items_in-more before l refl in
    let some_servers : 1 ≤ servers_in before = h.some_servers in
    let few_servers : servers_in before ≤ 8 = h.few_servers in
    let some_items : 1 ≤ items_in before = h.some_items in
    let few_items : items_in before ≤ 64 = h.few_items in
    let more : changes_in (before ++ line.Change (change_drawn before time state) ∷ []) ≡ changes_in before ++ c ∷ [] = changes_in-more before l in
    let grown : length (changes_in before ++ change_drawn before time state ∷ []) ≡ length (changes_in before) + 1 = length-append (changes_in before) (c ∷ []) in
    let count : length (changes_in (before ++ line.Change (change_drawn before time state) ∷ [])) ≡ length (changes_in before ++ change_drawn before time state ∷ []) = ap length more in
    let few : length (changes_in before) + 2 ≤ length before = h.few_changes in
    let U : List Change → Type 0 = λ cs. AllUpTo later (length cs) (reverse cs) in
    let V : List Change → Type 0 = λ cs. AllUpTo later (length (changes_in before ++ c ∷ [])) cs in
    let up : IsUpTo later (length (changes_in before ++ c ∷ [])) c =
    record { time_number = later; time_is = refl; few_time = omega arith; value_number = length (changes_in before) + 1; value_is = refl; few_value = omega arith } in
    let ups : AllUpTo later (length (changes_in before ++ c ∷ [])) (reverse (changes_in before)) =
    all_up time later (length (changes_in before)) (length (changes_in before ++ c ∷ [])) (reverse (changes_in before)) (omega arith) (omega arith) h.changes_up in
    record {
      long = omega arith;
      over_bytes = is_direct_in-more before l refl ∙ h.over_bytes;
      some_servers = omega arith;
      few_servers = omega arith;
      some_items = omega arith;
      few_items = omega arith;
      open_still = has_ended-more before l ∙ h.open_still;
      few_changes = omega arith;
      early = omega arith;
      changes_up = subst U (sym more) (subst V (sym (reverse-append (changes_in before) (c ∷ []))) (up, ups));
    }

pub change_sound_at : (time : ℕ) (before : List Line) (state later : ℕ) (now : List Line) → later ≡ second_draw 10 state
    → now ≡ before ++ line.Change (change_drawn before time state) ∷ [] → IsSound time before → IsSound (time + 1 + later) now
change_sound_at time before state later now e g h =
    let P : List Line → Type 0 = λ ls. IsSound (time + 1 + later) ls in
    let Q : ℕ → Type 0 = λ n. IsSound (time + 1 + n) (before ++ line.Change (change_drawn before time state) ∷ []) in
    subst P (sym g) (subst Q (sym e) (change_sound time before state h))

pub other_sound_at : (time : ℕ) (before : List Line) (number state : ℕ) (l : Line) (now : List Line) → l ≡ line_drawn before number state
    → now ≡ before ++ l ∷ [] → IsSound time before → IsSound time now
other_sound_at time before number state l now e g h =
    let P : List Line → Type 0 = λ ls. IsSound time ls in
    let Q : Line → Type 0 = λ m. IsSound time (before ++ m ∷ []) in
    subst P (sym g) (subst Q (sym e) (other_sound time before number state h))

pub other_may : (time : ℕ) (before : List Line) (number state : ℕ) (l : Line) → l ≡ line_drawn before number state → IsSound time before → MayFollow before l
other_may time before number state l e h =
    let P : Line → Type 0 = λ m. MayFollow before m in
    subst P (sym e) (stands_may (rules_of_replay 0) before (line_drawn before number state) (other_stands 0 time before number state h))

-- the first two lines
begin_sound : (mode : SetMode) (servers items queue : ℕ) → is_direct mode ≡ false → IsFrom 1 8 servers → IsFrom 1 64 items → IsSound 0 (line.Set mode servers ∷ line.Items items queue true ∷ [])
begin_sound mode servers items queue m s i = record {
  long = omega arith;
  over_bytes = m;
  some_servers = s.0;
  few_servers = s.1;
  some_items = i.0;
  few_items = i.1;
  open_still = refl;
  few_changes = omega arith;
  early = omega arith;
  changes_up = tt;
}

over_case : (first second : Bool) → is_direct (cond first Hot (cond second Warm Cold)) ≡ false
over_case true second = refl
over_case false true = refl
over_case false false = refl

pub begun_sound : (seed : ℕ) → IsSound 0 (begun seed).lines
begun_sound seed =
    let number : ℕ = first_draw 3 seed in
    let servers : second_draw 3 seed < 3 = drawn_below 3 (next_state (next_state seed)) (omega arith) in
    let state : ℕ = next_state (next_state seed) in
    let items : first_draw 4 (next_state (next_state seed)) < 4 = drawn_below 4 (next_state state) (omega arith) in
    begin_sound (mode_of_draw number) (2 + second_draw 3 seed) (1 + first_draw 4 state) (2 + second_draw 9 state) (over_case (number == 0) (number == 1)) (omega arith, omega arith) (omega arith, omega arith)

set_stands : (pool seed : ℕ) → Stands (rules_of_replay pool) [] (set_drawn seed)
set_stands pool seed =
    let servers : second_draw 3 seed < 3 = drawn_below 3 (next_state (next_state seed)) (omega arith) in
    (refl, refl, (omega arith, omega arith))

items_stand : (pool state : ℕ) (first : Line) → Stands (rules_of_replay pool) (first ∷ []) (items_drawn state)
items_stand pool state first =
    let items : first_draw 4 state < 4 = drawn_below 4 (next_state state) (omega arith) in
    let queue : second_draw 9 state < 9 = drawn_below 9 (next_state (next_state state)) (omega arith) in
    (refl, refl, (omega arith, omega arith), (omega arith, omega arith))

-- one line more, by its number
record Grows (pool : ℕ) (c d : Course) : Type 0 where
  added : Line
  lines_are : d.lines ≡ c.lines ++ added ∷ []
  stands : Stands (rules_of_replay pool) c.lines added
  sound : IsSound d.time d.lines

grows_by : (pool number : ℕ) (c : Course) (change : Bool) → IsSound c.time c.lines → length c.lines < 200000 → Grows pool c (cond change (changed c) (other number c))
grows_by pool number c true h few = record {
  added = line.Change (change_drawn c.lines c.time c.state);
  lines_are = refl;
  stands = change_stands pool c.time c.lines c.state h few;
  sound = change_sound c.time c.lines c.state h;
}
grows_by pool number c false h few = record {
  added = line_drawn c.lines number c.state;
  lines_are = refl;
  stands = other_stands pool c.time c.lines number c.state h;
  sound = other_sound c.time c.lines number c.state h;
}

grows : (pool : ℕ) (c : Course) → IsSound c.time c.lines → length c.lines < 200000 → Grows pool c (one_more c)
grows pool c h few =
    let d : Course = record c { state = next_state c.state } in
    let g = grows_by pool (first_draw 100 c.state) d (nat_lt (first_draw 100 c.state) 30) h few in
    record { added = g.added; lines_are = g.lines_are; stands = g.stands; sound = g.sound }

-- the lines so far: each may stand after those before it
record Goes (pool count : ℕ) (c : Course) : Type 0 where
  sound : IsSound c.time c.lines
  stand : AllStand (rules_of_replay pool) [] c.lines
  long : length c.lines ≡ count + 2

all_stand_more : (rules : Rules) (before ls : List Line) (l : Line) → AllStand rules before ls → Stands rules (before ++ ls) l → AllStand rules before (ls ++ l ∷ [])
all_stand_more rules before [] l h k = let P : List Line → Type 0 = λ past. Stands rules past l in (subst P (append-nil before) k, tt)
all_stand_more rules before (m ∷ ls) l h k =
    let P : List Line → Type 0 = λ past. Stands rules past l in
    (h.0, all_stand_more rules (before ++ m ∷ []) ls l h.1 (subst P (sym (append_assoc before (m ∷ []) ls)) k))

goes_more : (pool count : ℕ) (c d : Course) → Goes pool count c → Grows pool c d → Goes pool (count + 1) d
goes_more pool count c d h g =
    let P : List Line → Type 0 = λ ls. AllStand (rules_of_replay pool) [] ls in
    let was : length c.lines ≡ count + 2 = h.long in
    let now : length d.lines ≡ length (c.lines ++ g.added ∷ []) = ap length g.lines_are in
    let grown : length (c.lines ++ g.added ∷ []) ≡ length c.lines + 1 = long_more c.lines g.added in
    record { sound = g.sound; stand = subst P (sym g.lines_are) (all_stand_more (rules_of_replay pool) [] c.lines g.added h.stand g.stands); long = omega arith }

goes : (pool count seed : ℕ) → count < 199999 → Goes pool count (course_of count seed)
goes pool zero seed few = record { sound = begun_sound seed; stand = (set_stands pool seed, (items_stand pool (next_state (next_state seed)) (set_drawn seed), tt)); long = refl }
goes pool (suc count) seed few =
    let before = goes pool count seed (omega arith) in
    let long : length (course_of count seed).lines ≡ count + 2 = before.long in
    let after = goes_more pool count (course_of count seed) (one_more (course_of count seed)) before (grows pool (course_of count seed) before.sound (omega arith)) in
    let lengths : length (one_more (course_of count seed)).lines ≡ (count + 1) + 2 = after.long in
    record { sound = after.sound; stand = after.stand; long = omega arith }

end_stands : (pool time : ℕ) (before : List Line) → IsSound time before → Stands (rules_of_replay pool) before line.End
end_stands pool time before h = record { between = between time before h; allowed = refl; of_mode = refl; suit = tt; needs = tt }

-- a generated scenario has so many lines
pub generated_long : (seed lines : ℕ) → 3 ≤ lines → lines ≤ 200000 → length (generated seed lines) ≡ lines
generated_long seed lines low high =
    let g = goes 0 (lines - 3) seed (omega arith) in
    let long : length (course_of (lines - 3) seed).lines ≡ lines - 3 + 2 = g.long in
    let grown : length ((course_of (lines - 3) seed).lines ++ line.End ∷ []) ≡ length (course_of (lines - 3) seed).lines + 1 = long_more (course_of (lines - 3) seed).lines line.End in
    omega arith

-- and each may stand after those before it
pub generated_stand : (pool seed lines : ℕ) → 3 ≤ lines → lines ≤ 200000 → AllStand (rules_of_replay pool) [] (generated seed lines)
generated_stand pool seed lines low high =
    let g = goes pool (lines - 3) seed (omega arith) in
    let c : Course = course_of (lines - 3) seed in
    all_stand_more (rules_of_replay pool) [] c.lines line.End g.stand (end_stands pool c.time c.lines g.sound)

pub generated_read : (pool seed lines : ℕ) → 3 ≤ lines → lines ≤ 200000 → scenario_of (rules_of_replay pool) (written (generated seed lines)) ≡ Ok (generated seed lines)
generated_read pool seed lines low high =
    let long : length (generated seed lines) ≡ lines = generated_long seed lines low high in
    standing_read (rules_of_replay pool) (course_of (lines - 3) seed).lines (generated_stand pool seed lines low high) (omega arith)

pub set_may : (seed : ℕ) (before : List Line) (l : Line) → before ≡ [] → l ≡ set_drawn seed → MayFollow before l
set_may seed before l e g =
    let P : List Line → Type 0 = λ ls. MayFollow ls l in
    let Q : Line → Type 0 = λ m. MayFollow [] m in
    subst P (sym e) (subst Q (sym g) (stands_may (rules_of_replay 0) [] (set_drawn seed) (set_stands 0 seed)))

pub items_may : (state : ℕ) (before : List Line) (first l : Line) → before ≡ first ∷ [] → l ≡ items_drawn state → MayFollow before l
items_may state before first l e g =
    let P : List Line → Type 0 = λ ls. MayFollow ls l in
    let Q : Line → Type 0 = λ m. MayFollow (first ∷ []) m in
    subst P (sym e) (subst Q (sym g) (stands_may (rules_of_replay 0) (first ∷ []) (items_drawn state) (items_stand 0 state first)))

pub begun_sound_at : (seed : ℕ) (lines : List Line) → lines ≡ (begun seed).lines → IsSound 0 lines
begun_sound_at seed lines e = let P : List Line → Type 0 = λ ls. IsSound 0 ls in subst P (sym e) (begun_sound seed)

pub course_long : (count seed : ℕ) → count < 199999 → length (course_of count seed).lines ≡ count + 2
course_long count seed few = (goes 0 count seed few).long

pub course_more : (count seed : ℕ) (c d : Course) → c ≡ course_of count seed → d ≡ one_more c → d ≡ course_of (count + 1) seed
course_more count seed c d e g =
    let next : suc count ≡ count + 1 = omega arith in
    g ∙ ap one_more e ∙ ap (λ n. course_of n seed) next

pub course_room : (count place seed : ℕ) (c : Course) → c ≡ course_of place seed → place < count → count < 199999 → length c.lines < 200000
course_room count place seed c e less few =
    let long : length (course_of place seed).lines ≡ place + 2 = course_long place seed (omega arith) in
    let same : length c.lines ≡ length (course_of place seed).lines = ap (λ (d : Course). length d.lines) e in
    omega arith
