-- Ids: that they rise, that no more are attached than may be, and who is gone.
use Rattle.std.proofs.Common.{◌≡◌, ℕ, suc, ◌+◌, ◌<◌, ◌≤◌, ◌==◌, List, [], ◌∷◌, ◌++◌, Bool, true, false, cond, Some, None, length, refl, sym, ap, subst, arith, length-append, nat_le, ◌||◌}
use Rattle.std.specs.Prelude.{◌≢◌}
use Rattle.std.proofs.lemmas.Bool.Decides.{nat_tests}
use Rattle.set_model.specs.declared.line.LogLine.{LogLine}
use Rattle.fanout.specs.Hearing.{Hearing}
use Rattle.fanout.specs.State.{Attached, FanoutState, attached}
use Rattle.fanout.specs.Calls.{Call, Attach, Detach, Tell, Outcome, Stays, Stops, Become, Fits, after, is_full, staying, stopping, with_one_more, without}
use Rattle.fanout.specs.History.{AreGone, AreRising, Beginning, CanBe, History, IsGone, begins, state_after}

-- ---- they rise

rising_lower : (b c : ℕ) (xs : List Attached) (m : ℕ) → b ≤ c → AreRising c xs m → AreRising b xs m
rising_lower b c [] m le r = omega arith
rising_lower b c (x ∷ xs) m le r = let first : c < x.id = r.0 in let now : b < x.id = omega arith in (now, r.1)

rising_more : (b : ℕ) (xs : List Attached) (one : Attached) (m : ℕ) → m < one.id → AreRising b xs m → AreRising b (xs ++ one ∷ []) one.id
rising_more b [] one m lt r = let first : b < one.id = omega arith in let last : one.id ≤ one.id = omega arith in (first, last)
rising_more b (x ∷ xs) one m lt r = (r.0, rising_more x.id xs one m lt r.1)

rising_without_by : (id b : ℕ) (x : Attached) (xs : List Attached) (m : ℕ) (t : Bool) → (x.id == id) ≡ t → AreRising b (x ∷ xs) m
    → AreRising x.id (without id xs) m → AreRising b (without id (x ∷ xs)) m
rising_without_by id b x xs m true is r more =
    let P : Bool → Type 0 = λ t. AreRising b (cond t xs (x ∷ without id xs)) m in
    let first : b < x.id = r.0 in
    subst P (sym is) (rising_lower b x.id xs m (omega arith) r.1)
rising_without_by id b x xs m false is r more =
    let P : Bool → Type 0 = λ t. AreRising b (cond t xs (x ∷ without id xs)) m in
    subst P (sym is) (r.0, more)

rising_without : (id b : ℕ) (xs : List Attached) (m : ℕ) → AreRising b xs m → AreRising b (without id xs) m
rising_without id b [] m r = r
rising_without id b (x ∷ xs) m r = rising_without_by id b x xs m (x.id == id) refl r (rising_without id x.id xs m r.1)

rising_staying : (told : LogLine) (b : ℕ) (xs : List Attached) (outcomes : List Outcome) (m : ℕ) → Become told xs outcomes → AreRising b xs m → AreRising b (staying outcomes) m
rising_staying told b [] [] m become r = r
rising_staying told b [] (o ∷ outcomes) m become r = absurd become
rising_staying told b (x ∷ xs) [] m become r = absurd become
rising_staying told b (x ∷ xs) (Stays new ∷ outcomes) m become r =
    let P : ℕ → Type 0 = λ n. (b < n) × AreRising n (staying outcomes) m in
    subst P (sym become.0.id) (r.0, rising_staying told x.id xs outcomes m become.1 r.1)
rising_staying told b (x ∷ xs) (Stops gone ∷ outcomes) m become r =
    let first : b < x.id = r.0 in
    rising_lower b x.id (staying outcomes) m (omega arith) (rising_staying told x.id xs outcomes m become.1 r.1)

-- ---- how many

without_length_by : (id : ℕ) (x : Attached) (xs : List Attached) (t : Bool) → (x.id == id) ≡ t → length (without id xs) ≤ length xs
    → length (without id (x ∷ xs)) ≤ length (x ∷ xs)
without_length_by id x xs true is more =
    let e : length (without id (x ∷ xs)) ≡ length xs = ap (λ t. length (cond t xs (x ∷ without id xs))) is in omega arith
without_length_by id x xs false is more =
    let e : length (without id (x ∷ xs)) ≡ suc (length (without id xs)) = ap (λ t. length (cond t xs (x ∷ without id xs))) is in omega arith

without_length : (id : ℕ) (xs : List Attached) → length (without id xs) ≤ length xs
without_length id [] = omega arith
without_length id (x ∷ xs) = without_length_by id x xs (x.id == id) refl (without_length id xs)

staying_length : (told : LogLine) (xs : List Attached) (outcomes : List Outcome) → Become told xs outcomes → length (staying outcomes) ≤ length xs
staying_length told [] [] become = omega arith
staying_length told [] (o ∷ outcomes) become = absurd become
staying_length told (x ∷ xs) [] become = absurd become
staying_length told (x ∷ xs) (Stays new ∷ outcomes) become = let more = staying_length told xs outcomes become.1 in omega arith
staying_length told (x ∷ xs) (Stops gone ∷ outcomes) become = let more = staying_length told xs outcomes become.1 in omega arith

neither : (a b : Bool) → (a || b) ≡ false → (a ≡ false) × (b ≡ false)
neither true b is = absurd cc
neither false b is = (refl, is)

-- ---- the limits

pub record Keeps (s : FanoutState) : Type 0 where
  pub most : length s.attached ≤ 16
  pub ids : s.last ≤ 255
  pub rising : AreRising 0 s.attached s.last

attach_keeps : (item : ℕ) (hearing : Hearing) (s : FanoutState) (t : Bool) → is_full s ≡ t → Keeps s → Keeps (after (Attach item hearing) s)
attach_keeps item hearing s true is k =
    let P : Bool → Type 0 = λ t. Keeps (cond t s (with_one_more item hearing s)) in subst P (sym is) k
attach_keeps item hearing s false is k =
    let P : Bool → Type 0 = λ t. Keeps (cond t s (with_one_more item hearing s)) in
    let parts = neither (nat_le 16 (length s.attached)) (s.last == 255) is in
    let room : nat_le 16 (length s.attached) ≡ false = parts.0 in
    let left : (s.last == 255) ≡ false = parts.1 in
    let fewer : length s.attached < 16 = grind (arith, nat_tests) in
    let most : s.last ≤ 255 = k.ids in
    let lower : s.last < 255 = grind (arith, nat_tests) in
    let new = attached (s.last + 1) item hearing in
    let size : length (s.attached ++ new ∷ []) ≡ length s.attached + 1 = length-append s.attached (new ∷ []) in
    let next : s.last < s.last + 1 = omega arith in
    subst P (sym is) (record { most = omega arith; ids = omega arith; rising = rising_more 0 s.attached new s.last next k.rising })

pub call_keeps : (call : Call) (s : FanoutState) → Fits call s → Keeps s → Keeps (after call s)
call_keeps (Attach item hearing) s fits k = attach_keeps item hearing s (is_full s) refl k
call_keeps (Detach id) s fits k =
    let size = without_length id s.attached in let most : length s.attached ≤ 16 = k.most in
    record { most = omega arith; ids = k.ids; rising = rising_without id 0 s.attached s.last k.rising }
call_keeps (Tell told outcomes) s fits k =
    let size = staying_length told s.attached outcomes fits in let most : length s.attached ≤ 16 = k.most in
    record { most = omega arith; ids = k.ids; rising = rising_staying told 0 s.attached outcomes s.last fits k.rising }

pub keeps : (history : History) → CanBe history → Keeps (state_after history)
keeps [] can = let most : 0 ≤ 16 = omega arith in let ids : 0 ≤ 255 = omega arith in let rising : 0 ≤ 0 = omega arith in record { most = most; ids = ids; rising = rising }
keeps (call ∷ earlier) can = call_keeps call (state_after earlier) can.0 (keeps earlier can.1)

-- ---- who is gone

above_gone : (id b : ℕ) (xs : List Attached) (m : ℕ) → id ≤ b → AreRising b xs m → IsGone id xs
above_gone id b [] m le r = tt {0}
above_gone id b (x ∷ xs) m le r =
    let first : b < x.id = r.0 in
    let other : x.id ≢ id = λ same. absurd (omega arith) in
    (other, above_gone id x.id xs m (omega arith) r.1)

detached_by : (id b : ℕ) (x : Attached) (xs : List Attached) (m : ℕ) (t : Bool) → (x.id == id) ≡ t → AreRising b (x ∷ xs) m
    → IsGone id (without id xs) → IsGone id (without id (x ∷ xs))
detached_by id b x xs m true is r more =
    let P : Bool → Type 0 = λ t. IsGone id (cond t xs (x ∷ without id xs)) in
    let same : x.id ≡ id = grind (arith, nat_tests) in
    subst P (sym is) (above_gone id x.id xs m (omega arith) r.1)
detached_by id b x xs m false is r more =
    let P : Bool → Type 0 = λ t. IsGone id (cond t xs (x ∷ without id xs)) in
    let other : x.id ≢ id = λ same. absurd (grind (arith, nat_tests)) in
    subst P (sym is) (other, more)

pub detached_gone : (id b : ℕ) (xs : List Attached) (m : ℕ) → AreRising b xs m → IsGone id (without id xs)
detached_gone id b [] m r = tt {0}
detached_gone id b (x ∷ xs) m r = detached_by id b x xs m (x.id == id) refl r (detached_gone id x.id xs m r.1)

stops_above : (told : LogLine) (b : ℕ) (xs : List Attached) (outcomes : List Outcome) (m : ℕ) (new : Attached) (ys : List Attached) → new.id ≤ b
    → Become told xs outcomes → AreRising b xs m → AreGone (stopping outcomes) ys → AreGone (stopping outcomes) (new ∷ ys)
stops_above told b [] [] m new ys le become r gone = tt {0}
stops_above told b [] (o ∷ outcomes) m new ys le become r gone = absurd become
stops_above told b (x ∷ xs) [] m new ys le become r gone = absurd become
stops_above told b (x ∷ xs) (Stays other ∷ outcomes) m new ys le become r gone =
    let first : b < x.id = r.0 in
    stops_above told x.id xs outcomes m new ys (omega arith) become.1 r.1 gone
stops_above told b (x ∷ xs) (Stops stopped ∷ outcomes) m new ys le become r gone =
    let first : b < x.id = r.0 in
    let same : stopped.id ≡ x.id = become.0.id in
    let other : new.id ≢ stopped.id = λ e. absurd (omega arith) in
    ((other, gone.0), stops_above told x.id xs outcomes m new ys (omega arith) become.1 r.1 gone.1)

pub stopped_gone : (told : LogLine) (b : ℕ) (xs : List Attached) (outcomes : List Outcome) (m : ℕ) → Become told xs outcomes → AreRising b xs m
    → AreGone (stopping outcomes) (staying outcomes)
stopped_gone told b [] [] m become r = tt {0}
stopped_gone told b [] (o ∷ outcomes) m become r = absurd become
stopped_gone told b (x ∷ xs) [] m become r = absurd become
stopped_gone told b (x ∷ xs) (Stays new ∷ outcomes) m become r =
    let same : new.id ≡ x.id = become.0.id in
    stops_above told x.id xs outcomes m new (staying outcomes) (omega arith) become.1 r.1 (stopped_gone told x.id xs outcomes m become.1 r.1)
stopped_gone told b (x ∷ xs) (Stops stopped ∷ outcomes) m become r =
    let same : stopped.id ≡ x.id = become.0.id in
    (above_gone stopped.id x.id (staying outcomes) m (omega arith) (rising_staying told x.id xs outcomes m become.1 r.1), stopped_gone told x.id xs outcomes m become.1 r.1)

-- ---- and stays so

gone_more : (id : ℕ) (xs : List Attached) (one : Attached) → one.id ≢ id → IsGone id xs → IsGone id (xs ++ one ∷ [])
gone_more id [] one other gone = (other, tt {0})
gone_more id (x ∷ xs) one other gone = (gone.0, gone_more id xs one other gone.1)

gone_without_by : (id other : ℕ) (x : Attached) (xs : List Attached) (t : Bool) → (x.id == other) ≡ t → IsGone id (x ∷ xs)
    → IsGone id (without other xs) → IsGone id (without other (x ∷ xs))
gone_without_by id other x xs true is gone more =
    let P : Bool → Type 0 = λ t. IsGone id (cond t xs (x ∷ without other xs)) in subst P (sym is) gone.1
gone_without_by id other x xs false is gone more =
    let P : Bool → Type 0 = λ t. IsGone id (cond t xs (x ∷ without other xs)) in subst P (sym is) (gone.0, more)

gone_without : (id other : ℕ) (xs : List Attached) → IsGone id xs → IsGone id (without other xs)
gone_without id other [] gone = gone
gone_without id other (x ∷ xs) gone = gone_without_by id other x xs (x.id == other) refl gone (gone_without id other xs gone.1)

gone_staying : (told : LogLine) (id : ℕ) (xs : List Attached) (outcomes : List Outcome) → Become told xs outcomes → IsGone id xs → IsGone id (staying outcomes)
gone_staying told id [] [] become gone = gone
gone_staying told id [] (o ∷ outcomes) become gone = absurd become
gone_staying told id (x ∷ xs) [] become gone = absurd become
gone_staying told id (x ∷ xs) (Stays new ∷ outcomes) become gone =
    let P : ℕ → Type 0 = λ n. (n ≢ id) × IsGone id (staying outcomes) in
    subst P (sym become.0.id) (gone.0, gone_staying told id xs outcomes become.1 gone.1)
gone_staying told id (x ∷ xs) (Stops stopped ∷ outcomes) become gone = gone_staying told id xs outcomes become.1 gone.1

attach_stays : (id item : ℕ) (hearing : Hearing) (s : FanoutState) (t : Bool) → is_full s ≡ t → id ≤ s.last → IsGone id s.attached
    → IsGone id (after (Attach item hearing) s).attached × (s.last ≤ (after (Attach item hearing) s).last)
attach_stays id item hearing s true is le gone =
    let P : Bool → Type 0 = λ t. IsGone id (cond t s (with_one_more item hearing s)).attached × (s.last ≤ (cond t s (with_one_more item hearing s)).last) in
    let same : s.last ≤ s.last = omega arith in
    subst P (sym is) (gone, same)
attach_stays id item hearing s false is le gone =
    let P : Bool → Type 0 = λ t. IsGone id (cond t s (with_one_more item hearing s)).attached × (s.last ≤ (cond t s (with_one_more item hearing s)).last) in
    let other : s.last + 1 ≢ id = λ e. absurd (omega arith) in
    let on : s.last ≤ s.last + 1 = omega arith in
    subst P (sym is) (gone_more id s.attached (attached (s.last + 1) item hearing) other gone, on)

attach_last : (item : ℕ) (hearing : Hearing) (s : FanoutState) (t : Bool) → is_full s ≡ t → s.last ≤ (after (Attach item hearing) s).last
attach_last item hearing s true is = let same : (after (Attach item hearing) s).last ≡ s.last = ap (λ t. (cond t s (with_one_more item hearing s)).last) is in omega arith
attach_last item hearing s false is = let same : (after (Attach item hearing) s).last ≡ s.last + 1 = ap (λ t. (cond t s (with_one_more item hearing s)).last) is in omega arith

call_last : (call : Call) (s : FanoutState) → s.last ≤ (after call s).last
call_last (Attach item hearing) s = attach_last item hearing s (is_full s) refl
call_last (Detach id) s = omega arith
call_last (Tell told outcomes) s = omega arith

pub last_grows : (later earlier : History) → (state_after earlier).last ≤ (state_after (later ++ earlier)).last
last_grows [] earlier = omega arith
last_grows (call ∷ later) earlier =
    let before = last_grows later earlier in
    let now = call_last call (state_after (later ++ earlier)) in
    omega arith

call_stays : (id : ℕ) (call : Call) (s : FanoutState) → Fits call s → id ≤ s.last → IsGone id s.attached → IsGone id (after call s).attached
call_stays id (Attach item hearing) s fits le gone = (attach_stays id item hearing s (is_full s) refl le gone).0
call_stays id (Detach other) s fits le gone = gone_without id other s.attached gone
call_stays id (Tell told outcomes) s fits le gone = gone_staying told id s.attached outcomes fits gone

pub gone_stays : (id : ℕ) (later earlier : History) → CanBe (later ++ earlier) → id ≤ (state_after earlier).last
    → IsGone id (state_after earlier).attached → IsGone id (state_after (later ++ earlier)).attached
gone_stays id [] earlier can le gone = gone
gone_stays id (call ∷ later) earlier can le gone =
    let grows = last_grows later earlier in
    call_stays id call (state_after (later ++ earlier)) can.0 (omega arith) (gone_stays id later earlier can.1 le gone)

-- ---- each is given once

begins_by : (item : ℕ) (hearing : Hearing) (s : FanoutState) (first : Beginning) (t : Bool) → is_full s ≡ t → begins (Attach item hearing) s ≡ Some first
    → (first.id ≡ s.last + 1) × ((after (Attach item hearing) s).last ≡ s.last + 1)
begins_by item hearing s first true is at =
    let none : begins (Attach item hearing) s ≡ None = ap (λ t. cond t None (Some (record { id = s.last + 1; item = item; hearing = hearing }))) is in
    absurd cc
begins_by item hearing s first false is at =
    let new : begins (Attach item hearing) s ≡ Some (record { id = s.last + 1; item = item; hearing = hearing }) =
    ap (λ t. cond t None (Some (record { id = s.last + 1; item = item; hearing = hearing }))) is in
    let same : first ≡ record { id = s.last + 1; item = item; hearing = hearing } = cc in
    (ap (λ (b : Beginning). b.id) same, ap (λ t. (cond t s (with_one_more item hearing s)).last) is)

begins_next : (call : Call) (s : FanoutState) (first : Beginning) → begins call s ≡ Some first → (first.id ≡ s.last + 1) × ((after call s).last ≡ s.last + 1)
begins_next (Attach item hearing) s first at = begins_by item hearing s first (is_full s) refl at
begins_next (Detach id) s first at = absurd cc
begins_next (Tell told outcomes) s first at = absurd cc

pub given_once : (first second : Beginning) (call other : Call) (later earlier : History) → begins other (state_after earlier) ≡ Some first
    → begins call (state_after (later ++ other ∷ earlier)) ≡ Some second → first.id < second.id
given_once first second call other later earlier one two =
    let a = begins_next other (state_after earlier) first one in
    let b = begins_next call (state_after (later ++ other ∷ earlier)) second two in
    let grows = last_grows later (other ∷ earlier) in
    let a_id : first.id ≡ (state_after earlier).last + 1 = a.0 in
    let a_last : (after other (state_after earlier)).last ≡ (state_after earlier).last + 1 = a.1 in
    let b_id : second.id ≡ (state_after (later ++ other ∷ earlier)).last + 1 = b.0 in
    omega arith
