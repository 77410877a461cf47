-- The subscription of an id after each move.
use Rattle.std.proofs.Common.{◌≡◌, ℕ, ℤ, ◌==◌, List, [], ◌∷◌, ◌++◌, Bool, true, false, cond, map, Option, Some, None, refl, ap, arith}
use Rattle.std.specs.Option.{option_map}
use Rattle.std.proofs.lemmas.Bool.Decides.{nat_tests}
use Rattle.set_model.specs.declared.source.Change.{Change}
use Rattle.subscription.specs.State.{SubState}
use Rattle.subscription.specs.declared.cycle.Cycle.{Cycle}
use Rattle.subscription.specs.declared.cycle.Cycle.TheVariants.{Quiet, Notify, KeepAlive, Late, Expired}
use Rattle.subscription.specs.Items.{Told}
use Rattle.subscription.specs.Cycle.{after_row, cycled, row_of}
use Rattle.subscription.specs.Calls.{after_sending, entries_told, items_left, published, sent_with}
use Rattle.subscription.specs.History.{Call, Add, Remove, SetMode, Feed, Timer, Publish, Acknowledge, Modify, SetEnabled, Moved, after}
use Rattle.server_rules.specs.State.{changed_if, is_sub, sub_at, without_sub}
use Rattle.server_laws.specs.Moves.{called}

-- ---- no call changes an id

cycled_id : (queued : Bool) (s : SubState) → (cycled queued s).spec.id ≡ s.spec.id
cycled_id queued s = by_row (row_of queued s)
  where
    by_row : (row : Cycle) → (after_row row queued s).spec.id ≡ s.spec.id
    by_row Quiet = refl
    by_row Notify = refl
    by_row KeepAlive = refl
    by_row Late = refl
    by_row Expired = refl

published_id : (now : ℤ) (s : SubState) → (published now s).spec.id ≡ s.spec.id
published_id now s = by_entries (entries_told s)
  where
    by_entries : (entries : List Told) → (after_sending (sent_with entries now (record s { items = items_left s }))).spec.id ≡ s.spec.id
    by_entries [] = refl
    by_entries (one ∷ more) = refl

pub id_kept : (call : Call) (s : SubState) → (after call s).spec.id ≡ s.spec.id
id_kept (Add spec current) s = refl
id_kept (Remove id) s = refl
id_kept (SetMode id mode current) s = refl
id_kept (Feed change) s = refl
id_kept (Timer queued) s = cycled_id queued s
id_kept (Publish now) s = published_id now s
id_kept (Acknowledge number) s = refl
id_kept (Modify spec now) s = refl
id_kept (SetEnabled enabled) s = refl
id_kept Moved s = refl

-- ---- a call on one

here_by : (b : Bool) (id : ℕ) (call : Call) (s : SubState) (more rest : Option SubState) → (s.spec.id == id) ≡ b → more ≡ option_map (after call) rest
    → cond (is_sub id (changed_if id (after call) s)) (Some (changed_if id (after call) s)) more ≡ option_map (after call) (cond (is_sub id s) (Some s) rest)
here_by true id call s more rest is h = rw (is, id_kept call s, is) refl
here_by false id call s more rest is h = rw (is, is) h

pub called_here : (id : ℕ) (call : Call) (subs : List SubState) → sub_at id (called id call subs) ≡ option_map (after call) (sub_at id subs)
called_here id call [] = refl
called_here id call (s ∷ subs) = here_by _ id call s (sub_at id (called id call subs)) (sub_at id subs) refl (called_here id call subs)

there_by : (b : Bool) (id other : ℕ) (call : Call) (s : SubState) (more rest : Option SubState) → (s.spec.id == other) ≡ b → (other == id) ≡ false
    → more ≡ rest
    → cond (is_sub id (changed_if other (after call) s)) (Some (changed_if other (after call) s)) more ≡ cond (is_sub id s) (Some s) rest
there_by true id other call s more rest is apart h =
    let away : (s.spec.id == id) ≡ false = grind (arith, nat_tests) in
    rw (is, id_kept call s, away) h
there_by false id other call s more rest is apart h = rw is (ap (cond (s.spec.id == id) (Some s)) h)

pub called_there : (id other : ℕ) (call : Call) (subs : List SubState) → (other == id) ≡ false → sub_at id (called other call subs) ≡ sub_at id subs
called_there id other call [] apart = refl
called_there id other call (s ∷ subs) apart =
    there_by _ id other call s (sub_at id (called other call subs)) (sub_at id subs) refl apart (called_there id other call subs apart)

-- ---- all of them fed

fed_by : (b : Bool) (change : Change) (s : SubState) (more rest : Option SubState) → more ≡ option_map (after (Feed change)) rest
    → cond b (Some (after (Feed change) s)) more ≡ option_map (after (Feed change)) (cond b (Some s) rest)
fed_by true change s more rest h = refl
fed_by false change s more rest h = h

pub fed_each : (id : ℕ) (change : Change) (subs : List SubState) → sub_at id (map (after (Feed change)) subs) ≡ option_map (after (Feed change)) (sub_at id subs)
fed_each id change [] = refl
fed_each id change (s ∷ subs) =
    fed_by (s.spec.id == id) change s (sub_at id (map (after (Feed change)) subs)) (sub_at id subs) (fed_each id change subs)

-- ---- one less

gone_by : (b : Bool) (id : ℕ) (s : SubState) (subs : List SubState) → (s.spec.id == id) ≡ b → sub_at id (without_sub id subs) ≡ None
    → sub_at id (without_sub id (s ∷ subs)) ≡ None
gone_by true id s subs is h = rw is h
gone_by false id s subs is h = rw (is, is) h

pub gone_here : (id : ℕ) (subs : List SubState) → sub_at id (without_sub id subs) ≡ None
gone_here id [] = refl
gone_here id (s ∷ subs) = gone_by _ id s subs refl (gone_here id subs)

left_by : (b : Bool) (id other : ℕ) (s : SubState) (subs : List SubState) → (s.spec.id == other) ≡ b → (other == id) ≡ false
    → sub_at id (without_sub other subs) ≡ sub_at id subs → sub_at id (without_sub other (s ∷ subs)) ≡ sub_at id (s ∷ subs)
left_by true id other s subs is apart h =
    let away : (s.spec.id == id) ≡ false = grind (arith, nat_tests) in
    rw (is, away) h
left_by false id other s subs is apart h = rw is (ap (cond (s.spec.id == id) (Some s)) h)

pub gone_there : (id other : ℕ) (subs : List SubState) → (other == id) ≡ false → sub_at id (without_sub other subs) ≡ sub_at id subs
gone_there id other [] apart = refl
gone_there id other (s ∷ subs) apart = left_by _ id other s subs refl apart (gone_there id other subs apart)

-- ---- one more

abbrev pub or_else : Option SubState → Option SubState → Option SubState
or_else None other = other
or_else (Some s) other = Some s

more_by : (b : Bool) (s : SubState) (found rest : Option SubState) (new : Option SubState) → found ≡ or_else rest new
    → cond b (Some s) found ≡ or_else (cond b (Some s) rest) new
more_by true s found rest new h = refl
more_by false s found rest new h = h

pub found_more : (id : ℕ) (subs : List SubState) (new : SubState) → sub_at id (subs ++ new ∷ []) ≡ or_else (sub_at id subs) (cond (new.spec.id == id) (Some new) None)
found_more id [] new = refl
found_more id (s ∷ subs) new =
    more_by (s.spec.id == id) s (sub_at id (subs ++ new ∷ [])) (sub_at id subs) (cond (new.spec.id == id) (Some new) None) (found_more id subs new)
