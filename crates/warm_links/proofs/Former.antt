-- What a value follows while its item reports, as notices come.
use Rattle.std.proofs.Common.{◌≡◌, ◌⊎◌, inl, inr, ℕ, ◌==◌, List, [], ◌∷◌, ◌++◌, Bool, true, false, Option, Some, None, if◌then◌else◌, refl, sym, ap, subst}
use Rattle.ua_base.specs.declared.modes.Mode.{Mode}
use Rattle.ua_base.specs.declared.modes.Mode.TheVariants.{Disabled, Sampling, Reporting}
use Rattle.set_model.specs.declared.source.Change.{Change}
use Rattle.ua_variants.specs.declared.variant.Stamped.{Stamped}
use Rattle.ua_variants.specs.declared.variant.Variant.{Variant}
use Rattle.link_rules.specs.declared.notice.Notice.{Notice}
use Rattle.link_rules.specs.declared.notice.Notice.TheVariants as notice
use Rattle.link_laws.specs.Course.{of_values}
use Rattle.client_links.specs.Feeding.{FollowsFormer}
use Rattle.link_following.proofs.Telling.{onto_append, told_onto}
use Rattle.warm_logs.specs.Reporting.{AreFollowingOn, confirmed_by, former_on, reports_in, sent_by, unless_off}
use Rattle.warm_links.specs.Eras.{reports_after, reports_by}
use Rattle.warm_links.proofs.Calm.{AllTell, is_calm}

-- ---- an item that doesn't report

taken_none : (b r : Bool) (value : Stamped Variant) (former : Option (Stamped Variant)) → r ≡ false → former ≡ None
    → (if b then (if r then Some value else None) else former) ≡ None
taken_none true r value former off none = ap (λ (t : Bool). if t then Some value else None) off
taken_none false r value former off none = none

stream_none : (b r : Bool) (former : Option (Stamped Variant)) → (if b then false else r) ≡ false → (r ≡ false → former ≡ None)
    → (if b then None else former) ≡ None
stream_none true r former off rest = refl
stream_none false r former off rest = rest off

sent_none : (mode : Mode) (r : Bool) (former : Option (Stamped Variant)) → sent_by mode r ≡ false → (r ≡ false → former ≡ None)
    → unless_off mode former ≡ None
sent_none Disabled r former off rest = refl
sent_none Sampling r former off rest = rest off
sent_none Reporting r former off rest = rest off

confirmed_none : (mode : Mode) (r : Bool) (former : Option (Stamped Variant)) → confirmed_by mode r ≡ false
    → (r ≡ false → former ≡ None) → former ≡ None
confirmed_none Disabled r former off rest = rest off
confirmed_none Sampling r former off rest = rest off
confirmed_none Reporting r former off rest = let bad : true ≡ false = off in absurd cc

-- its values follow none
pub off_none : (item : ℕ) (notices : List Notice) → reports_in item notices ≡ false → former_on item notices ≡ None
off_none item [] off = refl
off_none item (notice.Ready ∷ earlier) off = off_none item earlier off
off_none item (notice.Lost ∷ earlier) off = off_none item earlier off
off_none item (notice.Unsupported ∷ earlier) off = off_none item earlier off
off_none item (notice.Level level ∷ earlier) off = off_none item earlier off
off_none item (notice.Stream i ∷ earlier) off =
    stream_none (i == item) (reports_in item earlier) (former_on item earlier) off (λ h. off_none item earlier h)
off_none item (notice.Jump ∷ earlier) off = refl
off_none item (notice.Taken i value ∷ earlier) off =
    taken_none (i == item) (reports_in item earlier) value (former_on item earlier) off (off_none item earlier off)
off_none item (notice.Sent mode ∷ earlier) off =
    sent_none mode (reports_in item earlier) (former_on item earlier) off (λ h. off_none item earlier h)
off_none item (notice.Confirmed mode ∷ earlier) off =
    confirmed_none mode (reports_in item earlier) (former_on item earlier) off (λ h. off_none item earlier h)

-- ---- where no mode is told, only notices of values count

pub reports_calm : (item : ℕ) (newer earlier : List Notice) → AllTell is_calm newer
    → reports_in item (newer ++ earlier) ≡ reports_in item (of_values newer ++ earlier)
reports_calm item [] earlier calm = refl
reports_calm item (notice.Ready ∷ newer) earlier calm = reports_calm item newer earlier calm.1
reports_calm item (notice.Lost ∷ newer) earlier calm = reports_calm item newer earlier calm.1
reports_calm item (notice.Unsupported ∷ newer) earlier calm = reports_calm item newer earlier calm.1
reports_calm item (notice.Level level ∷ newer) earlier calm = reports_calm item newer earlier calm.1
reports_calm item (notice.Stream i ∷ newer) earlier calm =
    ap (λ (r : Bool). if i == item then false else r) (reports_calm item newer earlier calm.1)
reports_calm item (notice.Jump ∷ newer) earlier calm = reports_calm item newer earlier calm.1
reports_calm item (notice.Taken i value ∷ newer) earlier calm = reports_calm item newer earlier calm.1
reports_calm item (notice.Sent mode ∷ newer) earlier calm = let bad : false ≡ true = calm.0 in absurd cc
reports_calm item (notice.Confirmed mode ∷ newer) earlier calm = let bad : false ≡ true = calm.0 in absurd cc

taken_same : (b r s : Bool) (value : Stamped Variant) (one other : Option (Stamped Variant)) → r ≡ s → one ≡ other
    → (if b then (if r then Some value else None) else one) ≡ (if b then (if s then Some value else None) else other)
taken_same true r s value one other e f = ap (λ (t : Bool). if t then Some value else None) e
taken_same false r s value one other e f = f

pub former_calm : (item : ℕ) (newer earlier : List Notice) → AllTell is_calm newer
    → former_on item (newer ++ earlier) ≡ former_on item (of_values newer ++ earlier)
former_calm item [] earlier calm = refl
former_calm item (notice.Ready ∷ newer) earlier calm = former_calm item newer earlier calm.1
former_calm item (notice.Lost ∷ newer) earlier calm = former_calm item newer earlier calm.1
former_calm item (notice.Unsupported ∷ newer) earlier calm = former_calm item newer earlier calm.1
former_calm item (notice.Level level ∷ newer) earlier calm = former_calm item newer earlier calm.1
former_calm item (notice.Stream i ∷ newer) earlier calm =
    ap (λ (o : Option (Stamped Variant)). if i == item then None else o) (former_calm item newer earlier calm.1)
former_calm item (notice.Jump ∷ newer) earlier calm = refl
former_calm item (notice.Taken i value ∷ newer) earlier calm =
    taken_same (i == item) (reports_in item (newer ++ earlier)) (reports_in item (of_values newer ++ earlier)) value
    (former_on item (newer ++ earlier)) (former_on item (of_values newer ++ earlier)) (reports_calm item newer earlier calm.1)
    (former_calm item newer earlier calm.1)
former_calm item (notice.Sent mode ∷ newer) earlier calm = let bad : false ≡ true = calm.0 in absurd cc
former_calm item (notice.Confirmed mode ∷ newer) earlier calm = let bad : false ≡ true = calm.0 in absurd cc

pub following_calm : (source : List Change) (count : ℕ) (newer earlier : List Notice) → AllTell is_calm newer
    → AreFollowingOn source count (of_values newer ++ earlier) → AreFollowingOn source count (newer ++ earlier)
following_calm source count [] earlier calm h = h
following_calm source count (notice.Ready ∷ newer) earlier calm h = following_calm source count newer earlier calm.1 h
following_calm source count (notice.Lost ∷ newer) earlier calm h = following_calm source count newer earlier calm.1 h
following_calm source count (notice.Unsupported ∷ newer) earlier calm h = following_calm source count newer earlier calm.1 h
following_calm source count (notice.Level level ∷ newer) earlier calm h = following_calm source count newer earlier calm.1 h
following_calm source count (notice.Stream i ∷ newer) earlier calm h = following_calm source count newer earlier calm.1 h
following_calm source count (notice.Jump ∷ newer) earlier calm h = following_calm source count newer earlier calm.1 h
following_calm source count (notice.Taken i value ∷ newer) earlier calm h = (
  λ low high.
      ((h.0 low high).0, subst (FollowsFormer source i value) (sym (former_calm i newer earlier calm.1)) (h.0 low high).1),
  following_calm source count newer earlier calm.1 h.1,
)
following_calm source count (notice.Sent mode ∷ newer) earlier calm h = let bad : false ≡ true = calm.0 in absurd cc
following_calm source count (notice.Confirmed mode ∷ newer) earlier calm h = let bad : false ≡ true = calm.0 in absurd cc

-- whether the link's items report

pub after_calm : (notices : List Notice) (b : Bool) → AllTell is_calm notices
    → reports_after notices b ≡ reports_after (of_values notices) b
after_calm [] b calm = refl
after_calm (notice.Ready ∷ more) b calm = after_calm more b calm.1
after_calm (notice.Lost ∷ more) b calm = after_calm more b calm.1
after_calm (notice.Unsupported ∷ more) b calm = after_calm more b calm.1
after_calm (notice.Level level ∷ more) b calm = after_calm more b calm.1
after_calm (notice.Stream i ∷ more) b calm = after_calm more false calm.1
after_calm (notice.Jump ∷ more) b calm = after_calm more b calm.1
after_calm (notice.Taken i value ∷ more) b calm = after_calm more b calm.1
after_calm (notice.Sent mode ∷ more) b calm = let bad : false ≡ true = calm.0 in absurd cc
after_calm (notice.Confirmed mode ∷ more) b calm = let bad : false ≡ true = calm.0 in absurd cc

pub after_join : (one other : List Notice) (b : Bool) → reports_after (one ++ other) b ≡ reports_after other (reports_after one b)
after_join [] other b = refl
after_join (n ∷ one) other b = after_join one other (reports_by n b)

-- by notices of values they don't begin to report
pub values_off : (notices : List Notice) → reports_after (of_values notices) false ≡ false
values_off [] = refl
values_off (notice.Ready ∷ more) = values_off more
values_off (notice.Lost ∷ more) = values_off more
values_off (notice.Unsupported ∷ more) = values_off more
values_off (notice.Level level ∷ more) = values_off more
values_off (notice.Stream i ∷ more) = values_off more
values_off (notice.Jump ∷ more) = values_off more
values_off (notice.Taken i value ∷ more) = values_off more
values_off (notice.Sent mode ∷ more) = values_off more
values_off (notice.Confirmed mode ∷ more) = values_off more

-- ---- where no value is told, and none begins anew

abbrev pub is_dull : Notice → Bool
is_dull (notice.Stream i) = false
is_dull (notice.Taken i value) = false
is_dull other = true

pub dull_all : (notices : List Notice) → AllTell is_dull (of_values notices) → AllTell is_dull notices
dull_all [] h = tt
dull_all (notice.Ready ∷ more) h = (refl, dull_all more h)
dull_all (notice.Lost ∷ more) h = (refl, dull_all more h)
dull_all (notice.Unsupported ∷ more) h = (refl, dull_all more h)
dull_all (notice.Level level ∷ more) h = (refl, dull_all more h)
dull_all (notice.Stream i ∷ more) h = (h.0, dull_all more h.1)
dull_all (notice.Jump ∷ more) h = (h.0, dull_all more h.1)
dull_all (notice.Taken i value ∷ more) h = (h.0, dull_all more h.1)
dull_all (notice.Sent mode ∷ more) h = (refl, dull_all more h)
dull_all (notice.Confirmed mode ∷ more) h = (refl, dull_all more h)

sent_weak : (mode : Mode) (one other : Option (Stamped Variant)) → (one ≡ None) ⊎ (one ≡ other)
    → (unless_off mode one ≡ None) ⊎ (unless_off mode one ≡ other)
sent_weak Disabled one other h = inl refl
sent_weak Sampling one other h = h
sent_weak Reporting one other h = h

-- an item follows what it would follow by notices of values, or none
pub dull_weak : (item : ℕ) (newer earlier : List Notice) → AllTell is_dull newer
    → (former_on item (newer ++ earlier) ≡ None) ⊎ (former_on item (newer ++ earlier) ≡ former_on item (of_values newer ++ earlier))
dull_weak item [] earlier dull = inr refl
dull_weak item (notice.Ready ∷ newer) earlier dull = dull_weak item newer earlier dull.1
dull_weak item (notice.Lost ∷ newer) earlier dull = dull_weak item newer earlier dull.1
dull_weak item (notice.Unsupported ∷ newer) earlier dull = dull_weak item newer earlier dull.1
dull_weak item (notice.Level level ∷ newer) earlier dull = dull_weak item newer earlier dull.1
dull_weak item (notice.Stream i ∷ newer) earlier dull = let bad : false ≡ true = dull.0 in absurd cc
dull_weak item (notice.Jump ∷ newer) earlier dull = inl refl
dull_weak item (notice.Taken i value ∷ newer) earlier dull = let bad : false ≡ true = dull.0 in absurd cc
dull_weak item (notice.Sent mode ∷ newer) earlier dull =
    sent_weak mode (former_on item (newer ++ earlier)) (former_on item (of_values newer ++ earlier))
    (dull_weak item newer earlier dull.1)
dull_weak item (notice.Confirmed mode ∷ newer) earlier dull = dull_weak item newer earlier dull.1

pub dull_following : (source : List Change) (count : ℕ) (newer earlier : List Notice) → AllTell is_dull newer
    → AreFollowingOn source count earlier → AreFollowingOn source count (newer ++ earlier)
dull_following source count [] earlier dull h = h
dull_following source count (notice.Ready ∷ newer) earlier dull h = dull_following source count newer earlier dull.1 h
dull_following source count (notice.Lost ∷ newer) earlier dull h = dull_following source count newer earlier dull.1 h
dull_following source count (notice.Unsupported ∷ newer) earlier dull h = dull_following source count newer earlier dull.1 h
dull_following source count (notice.Level level ∷ newer) earlier dull h = dull_following source count newer earlier dull.1 h
dull_following source count (notice.Stream i ∷ newer) earlier dull h = let bad : false ≡ true = dull.0 in absurd cc
dull_following source count (notice.Jump ∷ newer) earlier dull h = dull_following source count newer earlier dull.1 h
dull_following source count (notice.Taken i value ∷ newer) earlier dull h = let bad : false ≡ true = dull.0 in absurd cc
dull_following source count (notice.Sent mode ∷ newer) earlier dull h = dull_following source count newer earlier dull.1 h
dull_following source count (notice.Confirmed mode ∷ newer) earlier dull h = dull_following source count newer earlier dull.1 h

-- where the link's items don't report, none does

sent_off : (mode : Mode) (b r : Bool) → (b ≡ false → r ≡ false) → sent_by mode b ≡ false → sent_by mode r ≡ false
sent_off Disabled b r h off = refl
sent_off Sampling b r h off = h off
sent_off Reporting b r h off = h off

confirmed_off : (mode : Mode) (b r : Bool) → (b ≡ false → r ≡ false) → confirmed_by mode b ≡ false → confirmed_by mode r ≡ false
confirmed_off Disabled b r h off = h off
confirmed_off Sampling b r h off = h off
confirmed_off Reporting b r h off = off

one_off : (item : ℕ) (n : Notice) (earlier : List Notice) (b : Bool) → is_dull n ≡ true
    → (b ≡ false → reports_in item earlier ≡ false) → reports_by n b ≡ false → reports_in item (n ∷ earlier) ≡ false
one_off item notice.Ready earlier b dull h off = h off
one_off item notice.Lost earlier b dull h off = h off
one_off item notice.Unsupported earlier b dull h off = h off
one_off item (notice.Level level) earlier b dull h off = h off
one_off item (notice.Stream i) earlier b dull h off = let bad : false ≡ true = dull in absurd cc
one_off item notice.Jump earlier b dull h off = h off
one_off item (notice.Taken i value) earlier b dull h off = let bad : false ≡ true = dull in absurd cc
one_off item (notice.Sent mode) earlier b dull h off = sent_off mode b (reports_in item earlier) h off
one_off item (notice.Confirmed mode) earlier b dull h off = confirmed_off mode b (reports_in item earlier) h off

pub dull_off : (item : ℕ) (notices earlier : List Notice) (b : Bool) → AllTell is_dull notices
    → (b ≡ false → reports_in item earlier ≡ false) → reports_after notices b ≡ false
    → reports_in item (told_onto notices earlier) ≡ false
dull_off item [] earlier b dull h off = h off
dull_off item (n ∷ more) earlier b dull h off =
    subst (λ (l : List Notice). reports_in item l ≡ false) (sym (onto_append (n ∷ []) more earlier))
    (dull_off item more (n ∷ earlier) (reports_by n b) dull.1 (one_off item n earlier b dull.0 h) off)
