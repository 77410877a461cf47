-- What is sent of an entry is taken as its change.
use Rattle.std.proofs.Common.{◌≡◌, ◌≤◌, ◌==◌, ℕ, ℤ, zero, suc, List, [], ◌∷◌, Bool, true, false, cond, Some, None, min, refl, sym, ap, subst, ◌∙◌, arith, slice_get}
use Rattle.std.specs.Prelude.{unwrap_or}
use Rattle.std.proofs.lemmas.Bool.Decides.{nat_tests}
use Rattle.ua_base.specs.declared.modes.Timestamps.{Timestamps}
use Rattle.ua_base.specs.declared.modes.Timestamps.TheVariants.{Source, Server, Both, Neither}
use Rattle.set_model.specs.declared.line.Arrived.{Arrived}
use Rattle.set_model.specs.declared.line.Seen.{Seen}
use Rattle.set_model.specs.declared.line.Seen.TheVariants.{Whole}
use Rattle.set_model.specs.declared.stamp.Stamp.{Stamp}
use Rattle.set_model.specs.declared.source.Change.{Change}
use Rattle.set_model.specs.Source.{HavePicos, of_item, stamp_of}
use Rattle.item_queue.specs.declared.queue.Entry.{Entry}
use Rattle.delivery_log.specs.Judge.{has_overflow}
use Rattle.ua_variants.specs.declared.variant.Scalar.{Scalar}
use Rattle.ua_variants.specs.declared.variant.Scalar.TheVariants as scalar
use Rattle.ua_variants.specs.declared.variant.Variant.{out-Variant, out-roll-Variant}
use Rattle.ua_variants.specs.declared.variant.Variant.TheVariants.{rolls-Scalar}
use Rattle.ua_variants.specs.declared.variant.Variant.TheOpen.{Variant-F}
use Rattle.ua_variants.specs.declared.variant.Variant.TheVariants as variant
use Rattle.subscription.specs.Message.{has_source, sent_pico, sent_status, value_of}
use Rattle.client_rules.specs.Arrival.{arrived_of, seen_by, seen_of, stamp_at, whole_in}
use Rattle.arriving_entries.specs.Arrivals.{arrival_of}

pub out_scalar : (value : Scalar) → out-Variant (variant.Scalar value) ≡ Variant-F.Scalar value
out_scalar value = ap out-Variant (sym (rolls-Scalar value)) ∙ out-roll-Variant (Variant-F.Scalar value)

-- a number that stands alone
seen_whole : (value : ℤ) → seen_of (Some (variant.Scalar (scalar.Int64 value))) ≡ Whole value
unfolding seen_of
seen_whole value = ap (λ v. seen_by (whole_in v) (variant.Scalar (scalar.Int64 value))) (out_scalar (scalar.Int64 value))

-- picoseconds that aren't sent are 0
pico_again : (pico : ℕ) (b : Bool) → (pico == 0) ≡ b → pico ≤ 9999 → min (unwrap_or (cond b None (Some pico)) 0) 9999 ≡ pico
pico_again pico true test few = grind (arith, nat_tests)
pico_again pico false test few = grind (arith, nat_tests)

stamp_again : (time : ℤ) (pico : ℕ) → pico ≤ 9999 → ◌≡◌ {A = Stamp} (stamp_at time (sent_pico pico)) (record { time = time; pico = pico })
stamp_again time pico few = ap (λ (p : ℕ). record { time = time; pico = p }) (pico_again pico (pico == 0) refl few)

status_again : (marked : Bool) → unwrap_or (sent_status marked) 0 ≡ cond marked 0x480 0
status_again true = refl
status_again false = refl

-- an entry, by its stamp, its value and its status
arrived_by : (stamp other : Stamp) (value seen : Seen) (status given : ℕ) → stamp ≡ other → value ≡ seen → status ≡ given
    → ◌≡◌ {A = Arrived} (record { time = Some stamp; value = value; status = status }) (record { time = Some other; value = seen; status = given })
arrived_by stamp other value seen status given s v c = rw (s, v, c) refl

arrives_so : (entry : Entry) → entry.change.pico ≤ 9999
    → ◌≡◌ {A = Arrived} (record {
      time = Some (stamp_at entry.change.time (sent_pico entry.change.pico));
      value = seen_of (Some (variant.Scalar (scalar.Int64 entry.change.value)));
      status = unwrap_or (sent_status entry.marked) 0;
    }) (arrival_of entry)
arrives_so entry few =
    arrived_by _ (stamp_of entry.change) _ (Whole entry.change.value) _ (cond entry.marked 0x480 0) (stamp_again entry.change.time entry.change.pico few)
    (seen_whole entry.change.value) (status_again entry.marked)

pub arrives : (now : ℤ) (stamps : Timestamps) (entry : Entry) → has_source stamps ≡ true → entry.change.pico ≤ 9999
    → arrived_of (value_of now stamps entry) ≡ arrival_of entry
unfolding arrived_of
arrives now Source entry h few = arrives_so entry few
arrives now Server entry h few = absurd cc
arrives now Both entry h few = arrives_so entry few
arrives now Neither entry h few = absurd cc

mark_shown : (marked : Bool) → has_overflow (cond marked 0x480 0) ≡ marked
mark_shown true = refl
mark_shown false = refl

pub marks : (entry : Entry) → has_overflow (arrival_of entry).status ≡ entry.marked
marks entry = mark_shown entry.marked

-- ---- the picoseconds of a source's changes

-- a change that is found is the head of what is looked through, or stands behind it
pico_by : (item : ℕ) (c : Change) (cs : List Change) (place : ℕ) (change : Change) (b : Bool) → (c.item == item) ≡ b → c.pico ≤ 9999
    → ((p : ℕ) → slice_get (of_item item cs) p ≡ Some change → change.pico ≤ 9999)
    → slice_get (cond b (c ∷ of_item item cs) (of_item item cs)) place ≡ Some change → change.pico ≤ 9999
pico_by item c cs zero change true test few more here = let same : c ≡ change = cc in subst (λ (d : Change). d.pico ≤ 9999) same few
pico_by item c cs (suc place) change true test few more here = more place here
pico_by item c cs place change false test few more here = more place here

pub pico_there : (item : ℕ) (source : List Change) (place : ℕ) (change : Change) → HavePicos source
    → slice_get (of_item item source) place ≡ Some change → change.pico ≤ 9999
pico_there item [] place change h here = absurd cc
pico_there item (c ∷ cs) place change h here =
    pico_by item c cs place change (c.item == item) refl h.0 (λ p at. pico_there item cs p change h.1 at) here
