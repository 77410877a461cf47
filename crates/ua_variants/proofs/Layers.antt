-- What is written of each kind of Variant.
use Rattle.std.proofs.Common.{◌≡◌, ℕ, ℤ, ◌%◌, ◌^◌, List, [], ◌∷◌, ◌++◌, length, map, replicate, Option, Some, None, refl, sym, ap, ap₂, ◌∙◌}
use Rattle.std.specs.List.{flat_map}
use Rattle.std.proofs.lemmas.List.{length-map}
use Rattle.std.proofs.lemmas.List.Concat.{flat_map-cons}
use Rattle.byteorder.specs.Endian.{little_bytes}
use Rattle.ua_values.specs.Written.{written_array}
use Rattle.ua_variants.specs.declared.variant.Variant.{Variant, out-Variant, roll-Variant, out-roll-Variant, roll-out-Variant}
use Rattle.ua_variants.specs.declared.variant.Variant.TheFolds.{fold-roll-Variant, fold-Variant}
use Rattle.ua_variants.specs.declared.variant.Variant.TheShapes.{former-Variant-DataValues-0-at-7}
use Rattle.ua_variants.specs.declared.variant.Variant.TheOpen.{Variant-F}
use Rattle.ua_variants.specs.declared.variant.Variant.TheVariants.{rolls-Null, rolls-Scalar, rolls-Variant, rolls-DataValue, rolls-DiagnosticInfo, rolls-Array, rolls-DataValues, rolls-Variants, rolls-DiagnosticInfos}
use Rattle.ua_variants.specs.declared.variant.Variant.TheVariants as variant
use Rattle.ua_variants.specs.declared.variant.Scalar.{Scalar}
use Rattle.ua_variants.specs.declared.variant.Array.{Array}
use Rattle.ua_variants.specs.declared.variant.Stamped.{Stamped}
use Rattle.ua_variants.specs.declared.head.Kind.TheVariants as kind
use Rattle.ua_variants.specs.declared.head.Head.TheVariants as head
use Rattle.ua_variants.specs.Kinds.{head_number}
use Rattle.ua_variants.specs.Spelling.{flat_of, flat_of_array, written_scalar, written_flat_array, written_shape, written_head, mask_of, written_stamps, written_stamped, written_layer, written_within, written_variant, written_data_value}

-- ---- a Variant is written alike, wherever it stands

flat_mapped : {A B : Type 0} (F : A → B) (f : B → List ℕ) (g : A → List ℕ) → ((a : A) → f (F a) ≡ g a) → (items : List A) → flat_map f (map F items) ≡ flat_map g items
flat_mapped F f g each [] = refl
flat_mapped F f g each (a ∷ more) = flat_map-cons f (F a) (map F more) ∙ ap₂ (λ (x y : List ℕ). x ++ y) (each a) (flat_mapped F f g each more) ∙ sym (flat_map-cons g a more)

array_mapped : {A B : Type 0} (F : A → B) (f : B → List ℕ) (g : A → List ℕ) → ((a : A) → f (F a) ≡ g a) → (items : List A) → written_array f (map F items) ≡ written_array g items
array_mapped F f g each items = ap₂ (λ (n : ℕ) (l : List ℕ). little_bytes 4 (n % 2 ^ 32) ++ l) (length-map items F) (flat_mapped F f g each items)

-- the same elements, written in two ways that agree
flat_same : {A : Type 0} (f g : A → List ℕ) → ((a : A) → f a ≡ g a) → (items : List A) → flat_map f items ≡ flat_map g items
flat_same f g each [] = refl
flat_same f g each (a ∷ more) = flat_map-cons f a more ∙ ap₂ (λ (x y : List ℕ). x ++ y) (each a) (flat_same f g each more) ∙ sym (flat_map-cons g a more)

array_same : {A : Type 0} (f g : A → List ℕ) → ((a : A) → f a ≡ g a) → (items : List A) → written_array f items ≡ written_array g items
array_same f g each items = ap (λ (l : List ℕ). little_bytes 4 (length items % 2 ^ 32) ++ l) (flat_same f g each items)

shaped_as : (front : List ℕ) (x y sizes : List ℕ) → x ≡ y → front ++ x ++ sizes ≡ front ++ y ++ sizes
shaped_as front x y sizes is = ap (λ (l : List ℕ). front ++ l ++ sizes) is

-- a DataValue whose value is written already
abbrev stamped_layer : Stamped Variant → Stamped (List ℕ)
stamped_layer = former-Variant-DataValues-0-at-7.map Variant (List ℕ) (fold-Variant (List ℕ) (written_layer (λ bytes. bytes)))

stamped_by : (o : Option Variant) (a : Option ℕ) (b : Option ℤ) (c : Option ℕ) (d : Option ℤ) (e : Option ℕ) → written_stamped (λ v. v) (stamped_layer (record { value = o; status = a; source_timestamp = b; source_picoseconds = c; server_timestamp = d; server_picoseconds = e })) ≡ written_stamped written_within (record { value = o; status = a; source_timestamp = b; source_picoseconds = c; server_timestamp = d; server_picoseconds = e })
unfolding written_within
stamped_by None a b c d e = refl
stamped_by (Some v) a b c d e = refl

stamped_same : (d : Stamped Variant) → written_stamped (λ v. v) (stamped_layer d) ≡ written_stamped written_within d
stamped_same d = stamped_by d.value d.status d.source_timestamp d.source_picoseconds d.server_timestamp d.server_picoseconds

data_within : (o : Option Variant) (a : Option ℕ) (b : Option ℤ) (c : Option ℕ) (d : Option ℤ) (e : Option ℕ)
    → written_within (roll-Variant (Variant-F.DataValue (record { value = o; status = a; source_timestamp = b; source_picoseconds = c; server_timestamp = d; server_picoseconds = e })))
    ≡ little_bytes 1 23 ++ written_stamped written_within (record { value = o; status = a; source_timestamp = b; source_picoseconds = c; server_timestamp = d; server_picoseconds = e })
unfolding written_within
data_within None a b c d e = fold-roll-Variant (List ℕ) (written_layer (λ bytes. bytes)) (Variant-F.DataValue (record { value = None; status = a; source_timestamp = b; source_picoseconds = c; server_timestamp = d; server_picoseconds = e }))
data_within (Some v) a b c d e = fold-roll-Variant (List ℕ) (written_layer (λ bytes. bytes)) (Variant-F.DataValue (record { value = Some v; status = a; source_timestamp = b; source_picoseconds = c; server_timestamp = d; server_picoseconds = e }))

layer_within : (x : Variant-F Variant) → written_within (roll-Variant x) ≡ written_layer written_within x
unfolding written_within
layer_within Variant-F.Null = fold-roll-Variant (List ℕ) (written_layer (λ bytes. bytes)) Variant-F.Null
layer_within (Variant-F.Scalar s) = fold-roll-Variant (List ℕ) (written_layer (λ bytes. bytes)) (Variant-F.Scalar s)
layer_within (Variant-F.DataValue d) = data_within d.value d.status d.source_timestamp d.source_picoseconds d.server_timestamp d.server_picoseconds
layer_within (Variant-F.Variant v) = fold-roll-Variant (List ℕ) (written_layer (λ bytes. bytes)) (Variant-F.Variant v)
layer_within Variant-F.DiagnosticInfo = fold-roll-Variant (List ℕ) (written_layer (λ bytes. bytes)) Variant-F.DiagnosticInfo
layer_within (Variant-F.Array items sizes) = fold-roll-Variant (List ℕ) (written_layer (λ bytes. bytes)) (Variant-F.Array items sizes)
layer_within (Variant-F.DataValues items sizes) = fold-roll-Variant (List ℕ) (written_layer (λ bytes. bytes)) (Variant-F.DataValues items sizes)
    ∙ shaped_as (written_head kind.DataValue sizes) (written_array (written_stamped (λ v. v)) (map stamped_layer items)) (written_array (written_stamped written_within) items) (written_shape sizes) (array_mapped stamped_layer (written_stamped (λ v. v)) (written_stamped written_within) stamped_same items)
layer_within (Variant-F.Variants items sizes) = fold-roll-Variant (List ℕ) (written_layer (λ bytes. bytes)) (Variant-F.Variants items sizes)
    ∙ shaped_as (written_head kind.Variant sizes) (written_array (λ v. v) (map written_within items)) (written_array written_within items) (written_shape sizes) (array_mapped written_within (λ v. v) written_within (λ v. refl) items)
layer_within (Variant-F.DiagnosticInfos n sizes) = fold-roll-Variant (List ℕ) (written_layer (λ bytes. bytes)) (Variant-F.DiagnosticInfos n sizes)

within_is : (v : Variant) → written_within v ≡ written_variant v
unfolding written_variant
within_is v = ap written_within (sym (roll-out-Variant v)) ∙ layer_within (out-Variant v)

-- a Variant by its outermost level
by_level : (x : Variant-F Variant) (v : Variant) → roll-Variant x ≡ v → written_variant v ≡ written_layer written_within x
unfolding written_variant
by_level x v is = ap (λ (level : Variant-F Variant). written_layer written_within level) (ap out-Variant (sym is) ∙ out-roll-Variant x)

-- ---- each variant

pub written_null : written_variant variant.Null ≡ little_bytes 1 0
written_null = by_level Variant-F.Null variant.Null rolls-Null

pub written_one : (s : Scalar) → written_variant (variant.Scalar s) ≡ little_bytes 1 (head_number (head.One (kind.Flat (flat_of s)))) ++ written_scalar s
written_one s = by_level (Variant-F.Scalar s) (variant.Scalar s) (rolls-Scalar s)

pub written_inner : (v : Variant) → written_variant (variant.Variant v) ≡ little_bytes 1 24 ++ written_variant v
written_inner v = by_level (Variant-F.Variant v) (variant.Variant v) (rolls-Variant v) ∙ ap (λ (l : List ℕ). little_bytes 1 24 ++ l) (within_is v)

outer_by : (o : Option Variant) (a : Option ℕ) (b : Option ℤ) (c : Option ℕ) (d : Option ℤ) (e : Option ℕ)
    → written_stamped written_within (record { value = o; status = a; source_timestamp = b; source_picoseconds = c; server_timestamp = d; server_picoseconds = e })
    ≡ written_data_value (record { value = o; status = a; source_timestamp = b; source_picoseconds = c; server_timestamp = d; server_picoseconds = e })
outer_by None a b c d e = refl
outer_by (Some v) a b c d e =
    let whole : Stamped Variant = record { value = Some v; status = a; source_timestamp = b; source_picoseconds = c; server_timestamp = d; server_picoseconds = e } in
    ap (λ (l : List ℕ). little_bytes 1 (mask_of whole) ++ l ++ written_stamps whole) (within_is v)

outer_same : (d : Stamped Variant) → written_stamped written_within d ≡ written_data_value d
outer_same d = outer_by d.value d.status d.source_timestamp d.source_picoseconds d.server_timestamp d.server_picoseconds

pub written_inner_data : (d : Stamped Variant) → written_variant (variant.DataValue d) ≡ little_bytes 1 23 ++ written_data_value d
written_inner_data d = by_level (Variant-F.DataValue d) (variant.DataValue d) (rolls-DataValue d) ∙ ap (λ (l : List ℕ). little_bytes 1 23 ++ l) (outer_same d)

pub written_diagnostic : written_variant variant.DiagnosticInfo ≡ little_bytes 1 25 ++ little_bytes 1 0
written_diagnostic = by_level Variant-F.DiagnosticInfo variant.DiagnosticInfo rolls-DiagnosticInfo

pub written_many : (items : Array) (sizes : Option (List ℕ)) → written_variant (variant.Array items sizes) ≡ written_head (kind.Flat (flat_of_array items)) sizes ++ written_flat_array items ++ written_shape sizes
written_many items sizes = by_level (Variant-F.Array items sizes) (variant.Array items sizes) (rolls-Array items sizes)

pub written_many_data : (items : List (Stamped Variant)) (sizes : Option (List ℕ)) → written_variant (variant.DataValues items sizes) ≡ written_head kind.DataValue sizes ++ written_array written_data_value items ++ written_shape sizes
written_many_data items sizes = by_level (Variant-F.DataValues items sizes) (variant.DataValues items sizes) (rolls-DataValues items sizes)
    ∙ shaped_as (written_head kind.DataValue sizes) (written_array (written_stamped written_within) items) (written_array written_data_value items) (written_shape sizes) (array_same (written_stamped written_within) written_data_value outer_same items)

pub written_many_inner : (items : List Variant) (sizes : Option (List ℕ)) → written_variant (variant.Variants items sizes) ≡ written_head kind.Variant sizes ++ written_array written_variant items ++ written_shape sizes
written_many_inner items sizes = by_level (Variant-F.Variants items sizes) (variant.Variants items sizes) (rolls-Variants items sizes)
    ∙ shaped_as (written_head kind.Variant sizes) (written_array written_within items) (written_array written_variant items) (written_shape sizes) (array_same written_within written_variant within_is items)

pub written_diagnostics : (n : ℕ) (sizes : Option (List ℕ)) → written_variant (variant.DiagnosticInfos n sizes) ≡ written_head kind.DiagnosticInfo sizes ++ written_array (little_bytes 1) (replicate n 0) ++ written_shape sizes
written_diagnostics n sizes = by_level (Variant-F.DiagnosticInfos n sizes) (variant.DiagnosticInfos n sizes) (rolls-DiagnosticInfos n sizes)
