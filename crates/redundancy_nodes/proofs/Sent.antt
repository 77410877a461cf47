-- What the values of nodes are as bytes.
use Rattle.std.proofs.Common.{◌≡◌, ℕ, ℤ, pos, ◌^◌, ◌≤◌, ◌<◌, ◌%◌, ◌/◌, true, ◌&&◌, nat_lt, nat_le, List, [], ◌∷◌, ◌++◌, Option, Some, None, Ok, refl, sym, ◌∙◌, ◌≢◌, ap, arith, if◌then◌else◌}
use Rattle.std.specs.Prelude.{Result}
use Rattle.std.proofs.lemmas.Bool.{ne_eqb}
use Rattle.ua_values.specs.declared.node.NodeId.{NodeId}
use Rattle.ua_variants.specs.declared.variant.Stamped.{Stamped}
use Rattle.std.specs.Int.{w32, w64}
use Rattle.std.proofs.lemmas.List.{append-nil, append_assoc}
use Rattle.std.proofs.lemmas.Bool.Decides.{nat_tests}
use Rattle.set_model.specs.Source.{last_of}
use Rattle.ua_values.specs.declared.node.NodeId.TheVariants as id
use Rattle.redundancy_nodes.specs.declared.nodes.Nodes.{Nodes}
use Rattle.redundancy_nodes.specs.Read.{Sends, read_of}
use Rattle.set_model.specs.declared.source.Change.{Change}
use Rattle.ua_values.specs.Written.{written_array, written_signed, written_text}
use Rattle.ua_variants.specs.declared.variant.Scalar.TheVariants as scalar
use Rattle.ua_variants.specs.declared.variant.Variant.{Variant}
use Rattle.ua_variants.specs.declared.variant.Variant.TheVariants as variant
use Rattle.ua_variants.specs.Spelling.{written_variant, written_data_value}
use Rattle.ua_variants.specs.declared.variant.Array.TheVariants as array
use Rattle.ua_variants.proofs.Layers.{written_one, written_many}
use Rattle.redundancy_nodes.specs.Values.{timeless, texts_value, item_value, sampled, told_pico}

timeless_sent : (value : Variant) → written_data_value (timeless value) ≡ 0x01 ∷ written_variant value
timeless_sent value = append-nil (0x01 ∷ written_variant value)

pub texts_sent : (texts : List (Option (List ℕ))) → written_data_value (texts_value texts) ≡ 0x01 ∷ 0x8C ∷ written_array written_text texts
texts_sent texts =
    timeless_sent (variant.Array (array.String texts) None)
    ∙ ap (λ (bytes : List ℕ). 0x01 ∷ bytes) (written_many (array.String texts) None)
    ∙ append-nil (0x01 ∷ 0x8C ∷ written_array written_text texts)

pub time_sent : (time : ℤ) → written_data_value (timeless (variant.Scalar (scalar.DateTime time))) ≡ 0x01 ∷ 0x0D ∷ written_signed 8 w64 time
time_sent time = timeless_sent (variant.Scalar (scalar.DateTime time)) ∙ ap (λ (bytes : List ℕ). 0x01 ∷ bytes) (written_one (scalar.DateTime time))

pub int_sent : (n : ℕ) → written_data_value (timeless (variant.Scalar (scalar.Int32 (pos n)))) ≡ 0x01 ∷ 0x06 ∷ written_signed 4 w32 (pos n)
int_sent n = timeless_sent (variant.Scalar (scalar.Int32 (pos n))) ∙ ap (λ (bytes : List ℕ). 0x01 ∷ bytes) (written_one (scalar.Int32 (pos n)))

small_int : (n : ℕ) → n < 2 ^ 8 → written_signed 4 w32 (pos n) ≡ n ∷ 0 ∷ 0 ∷ 0 ∷ []
small_int n within =
    let first : n % 256 ≡ n = omega arith in
    let second : n / 256 % 256 ≡ 0 = omega arith in
    let third : n / 65536 % 256 ≡ 0 = omega arith in
    let fourth : n / 16777216 % 256 ≡ 0 = omega arith in
    rw (first, second, third, fourth) refl

small_byte : (n : ℕ) → n < 2 ^ 8 → n % 256 ≡ n
small_byte n within = omega arith

pub byte_sent : (n : ℕ) → n < 2 ^ 8 → written_data_value (timeless (variant.Scalar (scalar.Byte n))) ≡ 0x01 ∷ 0x03 ∷ n ∷ []
byte_sent n within = timeless_sent (variant.Scalar (scalar.Byte n)) ∙ ap (λ (bytes : List ℕ). 0x01 ∷ bytes) (written_one (scalar.Byte n))
    ∙ ap (λ k. 0x01 ∷ 0x03 ∷ k ∷ []) (small_byte n within)

pub support_sent : (n : ℕ) → n < 2 ^ 8 → written_data_value (timeless (variant.Scalar (scalar.Int32 (pos n)))) ≡ 0x01 ∷ 0x06 ∷ n ∷ 0 ∷ 0 ∷ 0 ∷ []
support_sent n within = int_sent n ∙ ap (λ (bytes : List ℕ). 0x01 ∷ 0x06 ∷ bytes) (small_int n within)

-- an item's value with these picoseconds
abbrev change_value : Change → Option ℕ → Stamped Variant
change_value change pico = sampled (Some (variant.Scalar (scalar.Int64 change.value))) (Some change.time) pico

pub change_sent : (change : Change) → change.pico ≡ 0
    → written_data_value (item_value (Some change)) ≡ 0x05 ∷ 0x08 ∷ written_signed 8 w64 change.value ++ written_signed 8 w64 change.time
change_sent change none =
    ap (λ n. written_data_value (change_value change (told_pico n))) none
    ∙ ap (λ (bytes : List ℕ). 0x05 ∷ (bytes ++ written_signed 8 w64 change.time)) (written_one (scalar.Int64 change.value))

pub pico_sent : (change : Change) → change.pico ≢ 0
    → written_data_value (item_value (Some change))
    ≡ 0x15 ∷ 0x08 ∷ written_signed 8 w64 change.value ++ written_signed 8 w64 change.time ++ change.pico % 256 ∷ change.pico / 256 % 256 ∷ []
pico_sent change some =
    ap (λ b. written_data_value (change_value change (if b then None else Some change.pico))) (ne_eqb change.pico 0 some)
    ∙ ap (λ (bytes : List ℕ). 0x15 ∷ (bytes ++ (written_signed 8 w64 change.time ++ change.pico % 256 ∷ change.pico / 256 % 256 ∷ [])))
    (written_one (scalar.Int64 change.value))
    ∙ sym (append_assoc (0x15 ∷ 0x08 ∷ written_signed 8 w64 change.value) (written_signed 8 w64 change.time)
    (change.pico % 256 ∷ change.pico / 256 % 256 ∷ []))

-- what is read is what is sent
pub read_sent : (nodes : Nodes) (i : NodeId) (attribute : ℕ) (bytes : List ℕ) (value : Stamped Variant) → attribute ≡ 13 → Sends nodes i bytes
    → read_of nodes i attribute ≡ Ok value → written_data_value value ≡ bytes
read_sent nodes i attribute bytes value is sends reads =
    let same : Ok value ≡ Ok sends.0 = sym reads ∙ ap (read_of nodes i) is ∙ sends.1 in
    ap written_data_value (ok_same value sends.0 same) ∙ sends.2
  where
    ok_same : (one other : Stamped Variant) → ◌≡◌ {A = Result (Stamped Variant) ℕ} (Ok one) (Ok other) → one ≡ other
    ok_same one other same = cc

-- an item that there is, is read
pub item_read : (nodes : Nodes) (number : ℕ) → 1 ≤ number → number ≤ nodes.items → read_of nodes (id.Numeric 2 number) 13 ≡ Ok (item_value (last_of number nodes.current))
item_read nodes number least most =
    let test : (nat_lt 0 number && nat_le number nodes.items) ≡ true = grind (arith, nat_tests) in
    rw test refl
