-- The values of nodes and of entries keep the limits.
use Rattle.std.proofs.Common.{◌≡◌, ℕ, ℤ, pos, suc, ◌^◌, ◌<◌, ◌==◌, List, Bool, true, false, cond, Option, Some, None, IfSome, Ok, Err, Result, nat_lt, nat_le, ◌&&◌, FitsSigned, sym, ap, ◌∙◌, subst, arith}
use Rattle.std.specs.List.{AllByRecursion}
use Rattle.std.specs.Int.{w32, w64}
use Rattle.std.proofs.lemmas.Int.{ints}
use Rattle.set_model.specs.declared.source.Change.{Change}
use Rattle.set_model.specs.Source.{last_of}
use Rattle.ua_base.specs.Status.{bad_attribute_id_invalid}
use Rattle.ua_values.specs.declared.node.NodeId.{NodeId}
use Rattle.ua_values.specs.declared.node.NodeId.TheVariants as id
use Rattle.ua_values.specs.Laws.{KeepsArray, KeepsText}
use Rattle.ua_variants.specs.declared.variant.Array.{Array}
use Rattle.ua_variants.specs.declared.variant.Array.TheVariants as array
use Rattle.ua_variants.specs.declared.variant.Scalar.{Scalar}
use Rattle.ua_variants.specs.declared.variant.Scalar.TheVariants as scalar
use Rattle.ua_variants.specs.declared.variant.Stamped.{Stamped}
use Rattle.ua_variants.specs.declared.variant.Variant.{Variant, out-Variant, out-roll-Variant}
use Rattle.ua_variants.specs.declared.variant.Variant.TheVariants.{rolls-Array, rolls-Scalar}
use Rattle.ua_variants.specs.declared.variant.Variant.TheOpen.{Variant-F}
use Rattle.ua_variants.specs.declared.variant.Variant.TheVariants as variant
use Rattle.ua_variants.specs.Keeps.{KeepsDataValue, KeepsFlatArray, KeepsLayer, KeepsScalar, KeepsStamped, KeepsVariant}
use Rattle.redundancy_nodes.specs.declared.nodes.Nodes.{Nodes}
use Rattle.redundancy_nodes.specs.Node.{item_node, server_node}
use Rattle.redundancy_nodes.specs.Read.{checked_node, read_checked, read_of}
use Rattle.redundancy_nodes.specs.Texts.{namespaces_of, servers_of, uris_of}
use Rattle.redundancy_nodes.specs.Values.{item_value, sampled, texts_value, timeless, told_pico, value_of}
use Rattle.server_keeps.specs.Fitting.{FitsChange}
use Rattle.server_keeps.proofs.Lists.{choice, found, all_reverse}

-- ---- values

out_scalar : (value : Scalar) → out-Variant (variant.Scalar value) ≡ Variant-F.Scalar value
out_scalar value = ap out-Variant (sym (rolls-Scalar value)) ∙ out-roll-Variant (Variant-F.Scalar value)

out_array : (values : Array) → out-Variant (variant.Array values None) ≡ Variant-F.Array values None
out_array values = ap out-Variant (sym (rolls-Array values None)) ∙ out-roll-Variant (Variant-F.Array values None)

pub scalar_keeps : (levels : ℕ) (value : Scalar) → KeepsScalar value → KeepsVariant (suc levels) (variant.Scalar value)
unfolding KeepsVariant KeepsDataValue
scalar_keeps levels value h = subst (KeepsLayer (KeepsVariant levels) (KeepsDataValue levels)) (sym (out_scalar value)) h

pub array_keeps : (levels : ℕ) (values : Array) → KeepsFlatArray values → KeepsVariant (suc levels) (variant.Array values None)
unfolding KeepsVariant KeepsDataValue
array_keeps levels values h =
    subst (KeepsLayer (KeepsVariant levels) (KeepsDataValue levels)) (sym (out_array values)) (h, tt)

-- a DataValue that keeps the limits
abbrev pub KeepsData : Stamped Variant → Type 0
KeepsData value = KeepsStamped (KeepsVariant 100) value

pub data_keeps : (value : Stamped Variant) → KeepsData value → KeepsDataValue 101 value
unfolding KeepsVariant KeepsDataValue
data_keeps value h = h

abbrev pub IsPico : ℕ → Type 0
IsPico pico = pico < 2 ^ 16

pub sampled_keeps : (value : Option Variant) (time : Option ℤ) (pico : Option ℕ) → IfSome value (KeepsVariant 100)
    → IfSome time (FitsSigned w64) → IfSome pico IsPico → KeepsData (sampled value time pico)
sampled_keeps value time pico h t p = (h, (tt, t, p, tt, tt))

timeless_keeps : (value : Variant) → KeepsVariant 100 value → KeepsData (timeless value)
timeless_keeps value h = sampled_keeps (Some value) None None h tt tt

-- ---- the values of nodes

texts_keep : (texts : List (Option (List ℕ))) → KeepsArray KeepsText texts → KeepsData (texts_value texts)
texts_keep texts h = timeless_keeps (variant.Array (array.String texts) None) (array_keeps 99 (array.String texts) h)

told_keeps : (pico : ℕ) → IsPico pico → IfSome (told_pico pico) IsPico
told_keeps pico h = choice (λ o. IfSome o IsPico) (pico == 0) None (Some pico) tt h

pub last_fits : (number : ℕ) (changes : List Change) → AllByRecursion FitsChange changes → IfSome (last_of number changes) FitsChange
last_fits number changes h = found FitsChange (λ c. c.item == number) _ (all_reverse FitsChange changes h)

item_keeps : (change : Option Change) → IfSome change FitsChange → KeepsData (item_value change)
item_keeps None h = sampled_keeps None None None tt tt tt
item_keeps (Some change) h =
    sampled_keeps (Some (variant.Scalar (scalar.Int64 change.value))) (Some change.time) (told_pico change.pico)
    (scalar_keeps 99 (scalar.Int64 change.value) h.value) h.time (told_keeps change.pico h.pico)

-- what the values of nodes are made of fits
pub record FitsNodes (nodes : Nodes) : Type 0 where
  pub uri : KeepsText nodes.uri
  pub uris : KeepsArray KeepsText (uris_of nodes.members)
  pub support : nodes.support < 2 ^ 8
  pub level : nodes.level < 2 ^ 8
  pub start : FitsSigned w64 nodes.start
  pub now : FitsSigned w64 nodes.now
  pub current : AllByRecursion FitsChange nodes.current

int32_fits : (n : ℕ) → n < 2 ^ 8 → FitsSigned w32 (pos n)
int32_fits n h = omega (arith, ints)

-- a value that is read keeps the limits, and a code that refuses does
abbrev pub Readable : Result (Stamped Variant) ℕ → Type 0
Readable (Ok value) = KeepsData value
Readable (Err code) = code < 2 ^ 32

-- what is read is this value, or is refused
read_keeps : (nodes : Nodes) (attribute : ℕ) (one : _) → KeepsData (value_of nodes one) → Readable (read_checked nodes (checked_node attribute (Some one)))
read_keeps nodes attribute one h = choice (λ r. Readable (read_checked nodes r)) (attribute == 13) (Ok one) (Err bad_attribute_id_invalid) h (omega arith)

-- one of the values, or what comes after it
pick : (nodes : Nodes) (attribute : ℕ) (b : Bool) (one : _) (rest : _) → KeepsData (value_of nodes one)
    → Readable (read_checked nodes (checked_node attribute rest)) → Readable (read_checked nodes (checked_node attribute (cond b (Some one) rest)))
pick nodes attribute true one rest h k = read_keeps nodes attribute one h
pick nodes attribute false one rest h k = k

-- what is read by one rule, or by another
either : (nodes : Nodes) (attribute : ℕ) (b : Bool) (one : _) (rest : _) → Readable (read_checked nodes (checked_node attribute one))
    → Readable (read_checked nodes (checked_node attribute rest)) → Readable (read_checked nodes (checked_node attribute (cond b one rest)))
either nodes attribute true one rest h k = h
either nodes attribute false one rest h k = k

server_keeps : (nodes : Nodes) (attribute number : ℕ) → FitsNodes nodes → Readable (read_checked nodes (checked_node attribute (server_node number)))
server_keeps nodes attribute number h =
    pick nodes attribute (number == 2254) _ _ (texts_keep (servers_of nodes.uri) (omega arith, (h.uri, tt)))
    (pick nodes attribute (number == 2255) _ _ (texts_keep (namespaces_of nodes.uri) (omega arith, (omega arith, (h.uri, (omega arith, tt)))))
    (pick nodes attribute (number == 2257) _ _ (timeless_keeps _ (scalar_keeps 99 (scalar.DateTime nodes.start) h.start))
    (pick nodes attribute (number == 2258) _ _ (timeless_keeps _ (scalar_keeps 99 (scalar.DateTime nodes.now) h.now))
    (pick nodes attribute (number == 2259) _ _ (timeless_keeps _ (scalar_keeps 99 (scalar.Int32 (pos 0)) (int32_fits 0 (omega arith))))
    (pick nodes attribute (number == 2267) _ _ (timeless_keeps _ (scalar_keeps 99 (scalar.Byte nodes.level) h.level))
    (pick nodes attribute (number == 3709) _ _ (timeless_keeps _ (scalar_keeps 99 (scalar.Int32 (pos nodes.support)) (int32_fits nodes.support h.support)))
    (pick nodes attribute (number == 11314) _ None (texts_keep (uris_of nodes.members) h.uris) (omega arith))))))))

item_read_keeps : (nodes : Nodes) (attribute items number : ℕ) → FitsNodes nodes → Readable (read_checked nodes (checked_node attribute (item_node items number)))
item_read_keeps nodes attribute items number h =
    pick nodes attribute (nat_lt 0 number && nat_le number items) _ None
    (item_keeps (last_of number nodes.current) (last_fits number nodes.current h.current)) (omega arith)

pub read_of_keeps : (nodes : Nodes) (id : NodeId) (attribute : ℕ) → FitsNodes nodes → Readable (read_of nodes id attribute)
read_of_keeps nodes (id.Numeric namespace number) attribute h =
    either nodes attribute (namespace == 0) _ _ (server_keeps nodes attribute number h)
    (either nodes attribute (namespace == 2) _ None (item_read_keeps nodes attribute nodes.items number h) (omega arith))
read_of_keeps nodes (id.Text namespace name) attribute h = omega arith
read_of_keeps nodes (id.Guid namespace name) attribute h = omega arith
read_of_keeps nodes (id.Opaque namespace name) attribute h = omega arith
