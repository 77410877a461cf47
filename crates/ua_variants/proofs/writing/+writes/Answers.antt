use Rattle.std.proofs.Common.{rules, ℕ, List, ◌≡◌, ◌++◌, ◌%◌, ◌^◌, length, replicate}
use Rattle.std.proofs.lemmas.List.{length-replicate}
use Rattle.std.specs.List.{flat_map}
use Rattle.byteorder.specs.Endian.{little_bytes}
use Rattle.ua_variants.specs.declared.head.Kind.TheVariants as kind
use Rattle.ua_variants.specs.declared.head.Head.TheVariants as head
use Rattle.ua_variants.specs.Kinds.{head_number}
use Rattle.ua_variants.specs.Spelling.{flat_of, flat_of_array, written_scalar, written_flat_array, written_shape, written_head, written_variant, written_data_value}
use Rattle.ua_variants.proofs.Appends.{two, three, four}
use Rattle.ua_variants.proofs.Layers.{written_null, written_one, written_inner, written_inner_data, written_diagnostic, written_many, written_many_data, written_many_inner, written_diagnostics}
use Rattle.ua_variants.proofs.writing.+writes.Goals as goal

pub put_variant-returns-in-Null : goal.put_variant-returns-in-Null
put_variant-returns-in-Null t c = rw (c.in-Null.is, written_null) (search rules)

pub put_variant-returns-in_ok-write_byte-in-Scalar : goal.put_variant-returns-in_ok-write_byte-in-Scalar
put_variant-returns-in_ok-write_byte-in-Scalar t c =
    let s = c.in-Scalar.value in
    let first : c.write_byte-in-Scalar.new.to.items ≡ c.args.to.now.items ++ little_bytes 1 (head_number (head.One (kind.Flat (flat_of s)))) = search rules in
    rw (c.in-Scalar.is, written_one s)
    (two c.put_scalar.result c.args.to.now.items c.write_byte-in-Scalar.new.to.items c.put_scalar.new.to.items (little_bytes 1 (head_number (head.One (kind.Flat (flat_of s))))) (written_scalar s) first c.put_scalar.ensures)

pub put_variant-returns-in_ok-write_byte-in-DataValue : goal.put_variant-returns-in_ok-write_byte-in-DataValue
put_variant-returns-in_ok-write_byte-in-DataValue t c =
    let d = c.in-DataValue.value in
    let first : c.write_byte-in-DataValue.new.to.items ≡ c.args.to.now.items ++ little_bytes 1 23 = search rules in
    rw (c.in-DataValue.is, written_inner_data d, ← c.get.ensures)
    (two c.put_data_value.result c.args.to.now.items c.write_byte-in-DataValue.new.to.items c.put_data_value.new.to.items (little_bytes 1 23) (written_data_value c.get.result.now) first c.put_data_value.ensures)

pub put_variant-returns-in_ok-write_byte-in-Variant : goal.put_variant-returns-in_ok-write_byte-in-Variant
put_variant-returns-in_ok-write_byte-in-Variant t c =
    let v = c.in-Variant.value in
    let first : c.write_byte-in-Variant.new.to.items ≡ c.args.to.now.items ++ little_bytes 1 24 = search rules in
    rw (c.in-Variant.is, written_inner v, ← c.get-in-Variant.ensures)
    (two c.put_variant.result c.args.to.now.items c.write_byte-in-Variant.new.to.items c.put_variant.new.to.items (little_bytes 1 24) (written_variant c.get-in-Variant.result.now) first c.put_variant.ensures)

pub put_variant-returns-in_ok-write_byte-in-DiagnosticInfo : goal.put_variant-returns-in_ok-write_byte-in-DiagnosticInfo
put_variant-returns-in_ok-write_byte-in-DiagnosticInfo t c =
    rw (c.in-DiagnosticInfo.is, written_diagnostic)
    (two c.write_byte-in-DiagnosticInfo-2.result c.args.to.now.items c.write_byte-in-DiagnosticInfo.new.to.items c.write_byte-in-DiagnosticInfo-2.new.to.items (little_bytes 1 25) (little_bytes 1 0) c.in_ok-write_byte-in-DiagnosticInfo.ensures.ok c.write_byte-in-DiagnosticInfo-2.ensures.ok)

pub put_variant-returns-in_ok-put_flat_array-in-Array : goal.put_variant-returns-in_ok-put_flat_array-in-Array
put_variant-returns-in_ok-put_flat_array-in-Array t c =
    let items = c.in-Array.items in
    let sizes = c.in-Array.sizes in
    let first : c.put_head.new.to.items ≡ c.args.to.now.items ++ written_head (kind.Flat (flat_of_array items)) sizes = search rules in
    rw (c.in-Array.is, written_many items sizes)
    (three c.put_shape.result c.args.to.now.items c.put_head.new.to.items c.put_flat_array.new.to.items c.put_shape.new.to.items (written_head (kind.Flat (flat_of_array items)) sizes) (written_flat_array items) (written_shape sizes) first c.in_ok-put_flat_array-in-Array.ensures c.put_shape.ensures)

pub put_variant-returns-in_ok-put_data_values-in-DataValues : goal.put_variant-returns-in_ok-put_data_values-in-DataValues
put_variant-returns-in_ok-put_data_values-in-DataValues t c =
    let items = c.in-DataValues.items in
    let sizes = c.in-DataValues.sizes in
    let first : c.put_head-in-DataValues.new.to.items ≡ c.args.to.now.items ++ written_head kind.DataValue sizes = search rules in
    let second : c.put_count.new.to.items ≡ c.put_head-in-DataValues.new.to.items ++ little_bytes 4 (length items % 2 ^ 32) = search rules in
    let third : c.put_data_values.new.to.items ≡ c.put_count.new.to.items ++ flat_map written_data_value items = search rules in
    rw (c.in-DataValues.is, written_many_data items sizes)
    (four c.put_shape-in-DataValues.result c.args.to.now.items c.put_head-in-DataValues.new.to.items c.put_count.new.to.items c.put_data_values.new.to.items c.put_shape-in-DataValues.new.to.items (written_head kind.DataValue sizes) (little_bytes 4 (length items % 2 ^ 32)) (flat_map written_data_value items) (written_shape sizes) first second third c.put_shape-in-DataValues.ensures)

pub put_variant-returns-in_ok-put_variants-in-Variants : goal.put_variant-returns-in_ok-put_variants-in-Variants
put_variant-returns-in_ok-put_variants-in-Variants t c =
    let items = c.in-Variants.items in
    let sizes = c.in-Variants.sizes in
    let first : c.put_head-in-Variants.new.to.items ≡ c.args.to.now.items ++ written_head kind.Variant sizes = search rules in
    let second : c.put_count-in-Variants.new.to.items ≡ c.put_head-in-Variants.new.to.items ++ little_bytes 4 (length items % 2 ^ 32) = search rules in
    let third : c.put_variants.new.to.items ≡ c.put_count-in-Variants.new.to.items ++ flat_map written_variant items = search rules in
    rw (c.in-Variants.is, written_many_inner items sizes)
    (four c.put_shape-in-Variants.result c.args.to.now.items c.put_head-in-Variants.new.to.items c.put_count-in-Variants.new.to.items c.put_variants.new.to.items c.put_shape-in-Variants.new.to.items (written_head kind.Variant sizes) (little_bytes 4 (length items % 2 ^ 32)) (flat_map written_variant items) (written_shape sizes) first second third c.put_shape-in-Variants.ensures)

pub put_variant-returns-in_ok-put_diagnostics-in-DiagnosticInfos : goal.put_variant-returns-in_ok-put_diagnostics-in-DiagnosticInfos
put_variant-returns-in_ok-put_diagnostics-in-DiagnosticInfos t c =
    let n = c.in-DiagnosticInfos.count in
    let sizes = c.in-DiagnosticInfos.sizes in
    let first : c.put_head-in-DiagnosticInfos.new.to.items ≡ c.args.to.now.items ++ written_head kind.DiagnosticInfo sizes = search rules in
    let zeros : List ℕ = replicate n 0 in
    let many : length zeros ≡ n = length-replicate {A = ℕ} n 0 in
    let second : c.put_count-in-DiagnosticInfos.new.to.items ≡ c.put_head-in-DiagnosticInfos.new.to.items ++ little_bytes 4 (length zeros % 2 ^ 32) = rw many (search rules) in
    let third : c.put_diagnostics.new.to.items ≡ c.put_count-in-DiagnosticInfos.new.to.items ++ flat_map (little_bytes 1) (replicate n 0) = search rules in
    rw (c.in-DiagnosticInfos.is, written_diagnostics n sizes)
    (four c.put_shape-in-DiagnosticInfos.result c.args.to.now.items c.put_head-in-DiagnosticInfos.new.to.items c.put_count-in-DiagnosticInfos.new.to.items c.put_diagnostics.new.to.items c.put_shape-in-DiagnosticInfos.new.to.items (written_head kind.DiagnosticInfo sizes) (little_bytes 4 (length (replicate n 0) % 2 ^ 32)) (flat_map (little_bytes 1) (replicate n 0)) (written_shape sizes) first second third c.put_shape-in-DiagnosticInfos.ensures)
