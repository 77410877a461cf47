-- The value of each node.
use Rattle.std.specs.Prelude.{ℕ, ℤ, pos, ◌==◌, List, Option, Some, None, if◌then◌else◌}
use Rattle.set_model.specs.declared.source.Change.{Change}
use Rattle.set_model.specs.Source.{last_of}
use Rattle.ua_variants.specs.declared.variant.Scalar.TheVariants as scalar
use Rattle.ua_variants.specs.declared.variant.Array.TheVariants as array
use Rattle.ua_variants.specs.declared.variant.Variant.{Variant}
use Rattle.ua_variants.specs.declared.variant.Variant.TheVariants as variant
use Rattle.ua_variants.specs.declared.variant.Stamped.{Stamped}
use Rattle.redundancy_nodes.specs.declared.node.Node.{Node}
use Rattle.redundancy_nodes.specs.declared.node.Node.TheVariants as node
use Rattle.redundancy_nodes.specs.declared.nodes.Nodes.{Nodes}
use Rattle.redundancy_nodes.specs.Texts.{servers_of, namespaces_of, uris_of}

-- a value with this source time and picoseconds, if there are any, and no other time and no status
abbrev pub sampled : Option Variant → Option ℤ → Option ℕ → Stamped Variant
sampled value time pico = record {
  value = value;
  status = None;
  source_timestamp = time;
  source_picoseconds = pico;
  server_timestamp = None;
  server_picoseconds = None;
}

-- a value of namespace 0 has no source time
abbrev pub timeless : Variant → Stamped Variant
timeless value = sampled (Some value) None None

-- an array of texts, in one dimension
abbrev pub texts_value : List (Option (List ℕ)) → Stamped Variant
texts_value texts = timeless (variant.Array (array.String texts) None)

-- no picoseconds are not told
abbrev pub told_pico : ℕ → Option ℕ
told_pico pico = if pico == 0 then None else Some pico

-- an item's current value is an Int64 with its source time, and its picoseconds where they aren't 0; before the first
-- change it holds nothing
abbrev pub item_value : Option Change → Stamped Variant
item_value None = sampled None None None
item_value (Some change) =
    sampled (Some (variant.Scalar (scalar.Int64 change.value))) (Some change.time) (told_pico change.pico)

abbrev pub value_of : Nodes → Node → Stamped Variant
value_of nodes node.ServerArray = texts_value (servers_of nodes.uri)
value_of nodes node.NamespaceArray = texts_value (namespaces_of nodes.uri)
value_of nodes node.StartTime = timeless (variant.Scalar (scalar.DateTime nodes.start))
value_of nodes node.CurrentTime = timeless (variant.Scalar (scalar.DateTime nodes.now))
value_of nodes node.State = timeless (variant.Scalar (scalar.Int32 (pos 0)))
value_of nodes node.ServiceLevel = timeless (variant.Scalar (scalar.Byte nodes.level))
value_of nodes node.RedundancySupport = timeless (variant.Scalar (scalar.Int32 (pos nodes.support)))
value_of nodes node.ServerUriArray = texts_value (uris_of nodes.members)
value_of nodes (node.Item number) = item_value (last_of number nodes.current)
