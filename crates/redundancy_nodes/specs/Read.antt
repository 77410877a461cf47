-- What a read of a node answers.
use Rattle.std.specs.Prelude.{◌≡◌, ℕ, ◌==◌, List, Option, Some, None, Result, Ok, Err, if◌then◌else◌}
use Rattle.ua_base.specs.Status.{bad_node_id_unknown, bad_attribute_id_invalid}
use Rattle.ua_values.specs.declared.node.NodeId.{NodeId}
use Rattle.ua_variants.specs.declared.variant.Variant.{Variant}
use Rattle.ua_variants.specs.declared.variant.Stamped.{Stamped}
use Rattle.ua_variants.specs.Spelling.{written_data_value}
use Rattle.redundancy_nodes.specs.declared.node.Node.{Node}
use Rattle.redundancy_nodes.specs.declared.nodes.Nodes.{Nodes}
use Rattle.redundancy_nodes.specs.declared.nodes.NodeFault.{NodeFault}
use Rattle.redundancy_nodes.specs.declared.nodes.NodeFault.TheVariants as fault
use Rattle.redundancy_nodes.specs.Node.{node_of}
use Rattle.redundancy_nodes.specs.Values.{value_of}

-- only the attribute 13, Value, is read
abbrev pub checked_node : ℕ → Option Node → Result Node ℕ
checked_node attribute None = Err bad_node_id_unknown
checked_node attribute (Some node) = if attribute == 13 then Ok node else Err bad_attribute_id_invalid

-- an unknown node is answered before a wrong attribute
abbrev pub checked : ℕ → NodeId → ℕ → Result Node ℕ
checked items id attribute = checked_node attribute (node_of items id)

abbrev pub read_checked : Nodes → Result Node ℕ → Result (Stamped Variant) ℕ
read_checked nodes (Ok node) = Ok (value_of nodes node)
read_checked nodes (Err code) = Err code

-- the value of the node of this id, or the status code that answers
abbrev pub read_of : Nodes → NodeId → ℕ → Result (Stamped Variant) ℕ
read_of nodes id attribute = read_checked nodes (checked nodes.items id attribute)

-- the answer is what is read, and want of memory is free
abbrev pub Reads : Result (Stamped Variant) NodeFault → Result (Stamped Variant) ℕ → Type 0
Reads (Ok value) read = read ≡ Ok value
Reads (Err (fault.Code code)) read = read ≡ Err code
Reads (Err fault.OutOfMemory) read = Unit {0}

-- a read of the node of this id answers with a DataValue of these bytes (OPC 10000-6, 5.2.2.17)
abbrev pub Sends : Nodes → NodeId → List ℕ → Type 0
Sends nodes id bytes = (value : Stamped Variant) × (read_of nodes id 13 ≡ Ok value) × (written_data_value value ≡ bytes)
