-- What is made of a node that was read.
use Rattle.std.specs.Prelude.{◌≡◌, ℕ, ℤ, Option, Result, Ok, Err}
use Rattle.ua_base.specs.declared.memory.OutOfMemory.{OutOfMemory}
use Rattle.ua_base.specs.declared.modes.Timestamps.{Timestamps}
use Rattle.ua_variants.specs.declared.variant.Variant.{Variant}
use Rattle.ua_variants.specs.declared.variant.Stamped.{Stamped}
use Rattle.redundancy_nodes.specs.declared.nodes.NodeFault.{NodeFault}
use Rattle.redundancy_nodes.specs.declared.nodes.NodeFault.TheVariants as fault
use Rattle.server_rules.specs.Reading.{given_value}

-- the value that is given, unless memory was refused
abbrev pub Gives : Timestamps → ℤ → Option ℕ → Result (Stamped Variant) NodeFault → Result (Stamped Variant) OutOfMemory → Type 0
Gives stamps now form (Ok value) given = given ≡ Ok (given_value stamps now form (Ok value))
Gives stamps now form (Err (fault.Code code)) given = given ≡ Ok (given_value stamps now form (Err code))
Gives stamps now form (Err fault.OutOfMemory) given = given ≡ Err (record {})
