-- What is given of a node that was read.
use Rattle.std.proofs.Common.{◌≡◌, ℕ, ℤ, Option, Result, Ok, Err, IfOk, refl}
use Rattle.ua_base.specs.declared.memory.OutOfMemory.{OutOfMemory}
use Rattle.ua_base.specs.declared.modes.Timestamps.{Timestamps}
use Rattle.ua_variants.specs.declared.variant.Stamped.{Stamped}
use Rattle.ua_variants.specs.declared.variant.Variant.{Variant}
use Rattle.redundancy_nodes.specs.declared.nodes.NodeFault.{NodeFault}
use Rattle.redundancy_nodes.specs.declared.nodes.NodeFault.TheVariants as fault
use Rattle.redundancy_nodes.specs.Read.{Reads}
use Rattle.server_rules.specs.Reading.{given_value}
use Rattle.server_items.specs.Read.{Gives}

pub given_is_read : (stamps : Timestamps) (now : ℤ) (form : Option ℕ) (read : Result (Stamped Variant) NodeFault)
    (said : Result (Stamped Variant) ℕ) (given : Result (Stamped Variant) OutOfMemory) → Reads read said
    → Gives stamps now form read given → IfOk given (λ value. value ≡ given_value stamps now form said)
given_is_read stamps now form (Ok value) said given is gives = rw (gives, is) refl
given_is_read stamps now form (Err (fault.Code code)) said given is gives = rw (gives, is) refl
given_is_read stamps now form (Err fault.OutOfMemory) said given is gives = rw gives tt
