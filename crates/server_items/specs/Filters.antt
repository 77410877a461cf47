-- What is made of a filter that was read.
use Rattle.std.specs.Prelude.{◌≡◌, Bool, false, Result, Ok, Err}
use Rattle.ua_base.specs.declared.memory.OutOfMemory.{OutOfMemory}
use Rattle.ua_structures.specs.declared.body.BodyFault.{BodyFault}
use Rattle.ua_structures.specs.declared.body.BodyFault.TheVariants as fault
use Rattle.ua_sub_msgs.specs.declared.filter.Filter.{Filter}
use Rattle.server_rules.specs.Items.{is_plain_filter}

-- whether it is plain, unless memory was refused
abbrev pub Judges : Result Filter BodyFault → Result Bool OutOfMemory → Type 0
Judges (Ok filter) judged = judged ≡ Ok (is_plain_filter (Ok filter))
Judges (Err fault.OutOfMemory) judged = judged ≡ Err (record {})
Judges (Err (fault.Unknown number)) judged = judged ≡ Ok false
Judges (Err (fault.Bad place code)) judged = judged ≡ Ok false
