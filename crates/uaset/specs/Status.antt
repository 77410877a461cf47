-- The statuses of a command, with their numbers and texts.
use Rattle.std.specs.Prelude.{ℕ, true, List, [], ◌++◌, codes}
use Rattle.std.specs.Fmt.{decimal}
use Rattle.set_model.specs.Line.{hex}
use Rattle.scenario.specs.Texts.{kind_text}
use Rattle.uaset.specs.declared.status.Status.{Status}
use Rattle.uaset.specs.declared.status.Status.TheVariants as status

-- a status code of OPC UA in eight upper hexadecimal digits
abbrev pub code_text : ℕ → List ℕ
code_text code = hex 8 true code

abbrev pub code_of : Status → ℕ
code_of status.Ok = 0
code_of (status.Usage place) = 2
code_of (status.Scenario line kind) = 3
code_of (status.Show place code) = 6
code_of status.ReadFault = 4
code_of status.WriteFault = 5
code_of (status.TooLong bytes) = 7
code_of status.Memory = 12

abbrev pub status_text : Status → List ℕ
status_text status.Ok = []
status_text (status.Usage place) = codes "usage: word " ++ decimal place
status_text (status.Scenario line kind) = codes "line " ++ decimal line ++ codes ": " ++ kind_text kind
status_text (status.Show place code) = codes "byte " ++ decimal place ++ codes ": " ++ code_text code
status_text status.ReadFault = codes "read fault"
status_text status.WriteFault = codes "write fault"
status_text (status.TooLong bytes) = codes "too long: " ++ decimal bytes
status_text status.Memory = codes "out of memory"
