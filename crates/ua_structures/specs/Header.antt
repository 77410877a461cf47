-- The front of a request's body: its type and its header. What stands behind them isn't looked at, so that a reply can be made for a
-- request of any type.
use Rattle.std.specs.Prelude.{◌≡◌, ◌≤◌, ℕ, List, length, take, Result, Ok, Err, ◌⊎◌}
use Rattle.ua_base.specs.Status.{bad_decoding_error}
use Rattle.ua_values.specs.Reading.{Input, input, Reader, Fault, ◌>>=◌}
use Rattle.ua_values.specs.Parts.{◌followed_by◌, ChainCut, Begun}
use Rattle.ua_values.specs.Answer.{EndsEarly, IsFault}
use Rattle.ua_structures.specs.declared.body.BodyFault.{BodyFault}
use Rattle.ua_structures.specs.declared.body.BodyFault.TheVariants as body
use Rattle.ua_structures.specs.declared.header.RequestHeader.{RequestHeader}
use Rattle.ua_structures.specs.Body.{type_id, type_at, failed}
use Rattle.ua_structures.specs.Structures.{a_request_header}

-- any type, and this header
abbrev pub is_head : RequestHeader → List ℕ → Type 0
is_head h bytes = (n : ℕ) × (type_id n followed_by a_request_header.spells h) bytes

-- the bytes end inside the type, or inside the header
abbrev pub head_cut : List ℕ → Type 0
head_cut = ChainCut type_id (Begun type_id) (λ n. a_request_header.cut)

abbrev pub head_at : Reader RequestHeader
head_at = do
  n ← type_at
  a_request_header.at

-- what ends early does so at the end of all the bytes
abbrev pub judged_head : ℕ → Result (RequestHeader × Input) Fault → Result RequestHeader BodyFault
judged_head long (Ok x) = Ok x.0
judged_head long (Err fault) = failed long fault

abbrev pub header_at : List ℕ → Result RequestHeader BodyFault
header_at bytes = judged_head (length bytes) (head_at (input 0 bytes))

-- the same in the words of the grammar
abbrev pub IsHeaderRead : List ℕ → Result RequestHeader BodyFault → Type 0
IsHeaderRead bytes (Ok h) = (size : ℕ) × (size ≤ length bytes) × is_head h (take size bytes)
IsHeaderRead bytes (Err (body.Unknown n)) = ⊥
IsHeaderRead bytes (Err (body.Bad place code)) =
    ((code ≡ bad_decoding_error) × (place ≡ length bytes) × EndsEarly is_head head_cut bytes)
    ⊎ IsFault is_head head_cut bytes place code
IsHeaderRead bytes (Err body.OutOfMemory) = Unit {0}
