-- What `show value` answers: the text of the one DataValue that the input is, or where its first fault stands.
use Rattle.std.specs.Prelude.{◌≡◌, ◌==◌, ◌⊎◌, ℕ, List, length, Result, Ok, Err, if◌then◌else◌}
use Rattle.ua_base.specs.Status.{bad_decoding_error}
use Rattle.ua_values.specs.declared.fault.ValueFault.{ValueFault}
use Rattle.ua_values.specs.declared.fault.ValueFault.TheVariants as values
use Rattle.ua_values.specs.Reading.{Fault, Short, Bad, input, sized}
use Rattle.ua_values.specs.Answer.{EndsEarly, IsFault}
use Rattle.ua_variants.specs.declared.variant.Variant.{Variant}
use Rattle.ua_variants.specs.declared.variant.Stamped.{Stamped}
use Rattle.ua_variants.specs.Grammar.{data_value, data_value_cut}
use Rattle.ua_variants.specs.Reader.{data_value_at}
use Rattle.ua_chunks.specs.Bodies.{IsLeftOver}
use Rattle.show.specs.declared.fault.ShowFault.{ShowFault}
use Rattle.show.specs.declared.fault.ShowFault.TheVariants as faults
use Rattle.show.specs.Answer.{Refusal, refusal}
use Rattle.show.specs.Text.{value_text}

-- a value and how many of so many bytes it takes, or why there is none
abbrev pub shown_of : ℕ → Result (Stamped Variant × ℕ) Fault → Result (List ℕ) Refusal
shown_of size (Ok read) = if read.1 == size then Ok (value_text read.0) else Err (refusal read.1 bad_decoding_error)
shown_of size (Err Short) = Err (refusal size bad_decoding_error)
shown_of size (Err (Bad place code)) = Err (refusal place code)

-- what a fault of reading so many bytes is to the reader of the text
abbrev pub IsFaultOf : ValueFault → ℕ → ShowFault → Type 0
IsFaultOf values.Short size fault = fault ≡ faults.Bad size bad_decoding_error
IsFaultOf (values.Bad place code) size fault = fault ≡ faults.Bad place code
IsFaultOf values.OutOfMemory size fault = fault ≡ faults.OutOfMemory

-- one DataValue and nothing after it
abbrev pub shown_value : List ℕ → Result (List ℕ) Refusal
shown_value bytes = shown_of (length bytes) (sized (data_value_at 101 (input 0 bytes)))

-- ---- the same in the words of the grammar

-- the input ends inside a value
abbrev pub IsCutOff : List ℕ → ℕ → ℕ → Type 0
IsCutOff bytes place code =
    (place ≡ length bytes) × (code ≡ bad_decoding_error) × EndsEarly (data_value 101) (data_value_cut 101) bytes

-- the whole input is one value, whose text this is; or why it is none: it is cut off, more follows, or it breaks a rule
abbrev pub IsShown : {X : Type 0} → (X → List ℕ) → List ℕ → Result X ShowFault → Type 0
IsShown view bytes (Ok x) = (d : Stamped Variant) × data_value 101 d bytes × (view x ≡ value_text d)
IsShown view bytes (Err (faults.Bad place code)) =
    IsCutOff bytes place code
    ⊎ (IsLeftOver (data_value 101) bytes place code ⊎ IsFault (data_value 101) (data_value_cut 101) bytes place code)
IsShown view bytes (Err faults.OutOfMemory) = Unit {0}
