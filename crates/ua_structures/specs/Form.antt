-- What a type's bytes are: which are a spelling of which value, how a value is read and written; and that these fit together.
use Rattle.std.specs.Prelude.{◌≡◌, ◌<◌, ◌^◌, ℕ, ℤ, List, ◌++◌, Bool, Option, FitsSigned}
use Rattle.std.specs.Int.{w32, w64}
use Rattle.byteorder.specs.Endian.{little_bytes}
use Rattle.ua_values.specs.declared.node.NodeId.{NodeId}
use Rattle.ua_values.specs.declared.names.QualifiedName.{QualifiedName}
use Rattle.ua_values.specs.declared.names.LocalizedText.{LocalizedText}
use Rattle.ua_values.specs.declared.extension.ExtensionObject.{ExtensionObject}
use Rattle.ua_values.specs.Limits.{most_items}
use Rattle.ua_values.specs.Reading.{Reader, ◌>>=◌, give, number_at}
use Rattle.ua_values.specs.Parts.{number, ◌followed_by◌, text, array, Begun, ChainCut, array_cut}
use Rattle.ua_values.specs.Codec.{Reads, IsCodec}
use Rattle.ua_values.specs.Readers.{boolean_at, signed_at, text_at, node_at, qualified_at, localized_at, extension_at, array_at}
use Rattle.ua_values.specs.Types.{boolean, signed, node_id, qualified_name, localized_text, extension_object}
use Rattle.ua_values.specs.Written.{written_boolean, written_signed, written_text, written_node, written_qualified, written_localized, written_extension, written_array}
use Rattle.ua_values.specs.Laws.{KeepsText, KeepsNode, KeepsQualified, KeepsLocalized, KeepsExtension, KeepsArray}
use Rattle.ua_values.proofs.Chain.{reads}
use Rattle.ua_values.proofs.Nesting.{list_reads}
use Rattle.ua_values.proofs.TypeCodecs.{byte_codec, number32_codec, number64_codec, boolean_codec, text_codec, node_codec, qualified_codec, localized_codec, extension_codec}
use Rattle.ua_values.proofs.WrittenLemmas.{number1, number4, boolean_spelled, text_spelled, node_spelled, qualified_spelled, localized_spelled, extension_spelled, array_spelled}
use Rattle.ua_variants.specs.declared.variant.Variant.{Variant}
use Rattle.ua_variants.specs.declared.variant.Stamped.{Stamped}
use Rattle.ua_variants.specs.declared.variant.DiagnosticInfo.{DiagnosticInfo}
use Rattle.ua_variants.specs.Grammar.{diagnostic_info, diagnostic_cut, variant_spells, variant_cut, data_value, data_value_cut}
use Rattle.ua_variants.specs.Reader.{diagnostic_at, variant_at, data_value_at}
use Rattle.ua_variants.specs.Spelling.{written_variant, written_data_value}
use Rattle.ua_variants.specs.Keeps.{KeepsVariant, KeepsDataValue}
use Rattle.ua_variants.proofs.Codecs.{diagnostic_reads, reads_both}
use Rattle.ua_variants.proofs.Spelled.{diagnostic_spelled, spelled_both}
use Rattle.ua_structures.specs.Fitting.{number8, int32_codec, int64_codec, int32_spelled, int64_spelled, pair_reads, pair_spelled, record_reads, unused_reads}

pub record Form (A : Type 0) : Type 1 where
  -- which bytes are a spelling of a value
  pub spells : A → List ℕ → Type 0
  -- which bytes end inside a spelling
  pub cut : List ℕ → Type 0
  -- reads the value at the front of bytes
  pub at : Reader A
  -- the spelling that is written
  pub written : A → List ℕ
  -- which values keep the rules on lengths, and have numbers that their types hold
  pub keeps : A → Type 0
  -- the reader reads exactly the spellings
  pub reads : Reads spells cut at
  -- the written spelling of a value that keeps the rules is one
  pub spelled : (a : A) → keeps a → spells a (written a)

-- ---- the built-in types

-- a type whose values hold no others: what ends early is the front of a spelling
abbrev pub plain : {A : Type 0} (spells : A → List ℕ → Type 0) (at : Reader A) (written : A → List ℕ) (keeps : A → Type 0) → IsCodec spells at → ((a : A) → keeps a → spells a (written a)) → Form A
plain spells at written keeps codec spelled =
    record { spells = spells; cut = Begun spells; at = at; written = written; keeps = keeps; reads = reads spells at codec; spelled = spelled }

abbrev pub a_boolean : Form Bool
a_boolean = plain boolean boolean_at written_boolean (λ b. Unit {0}) boolean_codec (λ b kept. boolean_spelled b)

abbrev pub a_byte : Form ℕ
a_byte = plain (number 1) (number_at 1) (little_bytes 1) (λ n. n < 2 ^ 8) byte_codec number1

abbrev pub a_uint32 : Form ℕ
a_uint32 = plain (number 4) (number_at 4) (little_bytes 4) (λ n. n < 2 ^ 32) number32_codec number4

-- the bits of a Double
abbrev pub a_double : Form ℕ
a_double = plain (number 8) (number_at 8) (little_bytes 8) (λ n. n < 2 ^ 64) number64_codec number8

-- an enumeration too
abbrev pub an_int32 : Form ℤ
an_int32 = plain (signed 4 w32) (signed_at 4 w32) (written_signed 4 w32) (FitsSigned w32) int32_codec int32_spelled

-- in 100 nanoseconds since 1601-01-01 UTC
abbrev pub a_date_time : Form ℤ
a_date_time = plain (signed 8 w64) (signed_at 8 w64) (written_signed 8 w64) (FitsSigned w64) int64_codec int64_spelled

-- a String or a ByteString
abbrev pub a_text : Form (Option (List ℕ))
a_text = plain text text_at written_text KeepsText text_codec text_spelled

abbrev pub a_node_id : Form NodeId
a_node_id = plain node_id node_at written_node KeepsNode node_codec node_spelled

abbrev pub a_qualified_name : Form QualifiedName
a_qualified_name = plain qualified_name qualified_at written_qualified KeepsQualified qualified_codec qualified_spelled

abbrev pub a_localized_text : Form LocalizedText
a_localized_text = plain localized_text localized_at written_localized KeepsLocalized localized_codec localized_spelled

abbrev pub an_extension_object : Form ExtensionObject
an_extension_object = plain extension_object extension_at written_extension KeepsExtension extension_codec extension_spelled

abbrev pub a_variant : Form Variant
a_variant = record {
  spells = variant_spells 101;
  cut = variant_cut 101;
  at = variant_at 101;
  written = written_variant;
  keeps = KeepsVariant 101;
  reads = (reads_both 101).variant;
  spelled = (spelled_both 101).variant;
}

abbrev pub a_data_value : Form (Stamped Variant)
a_data_value = record {
  spells = data_value 101;
  cut = data_value_cut 101;
  at = data_value_at 101;
  written = written_data_value;
  keeps = KeepsDataValue 101;
  reads = (reads_both 101).stamped;
  spelled = (spelled_both 101).stamped;
}

-- read and dropped
abbrev pub a_diagnostic_info : Form DiagnosticInfo
a_diagnostic_info = record {
  spells = diagnostic_info 101;
  cut = diagnostic_cut 101;
  at = diagnostic_at 101;
  written = λ d. little_bytes 1 0;
  keeps = λ d. Unit {0};
  reads = diagnostic_reads 101;
  spelled = λ d kept. diagnostic_spelled 100 d;
}

-- ---- put together

abbrev pub pair_at : {A B : Type 0} → Reader A → Reader B → Reader (A × B)
pair_at first second = first >>= λ a. second >>= λ b. give (a, b)

-- one after the other
infixr 20 ◌then◌
abbrev pub ◌then◌ : {A B : Type 0} → Form A → Form B → Form (A × B)
first then second = record {
  spells = λ p. first.spells p.0 followed_by second.spells p.1;
  cut = ChainCut first.spells first.cut (λ a. second.cut);
  at = pair_at first.at second.at;
  written = λ p. first.written p.0 ++ second.written p.1;
  keeps = λ p. first.keeps p.0 × second.keeps p.1;
  reads = pair_reads first.spells first.cut first.at second.spells second.cut second.at first.reads second.reads;
  spelled = pair_spelled first.spells first.written first.keeps second.spells second.written second.keeps first.spelled second.spelled;
}

-- the fields of a structure in their order: `parts` takes them from it, and `make` makes it of them
abbrev pub structure : {A R : Type 0} → Form A → (parts : R → A) → (make : A → R) → ((r : R) → make (parts r) ≡ r) → ((a : A) → parts (make a) ≡ a) → Form R
structure fields parts make made parted = record {
  spells = λ r. fields.spells (parts r);
  cut = fields.cut;
  at = fields.at >>= λ a. give (make a);
  written = λ r. fields.written (parts r);
  keeps = λ r. fields.keeps (parts r);
  reads = record_reads fields.spells fields.cut fields.at parts make made parted fields.reads;
  spelled = λ r. fields.spelled (parts r);
}

-- an array of at most 65,536 elements
abbrev pub an_array : {A : Type 0} → Form A → Form (List A)
an_array element = record {
  spells = array element.spells;
  cut = array_cut most_items element.spells element.cut;
  at = array_at element.at;
  written = written_array element.written;
  keeps = KeepsArray element.keeps;
  reads = list_reads element.spells element.cut element.at element.reads;
  spelled = array_spelled element.keeps element.spells element.written element.spelled;
}

-- read and checked, and not kept: `nothing` stands for it, and the blank is written
abbrev pub unused : {A U : Type 0} → (form : Form A) → (blank : A) → form.keeps blank → (nothing : U) → ((u : U) → u ≡ nothing) → Form U
unused {A = A} form blank kept nothing only = record {
  spells = λ u bytes. (a : A) × form.spells a bytes;
  cut = form.cut;
  at = form.at >>= λ a. give nothing;
  written = λ u. form.written blank;
  keeps = λ u. Unit {0};
  reads = unused_reads form.spells form.cut form.at nothing only form.reads;
  spelled = λ u any. (blank, form.spelled blank kept);
}
