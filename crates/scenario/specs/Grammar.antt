-- The forms of a line: what each says, and its exact spelling.
use Rattle.std.specs.Prelude.{◌==◌, ℕ, ℤ, List, [], ◌∷◌, Bool, true, false, Option, Some, None, codes, if◌then◌else◌}
use Rattle.std.specs.Str.{bytes_eq}
use Rattle.ua_base.specs.declared.modes.SetMode.{SetMode}
use Rattle.ua_base.specs.declared.modes.SetMode.TheVariants.{Direct, Hot, Warm, Cold}
use Rattle.scenario.specs.declared.form.Form.{Form}
use Rattle.scenario.specs.declared.form.Form.TheVariants as form
use Rattle.scenario.specs.declared.table.Numbers.{Numbers}
use Rattle.scenario.specs.declared.table.Numbers.TheVariants as numbers
use Rattle.scenario.specs.Table.{word_of, name_of}
use Rattle.scenario.specs.Texts.{mode_text}
use Rattle.scenario.specs.Words.{◌>>=◌, words_of, spaced, numeral, stamp_numeral, signed_numeral, number_by, stamp_by}
use Rattle.scenario.specs.Words.{integer_by, capped}

-- what a queue drops where it is full: its oldest entry, unless it is said that it is the newest
abbrev pub rule_words : Bool → List (List ℕ)
rule_words true = []
rule_words false = codes "discard" ∷ codes "newest" ∷ []

abbrev pub number_words : Numbers → List (List ℕ)
number_words numbers.Nothing = []
number_words (numbers.One first) = numeral first ∷ []
number_words (numbers.Two first second) = numeral first ∷ numeral second ∷ []

-- the words of a form
abbrev pub form_words : Form → List (List ℕ)
form_words (form.Set mode servers) = codes "set" ∷ mode_text mode ∷ numeral servers ∷ []
form_words (form.Items items queue oldest) =
    codes "items" ∷ numeral items ∷ codes "queue" ∷ numeral queue ∷ rule_words oldest
form_words (form.Change item time pico value) =
    codes "change" ∷ numeral item ∷ stamp_numeral time pico ∷ signed_numeral value ∷ []
form_words (form.Plain name said) = word_of name ∷ number_words said

-- the one spelling of a form
abbrev pub form_text : Form → List ℕ
form_text f = spaced (form_words f)

-- the first of these words, which a reader takes, and those after it
abbrev pub word_at : List (List ℕ) → Option (List ℕ × List (List ℕ))
word_at [] = None
word_at (word ∷ words) = Some (word, words)

-- no word is left
abbrev pub none_left : List (List ℕ) → Option (Unit {0})
none_left [] = Some tt
none_left (word ∷ words) = None

abbrev pub number_at : (ℕ → ℕ) → List (List ℕ) → Option (ℕ × List (List ℕ))
number_at cap words = do
  first ← word_at words
  number ← number_by cap first.0
  Some (number, first.1)

abbrev pub stamp_at : (ℕ → ℕ) → List (List ℕ) → Option ((ℕ × Option ℕ) × List (List ℕ))
stamp_at cap words = do
  first ← word_at words
  stamp ← stamp_by cap first.0
  Some (stamp, first.1)

abbrev pub integer_at : (ℕ → ℕ) → List (List ℕ) → Option (ℤ × List (List ℕ))
integer_at cap words = do
  first ← word_at words
  number ← integer_by cap first.0
  Some (number, first.1)

abbrev pub mode_of : List ℕ → Option SetMode
mode_of word =
    if bytes_eq word (codes "direct") then Some Direct
    else if bytes_eq word (codes "hot") then Some Hot
    else if bytes_eq word (codes "warm") then Some Warm
    else if bytes_eq word (codes "cold") then Some Cold
    else None

abbrev pub mode_at : List (List ℕ) → Option (SetMode × List (List ℕ))
mode_at words = do
  first ← word_at words
  mode ← mode_of first.0
  Some (mode, first.1)

-- exactly one number
abbrev pub one_number : (ℕ → ℕ) → List (List ℕ) → Option ℕ
one_number cap words = do
  first ← number_at cap words
  _ ← none_left first.1
  Some first.0

-- the first number, and exactly one more
abbrev pub two_numbers : (ℕ → ℕ) → ℕ → List (List ℕ) → Option Numbers
two_numbers cap first words = one_number cap words >>= λ second. Some (numbers.Two first second)

-- one number, or two where a second follows
abbrev pub numbers_after : (ℕ → ℕ) → ℕ → List (List ℕ) → Option Numbers
numbers_after cap first [] = Some (numbers.One first)
numbers_after cap first (word ∷ words) = two_numbers cap first (word ∷ words)

abbrev pub some_numbers : (ℕ → ℕ) → List (List ℕ) → Option Numbers
some_numbers cap words = number_at cap words >>= λ first. numbers_after cap first.0 first.1

-- up to two numbers, and nothing else
abbrev pub numbers_at : (ℕ → ℕ) → List (List ℕ) → Option Numbers
numbers_at cap [] = Some numbers.Nothing
numbers_at cap (word ∷ words) = some_numbers cap (word ∷ words)

abbrev pub set_form : (ℕ → ℕ) → List (List ℕ) → Option Form
set_form cap words = do
  mode ← mode_at words
  servers ← one_number cap mode.1
  Some (form.Set mode.0 servers)

-- what follows this word
abbrev pub name_at : List ℕ → List (List ℕ) → Option (List (List ℕ))
name_at name words = do
  first ← word_at words
  if bytes_eq first.0 name then Some first.1 else None

abbrev pub newest_at : List (List ℕ) → Option Bool
newest_at words = do
  rest ← name_at (codes "discard") words
  more ← name_at (codes "newest") rest
  _ ← none_left more
  Some false

-- whether the oldest entry is dropped
abbrev pub rule_at : List (List ℕ) → Option Bool
rule_at [] = Some true
rule_at (word ∷ words) = newest_at (word ∷ words)

abbrev pub items_form : (ℕ → ℕ) → List (List ℕ) → Option Form
items_form cap words = do
  items ← number_at cap words
  rest ← name_at (codes "queue") items.1
  queue ← number_at cap rest
  oldest ← rule_at queue.1
  Some (form.Items items.0 queue.0 oldest)

abbrev pub change_form : (ℕ → ℕ) → List (List ℕ) → Option Form
change_form cap words = do
  item ← number_at cap words
  stamp ← stamp_at cap item.1
  value ← integer_at cap stamp.1
  _ ← none_left value.1
  Some (form.Change item.0 stamp.0.0 stamp.0.1 value.0)

abbrev pub plain_form : (ℕ → ℕ) → List ℕ → List (List ℕ) → Option Form
plain_form cap keyword words = do
  name ← name_of keyword
  said ← numbers_at cap words
  Some (form.Plain name said)

-- the form after its first word; numbers are read through `cap`
abbrev pub form_after : (ℕ → ℕ) → List ℕ → List (List ℕ) → Option Form
form_after cap keyword words =
    if bytes_eq keyword (codes "set") then set_form cap words
    else if bytes_eq keyword (codes "items") then items_form cap words
    else if bytes_eq keyword (codes "change") then change_form cap words
    else plain_form cap keyword words

-- picoseconds of 0 are not written
abbrev pub written_pico : Option ℕ → Option ℕ
written_pico None = None
written_pico (Some pico) = if pico == 0 then None else Some pico

-- a form as it is written: without picoseconds of 0
abbrev pub written_form : Form → Form
written_form (form.Change item time pico value) = form.Change item time (written_pico pico) value
written_form f = f

abbrev pub form_by : (ℕ → ℕ) → List (List ℕ) → Option Form
form_by cap words = do
  first ← word_at words
  form_after cap first.0 first.1

-- the form that a text is the spelling of
abbrev pub form_of : List ℕ → Option Form
form_of text = form_by (λ number. number) (words_of text)

abbrev pub written_as : List ℕ → Option Form → List ℕ
written_as text None = text
written_as text (Some f) = form_text (written_form f)

-- a line's text as it is written: without picoseconds of 0
abbrev pub as_written : List ℕ → List ℕ
as_written text = written_as text (form_of text)

-- the form as it is read: each number as if the largest were 2^64 - 1
abbrev pub form_read : List ℕ → Option Form
form_read text = form_by capped (words_of text)
