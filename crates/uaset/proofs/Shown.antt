-- What the lines of a stream mean.
use Rattle.std.proofs.Common.{◌≡◌, ℕ, List, Option, Some, None, Result, Ok, refl}
use Rattle.ua_chunks.specs.Frames.{Split, fault_of}
use Rattle.ua_chunks.specs.Streams.{IsFramed}
use Rattle.show.specs.Answer.{Refusal}
use Rattle.show.specs.Stream.{stream_text, shown_split}
use Rattle.uaset.specs.declared.words.Command.TheVariants as command
use Rattle.uaset.specs.Commands.{Means}

ok_is : (shown text : List ℕ) → ◌≡◌ {A = Result (List ℕ) Refusal} (Ok shown) (Ok text) → text ≡ shown
ok_is shown text e = cc

unbroken : (code : Option ℕ) (split : Split) (text : List ℕ) → shown_split code split ≡ Ok text → (code ≡ None) × (text ≡ stream_text split)
unbroken None split text e = (refl, ok_is (stream_text split) text e)
unbroken (Some code) split text e = absurd cc

pub stream_promised : (pool : ℕ) (bytes text : List ℕ) (split : Split) → IsFramed 0 bytes split → shown_split (fault_of split.rest) split ≡ Ok text → Means pool command.ShowStream bytes text
stream_promised pool bytes text split framed e =
    let is = unbroken (fault_of split.rest) split text e in
    (split, framed, is.0, is.1)
