-- The frames of one message put, and the bytes that bring them.
use Rattle.std.proofs.Common.{◌≡◌, ℕ, zero, suc, ◌^◌, ◌≤◌, ◌<◌, true, List, [], ◌∷◌, length, drop, refl, sym, subst, ◌∙◌, arith, inl, inr, nat_le}
use Rattle.std.specs.List.{AllByRecursion}
use Rattle.std.proofs.lemmas.Bool.{cases_lt}
use Rattle.std.proofs.lemmas.Bool.Decides.{nat_tests}
use Rattle.ua_chunks.specs.declared.frame.Kind.{Kind}
use Rattle.ua_chunks.specs.declared.frame.Kind.TheVariants as kind
use Rattle.ua_chunks.specs.declared.frame.Frame.{Frame}
use Rattle.ua_chunks.specs.Frames.{moved, stage_of}
use Rattle.ua_chunks.specs.Framing.{Brings, Framing, IsBetween, IsSettled, IsSettledAt}
use Rattle.ua_chunks.specs.Assembly.{Leads, new_assembly}
use Rattle.ua_chunks.specs.Sending.{IsSending, Part, Sending, in_chunk, message_parts, parts_bytes, parts_up_to, stepped}
use Rattle.ua_chunks.specs.Arrival.{IsPut, Put, message_put, placed}
use Rattle.ua_chunks.proofs.Chunking.{last_by, more_by}
use Rattle.ua_chunks.proofs.Pieces.{nothing_framed}
use Rattle.ua_chunks.proofs.Putting.{IsPart, comes_new, opn_small, placed_bytes, placed_from, whole_small}
use Rattle.ua_chunks.proofs.Streaming.{brings}
use Rattle.ua_channel.specs.State.{MayCarry, WireState}
use Rattle.ua_channel.specs.Orders.{fits, wire_parts_by}

-- ---- each frame of a message is of its kind

kinds_up_to : (n place : ℕ) (k : Kind) (request : ℕ) (bytes : List ℕ) (s : Sending)
    → AllByRecursion (λ (f : Frame). f.kind ≡ k) (placed place (parts_up_to n k request bytes s))
kinds_up_to zero place k request bytes s = (refl, tt)
kinds_up_to (suc n) place k request bytes s = elim (cases_lt (in_chunk s) (length bytes)) [
  | inl over ↦
      subst (λ ps. AllByRecursion (λ (f : Frame). f.kind ≡ k) (placed place ps)) (sym (more_by n k request bytes s over))
      (refl, kinds_up_to n _ k request (drop (in_chunk s) bytes) (stepped s))
  | inr le ↦ subst (λ ps. AllByRecursion (λ (f : Frame). f.kind ≡ k) (placed place ps)) (sym (last_by (suc n) k request bytes s le)) (refl, tt)
]

kinds_are : (place : ℕ) (k : Kind) (request : ℕ) (bytes : List ℕ) (s : Sending)
    → AllByRecursion (λ (f : Frame). f.kind ≡ k) (placed place (message_parts k request bytes s))
unfolding message_parts
kinds_are place k request bytes s = kinds_up_to (length bytes) place k request bytes s

-- ---- what is so of a message's frames

abbrev pub put_in : Kind → WireState → Put
put_in k w = record { kind = k; request = w.request; body = w.body }

pub record PartsBy (k : Kind) (w : WireState) (s : Sending) : Type 0 where
  pub size : ℕ
  pub small : size ≤ 65536
  pub each : AllByRecursion (IsPart size) (wire_parts_by k w s)
  pub kinds : (place : ℕ) → AllByRecursion (λ (f : Frame). f.kind ≡ k) (placed place (wire_parts_by k w s))
  pub some : (place : ℕ) → placed place (wire_parts_by k w s) ≡ [] → ⊥

fits_by : (n m : ℕ) → nat_le n m ≡ true → n ≤ m
fits_by n m e = grind (arith, nat_tests)

pub msg_put : (w : WireState) (s : Sending) → w.request < 2 ^ 32 → fits kind.Msg (length w.body) s ≡ true → IsPut (put_in kind.Msg w) s
msg_put w s lt is = record { kind = inl refl; short = tt; request = lt; fits = fits_by _ _ is }

pub clo_put : (w : WireState) (s : Sending) → w.request < 2 ^ 32 → MayCarry kind.Clo (length w.body) → fits kind.Clo (length w.body) s ≡ true → IsPut (put_in kind.Clo w) s
clo_put w s lt short is = record { kind = inr refl; short = short; request = lt; fits = fits_by _ _ is }

none_left : (f : Frame) (fs : List Frame) → f ∷ fs ≡ [] → ⊥
none_left f fs e = absurd cc

pub parts_by : (k : Kind) (w : WireState) (s : Sending) → IsSending s → w.request < 2 ^ 32 → MayCarry k (length w.body) → fits k (length w.body) s ≡ true → PartsBy k w s
parts_by kind.Hel w s sends lt short is = record { size = 65536; small = omega arith; each = (whole_small kind.Hel w.body short, tt); kinds = λ place. (refl, tt); some = λ place e. none_left _ _ e }
parts_by kind.Ack w s sends lt short is = record { size = 65536; small = omega arith; each = (whole_small kind.Ack w.body short, tt); kinds = λ place. (refl, tt); some = λ place e. none_left _ _ e }
parts_by kind.Err w s sends lt short is = record { size = 65536; small = omega arith; each = (whole_small kind.Err w.body short, tt); kinds = λ place. (refl, tt); some = λ place e. none_left _ _ e }
parts_by kind.Opn w s sends lt short is = record { size = 65536; small = omega arith; each = (opn_small w.request w.body s short, tt); kinds = λ place. (refl, tt); some = λ place e. none_left _ _ e }
parts_by kind.Msg w s sends lt short is =
    let put = msg_put w s lt is in
    record {
      size = s.size;
      small = sends.most;
      each = (comes_new 0 (put_in kind.Msg w) s sends put).parts;
      kinds = λ place. kinds_are place kind.Msg w.request w.body s;
      some = λ place e. subst (λ fs. Leads fs (message_put (put_in kind.Msg w)) (new_assembly s.channel s.token)) e (comes_new place (put_in kind.Msg w) s sends put).leads;
    }
parts_by kind.Clo w s sends lt short is =
    let put = clo_put w s lt short is in
    record {
      size = s.size;
      small = sends.most;
      each = (comes_new 0 (put_in kind.Clo w) s sends put).parts;
      kinds = λ place. kinds_are place kind.Clo w.request w.body s;
      some = λ place e. subst (λ fs. Leads fs (message_put (put_in kind.Clo w)) (new_assembly s.channel s.token)) e (comes_new place (put_in kind.Clo w) s sends put).leads;
    }

-- ---- the bytes

pub parts_bring : (size : ℕ) (parts : List Part) (f : Framing) → IsBetween f → size ≤ 65536 → AllByRecursion (IsPart size) parts → Brings (placed f.place parts) (parts_bytes parts) f
parts_bring size parts f between le each =
    subst (λ (bytes : List ℕ). Brings (placed f.place parts) bytes f) (placed_bytes f.place parts)
    (brings (placed f.place parts) f between (placed_from size f.place parts le each))

pub settled_between : (f : Framing) → IsBetween f → IsSettled f
settled_between f between = (omega (arith, between.2), subst (λ (held : List ℕ). IsSettledAt (stage_of held) f) (sym between.1) between.2)

-- bytes that bring a frame are some
pub some_bytes : (frames : List Frame) (f : Framing) → IsBetween f → (frames ≡ [] → ⊥) → Brings frames [] f → ⊥
some_bytes frames f between some b = some (sym b.frames_are ∙ nothing_framed f (settled_between f between))

pub between_past : (f : Framing) (count : ℕ) → IsBetween f → IsBetween (record f { place = moved f.place count })
between_past f count between = (omega arith, between.1, between.2)
