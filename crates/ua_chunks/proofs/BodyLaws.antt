-- What is written of HEL, ACK, ERR and OPN is a spelling, and is read again.
use Rattle.std.proofs.Common.{◌≡◌, ℕ, ◌+◌, ◌^◌, ◌<◌, List, [], ◌++◌, length, Option, Some, None, Ok, refl, sym, ap, ◌∙◌, append_assoc, arith}
use Rattle.std.proofs.lemmas.List.{append-nil}
use Rattle.byteorder.specs.Endian.{little_bytes}
use Rattle.ua_values.specs.Codec.{IsCodec}
use Rattle.ua_values.specs.Reading.{Reader, ◌>>=◌, give, input, passed}
use Rattle.ua_values.specs.Parts.{number}
use Rattle.ua_values.specs.Written.{written_text}
use Rattle.ua_values.specs.Laws.{IsLawful}
use Rattle.ua_values.proofs.WrittenLemmas.{lawful, number_spelled, text_spelled}
use Rattle.ua_chunks.specs.declared.greeting.Greeting.{Greeting}
use Rattle.ua_chunks.specs.declared.opening.OpnHead.{OpnHead}
use Rattle.ua_chunks.specs.Bodies.{KeepsGreeting, KeepsHello, KeepsOpnHead, end_at, error, error_at, greeting, greeting_at, hello, hello_at, opn_head, opn_head_at, opn_of, policy, policy_at, value_of, whole_at, written_error, written_greeting, written_hello, written_opn_head}
use Rattle.ua_chunks.specs.Sending.{IsSending, Sending, none_policy, opn_head_of, opn_part}
use Rattle.ua_chunks.specs.Arrival.{opn_put}
use Rattle.ua_chunks.proofs.BodyCodecs.{error_codec, greeting_codec, hello_codec, opn_head_codec, policy_codec}

four : (n : ℕ) → n < 2 ^ 32 → number 4 n (little_bytes 4 n)
four n lt = number_spelled 4 n (omega arith)

greeting_spelled : (g : Greeting) → KeepsGreeting g → greeting g (written_greeting g)
greeting_spelled g kept = record {
  front = little_bytes 4 g.version;
  back = little_bytes 4 g.receive ++ (little_bytes 4 g.send ++ (little_bytes 4 g.max_message ++ little_bytes 4 g.max_chunks));
  first = four g.version kept.0;
  second = record {
    front = little_bytes 4 g.receive;
    back = little_bytes 4 g.send ++ (little_bytes 4 g.max_message ++ little_bytes 4 g.max_chunks);
    first = four g.receive kept.1;
    second = record {
      front = little_bytes 4 g.send;
      back = little_bytes 4 g.max_message ++ little_bytes 4 g.max_chunks;
      first = four g.send kept.2;
      second = record {
        front = little_bytes 4 g.max_message;
        back = little_bytes 4 g.max_chunks;
        first = four g.max_message kept.3;
        second = four g.max_chunks kept.4;
        whole = refl;
      };
      whole = refl;
    };
    whole = refl;
  };
  whole = refl;
}

pub greeting_lawful : IsLawful KeepsGreeting greeting greeting_at written_greeting
greeting_lawful = lawful KeepsGreeting greeting greeting_at written_greeting greeting_codec greeting_spelled

pub hello_lawful : IsLawful KeepsHello hello hello_at written_hello
hello_lawful = lawful KeepsHello hello hello_at written_hello hello_codec
    (λ h kept. record { front = written_greeting h.0; back = written_text h.1; first = greeting_spelled h.0 kept.0; second = text_spelled h.1 kept.1; whole = refl })

pub error_lawful : IsLawful (λ code. code < 2 ^ 32) error error_at written_error
error_lawful = lawful (λ code. code < 2 ^ 32) error error_at written_error error_codec
    (λ code lt. (None, record { front = little_bytes 4 code; back = written_text None; first = four code lt; second = text_spelled None tt; whole = refl }))

-- six lists, from the right
six_right : (a b c d e f : List ℕ) → a ++ b ++ c ++ d ++ e ++ f ≡ a ++ (b ++ (c ++ (d ++ (e ++ f))))
six_right a b c d e f =
    append_assoc (a ++ b ++ c ++ d) e f ∙ append_assoc (a ++ b ++ c) d (e ++ f) ∙ append_assoc (a ++ b) c (d ++ (e ++ f)) ∙ append_assoc a b (c ++ (d ++ (e ++ f)))

opn_spelled : (h : OpnHead) → KeepsOpnHead h → opn_head h (written_opn_head h)
opn_spelled h kept = record {
  front = little_bytes 4 h.channel;
  back = written_text h.policy ++ (written_text h.certificate ++ (written_text h.thumbprint ++ (little_bytes 4 h.number ++ little_bytes 4 h.request)));
  first = four h.channel kept.0;
  second = record {
    front = written_text h.policy;
    back = written_text h.certificate ++ (written_text h.thumbprint ++ (little_bytes 4 h.number ++ little_bytes 4 h.request));
    first = text_spelled h.policy kept.1;
    second = record {
      front = written_text h.certificate;
      back = written_text h.thumbprint ++ (little_bytes 4 h.number ++ little_bytes 4 h.request);
      first = text_spelled h.certificate kept.2;
      second = record {
        front = written_text h.thumbprint;
        back = little_bytes 4 h.number ++ little_bytes 4 h.request;
        first = text_spelled h.thumbprint kept.3;
        second = record {
          front = little_bytes 4 h.number;
          back = little_bytes 4 h.request;
          first = four h.number kept.4;
          second = four h.request kept.5;
          whole = refl;
        };
        whole = refl;
      };
      whole = refl;
    };
    whole = refl;
  };
  whole = six_right (little_bytes 4 h.channel) (written_text h.policy) (written_text h.certificate) (written_text h.thumbprint) (little_bytes 4 h.number) (little_bytes 4 h.request);
}

pub opn_lawful : IsLawful KeepsOpnHead opn_head opn_head_at written_opn_head
opn_lawful = lawful KeepsOpnHead opn_head opn_head_at written_opn_head opn_head_codec opn_spelled

-- ---- an OPN that was put

opn_kept : (request : ℕ) (s : Sending) → IsSending s → request < 2 ^ 32 → KeepsOpnHead (opn_head_of request s)
opn_kept request s is lt = (is.channel, omega arith, tt, tt, (let next = is.next in omega arith), lt)

pub opn_again : (request : ℕ) (body : List ℕ) (s : Sending) → IsSending s → request < 2 ^ 32
    → opn_of (opn_head_at (input 0 (opn_part request body s).body)) ≡ Ok (opn_put request body s)
opn_again request body s is lt =
    let h = opn_head_of request s in
    ap opn_of (opn_head_codec.again 0 (written_opn_head h) body h (opn_spelled h (opn_kept request s is lt)))

front_policy : (h : OpnHead) → KeepsOpnHead h → policy h.policy (little_bytes 4 h.channel ++ written_text h.policy)
front_policy h kept =
    (h.channel, record { front = little_bytes 4 h.channel; back = written_text h.policy; first = four h.channel kept.0; second = text_spelled h.policy kept.1; whole = refl })

pub policy_again : (request : ℕ) (body : List ℕ) (s : Sending) → IsSending s → request < 2 ^ 32
    → value_of (policy_at (input 0 (opn_part request body s).body)) ≡ Ok (Some none_policy)
policy_again request body s is lt =
    let h = opn_head_of request s in
    let a = little_bytes 4 h.channel in
    let b = written_text h.policy in
    let more = written_text h.certificate ++ (written_text h.thumbprint ++ (little_bytes 4 h.number ++ little_bytes 4 h.request)) in
    let split : written_opn_head h ++ body ≡ (a ++ b) ++ (more ++ body) =
    ap (λ (l : List ℕ). l ++ body) (six_right a b (written_text h.certificate) (written_text h.thumbprint) (little_bytes 4 h.number) (little_bytes 4 h.request) ∙ sym (append_assoc a b more)) ∙ append_assoc (a ++ b) more body in
    ap (λ (l : List ℕ). value_of (policy_at (input 0 l))) split
    ∙ ap value_of (policy_codec.again 0 (a ++ b) (more ++ body) h.policy (front_policy h (opn_kept request s is lt)))

-- ---- HEL, ACK and ERR as they were written

alone : {A : Type 0} (S : A → List ℕ → Type 0) (at : Reader A) → IsCodec S at → (a : A) (text : List ℕ) → S a text → value_of (whole_at at (input 0 text)) ≡ Ok a
alone S at codec a text spelled =
    let read : at (input 0 (text ++ [])) ≡ Ok (a, input (0 + length text) []) = codec.again 0 text [] a spelled in
    ap (λ (l : List ℕ). value_of (whole_at at (input 0 l))) (sym (append-nil text))
    ∙ ap (λ q. value_of (passed q (λ b. end_at >>= λ u. give b))) read

pub hello_alone : (g : Greeting) (url : Option (List ℕ)) → KeepsHello (g, url) → value_of (whole_at hello_at (input 0 (written_hello (g, url)))) ≡ Ok (g, url)
hello_alone g url kept = alone hello hello_at hello_codec (g, url) (written_hello (g, url)) (hello_lawful.spelled (g, url) kept)

pub ack_alone : (g : Greeting) → KeepsGreeting g → value_of (whole_at greeting_at (input 0 (written_greeting g))) ≡ Ok g
ack_alone g kept = alone greeting greeting_at greeting_codec g (written_greeting g) (greeting_spelled g kept)

pub err_alone : (code : ℕ) → code < 2 ^ 32 → value_of (whole_at error_at (input 0 (written_error code))) ≡ Ok code
err_alone code lt = alone error error_at error_codec code (written_error code) (error_lawful.spelled code lt)
