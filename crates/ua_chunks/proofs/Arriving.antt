-- A chunk that a sender made, taken by an assembler that is in step with it; and then a whole message.
use Rattle.std.proofs.Common.{◌≡◌, ℕ, zero, suc, ◌+◌, ◌-◌, ◌*◌, ◌^◌, ◌==◌, ◌≤◌, ◌<◌, ◌&&◌, ◌||◌, Bool, true, false, cond, min, nat_lt, nat_le, List, [], ◌∷◌, ◌++◌, length, take, drop, Option, Some, None, refl, sym, ap, subst, ◌∙◌, append_assoc, arith, inl, inr}
use Rattle.std.proofs.Math.Nat.{mul-suc}
use Rattle.std.proofs.lemmas.Bool.{cases_lt, lt-ltb, le-ltb}
use Rattle.std.proofs.lemmas.Bool.Decides.{nat_tests}
use Rattle.std.proofs.lemmas.List.{length-append, length-drop, length-take, take-append-drop, drop_at}
use Rattle.byteorder.specs.Endian.{little_bytes, little_number}
use Rattle.byteorder.specs.Numbers.{little_number-reads_back}
use Rattle.ua_base.specs.Number.{after_chunk}
use Rattle.ua_chunks.specs.declared.frame.Kind.{Kind}
use Rattle.ua_chunks.specs.declared.frame.Chunk.{Chunk}
use Rattle.ua_chunks.specs.declared.frame.Chunk.TheVariants as chunk
use Rattle.ua_chunks.specs.declared.frame.Frame.{Frame}
use Rattle.ua_chunks.specs.declared.message.ChunkHead.{ChunkHead}
use Rattle.ua_chunks.specs.Frames.{moved}
use Rattle.ua_chunks.specs.Assembly.{Assembly, Leads, Tokens, after_frame, at_place, first_fault, and_then, assembled, fault_after, has_room, head_of, is_former, message_by, message_of, messages_of, numbered, refusal, refusal_of, takes_number, takes_request, takes_token, tokens_of, unless_faulty, used, with_chunk, with_fault, without_message}
use Rattle.ua_chunks.specs.Sending.{IsSending, Part, Sending, after_parts, limit_of, limited, message_parts, part, in_chunk, stepped, written_head}
use Rattle.ua_chunks.specs.Arrival.{InStep, placed}
use Rattle.ua_chunks.proofs.Chunking.{head_long, next_fits, parts_last, parts_more}

-- ---- the head

abbrev pub head_in : ℕ → Sending → ChunkHead
head_in request s = record { channel = s.channel; token = s.token; number = s.next; request = request }

pub head_again : (request : ℕ) (s : Sending) (bytes : List ℕ) → IsSending s → request < 2 ^ 32 → head_of (written_head request s ++ bytes) ≡ head_in request s
head_again request s bytes is lt =
    let a : little_number 4 (written_head request s ++ bytes) ≡ s.channel = little_number-reads_back 4 s.channel (little_bytes 4 s.token ++ (little_bytes 4 s.next ++ (little_bytes 4 request ++ bytes))) (omega (arith, is.channel)) in
    let b : little_number 4 (drop 4 (written_head request s ++ bytes)) ≡ s.token = little_number-reads_back 4 s.token (little_bytes 4 s.next ++ (little_bytes 4 request ++ bytes)) (omega (arith, is.token)) in
    let c : little_number 4 (drop 8 (written_head request s ++ bytes)) ≡ s.next = little_number-reads_back 4 s.next (little_bytes 4 request ++ bytes) (omega (arith, is.next)) in
    let d : little_number 4 (drop 12 (written_head request s ++ bytes)) ≡ request = little_number-reads_back 4 request bytes (omega (arith, lt)) in
    ap (λ (n : ℕ). record { channel = n; token = little_number 4 (drop 4 (written_head request s ++ bytes)); number = little_number 4 (drop 8 (written_head request s ++ bytes)); request = little_number 4 (drop 12 (written_head request s ++ bytes)) }) a
    ∙ ap (λ (n : ℕ). record { channel = s.channel; token = n; number = little_number 4 (drop 8 (written_head request s ++ bytes)); request = little_number 4 (drop 12 (written_head request s ++ bytes)) }) b
    ∙ ap (λ (n : ℕ). record { channel = s.channel; token = s.token; number = n; request = little_number 4 (drop 12 (written_head request s ++ bytes)) }) c
    ∙ ap (λ (n : ℕ). record { channel = s.channel; token = s.token; number = s.next; request = n }) d

-- ---- a chunk is taken

-- what an assembler has that takes a sender's next chunk of a request
pub record Ready (request : ℕ) (s : Sending) (a : Assembly) : Type 0 where
  pub channel : a.channel ≡ s.channel
  pub token : takes_token s.token a ≡ true
  pub number : takes_number s.next a.last ≡ true
  pub request_is : takes_request request a ≡ true
  pub fault : a.fault ≡ None

pub same_number : (n m : ℕ) → n ≡ m → (m == n) ≡ true
same_number n m e = grind (arith, nat_tests)

not_refused : (h : ChunkHead) (count : ℕ) (a : Assembly) → (h.channel == a.channel) ≡ true → takes_token h.token a ≡ true → takes_number h.number a.last ≡ true → takes_request h.request a ≡ true → has_room count a ≡ true
    → refusal_of h count a ≡ None
not_refused h count a channel token number request fits = rw (channel, token, number, request, fits) refl

pub chunk_body_long : (request : ℕ) (s : Sending) (bytes : List ℕ) → length (written_head request s ++ bytes) ≡ 16 + length bytes
chunk_body_long request s bytes = omega (arith, head_long request s, length-append (written_head request s) bytes)

pub chunk_taken : (request : ℕ) (s : Sending) (bytes : List ℕ) (a : Assembly) → IsSending s → request < 2 ^ 32 → Ready request s a → has_room (length bytes) a ≡ true
    → refusal (written_head request s ++ bytes) a ≡ None
chunk_taken request s bytes a is lt ready fits =
    let body = written_head request s ++ bytes in
    let long = chunk_body_long request s bytes in
    let channel : (s.channel == a.channel) ≡ true = same_number a.channel s.channel ready.channel in
    let count : length body - 16 ≡ length bytes = omega (arith, long) in
    let enough : nat_lt (length body) 16 ≡ false = le-ltb (length body) 16 (omega (arith, long)) in
    ap (λ b. cond b (Some 0x80070000) (refusal_of (head_of body) (length body - 16) a)) enough
    ∙ ap (λ h. refusal_of h (length body - 16) a) (head_again request s bytes is lt)
    ∙ ap (λ (n : ℕ). refusal_of (head_in request s) n a) count
    ∙ not_refused (head_in request s) (length bytes) a channel ready.token ready.number ready.request_is fits

pub record TakesChunk (c : Chunk) (request : ℕ) (bytes : List ℕ) (s : Sending) (a : Assembly) (f : Frame) : Type 0 where
  pub fault : fault_after f a ≡ None
  pub message : message_of f a ≡ message_by c (head_in request s) bytes a
  pub state : after_frame f a ≡ with_chunk c (head_in request s) bytes (numbered (head_in request s) a)

abbrev pub frame_in : ℕ → Part → Frame
frame_in place p = record { place = place; kind = p.kind; chunk = p.chunk; body = p.body }

pub takes_chunk : (place : ℕ) (k : Kind) (c : Chunk) (request : ℕ) (bytes : List ℕ) (s : Sending) (a : Assembly) → IsSending s → request < 2 ^ 32 → Ready request s a → has_room (length bytes) a ≡ true
    → TakesChunk c request bytes s a (frame_in place (part k c request bytes s))
unfolding after_frame message_of
takes_chunk place k c request bytes s a is lt ready fits =
    let f = frame_in place (part k c request bytes s) in
    let good = chunk_taken request s bytes a is lt ready fits in
    let none : fault_after f a ≡ None = ap (λ o. first_fault o f a) ready.fault ∙ ap (at_place place) good in
    let head = head_again request s bytes is lt in
    let rest : drop 16 (written_head request s ++ bytes) ≡ bytes = drop_at (written_head request s) bytes 16 (head_long request s) in
    record {
      fault = none;
      message = ap (λ o. unless_faulty o f a) none
          ∙ ap (λ (h : ChunkHead). message_by c h (drop 16 (written_head request s ++ bytes)) a) head
          ∙ ap (λ (l : List ℕ). message_by c (head_in request s) l a) rest;
      state = ap (λ o. with_fault o f a) none
          ∙ ap (λ (h : ChunkHead). with_chunk c h (drop 16 (written_head request s ++ bytes)) (numbered h a)) head
          ∙ ap (λ (l : List ℕ). with_chunk c (head_in request s) l (numbered (head_in request s) a)) rest;
    }

-- ---- what the assembler is ready for then

follows_by : (b : Bool) (n : ℕ) → (n == 2 ^ 32 - 1024) ≡ b → takes_number (cond b 1 (n + 1)) (Some n) ≡ true
follows_by true n e = let is : n ≡ 4294966272 = grind (arith, nat_tests) in subst (λ (n : ℕ). takes_number 1 (Some n) ≡ true) (sym is) refl
follows_by false n e = ap (λ b. b || (nat_lt 4294966271 n && nat_lt (n + 1) 1024)) (same_number (n + 1) (n + 1) refl)

pub number_follows : (n : ℕ) → takes_number (after_chunk n) (Some n) ≡ true
number_follows n = follows_by (n == 2 ^ 32 - 1024) n refl

-- the token of a chunk that was taken is taken again
token_by : (b : Bool) (token : ℕ) (a : Assembly) → (token == a.token) ≡ b → (b || is_former token a.former) ≡ true → (b || is_former token (cond b None a.former)) ≡ true
token_by true token a e is = refl
token_by false token a e is = is

pub token_again : (h : ChunkHead) (a : Assembly) → takes_token h.token a ≡ true → takes_token h.token (numbered h a) ≡ true
token_again h a is = token_by (h.token == a.token) h.token a refl is

pub stepped_is : (s : Sending) → IsSending s → IsSending (stepped s)
stepped_is s is = record { channel = is.channel; token = is.token; least = is.least; most = is.most; next = next_fits s.next is.next }

pub after_final : (request : ℕ) (s : Sending) (a : Assembly) → Ready request s a → InStep (stepped s) (without_message (numbered (head_in request s) a))
after_final request s a ready = record {
  channel = ready.channel;
  token = token_again (head_in request s) a ready.token;
  number = number_follows s.next;
  chunks = refl;
  body = refl;
  fault = ready.fault;
}

abbrev pub with_middle : ℕ → List ℕ → Sending → Assembly → Assembly
with_middle request bytes s a = with_chunk chunk.Middle (head_in request s) bytes (numbered (head_in request s) a)

pub or_true : (b : Bool) → (b || true) ≡ true
or_true true = refl
or_true false = refl

pub after_middle : (request : ℕ) (bytes : List ℕ) (s : Sending) (a : Assembly) → Ready request s a → Ready request (stepped s) (with_middle request bytes s a)
after_middle request bytes s a ready = record {
  channel = ready.channel;
  token = token_again (head_in request s) a ready.token;
  number = number_follows s.next;
  request_is = ap (λ b. (a.chunks + 1 == 0) || b) (same_number request request refl) ∙ or_true (a.chunks + 1 == 0);
  fault = ready.fault;
}

-- ---- a whole message

room_is : (count : ℕ) (a : Assembly) → a.chunks < 64 → length a.body + count ≤ 1048576 → has_room count a ≡ true
room_is count a chunks fits =
    let few : nat_lt a.chunks 64 ≡ true = lt-ltb a.chunks 64 chunks in
    let small : nat_le (length a.body + count) 1048576 ≡ true = grind (arith, nat_tests) in
    rw (few, small) refl

pub record Arrives (place : ℕ) (k : Kind) (request : ℕ) (bytes : List ℕ) (s : Sending) (a : Assembly) : Type 0 where
  pub messages : messages_of (placed place (message_parts k request bytes s)) a ≡ record { request = request; body = a.body ++ bytes } ∷ []
  pub in_step : InStep (after_parts (message_parts k request bytes s) s) (assembled (placed place (message_parts k request bytes s)) a)
  pub sending : IsSending (after_parts (message_parts k request bytes s) s)
  pub leads : Leads (placed place (message_parts k request bytes s)) (record { request = request; body = a.body ++ bytes }) a
  pub tokens : tokens_of (assembled (placed place (message_parts k request bytes s)) a) ≡ used s.token (tokens_of a)

used_by : (b : Bool) (o : Option ℕ) → cond b None (cond b None o) ≡ cond b None o
used_by true o = refl
used_by false o = refl

-- a token that was used once is used again
used_again : (token : ℕ) (t : Tokens) → used token (used token t) ≡ used token t
used_again token t = ap (λ (o : Option ℕ). record { channel = t.channel; token = t.token; former = o }) (used_by (token == t.token) t.former)

arrives_last : (place : ℕ) (k : Kind) (request : ℕ) (bytes : List ℕ) (s : Sending) (a : Assembly) → IsSending s → request < 2 ^ 32 → Ready request s a → has_room (length bytes) a ≡ true
    → message_parts k request bytes s ≡ part k chunk.Final request bytes s ∷ [] → Arrives place k request bytes s a
arrives_last place k request bytes s a is lt ready fits all =
    let t = takes_chunk place k chunk.Final request bytes s a is lt ready fits in
    record {
      messages = ap (λ ps. messages_of (placed place ps) a) all ∙ ap (λ m. and_then m []) t.message;
      in_step = subst (λ ps. InStep (after_parts ps s) (assembled (placed place ps) a)) (sym all) (subst (InStep (stepped s)) (sym t.state) (after_final request s a ready));
      sending = subst (λ ps. IsSending (after_parts ps s)) (sym all) (stepped_is s is);
      leads = subst (λ ps. Leads (placed place ps) (record { request = request; body = a.body ++ bytes }) a) (sym all) (t.fault, inl (refl, t.message));
      tokens = ap (λ ps. tokens_of (assembled (placed place ps) a)) all ∙ ap tokens_of t.state;
    }

arrives_more : (place : ℕ) (k : Kind) (request : ℕ) (bytes : List ℕ) (s : Sending) (a : Assembly) → IsSending s → request < 2 ^ 32 → Ready request s a → has_room (length (take (in_chunk s) bytes)) a ≡ true
    → message_parts k request bytes s ≡ part k chunk.Middle request (take (in_chunk s) bytes) s ∷ message_parts k request (drop (in_chunk s) bytes) (stepped s)
    → ((p : ℕ) → Arrives p k request (drop (in_chunk s) bytes) (stepped s) (with_middle request (take (in_chunk s) bytes) s a))
    → Arrives place k request bytes s a
arrives_more place k request bytes s a is lt ready fits all others =
    let front = take (in_chunk s) bytes in
    let back = drop (in_chunk s) bytes in
    let f = frame_in place (part k chunk.Middle request front s) in
    let next = moved place (8 + length f.body) in
    let t = takes_chunk place k chunk.Middle request front s a is lt ready fits in
    let o = others next in
    let parts = message_parts k request back (stepped s) in
    let whole : (a.body ++ front) ++ back ≡ a.body ++ bytes = append_assoc a.body front back ∙ ap (λ (l : List ℕ). a.body ++ l) (take-append-drop (in_chunk s) bytes) in
    record {
      messages = ap (λ ps. messages_of (placed place ps) a) all
          ∙ ap (λ m. and_then m (messages_of (placed next parts) (after_frame f a))) t.message
          ∙ ap (messages_of (placed next parts)) t.state
          ∙ o.messages
          ∙ ap (λ (l : List ℕ). record { request = request; body = l } ∷ []) whole;
      in_step = subst (λ ps. InStep (after_parts ps s) (assembled (placed place ps) a)) (sym all)
          (subst (λ b. InStep (after_parts parts (stepped s)) (assembled (placed next parts) b)) (sym t.state) o.in_step);
      sending = subst (λ ps. IsSending (after_parts ps s)) (sym all) o.sending;
      leads = subst (λ ps. Leads (placed place ps) (record { request = request; body = a.body ++ bytes }) a) (sym all) (
        t.fault,
        inr (
          t.message,
          subst (λ b. Leads (placed next parts) (record { request = request; body = a.body ++ bytes }) b) (sym t.state)
              (subst (λ (l : List ℕ). Leads (placed next parts) (record { request = request; body = l }) (with_middle request front s a)) whole o.leads),
        ),
      );
      tokens = ap (λ ps. tokens_of (assembled (placed place ps) a)) all
          ∙ ap (λ b. tokens_of (assembled (placed next parts) b)) t.state
          ∙ o.tokens
          ∙ used_again s.token (tokens_of a);
    }

-- a message that has room in so many chunks and one more
pub arrives : (c place : ℕ) (k : Kind) (request : ℕ) (bytes : List ℕ) (s : Sending) (a : Assembly) → IsSending s → request < 2 ^ 32 → Ready request s a
    → length bytes ≤ in_chunk s * suc c → a.chunks + suc c ≤ 64 → length a.body + length bytes ≤ 1048576 → Arrives place k request bytes s a
arrives zero place k request bytes s a is lt ready fits chunks most =
    let times = mul-suc (in_chunk s) 0 in
    arrives_last place k request bytes s a is lt ready (room_is (length bytes) a (omega arith) most) (parts_last k request bytes s (omega (arith, times)))
arrives (suc c) place k request bytes s a is lt ready fits chunks most = elim (cases_lt (in_chunk s) (length bytes)) [
  | inl over ↦
      let least : 1 ≤ in_chunk s = omega (arith, is.least) in
      let times = mul-suc (in_chunk s) (suc c) in
      let front = length-take (in_chunk s) bytes in
      let back = length-drop (in_chunk s) bytes in
      let both = length-append a.body (take (in_chunk s) bytes) in
      arrives_more place k request bytes s a is lt ready (room_is (length (take (in_chunk s) bytes)) a (omega arith) (omega (arith, front, most))) (parts_more k request bytes s least over)
      (λ p. arrives c p k request (drop (in_chunk s) bytes) (stepped s) (with_middle request (take (in_chunk s) bytes) s a) (stepped_is s is) lt (after_middle request (take (in_chunk s) bytes) s a ready)
      (omega (arith, times, back)) (omega arith) (omega (arith, front, back, both, most)))
  | inr le ↦ arrives_last place k request bytes s a is lt ready (room_is (length bytes) a (omega arith) most) (parts_last k request bytes s le)
]

-- ---- what has room

limited_by : (b : Bool) (n limit : ℕ) → (limit == 0) ≡ b → 1 ≤ n → (1 ≤ cond b n (min n limit)) × (cond b n (min n limit) ≤ n)
limited_by true n limit e least = (least, omega arith)
limited_by false n limit e least = let positive : 1 ≤ limit = grind (arith, nat_tests) in (omega arith, omega arith)

pub limited_is : (n limit : ℕ) → 1 ≤ n → (1 ≤ limited n limit) × (limited n limit ≤ n)
limited_is n limit least = limited_by (limit == 0) n limit refl least

-- there is a number of chunks, below 64, which have room with one more
pub record HasRoom (count : ℕ) (s : Sending) : Type 0 where
  pub chunks : ℕ
  pub few : suc chunks ≤ 64
  pub room_is : count ≤ in_chunk s * suc chunks
  pub most : count ≤ 1048576

has_room_by : (c count : ℕ) (s : Sending) → c ≡ limited 64 s.max_chunks → 1 ≤ c → c ≤ 64 → count ≤ in_chunk s * c → count ≤ 1048576 → HasRoom count s
has_room_by zero count s e least most fits small = absurd (omega arith)
has_room_by (suc c) count s e least most fits small = record { chunks = c; few = most; room_is = fits; most = small }

pub fits_room : (count : ℕ) (s : Sending) → count ≤ limit_of s → HasRoom count s
fits_room count s le =
    let chunks = limited_is 64 s.max_chunks (omega arith) in
    let bytes = limited_is 1048576 s.max_message (omega arith) in
    has_room_by (limited 64 s.max_chunks) count s refl chunks.0 chunks.1 (omega arith) (omega (arith, bytes.1))
