-- Lists of messages that a sender puts: their frames, and what an assembler makes of them.
use Rattle.std.proofs.Common.{◌≡◌, ℕ, zero, suc, ◌+◌, ◌*◌, ◌^◌, ◌==◌, ◌≤◌, ◌<◌, ◌||◌, ◌&&◌, nat_lt, Bool, true, false, cond, List, [], ◌∷◌, ◌++◌, length, take, drop, Option, Some, None, ◌⊎◌, inl, inr, refl, sym, ap, subst, ◌∙◌, arith, map}
use Rattle.std.specs.List.{AllByRecursion, concat}
use Rattle.std.proofs.Math.Nat.{mul-suc}
use Rattle.std.proofs.lemmas.Bool.{cases_lt, lt-ltb}
use Rattle.std.proofs.lemmas.Bool.Decides.{nat_tests}
use Rattle.std.proofs.lemmas.List.{append-nil, length-append, length-drop, length-take}
use Rattle.std.proofs.lemmas.List.Concat.{flat_map-append}
use Rattle.byteorder.specs.Endian.{little_bytes}
use Rattle.byteorder.specs.Numbers.{length-bytes_low_first}
use Rattle.ua_values.specs.Written.{written_text}
use Rattle.ua_chunks.specs.declared.frame.Kind.{Kind}
use Rattle.ua_chunks.specs.declared.frame.Kind.TheVariants as kind
use Rattle.ua_chunks.specs.declared.frame.Chunk.TheVariants as chunk
use Rattle.ua_chunks.specs.declared.frame.Frame.{Frame}
use Rattle.ua_chunks.specs.declared.message.Message.{Message}
use Rattle.ua_chunks.specs.declared.message.MessageFault.{MessageFault}
use Rattle.ua_chunks.specs.Frames.{framed, moved}
use Rattle.ua_chunks.specs.Framing.{Brings, Framing, IsBetween, given, new_framing}
use Rattle.ua_chunks.specs.Streams.{AreFrom, after_frames, all_bytes, frame_bytes}
use Rattle.ua_chunks.specs.Assembly.{Assembly, Ended, Leads, after_frame, and_then, assembled, fault_after, first_fault, is_former, message_of, messages_of, new_assembly, renewed, takes_number, tokens_of, unless_faulty, used, with_fault, with_number}
use Rattle.ua_chunks.specs.Sending.{IsSending, MayPut, Part, Sending, after_parts, after_put, message_parts, new_sending, none_policy, opn_part, part, part_bytes, parts_bytes, parts_of, put_bytes, in_chunk, stepped, whole_part, with_limits, written_head}
use Rattle.ua_chunks.specs.Arrival.{ArePut, InStep, IsPut, Put, after_all, all_put, frames_put, message_put, placed}
use Rattle.ua_chunks.proofs.Written.{frame_long, frames_again}
use Rattle.ua_chunks.proofs.Streaming.{all_given, brings}
use Rattle.ua_chunks.proofs.Chunking.{head_long, parts_last, parts_more}
use Rattle.ua_chunks.proofs.Arriving.{Arrives, HasRoom, Ready, arrives, fits_room, number_follows, or_true, stepped_is}

-- ---- parts as frames

pub placed_bytes : (place : ℕ) (parts : List Part) → all_bytes (placed place parts) ≡ parts_bytes parts
placed_bytes place [] = refl
placed_bytes place (p ∷ parts) = ap (λ (l : List ℕ). part_bytes p ++ l) (placed_bytes (moved place (8 + length p.body)) parts)

-- what a part of a sender's is like
pub record IsPart (size : ℕ) (p : Part) : Type 0 where
  pub chunk : (p.kind ≡ kind.Msg) ⊎ (p.chunk ≡ chunk.Final)
  pub small : 8 + length p.body ≤ size

pub placed_from : (size place : ℕ) (parts : List Part) → size ≤ 65536 → AllByRecursion (IsPart size) parts → AreFrom place (placed place parts)
placed_from size place [] le are = tt
placed_from size place (p ∷ parts) le are =
    let small = are.0.small in
    (record { chunk = are.0.chunk; size = omega (arith, small) }, refl, placed_from size (moved place (8 + length p.body)) parts le are.1)

placed_small : (size place : ℕ) (parts : List Part) → AllByRecursion (IsPart size) parts → AllByRecursion (λ (f : Frame). 8 + length f.body ≤ size) (placed place parts)
placed_small size place [] are = tt
placed_small size place (p ∷ parts) are = (are.0.small, placed_small size (moved place (8 + length p.body)) parts are.1)

both_small : {A : Type 0} (P : A → Type 0) (xs ys : List A) → AllByRecursion P xs → AllByRecursion P ys → AllByRecursion P (xs ++ ys)
both_small P [] ys first second = second
both_small P (x ∷ xs) ys first second = (first.0, both_small P xs ys first.1 second)

pub from_append : (place : ℕ) (xs ys : List Frame) → place < 2 ^ 64 → AreFrom place xs → AreFrom (moved place (length (all_bytes xs))) ys → AreFrom place (xs ++ ys)
from_append place [] ys lt first second =
    let same : moved place 0 ≡ place = omega arith in subst (λ (p : ℕ). AreFrom p ys) same second
from_append place (f ∷ xs) ys lt first second =
    let next = moved place (8 + length f.body) in
    let same : moved place (length (all_bytes (f ∷ xs))) ≡ moved next (length (all_bytes xs)) = omega (arith, frame_long f, length-append (frame_bytes f) (all_bytes xs)) in
    (first.0, first.1, from_append next xs ys (omega arith) first.2 (subst (λ (p : ℕ). AreFrom p ys) same second))

-- ---- the parts of a message

chunk_small : (request : ℕ) (bytes : List ℕ) (s : Sending) → IsSending s → length bytes ≤ in_chunk s → (k : Kind) → 8 + length (part k chunk.Final request bytes s).body ≤ s.size
chunk_small request bytes s is le k = omega (arith, head_long request s, length-append (written_head request s) bytes, is.least)

message_by : (c : ℕ) (request : ℕ) (bytes : List ℕ) (s : Sending) → IsSending s → length bytes ≤ in_chunk s * suc c → AllByRecursion (IsPart s.size) (message_parts kind.Msg request bytes s)
message_by zero request bytes s is fits =
    let times = mul-suc (in_chunk s) 0 in
    let le : length bytes ≤ in_chunk s = omega (arith, times) in
    subst (AllByRecursion (IsPart s.size)) (sym (parts_last kind.Msg request bytes s le)) (record { chunk = inl refl; small = chunk_small request bytes s is le kind.Msg }, tt)
message_by (suc c) request bytes s is fits = elim (cases_lt (in_chunk s) (length bytes)) [
  | inl over ↦
      let least : 1 ≤ in_chunk s = omega (arith, is.least) in
      let times = mul-suc (in_chunk s) (suc c) in
      let back = length-drop (in_chunk s) bytes in
      let front = length-take (in_chunk s) bytes in
      let small : 8 + length (part kind.Msg chunk.Middle request (take (in_chunk s) bytes) s).body ≤ s.size = chunk_small request (take (in_chunk s) bytes) s is (omega (arith, front)) kind.Msg in
      subst (AllByRecursion (IsPart s.size)) (sym (parts_more kind.Msg request bytes s least over))
      (record { chunk = inl refl; small = small }, message_by c request (drop (in_chunk s) bytes) (stepped s) (stepped_is s is) (omega (arith, times, back)))
  | inr le ↦ subst (AllByRecursion (IsPart s.size)) (sym (parts_last kind.Msg request bytes s le)) (record { chunk = inl refl; small = chunk_small request bytes s is le kind.Msg }, tt)
]

-- ---- one message

pub record Comes (place : ℕ) (m : Put) (s : Sending) (a : Assembly) : Type 0 where
  pub parts : AllByRecursion (IsPart s.size) (parts_of m.kind m.request m.body s)
  pub messages : messages_of (placed place (parts_of m.kind m.request m.body s)) a ≡ message_put m ∷ []
  pub in_step : InStep (after_put m.kind m.request m.body s) (assembled (placed place (parts_of m.kind m.request m.body s)) a)
  pub sending : IsSending (after_put m.kind m.request m.body s)
  pub leads : Leads (placed place (parts_of m.kind m.request m.body s)) (message_put m) a
  pub tokens : tokens_of (assembled (placed place (parts_of m.kind m.request m.body s)) a) ≡ used s.token (tokens_of a)

ready_is : (request : ℕ) (s : Sending) (a : Assembly) → InStep s a → Ready request s a
ready_is request s a step =
    let none : (a.chunks == 0) ≡ true = let e = step.chunks in grind (arith, nat_tests) in
    record { channel = step.channel; token = step.token; number = step.number; request_is = ap (λ b. b || (request == a.request)) none; fault = step.fault }

arrived : (place : ℕ) (k : Kind) (request : ℕ) (body : List ℕ) (s : Sending) (a : Assembly) → IsSending s → request < 2 ^ 32 → InStep s a → HasRoom (length body) s → Arrives place k request body s a
arrived place k request body s a is lt step room =
    let chunks = step.chunks in
    let none = ap length step.body in
    arrives room.chunks place k request body s a is lt (ready_is request s a step) room.room_is (let few = room.few in omega (arith, chunks)) (let most = room.most in omega (arith, none))

abbrev put_of : Kind → ℕ → List ℕ → Put
put_of k request body = record { kind = k; request = request; body = body }

comes_message : (place request : ℕ) (body : List ℕ) (s : Sending) (a : Assembly) → IsSending s → request < 2 ^ 32 → InStep s a → HasRoom (length body) s → Comes place (put_of kind.Msg request body) s a
comes_message place request body s a is lt step room =
    let r = arrived place kind.Msg request body s a is lt step room in
    record {
      parts = message_by room.chunks request body s is room.room_is;
      messages = r.messages ∙ ap (λ (l : List ℕ). record { request = request; body = l ++ body } ∷ []) step.body;
      in_step = r.in_step;
      sending = r.sending;
      leads = subst (λ (l : List ℕ). Leads (placed place (message_parts kind.Msg request body s)) (record { request = request; body = l ++ body }) a) step.body r.leads;
      tokens = r.tokens;
    }

comes_close : (place request : ℕ) (body : List ℕ) (s : Sending) (a : Assembly) → IsSending s → request < 2 ^ 32 → InStep s a → HasRoom (length body) s → length body ≤ 4096 → Comes place (put_of kind.Clo request body) s a
comes_close place request body s a is lt step has short =
    let r = arrived place kind.Clo request body s a is lt step has in
    let le : length body ≤ in_chunk s = omega (arith, is.least) in
    record {
      parts = subst (AllByRecursion (IsPart s.size)) (sym (parts_last kind.Clo request body s le)) (record { chunk = inr refl; small = chunk_small request body s is le kind.Clo }, tt);
      messages = r.messages ∙ ap (λ (l : List ℕ). record { request = request; body = l ++ body } ∷ []) step.body;
      in_step = r.in_step;
      sending = r.sending;
      leads = subst (λ (l : List ℕ). Leads (placed place (message_parts kind.Clo request body s)) (record { request = request; body = l ++ body }) a) step.body r.leads;
      tokens = r.tokens;
    }

comes_by : (k : Kind) (place request : ℕ) (body : List ℕ) (s : Sending) (a : Assembly) → (k ≡ kind.Msg) ⊎ (k ≡ kind.Clo) → MayPut k (length body) → IsSending s → request < 2 ^ 32 → InStep s a → HasRoom (length body) s → Comes place (put_of k request body) s a
comes_by kind.Msg place request body s a is may sends lt step has = comes_message place request body s a sends lt step has
comes_by kind.Clo place request body s a is may sends lt step has = comes_close place request body s a sends lt step has may
comes_by kind.Opn place request body s a (inl e) may sends lt step has = absurd cc
comes_by kind.Opn place request body s a (inr e) may sends lt step has = absurd cc
comes_by kind.Hel place request body s a is may sends lt step has = absurd may
comes_by kind.Ack place request body s a is may sends lt step has = absurd may
comes_by kind.Err place request body s a is may sends lt step has = absurd may

pub comes : (place : ℕ) (m : Put) (s : Sending) (a : Assembly) → IsSending s → InStep s a → IsPut m s → Comes place m s a
comes place m s a sends step put = comes_by m.kind place m.request m.body s a put.kind put.short sends put.request step (fits_room (length m.body) s put.fits)

-- ---- lists of messages

and_append : (o : Option Message) (xs ys : List Message) → and_then o (xs ++ ys) ≡ and_then o xs ++ ys
and_append None xs ys = refl
and_append (Some m) xs ys = refl

pub messages_append : (xs ys : List Frame) (a : Assembly) → messages_of (xs ++ ys) a ≡ messages_of xs a ++ messages_of ys (assembled xs a)
messages_append [] ys a = refl
messages_append (f ∷ xs) ys a = ap (and_then (message_of f a)) (messages_append xs ys (after_frame f a)) ∙ and_append (message_of f a) (messages_of xs (after_frame f a)) (messages_of ys (assembled xs (after_frame f a)))

pub assembled_append : (xs ys : List Frame) (a : Assembly) → assembled (xs ++ ys) a ≡ assembled ys (assembled xs a)
assembled_append [] ys a = refl
assembled_append (f ∷ xs) ys a = assembled_append xs ys (after_frame f a)

pub record AllCome (place : ℕ) (messages : List Put) (s : Sending) (a : Assembly) : Type 0 where
  pub come : messages_of (frames_put place messages s) a ≡ map message_put messages
  pub in_step : InStep (after_all messages s) (assembled (frames_put place messages s) a)
  pub sending : IsSending (after_all messages s)

pub all_come : (place : ℕ) (messages : List Put) (s : Sending) (a : Assembly) → IsSending s → InStep s a → ArePut messages s → AllCome place messages s a
all_come place [] s a sends step put = record { come = refl; in_step = step; sending = sends }
all_come place (m ∷ messages) s a sends step put =
    let c = comes place m s a sends step put.0 in
    let frames = placed place (parts_of m.kind m.request m.body s) in
    let next = moved place (length (put_bytes m.kind m.request m.body s)) in
    let t = after_put m.kind m.request m.body s in
    let more = all_come next messages t (assembled frames a) c.sending c.in_step put.1 in
    record {
      come = messages_append frames (frames_put next messages t) a
          ∙ ap (λ ms. ms ++ messages_of (frames_put next messages t) (assembled frames a)) c.messages
          ∙ ap (λ ms. message_put m ∷ ms) more.come;
      in_step = subst (InStep (after_all messages t)) (sym (assembled_append frames (frames_put next messages t) a)) more.in_step;
      sending = more.sending;
    }

pub all_bytes_put : (place : ℕ) (messages : List Put) (s : Sending) → all_bytes (frames_put place messages s) ≡ all_put messages s
all_bytes_put place [] s = refl
all_bytes_put place (m ∷ messages) s =
    let frames = placed place (parts_of m.kind m.request m.body s) in
    let next = moved place (length (put_bytes m.kind m.request m.body s)) in
    let t = after_put m.kind m.request m.body s in
    flat_map-append frame_bytes frames (frames_put next messages t)
    ∙ ap (λ (l : List ℕ). l ++ all_bytes (frames_put next messages t)) (placed_bytes place (parts_of m.kind m.request m.body s))
    ∙ ap (λ (l : List ℕ). put_bytes m.kind m.request m.body s ++ l) (all_bytes_put next messages t)

-- ---- their frames

pub in_step_new : (s : Sending) → InStep s (new_assembly s.channel s.token)
in_step_new s =
    let same : (s.token == s.token) ≡ true = grind (arith, nat_tests) in
    record { channel = refl; token = ap (λ b. b || false) same; number = refl; chunks = refl; body = refl; fault = refl }

-- what is so of one message's parts, whoever takes them
pub comes_new : (place : ℕ) (m : Put) (s : Sending) → IsSending s → IsPut m s → Comes place m s (new_assembly s.channel s.token)
comes_new place m s sends put = comes place m s (new_assembly s.channel s.token) sends (in_step_new s) put

size_after : (parts : List Part) (s : Sending) → (after_parts parts s).size ≡ s.size
size_after [] s = refl
size_after (p ∷ parts) s = size_after parts (stepped s)

pub all_from : (place : ℕ) (messages : List Put) (s : Sending) → place < 2 ^ 64 → IsSending s → ArePut messages s → AreFrom place (frames_put place messages s)
all_from place [] s lt sends put = tt
all_from place (m ∷ messages) s lt sends put =
    let c = comes_new place m s sends put.0 in
    let parts = parts_of m.kind m.request m.body s in
    let next = moved place (length (put_bytes m.kind m.request m.body s)) in
    let t = after_put m.kind m.request m.body s in
    let more = all_from next messages t (omega arith) c.sending put.1 in
    from_append place (placed place parts) (frames_put next messages t) lt (placed_from s.size place parts sends.most c.parts)
    (subst (λ (l : List ℕ). AreFrom (moved place (length l)) (frames_put next messages t)) (sym (placed_bytes place parts)) more)

pub all_small : (place : ℕ) (messages : List Put) (s : Sending) → IsSending s → ArePut messages s → AllByRecursion (λ (f : Frame). 8 + length f.body ≤ s.size) (frames_put place messages s)
all_small place [] s sends put = tt
all_small place (m ∷ messages) s sends put =
    let c = comes_new place m s sends put.0 in
    let parts = parts_of m.kind m.request m.body s in
    let next = moved place (length (put_bytes m.kind m.request m.body s)) in
    let t = after_put m.kind m.request m.body s in
    both_small (λ (f : Frame). 8 + length f.body ≤ s.size) (placed place parts) (frames_put next messages t) (placed_small s.size place parts c.parts)
    (subst (λ (n : ℕ). AllByRecursion (λ (f : Frame). 8 + length f.body ≤ n) (frames_put next messages t)) (size_after parts s) (all_small next messages t c.sending put.1))

pub all_framed : (place : ℕ) (messages : List Put) (s : Sending) (more : List ℕ) → place < 2 ^ 64 → IsSending s → ArePut messages s
    → framed place (all_put messages s ++ more) ≡ after_frames (frames_put place messages s) (framed (moved place (length (all_put messages s))) more)
all_framed place messages s more lt sends put =
    let same = all_bytes_put place messages s in
    ap (λ (l : List ℕ). framed place (l ++ more)) (sym same)
    ∙ frames_again place (frames_put place messages s) more lt (all_from place messages s lt sends put)
    ∙ ap (λ (l : List ℕ). after_frames (frames_put place messages s) (framed (moved place (length l)) more)) same

pub put_brings : (messages : List Put) (s : Sending) (f : Framing) → IsBetween f → IsSending s → ArePut messages s → Brings (frames_put f.place messages s) (all_put messages s) f
put_brings messages s f between sends put =
    subst (λ (l : List ℕ). Brings (frames_put f.place messages s) l f) (all_bytes_put f.place messages s)
    (brings (frames_put f.place messages s) f between (all_from f.place messages s between.0 sends put))

-- ---- from the first byte on

nothing_framed : (place : ℕ) → (framed place []).frames ≡ []
unfolding framed
nothing_framed place = refl

pub whole_arrives : (pieces : List (List ℕ)) (messages : List Put) (channel token size max_message max_chunks : ℕ) → channel < 2 ^ 32 → token < 2 ^ 32 → 8192 ≤ size
    → ArePut messages (new_sending channel token size max_message max_chunks) → concat pieces ≡ all_put messages (new_sending channel token size max_message max_chunks)
    → messages_of (given pieces new_framing) (new_assembly channel token) ≡ map message_put messages
whole_arrives pieces messages channel token size max_message max_chunks lc lt least put is =
    let s = new_sending channel token size max_message max_chunks in
    let sends : IsSending s = record { channel = lc; token = lt; least = omega arith; most = omega arith; next = omega arith } in
    let stream = all_put messages s in
    let frames = frames_put 0 messages s in
    let all : (framed 0 stream).frames ≡ frames =
    ap (λ (l : List ℕ). (framed 0 l).frames) (sym (append-nil stream)) ∙ ap (λ f. f.frames) (all_framed 0 messages s [] (omega arith) sends put)
    ∙ ap (λ gs. frames ++ gs) (nothing_framed (moved 0 (length stream))) ∙ append-nil frames in
    ap (λ fs. messages_of fs (new_assembly channel token)) (all_given pieces ∙ ap (λ (l : List ℕ). (framed 0 l).frames) is ∙ all)
    ∙ (all_come 0 messages s (new_assembly channel token) sends (in_step_new s) put).come

-- ---- an OPN

pub opn_step : (request : ℕ) (body : List ℕ) (s : Sending) (a : Assembly) → InStep s a → InStep (after_put kind.Opn request body s) (with_number s.next a)
opn_step request body s a step =
    record { channel = step.channel; token = step.token; number = number_follows s.next; chunks = step.chunks; body = step.body; fault = step.fault }

pub both_renewed : (channel token : ℕ) (s : Sending) (a : Assembly) → InStep s a → InStep (record s { channel = channel; token = token }) (renewed channel token a)
both_renewed channel token s a step =
    let same : (token == token) ≡ true = grind (arith, nat_tests) in
    record {
      channel = refl;
      token = ap (λ b. b || is_former token (renewed channel token a).former) same;
      number = step.number;
      chunks = step.chunks;
      body = step.body;
      fault = step.fault;
    }

former_by : (b : Bool) (token channel : ℕ) (s : Sending) (a : Assembly) → (channel == a.channel) ≡ b → channel ≡ a.channel → s.token ≡ a.token
    → (s.token == token || is_former s.token (cond b (Some a.token) None)) ≡ true
former_by true token channel s a e is same =
    let here : (s.token == a.token) ≡ true = grind (arith, nat_tests) in ap (λ b. s.token == token || b) here ∙ or_true (s.token == token)
former_by false token channel s a e is same = absurd (grind (arith, nat_tests))

pub former_taken : (token : ℕ) (s : Sending) (a : Assembly) → InStep s a → s.token ≡ a.token → InStep s (renewed s.channel token a)
former_taken token s a step same = record {
  channel = refl;
  token = former_by (s.channel == a.channel) token s.channel s a refl (sym step.channel) same;
  number = step.number;
  chunks = step.chunks;
  body = step.body;
  fault = step.fault;
}

-- ---- after a fault

ended_rest : (f : Frame) (frames : List Frame) (fault : MessageFault) (a : Assembly) → fault_after f a ≡ Some fault
    → Ended frames fault (record a { fault = Some fault }) → Ended (f ∷ frames) fault a
unfolding after_frame message_of
ended_rest f frames fault a after more =
    let state : after_frame f a ≡ record a { fault = Some fault } = ap (λ o. with_fault o f a) after in
    record {
      messages = ap (λ o. and_then o (messages_of frames (after_frame f a))) (ap (λ o. unless_faulty o f a) after) ∙ ap (messages_of frames) state ∙ more.messages;
      fault_is = ap (λ b. (assembled frames b).fault) state ∙ more.fault_is;
    }

pub ended : (frames : List Frame) (fault : MessageFault) (a : Assembly) → a.fault ≡ Some fault → Ended frames fault a
ended [] fault a e = record { messages = refl; fault_is = e }
ended (f ∷ frames) fault a e = ended_rest f frames fault a (ap (λ o. first_fault o f a) e) (ended frames fault (record a { fault = Some fault }) refl)

-- a frame that breaks a rule ends it all
pub ended_by : (f : Frame) (frames : List Frame) (fault : MessageFault) (a : Assembly) → fault_after f a ≡ Some fault → Ended (f ∷ frames) fault a
ended_by f frames fault a after = ended_rest f frames fault a after (ended frames fault (record a { fault = Some fault }) refl)

-- ---- an OPN's frame

pub opn_small : (request : ℕ) (body : List ℕ) (s : Sending) → length body ≤ 4096 → IsPart 65536 (opn_part request body s)
opn_small request body s short =
    let a = length-bytes_low_first 0 4 s.channel in
    let n = length-bytes_low_first 0 4 s.next in
    let r = length-bytes_low_first 0 4 request in
    let p = little_bytes 4 s.channel ++ written_text (Some none_policy) ++ written_text None ++ written_text None in
    let text : length p ≡ 4 + 51 + 4 + 4 = refl in
    let all = length-append (p ++ little_bytes 4 s.next ++ little_bytes 4 request) body in
    let one = length-append (p ++ little_bytes 4 s.next) (little_bytes 4 request) in
    let two = length-append p (little_bytes 4 s.next) in
    record { chunk = inr refl; small = omega (arith, a, n, r, text, all, one, two) }

pub opn_long : (request : ℕ) (body : List ℕ) (s : Sending) → length (opn_part request body s).body ≡ 71 + length body
opn_long request body s =
    let a = length-bytes_low_first 0 4 s.channel in
    let n = length-bytes_low_first 0 4 s.next in
    let r = length-bytes_low_first 0 4 request in
    let p = little_bytes 4 s.channel ++ written_text (Some none_policy) ++ written_text None ++ written_text None in
    let text : length p ≡ 4 + 51 + 4 + 4 = refl in
    let all = length-append (p ++ little_bytes 4 s.next ++ little_bytes 4 request) body in
    let one = length-append (p ++ little_bytes 4 s.next) (little_bytes 4 request) in
    let two = length-append p (little_bytes 4 s.next) in
    omega (arith, a, n, r, text, all, one, two)

pub opn_fits : (request : ℕ) (body : List ℕ) (s : Sending) → IsSending s → length body ≤ 4096 → 8 + length (opn_part request body s).body ≤ s.size
opn_fits request body s is short = omega (arith, opn_long request body s, is.least)

pub opn_sends : (request : ℕ) (body : List ℕ) (s : Sending) → IsSending s → IsSending (after_put kind.Opn request body s)
opn_sends request body s is = stepped_is s is

pub opn_framed : (place request : ℕ) (body more : List ℕ) (s : Sending) → place < 2 ^ 64 → IsSending s → length body ≤ 4096
    → framed place (put_bytes kind.Opn request body s ++ more)
    ≡ after_frames (placed place (opn_part request body s ∷ [])) (framed (moved place (length (put_bytes kind.Opn request body s))) more)
opn_framed place request body more s lt is short =
    let parts = opn_part request body s ∷ [] in
    let same = placed_bytes place parts in
    ap (λ (l : List ℕ). framed place (l ++ more)) (sym same)
    ∙ frames_again place (placed place parts) more lt (placed_from 65536 place parts (omega arith) (opn_small request body s short, tt))
    ∙ ap (λ (l : List ℕ). after_frames (placed place parts) (framed (moved place (length l)) more)) same

-- ---- which number follows

pub record Follows (number last : ℕ) : Type 0 where
  pub told : takes_number number (Some last) ≡ true → (number ≡ last + 1) ⊎ ((4294966271 < last) × (number < 1024))
  pub tells : (number ≡ last + 1) ⊎ ((4294966271 < last) × (number < 1024)) → takes_number number (Some last) ≡ true

or_is : (a b c : Bool) → (a || (b && c)) ≡ true → (a ≡ true) ⊎ ((b ≡ true) × (c ≡ true))
or_is true b c e = inl refl
or_is false true c e = inr (refl, e)
or_is false false c e = absurd cc

told_by : (number last : ℕ) → (((number == last + 1) ≡ true) ⊎ ((nat_lt 4294966271 last ≡ true) × (nat_lt number 1024 ≡ true))) → (number ≡ last + 1) ⊎ ((4294966271 < last) × (number < 1024))
told_by number last (inl e) = inl (grind (arith, nat_tests))
told_by number last (inr e) =
    let a = e.0 in
    let b = e.1 in
    inr (grind (arith, nat_tests), grind (arith, nat_tests))

pub follows : (number last : ℕ) → Follows number last
follows number last = record {
  told = λ e. told_by number last (or_is (number == last + 1) (nat_lt 4294966271 last) (nat_lt number 1024) e);
  tells = λ h. elim h [
    | inl is ↦ let e : (number == last + 1) ≡ true = grind (arith, nat_tests) in ap (λ b. b || (nat_lt 4294966271 last && nat_lt number 1024)) e
    | inr both ↦
        let a : nat_lt 4294966271 last ≡ true = lt-ltb 4294966271 last both.0 in
        let b : nat_lt number 1024 ≡ true = lt-ltb number 1024 both.1 in
        ap (λ x. (number == last + 1) || (x && nat_lt number 1024)) a ∙ ap (λ x. (number == last + 1) || x) b ∙ or_true (number == last + 1)
  ];
}

-- ---- one frame, fed whole

pub opn_fed : (request : ℕ) (body : List ℕ) (s : Sending) (f : Framing) → IsBetween f → length body ≤ 4096
    → Brings (placed f.place (opn_part request body s ∷ [])) (put_bytes kind.Opn request body s) f
opn_fed request body s f between short =
    let parts = opn_part request body s ∷ [] in
    subst (λ (l : List ℕ). Brings (placed f.place parts) l f) (placed_bytes f.place parts)
    (brings (placed f.place parts) f between (placed_from 65536 f.place parts (omega arith) (opn_small request body s short, tt)))

pub whole_small : (k : Kind) (body : List ℕ) → length body ≤ 65528 → IsPart 65536 (whole_part k body)
whole_small k body short = record { chunk = inr refl; small = omega (arith, short) }

pub whole_fed : (k : Kind) (body : List ℕ) (f : Framing) → IsBetween f → length body ≤ 65528
    → Brings (placed f.place (whole_part k body ∷ [])) (part_bytes (whole_part k body)) f
whole_fed k body f between short =
    let parts = whole_part k body ∷ [] in
    subst (λ (l : List ℕ). Brings (placed f.place parts) l f) (placed_bytes f.place parts ∙ append-nil (part_bytes (whole_part k body)))
    (brings (placed f.place parts) f between (placed_from 65536 f.place parts (omega arith) (whole_small k body short, tt)))

-- ---- the beginning, and the end of a renewal

pub new_sends : (channel token size max_message max_chunks : ℕ) → channel < 2 ^ 32 → token < 2 ^ 32 → 8192 ≤ size → IsSending (new_sending channel token size max_message max_chunks)
new_sends channel token size max_message max_chunks lc lt least = record { channel = lc; token = lt; least = omega arith; most = omega arith; next = omega arith }

pub renewed_sends : (channel token : ℕ) (s : Sending) → IsSending s → channel < 2 ^ 32 → token < 2 ^ 32 → IsSending (record s { channel = channel; token = token })
renewed_sends channel token s is lc lt = record { channel = lc; token = lt; least = is.least; most = is.most; next = is.next }

parts_send : (parts : List Part) (s : Sending) → IsSending s → IsSending (after_parts parts s)
parts_send [] s is = is
parts_send (p ∷ parts) s is = parts_send parts (stepped s) (stepped_is s is)

pub put_sends : (k : Kind) (request : ℕ) (body : List ℕ) (s : Sending) → IsSending s → IsSending (after_put k request body s)
put_sends k request body s is = parts_send (parts_of k request body s) s is

pub limits_send : (size max_message max_chunks : ℕ) (s : Sending) → IsSending s → 8192 ≤ size → IsSending (with_limits size max_message max_chunks s)
limits_send size max_message max_chunks s is least = record { channel = is.channel; token = is.token; least = omega arith; most = omega arith; next = is.next }

pub begins_in_step : (channel token size max_message max_chunks : ℕ) → InStep (new_sending channel token size max_message max_chunks) (new_assembly channel token)
begins_in_step channel token size max_message max_chunks = in_step_new (new_sending channel token size max_message max_chunks)

pub limits_in_step : (size max_message max_chunks : ℕ) (s : Sending) (a : Assembly) → InStep s a → InStep (with_limits size max_message max_chunks s) a
limits_in_step size max_message max_chunks s a step =
    record { channel = step.channel; token = step.token; number = step.number; chunks = step.chunks; body = step.body; fault = step.fault }

-- the sender takes the channel and token that are awaited
pub caught_up : (s : Sending) (a : Assembly) → InStep s a → InStep (record s { channel = a.channel; token = a.token }) a
caught_up s a step =
    let same : (a.token == a.token) ≡ true = grind (arith, nat_tests) in
    record { channel = refl; token = ap (λ b. b || is_former a.token a.former) same; number = step.number; chunks = step.chunks; body = step.body; fault = step.fault }
