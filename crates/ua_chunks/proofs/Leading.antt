-- When a message comes, what refuses its first chunk, and what comes before a fault.
use Rattle.std.proofs.Common.{◌≡◌, ℕ, ◌+◌, ◌-◌, ◌^◌, ◌==◌, ◌≤◌, ◌<◌, Bool, true, false, cond, nat_lt, List, [], ◌∷◌, ◌++◌, length, take, drop, Option, Some, None, ◌⊎◌, refl, sym, ap, subst, ◌∙◌, arith, inl, inr, map}
use Rattle.std.proofs.lemmas.Bool.{cases_lt, le-ltb}
use Rattle.std.proofs.lemmas.Bool.Decides.{nat_tests}
use Rattle.std.proofs.lemmas.List.{append-nil}
use Rattle.ua_base.specs.Status.{bad_decoding_error, bad_secure_channel_token_unknown, bad_sequence_number_invalid, bad_tcp_secure_channel_unknown}
use Rattle.ua_chunks.specs.declared.frame.Kind.{Kind}
use Rattle.ua_chunks.specs.declared.frame.Kind.TheVariants as kind
use Rattle.ua_chunks.specs.declared.frame.Chunk.{Chunk}
use Rattle.ua_chunks.specs.declared.frame.Chunk.TheVariants as chunk
use Rattle.ua_chunks.specs.declared.frame.Frame.{Frame}
use Rattle.ua_chunks.specs.declared.message.ChunkHead.{ChunkHead}
use Rattle.ua_chunks.specs.declared.message.Message.{Message}
use Rattle.ua_chunks.specs.declared.message.MessageFault.{MessageFault}
use Rattle.ua_chunks.specs.Frames.{fault_of, moved}
use Rattle.ua_chunks.specs.Framing.{Framing, IsBetween, after_feed, frames_of}
use Rattle.ua_chunks.specs.Assembly.{Assembly, Breaks, Ended, HasFirstFault, RefusesFirst, after_frame, and_then, assembled, at_place, fault_after, first_fault, head_of, message_of, messages_of, numbered, refusal, refusal_of, takes_number, takes_token, with_chunk, with_fault}
use Rattle.ua_chunks.specs.Sending.{IsSending, Part, Sending, in_chunk, message_parts, part, parts_of, stepped, written_head}
use Rattle.ua_chunks.specs.Arrival.{ArePut, BeginsWith, InStep, IsPut, Put, all_put, frames_put, message_put, placed}
use Rattle.ua_chunks.proofs.Chunking.{parts_last, parts_more}
use Rattle.ua_chunks.proofs.Arriving.{chunk_body_long, frame_in, head_again, head_in, same_number}
use Rattle.ua_chunks.proofs.Pieces.{cut_frames, cut_state}
use Rattle.ua_chunks.proofs.Streaming.{stays}
use Rattle.ua_chunks.proofs.Putting.{all_come, assembled_append, ended, ended_by, messages_append, put_brings}

-- ---- the first chunk of a message

pub record Begins (place : ℕ) (k : Kind) (request : ℕ) (bytes : List ℕ) (s : Sending) : Type 0 where
  pub chunk_is : Chunk
  pub front : List ℕ
  pub others : List Part
  pub are : message_parts k request bytes s ≡ part k chunk_is request front s ∷ others

begins : (place : ℕ) (k : Kind) (request : ℕ) (bytes : List ℕ) (s : Sending) → IsSending s → Begins place k request bytes s
begins place k request bytes s is = elim (cases_lt (in_chunk s) (length bytes)) [
  | inl over ↦
      let least : 1 ≤ in_chunk s = omega (arith, is.least) in
      record {
        chunk_is = chunk.Middle;
        front = take (in_chunk s) bytes;
        others = message_parts k request (drop (in_chunk s) bytes) (stepped s);
        are = parts_more k request bytes s least over;
      }
  | inr le ↦ record { chunk_is = chunk.Final; front = bytes; others = []; are = parts_last k request bytes s le }
]

-- a chunk whose head breaks a rule, whatever its bytes
refused_chunk : (request code : ℕ) (s : Sending) (bytes : List ℕ) (a : Assembly) → IsSending s → request < 2 ^ 32
    → ((count : ℕ) → refusal_of (head_in request s) count a ≡ Some code) → refusal (written_head request s ++ bytes) a ≡ Some code
refused_chunk request code s bytes a is lt breaks =
    let body = written_head request s ++ bytes in
    let long = chunk_body_long request s bytes in
    let enough : nat_lt (length body) 16 ≡ false = le-ltb (length body) 16 (omega (arith, long)) in
    ap (λ b. cond b (Some bad_decoding_error) (refusal_of (head_of body) (length body - 16) a)) enough
    ∙ ap (λ h. refusal_of h (length body - 16) a) (head_again request s bytes is lt)
    ∙ breaks (length body - 16)

refused_parts : (place request code : ℕ) (k : Kind) (bytes : List ℕ) (s : Sending) (a : Assembly) → IsSending s → request < 2 ^ 32 → a.fault ≡ None
    → ((count : ℕ) → refusal_of (head_in request s) count a ≡ Some code)
    → RefusesFirst (placed place (message_parts k request bytes s)) (record { place = place; code = code }) a
refused_parts place request code k bytes s a is lt none breaks =
    let b = begins place k request bytes s is in
    let f = frame_in place (part k b.chunk_is request b.front s) in
    let fault : MessageFault = record { place = place; code = code } in
    let after : fault_after f a ≡ Some fault = ap (λ o. first_fault o f a) none ∙ ap (at_place place) (refused_chunk request code s b.front a is lt breaks) in
    let others = placed (moved place (8 + length f.body)) b.others in
    let are : placed place (message_parts k request bytes s) ≡ f ∷ others = ap (placed place) b.are in
    record {
      first = f;
      others = others;
      are = are;
      breaks = after;
      ended = subst (λ fs. Ended fs fault a) (sym are) (ended_by f others fault a after);
    }

pub parts_are : (k : Kind) (request : ℕ) (bytes : List ℕ) (s : Sending) → (k ≡ kind.Msg) ⊎ (k ≡ kind.Clo) → parts_of k request bytes s ≡ message_parts k request bytes s
parts_are k request bytes s (inl e) = subst (λ k. parts_of k request bytes s ≡ message_parts k request bytes s) (sym e) refl
parts_are k request bytes s (inr e) = subst (λ k. parts_of k request bytes s ≡ message_parts k request bytes s) (sym e) refl

refused_put : (place code : ℕ) (m : Put) (s : Sending) (a : Assembly) → IsSending s → IsPut m s → a.fault ≡ None
    → ((count : ℕ) → refusal_of (head_in m.request s) count a ≡ Some code)
    → RefusesFirst (placed place (parts_of m.kind m.request m.body s)) (record { place = place; code = code }) a
refused_put place code m s a is put none breaks =
    subst (λ ps. RefusesFirst (placed place ps) (record { place = place; code = code }) a) (sym (parts_are m.kind m.request m.body s put.kind))
    (refused_parts place m.request code m.kind m.body s a is put.request none breaks)

other_by : (b : Bool) (n m : ℕ) → (n == m) ≡ b → (n ≡ m → ⊥) → (n == m) ≡ false
other_by true n m e other = absurd (other (grind (arith, nat_tests)))
other_by false n m e other = e

pub foreign_channel : (place : ℕ) (m : Put) (s : Sending) (a : Assembly) → IsSending s → IsPut m s → a.fault ≡ None → (s.channel ≡ a.channel → ⊥)
    → RefusesFirst (placed place (parts_of m.kind m.request m.body s)) (record { place = place; code = bad_tcp_secure_channel_unknown }) a
foreign_channel place m s a is put none other =
    let no : (s.channel == a.channel) ≡ false = other_by (s.channel == a.channel) s.channel a.channel refl other in
    refused_put place bad_tcp_secure_channel_unknown m s a is put none (λ count. rw (no) refl)

pub foreign_token : (place : ℕ) (m : Put) (s : Sending) (a : Assembly) → IsSending s → IsPut m s → a.fault ≡ None → s.channel ≡ a.channel → takes_token s.token a ≡ false
    → RefusesFirst (placed place (parts_of m.kind m.request m.body s)) (record { place = place; code = bad_secure_channel_token_unknown }) a
foreign_token place m s a is put none channel token =
    let same : (s.channel == a.channel) ≡ true = same_number a.channel s.channel (sym channel) in
    refused_put place bad_secure_channel_token_unknown m s a is put none (λ count. rw (same, token) refl)

pub wrong_number : (place : ℕ) (m : Put) (s : Sending) (a : Assembly) → IsSending s → IsPut m s → a.fault ≡ None → s.channel ≡ a.channel → takes_token s.token a ≡ true
    → takes_number s.next a.last ≡ false
    → RefusesFirst (placed place (parts_of m.kind m.request m.body s)) (record { place = place; code = bad_sequence_number_invalid }) a
wrong_number place m s a is put none channel token number =
    let same : (s.channel == a.channel) ≡ true = same_number a.channel s.channel (sym channel) in
    refused_put place bad_sequence_number_invalid m s a is put none (λ count. rw (same, token, number) refl)

-- ---- fronts

none_some : (code : ℕ) (o : Option ℕ) → o ≡ Some code → o ≡ None → ⊥
none_some code o some none = absurd cc

front_by : (o : Option ℕ) (front more : List ℕ) (s : Framing) → fault_of (after_feed front s).held ≡ o → fault_of (after_feed (front ++ more) s).held ≡ None → o ≡ None
front_by None front more s e none = refl
front_by (Some code) front more s e none =
    let stay = (stays more (after_feed front s) code e).fault in
    absurd (none_some code (fault_of (after_feed (front ++ more) s).held) (ap (λ (t : Framing). fault_of t.held) (cut_state front more s) ∙ stay) none)

-- where all bytes have no fault, those in front have none
pub front_sound : (front more : List ℕ) (s : Framing) → fault_of (after_feed (front ++ more) s).held ≡ None → fault_of (after_feed front s).held ≡ None
front_sound front more s none = front_by (fault_of (after_feed front s).held) front more s refl none

some_none : (fault : MessageFault) (o : Option MessageFault) → o ≡ Some fault → o ≡ None → ⊥
some_none fault o some none = absurd cc

assembled_by : (o : Option MessageFault) (xs ys : List Frame) (a : Assembly) → (assembled xs a).fault ≡ o → (assembled (xs ++ ys) a).fault ≡ None → o ≡ None
assembled_by None xs ys a e none = refl
assembled_by (Some fault) xs ys a e none =
    let stay = (ended ys fault (assembled xs a) e).fault_is in
    absurd (some_none fault (assembled (xs ++ ys) a).fault (ap (λ (b : Assembly). b.fault) (assembled_append xs ys a) ∙ stay) none)

pub front_assembled : (xs ys : List Frame) (a : Assembly) → (assembled (xs ++ ys) a).fault ≡ None → (assembled xs a).fault ≡ None
front_assembled xs ys a none = assembled_by (assembled xs a).fault xs ys a refl none

begins_with : (front more bytes : List ℕ) (frames : List Frame) (messages : List Message) (f : Framing) (a : Assembly) → front ++ more ≡ bytes
    → fault_of (after_feed bytes f).held ≡ None → frames_of bytes f ≡ frames → (assembled frames a).fault ≡ None → messages_of frames a ≡ messages
    → BeginsWith front frames messages f a
begins_with front more bytes frames messages f a e sound frames_is none messages_is =
    let later = frames_of more (after_feed front f) in
    let both : frames ≡ frames_of front f ++ later = sym frames_is ∙ ap (λ (l : List ℕ). frames_of l f) (sym e) ∙ cut_frames front more f in
    record {
      framing = front_sound front more f (ap (λ (l : List ℕ). fault_of (after_feed l f).held) e ∙ sound);
      later_frames = later;
      frames_are = both;
      assembly = front_assembled (frames_of front f) later a (ap (λ fs. (assembled fs a).fault) (sym both) ∙ none);
      later_messages = messages_of later (assembled (frames_of front f) a);
      messages_are = sym messages_is ∙ ap (λ fs. messages_of fs a) both ∙ messages_append (frames_of front f) later a;
    }

pub put_begins : (front more : List ℕ) (messages : List Put) (s : Sending) (f : Framing) (a : Assembly) → IsBetween f → IsSending s → InStep s a → ArePut messages s
    → front ++ more ≡ all_put messages s → BeginsWith front (frames_put f.place messages s) (map message_put messages) f a
put_begins front more messages s f a between sends step put e =
    let b = put_brings messages s f between sends put in
    let c = all_come f.place messages s a sends step put in
    let sound : fault_of (after_feed (all_put messages s) f).held ≡ None =
    ap (λ (t : Framing). fault_of t.held) b.state ∙ ap (λ (l : List ℕ). fault_of l) between.1 in
    begins_with front more (all_put messages s) (frames_put f.place messages s) (map message_put messages) f a e sound b.frames_are c.in_step.fault c.come

-- ---- the messages before a fault, then the fault

pub breaks_at : (before later : List Frame) (f : Frame) (fault : MessageFault) (a : Assembly) → fault_after f (assembled before a) ≡ Some fault
    → Breaks (before ++ f ∷ later) (messages_of before a) fault a
breaks_at before later f fault a after =
    let e = ended_by f later fault (assembled before a) after in
    record {
      messages_are = messages_append before (f ∷ later) a ∙ ap (λ ms. messages_of before a ++ ms) e.messages ∙ append-nil (messages_of before a);
      fault_is = ap (λ (b : Assembly). b.fault) (assembled_append before (f ∷ later) a) ∙ e.fault_is;
    }

kept_fault : (c : Chunk) (h : ChunkHead) (bytes : List ℕ) (a : Assembly) → (with_chunk c h bytes a).fault ≡ a.fault
kept_fault chunk.Middle h bytes a = refl
kept_fault chunk.Final h bytes a = refl
kept_fault chunk.Abort h bytes a = refl

-- a frame that breaks no rule leaves no fault
pub sound_after : (f : Frame) (a : Assembly) → fault_after f a ≡ None → a.fault ≡ None → (after_frame f a).fault ≡ None
unfolding after_frame
sound_after f a none clean =
    ap (λ o. (with_fault o f a).fault) none ∙ kept_fault f.chunk (head_of f.body) (drop 16 f.body) (numbered (head_of f.body) a) ∙ clean

same_fault : (x y : MessageFault) → Some x ≡ Some y → x ≡ y
same_fault x y e = cc

first_by : (o : Option MessageFault) (f : Frame) (frames : List Frame) (fault : MessageFault) (a : Assembly) → fault_after f a ≡ o → a.fault ≡ None
    → (assembled (f ∷ frames) a).fault ≡ Some fault
    → ((after_frame f a).fault ≡ None → HasFirstFault frames fault (after_frame f a))
    → HasFirstFault (f ∷ frames) fault a
first_by (Some g) f frames fault a e clean some others =
    let ends = ended_by f frames g a e in
    let same : g ≡ fault = same_fault g fault (sym ends.fault_is ∙ some) in
    record { before = []; broken = f; later = frames; are = refl; none = clean; fault_is = e ∙ ap (λ (x : MessageFault). Some x) same; messages = ends.messages }
first_by None f frames fault a e clean some others =
    let h = others (sound_after f a e clean) in
    record {
      before = f ∷ h.before;
      broken = h.broken;
      later = h.later;
      are = ap (λ fs. f ∷ fs) h.are;
      none = h.none;
      fault_is = h.fault_is;
      messages = ap (and_then (message_of f a)) h.messages;
    }

pub first_fault_is : (frames : List Frame) (fault : MessageFault) (a : Assembly) → a.fault ≡ None → (assembled frames a).fault ≡ Some fault → HasFirstFault frames fault a
first_fault_is [] fault a clean some = absurd (some_none fault a.fault some clean)
first_fault_is (f ∷ frames) fault a clean some =
    first_by (fault_after f a) f frames fault a refl clean some (λ none. first_fault_is frames fault (after_frame f a) none some)
