-- Chunks that break no rule make a message.
use Rattle.std.proofs.Common.{◌≡◌, ℕ, List, [], ◌∷◌, ◌++◌, Option, Some, None, refl, sym, ap, ◌∙◌, append_assoc}
use Rattle.std.specs.List.{AllByRecursion, flat_map}
use Rattle.std.proofs.lemmas.List.{append-nil}
use Rattle.ua_chunks.specs.declared.frame.Chunk.{Chunk}
use Rattle.ua_chunks.specs.declared.frame.Chunk.TheVariants as chunk
use Rattle.ua_chunks.specs.declared.frame.Frame.{Frame}
use Rattle.ua_chunks.specs.declared.message.MessageFault.{MessageFault}
use Rattle.ua_chunks.specs.Assembly.{Assembly, Drops, IsIdle, IsMiddle, after_frame, and_then, assembled, fault_after, head_of, message_by, message_of, messages_of, numbered, own_bytes, unless_faulty, with_chunk, with_fault}
use Rattle.ua_chunks.proofs.Putting.{ended}

some_none : (fault : MessageFault) (o : Option MessageFault) → o ≡ Some fault → o ≡ None → ⊥
some_none fault o some none = absurd cc

-- where none of several frames breaks a rule, the first doesn't
good_by : (o : Option MessageFault) (f : Frame) (frames : List Frame) (a : Assembly) → fault_after f a ≡ o → (assembled (f ∷ frames) a).fault ≡ None → o ≡ None
unfolding after_frame
good_by None f frames a e none = refl
good_by (Some fault) f frames a e none =
    let state : after_frame f a ≡ record a { fault = Some fault } = ap (λ o. with_fault o f a) e in
    let stays = (ended frames fault (record a { fault = Some fault }) refl).fault_is in
    absurd (some_none fault (assembled frames (after_frame f a)).fault (ap (λ b. (assembled frames b).fault) state ∙ stays) none)

pub record Good (f : Frame) (c : Chunk) (a : Assembly) : Type 0 where
  pub message : message_of f a ≡ message_by c (head_of f.body) (own_bytes f) a
  pub state : after_frame f a ≡ with_chunk c (head_of f.body) (own_bytes f) (numbered (head_of f.body) a)

good : (f : Frame) (frames : List Frame) (c : Chunk) (a : Assembly) → f.chunk ≡ c → (assembled (f ∷ frames) a).fault ≡ None → Good f c a
unfolding after_frame message_of
good f frames c a is none =
    let e = good_by (fault_after f a) f frames a refl none in
    record {
      message = ap (λ o. unless_faulty o f a) e ∙ ap (λ c. message_by c (head_of f.body) (own_bytes f) a) is;
      state = ap (λ o. with_fault o f a) e ∙ ap (λ c. with_chunk c (head_of f.body) (own_bytes f) (numbered (head_of f.body) a)) is;
    }

message_by_all : (frames : List Frame) (last : Frame) (a : Assembly) → AllByRecursion IsMiddle frames → last.chunk ≡ chunk.Final → (assembled (frames ++ last ∷ []) a).fault ≡ None
    → messages_of (frames ++ last ∷ []) a ≡ record { request = (head_of last.body).request; body = a.body ++ flat_map own_bytes (frames ++ last ∷ []) } ∷ []
message_by_all [] last a middles is none =
    let g = good last [] chunk.Final a is none in
    ap (λ o. and_then o []) g.message
    ∙ ap (λ (l : List ℕ). record { request = (head_of last.body).request; body = a.body ++ l } ∷ []) (sym (append-nil (own_bytes last)))
message_by_all (f ∷ frames) last a middles is none =
    let g = good f (frames ++ last ∷ []) chunk.Middle a middles.0 none in
    let next = with_chunk chunk.Middle (head_of f.body) (own_bytes f) (numbered (head_of f.body) a) in
    ap (λ o. and_then o (messages_of (frames ++ last ∷ []) (after_frame f a))) g.message
    ∙ ap (messages_of (frames ++ last ∷ [])) g.state
    ∙ message_by_all frames last next middles.1 is (ap (λ b. (assembled (frames ++ last ∷ []) b).fault) (sym g.state) ∙ none)
    ∙ ap (λ (l : List ℕ). record { request = (head_of last.body).request; body = l } ∷ []) (append_assoc a.body (own_bytes f) (flat_map own_bytes (frames ++ last ∷ [])))

pub message_made : (frames : List Frame) (last : Frame) (a : Assembly) → IsIdle a → AllByRecursion IsMiddle frames → last.chunk ≡ chunk.Final → (assembled (frames ++ last ∷ []) a).fault ≡ None
    → messages_of (frames ++ last ∷ []) a ≡ record { request = (head_of last.body).request; body = flat_map own_bytes (frames ++ last ∷ []) } ∷ []
message_made frames last a idle middles is none =
    message_by_all frames last a middles is none
    ∙ ap (λ (l : List ℕ). record { request = (head_of last.body).request; body = l ++ flat_map own_bytes (frames ++ last ∷ []) } ∷ []) idle.body

pub dropped : (frames : List Frame) (last : Frame) (a : Assembly) → AllByRecursion IsMiddle frames → last.chunk ≡ chunk.Abort → (assembled (frames ++ last ∷ []) a).fault ≡ None → Drops (frames ++ last ∷ []) a
dropped [] last a middles is none =
    let g = good last [] chunk.Abort a is none in
    record {
      messages = ap (λ o. and_then o []) g.message;
      idle = record { chunks = ap (λ (b : Assembly). b.chunks) g.state; body = ap (λ (b : Assembly). b.body) g.state };
    }
dropped (f ∷ frames) last a middles is none =
    let g = good f (frames ++ last ∷ []) chunk.Middle a middles.0 none in
    let next = with_chunk chunk.Middle (head_of f.body) (own_bytes f) (numbered (head_of f.body) a) in
    let more = dropped frames last next middles.1 is (ap (λ b. (assembled (frames ++ last ∷ []) b).fault) (sym g.state) ∙ none) in
    record {
      messages = ap (λ o. and_then o (messages_of (frames ++ last ∷ []) (after_frame f a))) g.message ∙ ap (messages_of (frames ++ last ∷ [])) g.state ∙ more.messages;
      idle = record {
        chunks = ap (λ b. (assembled (frames ++ last ∷ []) b).chunks) g.state ∙ more.idle.chunks;
        body = ap (λ b. (assembled (frames ++ last ∷ []) b).body) g.state ∙ more.idle.body;
      };
    }
