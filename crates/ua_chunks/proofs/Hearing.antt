-- What is heard of everything that a sender puts.
use Rattle.std.proofs.Common.{◌≡◌, ℕ, zero, suc, ◌^◌, ◌≤◌, ◌<◌, true, cond, List, [], ◌∷◌, ◌++◌, length, drop, Option, Some, None, IfSome, ◌⊎◌, Ok, Err, refl, sym, ap, subst, ◌∙◌, append_assoc, arith, inl, inr, map}
use Rattle.std.specs.List.{AllByRecursion}
use Rattle.std.proofs.lemmas.Bool.{cases_lt}
use Rattle.std.proofs.lemmas.List.{append-nil, length-append}
use Rattle.std.proofs.lemmas.List.Concat.{flat_map-append}
use Rattle.byteorder.specs.Endian.{little_bytes}
use Rattle.byteorder.specs.Numbers.{length-bytes_low_first}
use Rattle.ua_values.specs.Written.{written_text}
use Rattle.ua_base.specs.Status.{bad_sequence_number_invalid}
use Rattle.ua_values.specs.Reading.{input}
use Rattle.ua_chunks.specs.declared.frame.Kind.{Kind}
use Rattle.ua_chunks.specs.declared.frame.Kind.TheVariants as kind
use Rattle.ua_chunks.specs.declared.frame.Frame.{Frame}
use Rattle.ua_chunks.specs.declared.greeting.Greeting.{Greeting}
use Rattle.ua_chunks.specs.declared.message.Message.{Message}
use Rattle.ua_chunks.specs.declared.message.MessageFault.{MessageFault}
use Rattle.ua_chunks.specs.Frames.{fault_of, moved}
use Rattle.ua_chunks.specs.Framing.{Brings, Framing, IsBetween, after_feed, frames_of}
use Rattle.ua_chunks.specs.Streams.{AreFrom, all_bytes, frame_bytes}
use Rattle.ua_chunks.specs.Assembly.{Assembly, Leads, Tokens, after_frame, assembled, at_place, fault_after, first_fault, message_of, refusal, renewed, takes_number, tokens_of, with_number}
use Rattle.ua_chunks.specs.Bodies.{opn_head_at, opn_of, written_error, written_greeting, written_hello}
use Rattle.ua_chunks.specs.Sending.{IsSending, Part, Sending, after_put, in_chunk, message_parts, opn_part, parts_bytes, parts_of, parts_up_to, stepped, whole_part}
use Rattle.ua_chunks.specs.Arrival.{InStep, IsPut, Put, message_put, opn_put, placed}
use Rattle.ua_chunks.specs.Traffic.{Action, AreAllowed, AwaitToken, CatchUp, Comes, Event, FramesBegin, Heard, HeardAck, HeardErr, HeardFault, HeardHello, HeardMessage, HeardOpn, IsAllowed, IsDeaf, NewLimits, RenewBoth, Renewal, Said, SendAck, SendErr, SendHello, SendMessage, SendOpn, SendRenewing, action_events, action_parts, actions_bytes, after_action, after_actions, all_heard, all_tokens, events_of, frames_in, frames_put_by, heard, heard_by, heard_of, hearing, hears, message_heard, renewals_of, said, said_by, said_chunk, said_opn, tokens_after}
use Rattle.ua_chunks.proofs.BodyLaws.{ack_alone, err_alone, hello_alone, opn_again}
use Rattle.ua_chunks.proofs.Chunking.{last_by, more_by}
use Rattle.ua_chunks.proofs.Arriving.{frame_in}
use Rattle.ua_chunks.proofs.Pieces.{cut_frames}
use Rattle.ua_chunks.proofs.Streaming.{brings}
use Rattle.ua_chunks.proofs.Leading.{front_sound, parts_are, sound_after}
use Rattle.ua_chunks.proofs.Putting.{IsPart, both_renewed, caught_up, comes, comes_new, former_taken, from_append, limits_in_step, limits_send, opn_small, opn_step, placed_bytes, placed_from, put_sends, renewed_sends, whole_small}

-- ---- lists of events

pub heard_append : (first second : List Event) (a : Assembly) → heard (first ++ second) a ≡ heard first a ++ heard second (hearing first a)
heard_append [] second a = refl
heard_append (e ∷ first) second a =
    ap (λ hs. (hears e a).0 ++ hs) (heard_append first second (hears e a).1)
    ∙ sym (append_assoc (hears e a).0 (heard first (hears e a).1) (heard second (hearing first (hears e a).1)))

pub hearing_append : (first second : List Event) (a : Assembly) → hearing (first ++ second) a ≡ hearing second (hearing first a)
hearing_append [] second a = refl
hearing_append (e ∷ first) second a = hearing_append first second (hears e a).1

renewal_hears : (channel token : ℕ) (a : Assembly) → hears (Renewal channel token) a ≡ ([], renewed channel token a)
unfolding hears
renewal_hears channel token a = refl

frame_hears : (f : Frame) (a : Assembly) → hears (Comes f) a ≡ heard_by a.fault (said_by f.kind f a) f.place a
unfolding hears
frame_hears f a = refl

deaf_by : (e : Event) (events : List Event) (fault : MessageFault) (a b : Assembly) → hears e a ≡ ([], b) → IsDeaf events fault b → IsDeaf (e ∷ events) fault a
deaf_by e events fault a b same more = record {
  heard_is = ap (λ (x : List Heard × Assembly). x.0 ++ heard events x.1) same ∙ more.heard_is;
  fault_is = ap (λ (x : List Heard × Assembly). (hearing events x.1).fault) same ∙ more.fault_is;
}

pub deaf_is : (events : List Event) (fault : MessageFault) (a : Assembly) → a.fault ≡ Some fault → IsDeaf events fault a
deaf_is [] fault a e = record { heard_is = refl; fault_is = e }
deaf_is (Comes f ∷ events) fault a e =
    deaf_by (Comes f) events fault a a (frame_hears f a ∙ ap (λ o. heard_by o (said_by f.kind f a) f.place a) e) (deaf_is events fault a e)
deaf_is (Renewal channel token ∷ events) fault a e =
    deaf_by (Renewal channel token) events fault a (renewed channel token a) (renewal_hears channel token a) (deaf_is events fault (renewed channel token a) e)

-- what comes before a frame that breaks a rule, then its fault, and no more
pub broken_is : (first later : List Event) (f : Frame) (code : ℕ) (a : Assembly) → (hearing first a).fault ≡ None → said_by f.kind f (hearing first a) ≡ Err code
    → heard (first ++ Comes f ∷ later) a ≡ heard first a ++ HeardFault (record { place = f.place; code = code }) ∷ []
broken_is first later f code a none breaks =
    let b = hearing first a in
    let fault : MessageFault = record { place = f.place; code = code } in
    let same : hears (Comes f) b ≡ (HeardFault fault ∷ [], record b { fault = Some fault }) =
    frame_hears f b ∙ ap (λ o. heard_by o (said_by f.kind f b) f.place b) none ∙ ap (λ (r : Said). heard_by None r f.place b) breaks in
    heard_append first (Comes f ∷ later) a
    ∙ ap (λ (x : List Heard × Assembly). heard first a ++ (x.0 ++ heard later x.1)) same
    ∙ ap (λ hs. heard first a ++ HeardFault fault ∷ hs) (deaf_is later fault (record b { fault = Some fault }) refl).heard_is

-- ---- one frame

-- a frame that breaks no rule
pub record Says (hs : List Heard) (b : Assembly) (f : Frame) (a : Assembly) : Type 0 where
  pub heard_is : heard (Comes f ∷ []) a ≡ hs
  pub state : hearing (Comes f ∷ []) a ≡ b

heard_one : (f : Frame) (a : Assembly) (hs : List Heard) (b : Assembly) → a.fault ≡ None → said_by f.kind f a ≡ Ok (hs, b) → hears (Comes f) a ≡ (hs, b)
heard_one f a hs b none e =
    frame_hears f a ∙ ap (λ o. heard_by o (said_by f.kind f a) f.place a) none ∙ ap (λ (r : Said). heard_by None r f.place a) e

says : (f : Frame) (a : Assembly) (hs : List Heard) (b : Assembly) → a.fault ≡ None → said_by f.kind f a ≡ Ok (hs, b) → Says hs b f a
says f a hs b none e =
    let same = heard_one f a hs b none e in
    record {
      heard_is = ap (λ (x : List Heard × Assembly). x.0 ++ []) same ∙ append-nil hs;
      state = ap (λ (x : List Heard × Assembly). x.1) same;
    }

-- ---- a message

not_refused : (place : ℕ) (o : Option ℕ) → at_place place o ≡ None → o ≡ None
not_refused place None e = refl
not_refused place (Some code) e = absurd cc

chunk_by : (k : Kind) (f : Frame) (a : Assembly) → (k ≡ kind.Msg) ⊎ (k ≡ kind.Clo) → said_by k f a ≡ said_chunk (refusal f.body a) f a
chunk_by k f a (inl e) = ap (λ k. said_by k f a) e
chunk_by k f a (inr e) = ap (λ k. said_by k f a) e

chunk_says : (k : Kind) (f : Frame) (a : Assembly) → (k ≡ kind.Msg) ⊎ (k ≡ kind.Clo) → f.kind ≡ k → a.fault ≡ None → fault_after f a ≡ None
    → said_by f.kind f a ≡ Ok (message_heard k (message_of f a), after_frame f a)
chunk_says k f a is same clean none =
    let refused : refusal f.body a ≡ None = not_refused f.place (refusal f.body a) (sym (ap (λ o. first_fault o f a) clean) ∙ none) in
    ap (λ k. said_by k f a) same
    ∙ chunk_by k f a is
    ∙ ap (λ o. said_chunk o f a) refused
    ∙ ap (λ k. Ok (message_heard k (message_of f a), after_frame f a)) same

pub record Led (k : Kind) (m : Message) (frames : List Frame) (a : Assembly) : Type 0 where
  pub heard_is : heard (map Comes frames) a ≡ HeardMessage k m ∷ []
  pub state : hearing (map Comes frames) a ≡ assembled frames a

led_last : (k : Kind) (m : Message) (f : Frame) (a : Assembly) → (k ≡ kind.Msg) ⊎ (k ≡ kind.Clo) → f.kind ≡ k → a.fault ≡ None → fault_after f a ≡ None
    → message_of f a ≡ Some m → Led k m (f ∷ []) a
led_last k m f a is same clean none made =
    let one = heard_one f a (message_heard k (message_of f a)) (after_frame f a) clean (chunk_says k f a is same clean none) in
    record {
      heard_is = ap (λ (x : List Heard × Assembly). x.0 ++ []) one ∙ append-nil (message_heard k (message_of f a)) ∙ ap (message_heard k) made;
      state = ap (λ (x : List Heard × Assembly). x.1) one;
    }

led_more : (k : Kind) (m : Message) (f : Frame) (frames : List Frame) (a : Assembly) → (k ≡ kind.Msg) ⊎ (k ≡ kind.Clo) → f.kind ≡ k → a.fault ≡ None
    → fault_after f a ≡ None → message_of f a ≡ None → Led k m frames (after_frame f a) → Led k m (f ∷ frames) a
led_more k m f frames a is same clean none nothing others =
    let one = heard_one f a (message_heard k (message_of f a)) (after_frame f a) clean (chunk_says k f a is same clean none) in
    record {
      heard_is = ap (λ (x : List Heard × Assembly). x.0 ++ heard (map Comes frames) x.1) one
          ∙ ap (λ o. message_heard k o ++ heard (map Comes frames) (after_frame f a)) nothing
          ∙ others.heard_is;
      state = ap (λ (x : List Heard × Assembly). hearing (map Comes frames) x.1) one ∙ others.state;
    }

led : (k : Kind) (m : Message) (frames : List Frame) (a : Assembly) → (k ≡ kind.Msg) ⊎ (k ≡ kind.Clo) → AllByRecursion (λ (f : Frame). f.kind ≡ k) frames
    → a.fault ≡ None → Leads frames m a → Led k m frames a
led k m [] a is each clean leads = absurd leads
led k m (f ∷ frames) a is each clean leads = elim leads.1 [
  | inl last ↦
      subst (λ fs. Led k m (f ∷ fs) a) (sym last.0) (led_last k m f a is each.0 clean leads.0 last.1)
  | inr more ↦
      led_more k m f frames a is each.0 clean leads.0 more.0
      (led k m frames (after_frame f a) is each.1 (sound_after f a leads.0 clean) more.1)
]

-- each frame of a message is of its kind
kinds_up_to : (n place : ℕ) (k : Kind) (request : ℕ) (bytes : List ℕ) (s : Sending)
    → AllByRecursion (λ (f : Frame). f.kind ≡ k) (placed place (parts_up_to n k request bytes s))
kinds_up_to zero place k request bytes s = (refl, tt)
kinds_up_to (suc n) place k request bytes s = elim (cases_lt (in_chunk s) (length bytes)) [
  | inl over ↦
      subst (λ ps. AllByRecursion (λ (f : Frame). f.kind ≡ k) (placed place ps)) (sym (more_by n k request bytes s over))
      (refl, kinds_up_to n _ k request (drop (in_chunk s) bytes) (stepped s))
  | inr le ↦ subst (λ ps. AllByRecursion (λ (f : Frame). f.kind ≡ k) (placed place ps)) (sym (last_by (suc n) k request bytes s le)) (refl, tt)
]

kinds_are : (place : ℕ) (k : Kind) (request : ℕ) (bytes : List ℕ) (s : Sending)
    → AllByRecursion (λ (f : Frame). f.kind ≡ k) (placed place (message_parts k request bytes s))
unfolding message_parts
kinds_are place k request bytes s = kinds_up_to (length bytes) place k request bytes s

kinds_put : (place : ℕ) (m : Put) (s : Sending) → (m.kind ≡ kind.Msg) ⊎ (m.kind ≡ kind.Clo)
    → AllByRecursion (λ (f : Frame). f.kind ≡ m.kind) (placed place (parts_of m.kind m.request m.body s))
kinds_put place m s is = subst (λ ps. AllByRecursion (λ (f : Frame). f.kind ≡ m.kind) (placed place ps)) (sym (parts_are m.kind m.request m.body s is)) (kinds_are place m.kind m.request m.body s)

-- ---- one thing done

greeting_long : (g : Greeting) → length (written_greeting g) ≡ 20
greeting_long g = refl

hello_short : (g : Greeting) (url : Option (List ℕ)) → IfSome url (λ run. length run ≤ 4091) → length (written_hello (g, url)) ≤ 65528
hello_short g None is = let long : length (written_hello (g, None)) ≡ 24 = refl in omega (arith, long)
hello_short g (Some run) is =
    let size = little_bytes 4 (length run) in
    let four : length size ≡ 4 = length-bytes_low_first 0 4 (length run) in
    omega (arith, greeting_long g, length-append (written_greeting g) (written_text (Some run)), length-append size run, four, is)

parts_larger : (size : ℕ) (parts : List Part) → size ≤ 65536 → AllByRecursion (IsPart size) parts → AllByRecursion (IsPart 65536) parts
parts_larger size [] le are = tt
parts_larger size (p ∷ parts) le are =
    let small = are.0.small in
    (record { chunk = are.0.chunk; small = omega (arith, small) }, parts_larger size parts le are.1)

action_fits : (x : Action) (s : Sending) (t : Tokens) → IsSending s → IsAllowed x s t → AllByRecursion (IsPart 65536) (action_parts x s)
action_fits (SendHello g url) s t is may = (whole_small kind.Hel (written_hello (g, url)) (hello_short g url may.1), tt)
action_fits (SendAck g) s t is may = (whole_small kind.Ack (written_greeting g) (omega (arith, greeting_long g)), tt)
action_fits (SendErr code) s t is may = (whole_small kind.Err (written_error code) (let long : length (written_error code) ≡ 8 = refl in omega (arith, long)), tt)
action_fits (SendOpn request body) s t is may = (opn_small request body s may.1, tt)
action_fits (SendMessage m) s t is may = parts_larger s.size (parts_of m.kind m.request m.body s) is.most (comes_new 0 m s is may).parts
action_fits (SendRenewing channel token request body) s t is may = (opn_small request body (record s { channel = channel; token = token }) may.3, tt)
action_fits (NewLimits size max_message max_chunks) s t is may = tt
action_fits (RenewBoth channel token) s t is may = tt
action_fits (AwaitToken token) s t is may = tt
action_fits (CatchUp channel token) s t is may = tt

action_sends : (x : Action) (s : Sending) (t : Tokens) → IsSending s → IsAllowed x s t → IsSending (after_action x s)
action_sends (SendHello g url) s t is may = is
action_sends (SendAck g) s t is may = is
action_sends (SendErr code) s t is may = is
action_sends (SendOpn request body) s t is may = put_sends kind.Opn request body s is
action_sends (SendMessage m) s t is may = put_sends m.kind m.request m.body s is
action_sends (SendRenewing channel token request body) s t is may =
    put_sends kind.Opn request body (record s { channel = channel; token = token }) (renewed_sends channel token s is may.0 may.1)
action_sends (NewLimits size max_message max_chunks) s t is may = limits_send size max_message max_chunks s is may
action_sends (RenewBoth channel token) s t is may = renewed_sends channel token s is may.0 may.1
action_sends (AwaitToken token) s t is may = is
action_sends (CatchUp channel token) s t is may = renewed_sends channel token s is may.0 may.1

pub record Goes (place : ℕ) (x : Action) (s : Sending) (a : Assembly) : Type 0 where
  pub heard_is : heard (action_events place x s) a ≡ heard_of x s
  pub in_step : InStep (after_action x s) (hearing (action_events place x s) a)
  pub tokens : tokens_of (hearing (action_events place x s) a) ≡ tokens_after x s (tokens_of a)

whole_goes : (place : ℕ) (k : Kind) (body : List ℕ) (h : Heard) (a : Assembly) → a.fault ≡ None
    → said_by k (frame_in place (whole_part k body)) a ≡ Ok (h ∷ [], a) → Says (h ∷ []) a (frame_in place (whole_part k body)) a
whole_goes place k body h a none e = says (frame_in place (whole_part k body)) a (h ∷ []) a none e

opn_says : (request : ℕ) (body : List ℕ) (s : Sending) (a : Assembly) → IsSending s → request < 2 ^ 32 → takes_number s.next a.last ≡ true
    → said_opn (opn_of (opn_head_at (input 0 (opn_part request body s).body))) a ≡ Ok (HeardOpn (opn_put request body s) ∷ [], with_number s.next a)
opn_says request body s a is lt number =
    ap (λ r. said_opn r a) (opn_again request body s is lt)
    ∙ ap (λ b. cond b (Ok (HeardOpn (opn_put request body s) ∷ [], with_number s.next a)) (Err bad_sequence_number_invalid)) number

message_goes : (place : ℕ) (m : Put) (s : Sending) (a : Assembly) → IsSending s → InStep s a → IsPut m s → Goes place (SendMessage m) s a
message_goes place m s a sends step put =
    let frames = placed place (parts_of m.kind m.request m.body s) in
    let c = comes place m s a sends step put in
    let l = led m.kind (message_put m) frames a put.kind (kinds_put place m s put.kind) step.fault c.leads in
    let events : map Comes frames ++ [] ≡ map Comes frames = append-nil (map Comes frames) in
    let state = ap (λ es. hearing es a) events ∙ l.state in
    record {
      heard_is = ap (λ es. heard es a) events ∙ l.heard_is;
      in_step = subst (InStep (after_put m.kind m.request m.body s)) (sym state) c.in_step;
      tokens = ap tokens_of state ∙ c.tokens;
    }

renewal_says : (channel token : ℕ) (a : Assembly) → (heard (Renewal channel token ∷ []) a ≡ []) × (hearing (Renewal channel token ∷ []) a ≡ renewed channel token a)
renewal_says channel token a =
    let same = renewal_hears channel token a in (
      ap (λ (x : List Heard × Assembly). x.0 ++ []) same,
      ap (λ (x : List Heard × Assembly). x.1) same,
    )

renewing_goes : (place channel token request : ℕ) (body : List ℕ) (s : Sending) (a : Assembly) → IsSending s → InStep s a
    → IsAllowed (SendRenewing channel token request body) s (tokens_of a) → Goes place (SendRenewing channel token request body) s a
renewing_goes place channel token request body s a sends step may =
    let t : Sending = record s { channel = channel; token = token } in
    let b : Assembly = with_number s.next a in
    let first = Comes (frame_in place (opn_part request body t)) ∷ [] in
    let second = Renewal channel token ∷ [] in
    let told = HeardOpn (opn_put request body t) ∷ [] in
    let w = says (frame_in place (opn_part request body t)) a told b step.fault (opn_says request body t a (renewed_sends channel token s sends may.0 may.1) may.2 step.number) in
    let r = renewal_says channel token b in
    let state = hearing_append first second a ∙ ap (hearing second) w.state ∙ r.1 in
    record {
      heard_is = heard_append first second a
          ∙ ap (λ hs. hs ++ heard second (hearing first a)) w.heard_is
          ∙ ap (λ c. told ++ heard second c) w.state
          ∙ ap (λ hs. told ++ hs) r.0;
      in_step = subst (InStep (after_put kind.Opn request body t)) (sym state)
          (both_renewed channel token (after_put kind.Opn request body s) b (opn_step request body s a step));
      tokens = ap tokens_of state;
    }

goes : (place : ℕ) (x : Action) (s : Sending) (a : Assembly) → IsSending s → InStep s a → IsAllowed x s (tokens_of a) → Goes place x s a
goes place (SendHello g url) s a sends step may =
    let w = whole_goes place kind.Hel (written_hello (g, url)) (HeardHello (g, url)) a step.fault (ap (λ r. said HeardHello r a) (hello_alone g url may.0)) in
    record { heard_is = w.heard_is; in_step = subst (InStep s) (sym w.state) step; tokens = ap tokens_of w.state }
goes place (SendAck g) s a sends step may =
    let w = whole_goes place kind.Ack (written_greeting g) (HeardAck g) a step.fault (ap (λ r. said HeardAck r a) (ack_alone g may)) in
    record { heard_is = w.heard_is; in_step = subst (InStep s) (sym w.state) step; tokens = ap tokens_of w.state }
goes place (SendErr code) s a sends step may =
    let w = whole_goes place kind.Err (written_error code) (HeardErr code) a step.fault (ap (λ r. said HeardErr r a) (err_alone code may)) in
    record { heard_is = w.heard_is; in_step = subst (InStep s) (sym w.state) step; tokens = ap tokens_of w.state }
goes place (SendOpn request body) s a sends step may =
    let w = says (frame_in place (opn_part request body s)) a (HeardOpn (opn_put request body s) ∷ []) (with_number s.next a) step.fault (opn_says request body s a sends may.0 step.number) in
    record { heard_is = w.heard_is; in_step = subst (InStep (after_put kind.Opn request body s)) (sym w.state) (opn_step request body s a step); tokens = ap tokens_of w.state }
goes place (SendMessage m) s a sends step may = message_goes place m s a sends step may
goes place (SendRenewing channel token request body) s a sends step may = renewing_goes place channel token request body s a sends step may
goes place (NewLimits size max_message max_chunks) s a sends step may = record { heard_is = refl; in_step = limits_in_step size max_message max_chunks s a step; tokens = refl }
goes place (RenewBoth channel token) s a sends step may =
    let r = renewal_says channel token a in
    record { heard_is = r.0; in_step = subst (InStep (record s { channel = channel; token = token })) (sym r.1) (both_renewed channel token s a step); tokens = ap tokens_of r.1 }
goes place (AwaitToken token) s a sends step may =
    let r = renewal_says s.channel token a in
    record { heard_is = r.0; in_step = subst (InStep s) (sym r.1) (former_taken token s a step may); tokens = ap tokens_of r.1 }
goes place (CatchUp channel token) s a sends step may = record {
  heard_is = refl;
  in_step = subst (λ (n : ℕ). InStep (record s { channel = n; token = token }) a) (sym may.2)
      (subst (λ (n : ℕ). InStep (record s { channel = a.channel; token = n }) a) (sym may.3) (caught_up s a step));
  tokens = refl;
}

-- ---- all that is done

pub record AllGo (place : ℕ) (actions : List Action) (s : Sending) (a : Assembly) : Type 0 where
  pub heard_is : heard (events_of place actions s) a ≡ all_heard actions s
  pub in_step : InStep (after_actions actions s) (hearing (events_of place actions s) a)
  pub tokens : tokens_of (hearing (events_of place actions s) a) ≡ all_tokens actions s (tokens_of a)

pub all_go : (place : ℕ) (actions : List Action) (s : Sending) (a : Assembly) → IsSending s → InStep s a → AreAllowed actions s (tokens_of a) → AllGo place actions s a
all_go place [] s a sends step may = record { heard_is = refl; in_step = step; tokens = refl }
all_go place (x ∷ actions) s a sends step may =
    let g = goes place x s a sends step may.0 in
    let first = action_events place x s in
    let next = moved place (length (parts_bytes (action_parts x s))) in
    let t = after_action x s in
    let b = hearing first a in
    let second = events_of next actions t in
    let more = all_go next actions t b (action_sends x s (tokens_of a) sends may.0) g.in_step (subst (AreAllowed actions t) (sym g.tokens) may.1) in
    record {
      heard_is = heard_append first second a ∙ ap (λ hs. hs ++ heard second b) g.heard_is ∙ ap (λ hs. heard_of x s ++ hs) more.heard_is;
      in_step = subst (InStep (after_actions actions t)) (sym (hearing_append first second a)) more.in_step;
      tokens = ap tokens_of (hearing_append first second a) ∙ more.tokens ∙ ap (all_tokens actions t) g.tokens;
    }

pub all_send : (actions : List Action) (s : Sending) (t : Tokens) → IsSending s → AreAllowed actions s t → IsSending (after_actions actions s)
all_send [] s t is may = is
all_send (x ∷ actions) s t is may = all_send actions (after_action x s) (tokens_after x s t) (action_sends x s t is may.0) may.1

-- ---- their frames

comes_frames : (fs : List Frame) (es : List Event) → frames_in (map Comes fs ++ es) ≡ fs ++ frames_in es
comes_frames [] es = refl
comes_frames (f ∷ fs) es = ap (λ gs. f ∷ gs) (comes_frames fs es)

renewal_frames : (x : Action) (s : Sending) (es : List Event) → frames_in (renewals_of x s ++ es) ≡ frames_in es
renewal_frames (SendHello g url) s es = refl
renewal_frames (SendAck g) s es = refl
renewal_frames (SendErr code) s es = refl
renewal_frames (SendOpn request body) s es = refl
renewal_frames (SendMessage m) s es = refl
renewal_frames (SendRenewing channel token request body) s es = refl
renewal_frames (NewLimits size max_message max_chunks) s es = refl
renewal_frames (RenewBoth channel token) s es = refl
renewal_frames (AwaitToken token) s es = refl
renewal_frames (CatchUp channel token) s es = refl

pub frames_among : (place : ℕ) (actions : List Action) (s : Sending) → frames_in (events_of place actions s) ≡ frames_put_by place actions s
frames_among place [] s = refl
frames_among place (x ∷ actions) s =
    let frames = placed place (action_parts x s) in
    let next = moved place (length (parts_bytes (action_parts x s))) in
    let others = events_of next actions (after_action x s) in
    ap frames_in (append_assoc (map Comes frames) (renewals_of x s) others)
    ∙ comes_frames frames (renewals_of x s ++ others)
    ∙ ap (λ gs. frames ++ gs) (renewal_frames x s others ∙ frames_among next actions (after_action x s))

bytes_put_by : (place : ℕ) (actions : List Action) (s : Sending) → all_bytes (frames_put_by place actions s) ≡ actions_bytes actions s
bytes_put_by place [] s = refl
bytes_put_by place (x ∷ actions) s =
    let frames = placed place (action_parts x s) in
    let next = moved place (length (parts_bytes (action_parts x s))) in
    let others = frames_put_by next actions (after_action x s) in
    flat_map-append frame_bytes frames others
    ∙ ap (λ (l : List ℕ). l ++ all_bytes others) (placed_bytes place (action_parts x s))
    ∙ ap (λ (l : List ℕ). parts_bytes (action_parts x s) ++ l) (bytes_put_by next actions (after_action x s))

stand_from : (place : ℕ) (actions : List Action) (s : Sending) (t : Tokens) → place < 2 ^ 64 → IsSending s → AreAllowed actions s t → AreFrom place (frames_put_by place actions s)
stand_from place [] s t lt is may = tt
stand_from place (x ∷ actions) s t lt is may =
    let parts = action_parts x s in
    let next = moved place (length (parts_bytes parts)) in
    let others = frames_put_by next actions (after_action x s) in
    let more = stand_from next actions (after_action x s) (tokens_after x s t) (omega arith) (action_sends x s t is may.0) may.1 in
    from_append place (placed place parts) others lt (placed_from 65536 place parts (omega arith) (action_fits x s t is may.0))
    (subst (λ (l : List ℕ). AreFrom (moved place (length l)) others) (sym (placed_bytes place parts)) more)

pub everything_brings : (actions : List Action) (s : Sending) (t : Tokens) (f : Framing) → IsBetween f → IsSending s → AreAllowed actions s t
    → Brings (frames_in (events_of f.place actions s)) (actions_bytes actions s) f
everything_brings actions s t f between is may =
    let frames = frames_put_by f.place actions s in
    subst (λ fs. Brings fs (actions_bytes actions s) f) (sym (frames_among f.place actions s))
    (subst (λ (l : List ℕ). Brings frames l f) (bytes_put_by f.place actions s) (brings frames f between (stand_from f.place actions s t between.0 is may)))

pub everything_begins : (front more : List ℕ) (actions : List Action) (s : Sending) (t : Tokens) (f : Framing) → IsBetween f → IsSending s → AreAllowed actions s t
    → front ++ more ≡ actions_bytes actions s → FramesBegin front (frames_in (events_of f.place actions s)) f
everything_begins front more actions s t f between is may e =
    let b = everything_brings actions s t f between is may in
    let sound : fault_of (after_feed (actions_bytes actions s) f).held ≡ None =
    ap (λ (t : Framing). fault_of t.held) b.state ∙ ap (λ (l : List ℕ). fault_of l) between.1 in
    record {
      framing = front_sound front more f (ap (λ (l : List ℕ). fault_of (after_feed l f).held) e ∙ sound);
      later = frames_of more (after_feed front f);
      frames_are = sym b.frames_are ∙ ap (λ (l : List ℕ). frames_of l f) (sym e) ∙ cut_frames front more f;
    }
