-- Requests are numbered one after another.
use Rattle.std.proofs.Common.{◌≡◌, ℕ, List, [], ◌∷◌, ◌++◌, true, false, refl, sym, ap, ◌∙◌, subst}
use Rattle.ua_base.specs.Number.{after_message}
use Rattle.ua_services.specs.declared.request.Request.{Request}
use Rattle.ua_services.specs.Requests.{header_of}
use Rattle.link_rules.specs.declared.config.LinkConfig.{LinkConfig}
use Rattle.link_rules.specs.declared.conversation.Conversation.{Conversation}
use Rattle.link_rules.specs.State.{LinkState, is_ready, new_link}
use Rattle.link_rules.specs.Said.{LinkDid, Said, Told, Limited, Renewed, Greeted, Opens, Asks}
use Rattle.link_rules.specs.Asking.{next_request}
use Rattle.link_rules.specs.Requests.{activation_request, channel_request, items_request, level_request, mode_request, probe_request, publish_request, republish_request, session_request_of, subscription_request, transfer_request}
use Rattle.link_rules.specs.Step.{Happening, after, after_all}
use Rattle.link_laws.specs.Numbered.{AreNumbered, IsNext, IsNumbered, last_after, last_by}
use Rattle.link_laws.proofs.Moves.{AreFair, AreSilent, Asking, Channel, Session, Activation, Probe, Transfer, Again, Subscription, Items, Publish, Modes, Level, Renewal, Face, Rests, Calls, IsFair, IsSilent, Leave, MayAsk, Move, Turns, Falls, Ages, Wishes, Greets, Puts, Enters, Completes, Loses, Makes, Keeps, Brings, Levels, Probed, Answers, Seeks, Sets, Confirms, begins, begun, done, done_all, face_of, is_begun, left, leave_of, request_of, sends, stands, told_by}
use Rattle.link_laws.proofs.Coming.{ready_face}
use Rattle.link_laws.proofs.Opening.{happens, is_ready_at}
use Rattle.link_laws.proofs.Plain.{alive_brings, data_brings}

-- ---- where a link stands

begins_stands : (face : Face) → begins face ≡ true → stands face ≡ true
begins_stands Rests e = absurd cc
begins_stands Calls e = absurd cc
begins_stands other e = refl

sends_stands : (face : Face) → sends face ≡ true → stands face ≡ true
sends_stands Rests e = absurd cc
sends_stands Calls e = absurd cc
sends_stands other e = refl

pub begun_stands : (l : LinkState) → is_begun l ≡ true → stands (face_of l.phase) ≡ true
begun_stands l e = begins_stands (face_of l.phase) e

pub ready_stands : (l : LinkState) → is_ready l ≡ true → stands (face_of l.phase) ≡ true
ready_stands l e = sends_stands (face_of l.phase) (ready_face l.phase ∙ e)

pub asks_stand : (leave : Leave) (a : Asking) (l : LinkState) → MayAsk leave a l → stands (face_of l.phase) ≡ true
asks_stand leave (Items id) l h = begun_stands l h.0
asks_stand leave (Publish ready remembered) l h = ready_stands l (is_ready_at l ready h.0)
asks_stand leave (Modes mode ready id) l h = ready_stands l (is_ready_at l ready h.0)
asks_stand leave Level l h = ready_stands l h
asks_stand leave Renewal l h = ready_stands l h
asks_stand leave Channel l h = begun_stands l h
asks_stand leave Session l h = begun_stands l h
asks_stand leave Activation l h = begun_stands l h
asks_stand leave Probe l h = begun_stands l h
asks_stand leave (Transfer id) l h = begun_stands l h
asks_stand leave (Again id number wanted) l h = begun_stands l h
asks_stand leave Subscription l h = begun_stands l h

-- ---- requests

asks_number : (a : Asking) (l : LinkState) → next_request (begun a l) ≡ after_message l.conversation.last
asks_number Channel l = refl
asks_number Session l = refl
asks_number Activation l = refl
asks_number Probe l = refl
asks_number (Transfer id) l = refl
asks_number (Again id number wanted) l = refl
asks_number Subscription l = refl
asks_number (Items id) l = refl
asks_number (Publish ready remembered) l = refl
asks_number (Modes mode ready id) l = refl
asks_number Level l = refl
asks_number Renewal l = refl

asks_handle : (a : Asking) (l : LinkState) → (header_of (request_of a l)).request_handle ≡ after_message l.conversation.last
unfolding activation_request channel_request items_request level_request mode_request probe_request publish_request republish_request session_request_of subscription_request transfer_request
asks_handle Channel l = refl
asks_handle Session l = refl
asks_handle Activation l = refl
asks_handle Probe l = refl
asks_handle (Transfer id) l = refl
asks_handle (Again id number wanted) l = refl
asks_handle Subscription l = refl
asks_handle (Items id) l = refl
asks_handle (Publish ready remembered) l = refl
asks_handle (Modes mode ready id) l = refl
asks_handle Level l = refl
asks_handle Renewal l = refl

told_numbered : (a : Asking) (last n : ℕ) (r : Request) → IsNext last n r → IsNumbered last (told_by a n r)
told_numbered Channel last n r h = h
told_numbered Renewal last n r h = h
told_numbered other last n r h = h

told_last : (a : Asking) (last n : ℕ) (r : Request) → last_by (told_by a n r) last ≡ n
told_last Channel last n r = refl
told_last Renewal last n r = refl
told_last other last n r = refl

-- ---- lists

last_join : (one other : List Said) (last : ℕ) → last_after (one ++ other) last ≡ last_after other (last_after one last)
last_join [] other last = refl
last_join (said ∷ one) other last = last_join one other (last_by said.told last)

numbered_join : (one other : List Said) (last : ℕ) → AreNumbered last one → AreNumbered (last_after one last) other → AreNumbered last (one ++ other)
numbered_join [] other last h rest = rest
numbered_join (said ∷ one) other last h rest = (h.0, numbered_join one other (last_by said.told last) h.1 rest)

silent_last : (last : ℕ) (told : Told) → IsSilent told → last_by told last ≡ last
silent_last last (Greeted greeting url) h = absurd h
silent_last last (Opens number r) h = absurd h
silent_last last (Asks number r) h = absurd h
silent_last last (Limited limits) h = refl
silent_last last (Renewed channel token) h = refl

silent_numbered : (last : ℕ) (told : Told) → IsSilent told → IsNumbered last told
silent_numbered last (Greeted greeting url) h = tt
silent_numbered last (Opens number r) h = absurd h
silent_numbered last (Asks number r) h = absurd h
silent_numbered last (Limited limits) h = tt
silent_numbered last (Renewed channel token) h = tt

all_last : (said : List Said) (last : ℕ) → AreSilent said → last_after said last ≡ last
all_last [] last h = refl
all_last (one ∷ more) last h = all_last more (last_by one.told last) h.1 ∙ silent_last last one.told h.0

all_numbered : (said : List Said) (last : ℕ) → AreSilent said → AreNumbered last said
all_numbered [] last h = tt
all_numbered (one ∷ more) last h = (silent_numbered last one.told h.0, all_numbered more (last_by one.told last) h.1)

-- ---- moves

abbrev IsAt : ℕ → LinkState → Type 0
IsAt last l = stands (face_of l.phase) ≡ true → l.conversation.last ≡ last

record Counts (last : ℕ) (did : LinkDid) : Type 0 where
  pub numbers : AreNumbered last did.said
  pub ends : IsAt (last_after did.said last) did.link

silent_counts : (last : ℕ) (did : LinkDid) → AreSilent did.said → IsAt last did.link → Counts last did
silent_counts last did silent at = record {
  numbers = all_numbered did.said last silent;
  ends = λ there. at there ∙ sym (all_last did.said last silent);
}

none_silent : (said : List Said) → said ≡ [] → AreSilent said
none_silent said none_is = subst AreSilent (sym none_is) tt

bringing_at : (last : ℕ) (l next : LinkState) → next.phase ≡ l.phase → next.conversation ≡ l.conversation → IsAt last l → IsAt last next
bringing_at last l next p c at = λ there.
    ap (λ (x : Conversation). x.last) c ∙ at (sym (ap (λ x. stands (face_of x)) p) ∙ there)

put_counts : (leave : Leave) (a : Asking) (l : LinkState) (last : ℕ) → MayAsk leave a l → IsAt last l → Counts last (done (Puts a) l)
put_counts leave a l last h at =
    let is : l.conversation.last ≡ last = at (asks_stand leave a l h) in
    let n : ℕ = next_request (begun a l) in
    let number : n ≡ after_message last = asks_number a l ∙ ap after_message is in
    let handle : (header_of (request_of a l)).request_handle ≡ n = asks_handle a l ∙ sym (asks_number a l) in
    record {
      numbers = (told_numbered a last n (request_of a l) (number, handle), tt);
      ends = λ there. sym (told_last a last n (request_of a l));
    }

move_counts : (leave : Leave) (move : Move) (l : LinkState) (last : ℕ) → IsFair leave move l → IsAt last l → Counts last (done move l)
move_counts leave (Turns did) l last h at =
    silent_counts last did h.silent (λ there. h.same.last ∙ at (sym (ap stands h.same.face) ∙ there))
move_counts leave (Falls did) l last h at =
    silent_counts last did (none_silent did.said h.said)
    (λ there. let bad : false ≡ true = sym (ap (λ x. stands (face_of x)) h.rests) ∙ there in absurd cc)
move_counts leave (Ages ms) l last h at = silent_counts last (done (Ages ms) l) tt at
move_counts leave Wishes l last h at = silent_counts last (done Wishes l) tt (λ there. absurd cc)
move_counts leave (Greets url) l last h at = record { numbers = (tt, tt); ends = λ there. refl }
move_counts leave (Puts a) l last h at = put_counts leave a l last h.0 at
move_counts leave (Sets mode ready id) l last h at =
    let counts : Counts last (done (Puts (Modes mode ready id)) l) = put_counts leave (Modes mode ready id) l last h at in
    record { numbers = counts.numbers; ends = counts.ends }
move_counts leave (Confirms setting ready) l last h at =
    silent_counts last (done (Confirms setting ready) l) tt (λ there. at (ready_stands l (is_ready_at l ready h.0)))
move_counts leave (Enters confirmed) l last h at =
    silent_counts last (done (Enters confirmed) l) tt (λ there. at (begun_stands l h))
move_counts leave (Completes confirmed items) l last h at =
    silent_counts last (done (Completes confirmed items) l) tt (λ there. at (begun_stands l (ap begins h.0)))
move_counts leave Loses l last h at = silent_counts last (done Loses l) tt (λ there. at (ready_stands l h))
move_counts leave (Makes id) l last h at = silent_counts last (done (Makes id) l) tt at
move_counts leave (Keeps number remembered) l last h at =
    let brings = alive_brings number remembered l in
    silent_counts last (done (Keeps number remembered) l) (none_silent _ brings.said)
    (bringing_at last l (done (Keeps number remembered) l).link brings.phase brings.talk at)
move_counts leave (Brings number values remembered) l last h at =
    let brings = data_brings number values remembered l in
    silent_counts last (done (Brings number values remembered) l) (none_silent _ brings.said)
    (bringing_at last l (done (Brings number values remembered) l).link brings.phase brings.talk at)
move_counts leave (Levels level) l last h at = silent_counts last (done (Levels level) l) tt at
move_counts leave (Probed level) l last h at =
    silent_counts last (done (Probed level) l) tt (λ there. at (ap stands h.1))
move_counts leave (Answers ready publishes since) l last h at =
    silent_counts last (done (Answers ready publishes since) l) tt (λ there. at (ready_stands l (is_ready_at l ready h.0)))
move_counts leave (Seeks mode ready) l last h at =
    silent_counts last (done (Seeks mode ready) l) tt (λ there. at (ready_stands l (is_ready_at l ready h.0)))

counts_then : (last : ℕ) (did next : LinkDid) → Counts last did → Counts (last_after did.said last) next
    → Counts last (record { link = next.link; said = did.said ++ next.said; notices = did.notices ++ next.notices })
counts_then last did next one other = record {
  numbers = numbered_join did.said next.said last one.numbers other.numbers;
  ends = λ there. other.ends there ∙ sym (last_join did.said next.said last);
}

moves_count : (leave : Leave) (moves : List Move) (l : LinkState) (last : ℕ) → AreFair leave moves l → IsAt last l → Counts last (done_all moves l)
moves_count leave [] l last h at = record { numbers = tt; ends = at }
moves_count leave (move ∷ moves) l last h at =
    let one : Counts last (done move l) = move_counts leave move l last h.0 at in
    counts_then last (done move l) (done_all moves (done move l).link) one
    (moves_count (left move leave) moves (done move l).link (last_after (done move l).said last) h.1 one.ends)

event_counts : (h : Happening) (l : LinkState) (last : ℕ) → IsAt last l → Counts last (after h l)
event_counts h l last at =
    let comes = happens h l in
    subst (Counts last) (sym comes.is) (moves_count (leave_of h) comes.moves l last comes.fair at)

all_count : (happenings : List Happening) (l : LinkState) (last : ℕ) → IsAt last l → Counts last (after_all happenings l)
all_count [] l last at = record { numbers = tt; ends = at }
all_count (h ∷ more) l last at =
    let one : Counts last (after h l) = event_counts h l last at in
    counts_then last (after h l) (after_all more (after h l).link) one
    (all_count more (after h l).link (last_after (after h l).said last) one.ends)

pub requests_are_numbered : (config : LinkConfig) (happenings : List Happening) → AreNumbered 0 (after_all happenings (new_link config)).said
requests_are_numbered config happenings = (all_count happenings (new_link config) 0 (λ there. refl)).numbers
