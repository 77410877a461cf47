-- What rules come to, put together.
use Rattle.std.proofs.Common.{◌≡◌, ℕ, List, [], ◌∷◌, ◌++◌, Bool, true, false, Some, None, if◌then◌else◌, nat_le, min, length, refl, sym, ap, ◌∙◌, subst, append_assoc, inl, inr}
use Rattle.std.proofs.lemmas.List.{append-nil}
use Rattle.ua_services.specs.declared.request.Request.{Request}
use Rattle.link_rules.specs.declared.notice.Notice.{Notice}
use Rattle.link_rules.specs.declared.phase.Phase.{Phase}
use Rattle.link_rules.specs.declared.phase.Phase.TheVariants as phase
use Rattle.link_rules.specs.State.{LinkState, is_ready, is_ready_phase}
use Rattle.link_rules.specs.Said.{LinkDid, Said, Told, Asks, Opens, and_then, nothing}
use Rattle.link_rules.specs.Closing.{broken, dropped, left_in, loss_of}
use Rattle.link_rules.specs.Asking.{asked, asked_opening, next_request, numbered}
use Rattle.ua_services.specs.Families.{written_request}
use Rattle.link_laws.proofs.Moves.{AreFair, Asking, Channel, Session, Activation, Probe, Transfer, Again, Subscription, Items, Publish, Modes, Level, Renewal, Comes, IsFair, IsFallen, IsLeft, IsSame, IsTurned, Leave, MayAsk, Move, Turns, Falls, Ages, Wishes, Greets, Puts, Enters, Completes, Loses, Makes, Keeps, Brings, Levels, Probed, Answers, Seeks, Sets, Confirms, begun, done, done_all, face_of, is_begun, is_begun_phase, left, left_asked, lost_if, none, request_of, sends, told_by, IsOther}

-- ---- lists of moves put together

abbrev pub did_of : LinkState → List Said → List Notice → LinkDid
did_of l said told = record { link = l; said = said; notices = told }

-- what was done, and then the next
abbrev pub joined : LinkDid → LinkDid → LinkDid
joined did next = did_of next.link (did.said ++ next.said) (did.notices ++ next.notices)

pub did_same : (l : LinkState) (said others : List Said) (told more : List Notice) → said ≡ others → told ≡ more
    → did_of l said told ≡ did_of l others more
did_same l said others told more one other =
    ap (λ (x : List Said). did_of l x told) one ∙ ap (λ (y : List Notice). did_of l others y) other

pub then_same : (did next more : LinkDid) → next ≡ more → joined did next ≡ joined did more
then_same did next more same = ap (λ (d : LinkDid). joined did d) same

pub done_join : (one other : List Move) (l : LinkState) → done_all (one ++ other) l ≡ and_then (done_all other) (done_all one l)
done_join [] other l = refl
done_join (move ∷ one) other l =
    let first : LinkDid = done move l in
    let next : LinkDid = done_all one first.link in
    let more : LinkDid = done_all other next.link in
    then_same first (done_all (one ++ other) first.link) (and_then (done_all other) next) (done_join one other first.link)
    ∙ did_same more.link (first.said ++ (next.said ++ more.said)) (first.said ++ next.said ++ more.said)
    (first.notices ++ (next.notices ++ more.notices)) (first.notices ++ next.notices ++ more.notices)
    (sym (append_assoc first.said next.said more.said)) (sym (append_assoc first.notices next.notices more.notices))

-- ---- what needs no leave may be done with any

none_left : (move : Move) → left move none ≡ none
none_left (Turns did) = refl
none_left (Falls did) = refl
none_left (Ages ms) = refl
none_left Wishes = refl
none_left (Greets url) = refl
none_left (Puts a) = by_asking a
  where
    by_asking : (a : Asking) → left_asked a none ≡ none
    by_asking (Items id) = refl
    by_asking other = refl
none_left (Enters confirmed) = refl
none_left (Completes confirmed items) = refl
none_left Loses = refl
none_left (Makes id) = refl
none_left (Keeps number remembered) = refl
none_left (Brings number values remembered) = refl
none_left (Levels level) = refl
none_left (Probed level) = refl
none_left (Answers ready publishes since) = refl
none_left (Seeks mode ready) = refl
none_left (Sets mode ready id) = refl
none_left (Confirms setting ready) = refl

no_some : {A B : Type 0} (x : A) → None ≡ Some x → B
no_some x e = absurd cc

no_true : {B : Type 0} → false ≡ true → B
no_true e = absurd cc

any_asks : (leave : Leave) (a : Asking) (l : LinkState) → MayAsk none a l → MayAsk leave a l
any_asks leave (Items id) l h = no_some id h.1
any_asks leave (Publish ready remembered) l h = h
any_asks leave (Modes mode ready id) l h = h
any_asks leave Level l h = h
any_asks leave Renewal l h = h
any_asks leave Channel l h = h
any_asks leave Session l h = h
any_asks leave Activation l h = h
any_asks leave Probe l h = h
any_asks leave (Transfer id) l h = h
any_asks leave (Again id number wanted) l h = h
any_asks leave Subscription l h = h

any_fair : (leave : Leave) (move : Move) (l : LinkState) → IsFair none move l → IsFair leave move l
any_fair leave (Turns did) l h = h
any_fair leave (Falls did) l h = h
any_fair leave (Ages ms) l h = no_some ms h
any_fair leave Wishes l h = no_true h.1
any_fair leave (Greets url) l h = h
any_fair leave (Puts a) l h = (any_asks leave a l h.0, h.1)
any_fair leave (Enters confirmed) l h = h
any_fair leave (Completes confirmed items) l h = h
any_fair leave Loses l h = h
any_fair leave (Makes id) l h = no_some id h.0
any_fair leave (Keeps number remembered) l h = no_some h.0 h.1.brings
any_fair leave (Brings number values remembered) l h = no_some h.0 h.1.brings
any_fair leave (Levels level) l h = no_true h.0
any_fair leave (Probed level) l h = no_true h.0
any_fair leave (Answers ready publishes since) l h = no_true h.1
any_fair leave (Seeks mode ready) l h = no_some mode h.1
any_fair leave (Sets mode ready id) l h = h
any_fair leave (Confirms setting ready) l h = h

fair_any : (leave : Leave) (moves : List Move) (l : LinkState) → AreFair none moves l → AreFair leave moves l
fair_any leave [] l h = tt
fair_any leave (move ∷ moves) l h = (
  any_fair leave move l h.0,
  fair_any (left move leave) moves (done move l).link (subst (λ given. AreFair given moves (done move l).link) (none_left move) h.1),
)

fair_join : (leave : Leave) (one other : List Move) (l : LinkState) → AreFair leave one l → AreFair none other (done_all one l).link
    → AreFair leave (one ++ other) l
fair_join leave [] other l h rest = fair_any leave other l rest
fair_join leave (move ∷ one) other l h rest = (h.0, fair_join (left move leave) one other (done move l).link h.1 rest)

-- ---- rules put together

pub idle : (leave : Leave) (l : LinkState) → Comes leave l (nothing l)
idle leave l = record { moves = []; fair = tt; is = refl }

-- one move
pub by_move : (leave : Leave) (move : Move) (l : LinkState) → IsFair leave move l → Comes leave l (done move l)
by_move leave move l fair =
    let did : LinkDid = done move l in
    record {
      moves = move ∷ [];
      fair = (fair, tt);
      is = did_same did.link did.said (did.said ++ []) did.notices (did.notices ++ []) (sym (append-nil did.said)) (sym (append-nil did.notices));
    }

-- a move, and what follows it
pub move_then : (leave : Leave) (move : Move) (l : LinkState) (rule : LinkState → LinkDid) → IsFair leave move l
    → Comes (left move leave) (done move l).link (rule (done move l).link) → Comes leave l (and_then rule (done move l))
move_then leave move l rule fair h = record {
  moves = move ∷ h.moves;
  fair = (fair, h.fair);
  is = then_same (done move l) (rule (done move l).link) (done_all h.moves (done move l).link) h.is;
}

-- one after another
pub then_comes : (leave : Leave) (l : LinkState) (rule : LinkState → LinkDid) (did : LinkDid) → Comes leave l did
    → Comes none did.link (rule did.link) → Comes leave l (and_then rule did)
then_comes leave l rule did one other =
    let at : (d : LinkDid) → d ≡ done_all one.moves l → Comes none d.link (rule d.link) → Comes leave l (and_then rule d) =
    λ d same more. record {
      moves = one.moves ++ more.moves;
      fair = fair_join leave one.moves more.moves l one.fair (subst (λ x. AreFair none more.moves x.link) same more.fair);
      is = then_same d (rule d.link) (done_all more.moves d.link) more.is
          ∙ ap (λ x. and_then (done_all more.moves) x) same ∙ sym (done_join one.moves more.moves l);
    } in
    at did one.is other

-- one of two rules
pub either : (leave : Leave) (b : Bool) (l : LinkState) (one other : LinkDid) → Comes leave l one → Comes leave l other
    → Comes leave l (if b then one else other)
either leave true l one other h rest = h
either leave false l one other h rest = rest

-- by what the test comes to
pub if_so : (leave : Leave) (b : Bool) (l : LinkState) (one other : LinkDid) → (b ≡ true → Comes leave l one)
    → Comes leave l other → Comes leave l (if b then one else other)
if_so leave true l one other h rest = h refl
if_so leave false l one other h rest = rest

-- ---- what changes nothing that is looked at

pub ready_face : (p : Phase) → sends (face_of p) ≡ is_ready_phase p
ready_face phase.Idle = refl
ready_face (phase.Dialing taken) = refl
ready_face phase.Hello = refl
ready_face phase.Opening = refl
ready_face phase.Creating = refl
ready_face phase.Activating = refl
ready_face phase.Probing = refl
ready_face phase.Transferring = refl
ready_face (phase.Republishing wanted) = refl
ready_face phase.Subscribing = refl
ready_face phase.Adding = refl
ready_face (phase.Ready ready) = refl

pub same_ready : (l next : LinkState) → IsSame l next → is_ready next ≡ is_ready l
same_ready l next same = sym (ready_face next.phase) ∙ ap sends same.face ∙ ready_face l.phase

pub turned : (leave : Leave) (l : LinkState) (did : LinkDid) → IsTurned l did → Comes leave l did
turned leave l did h = by_move leave (Turns did) l h

pub turned_then : (leave : Leave) (l : LinkState) (rule : LinkState → LinkDid) (did : LinkDid) → IsTurned l did
    → Comes leave did.link (rule did.link) → Comes leave l (and_then rule did)
turned_then leave l rule did h rest = move_then leave (Turns did) l rule h rest

pub itself : (l : LinkState) → IsSame l l
itself l = record { face = refl; config = refl; wait = refl; remembered = refl; acks = refl; monitored = refl; last = refl; reading = refl }

pub quiet : (l next : LinkState) → IsSame l next → IsTurned l (nothing next)
quiet l next same = record { same = same; silent = tt; plain = tt }

-- a change at a rule's beginning
pub from_same : (leave : Leave) (l next : LinkState) (did : LinkDid) → IsSame l next → Comes leave next did → Comes leave l did
from_same leave l next did same h = turned_then leave l (λ x. did) (nothing next) (quiet l next same) h

-- ---- links that fall

lost_by : (p : Phase) → loss_of p ≡ lost_if (is_ready_phase p)
lost_by phase.Idle = refl
lost_by (phase.Dialing taken) = refl
lost_by phase.Hello = refl
lost_by phase.Opening = refl
lost_by phase.Creating = refl
lost_by phase.Activating = refl
lost_by phase.Probing = refl
lost_by phase.Transferring = refl
lost_by (phase.Republishing wanted) = refl
lost_by phase.Subscribing = refl
lost_by phase.Adding = refl
lost_by (phase.Ready ready) = refl

record IsLeftIn (l next : LinkState) : Type 0 where
  pub config : next.config ≡ l.config
  pub left : IsLeft l next

left_by : (p : Phase) (l : LinkState) → IsLeftIn l (left_in p l)
left_by phase.Adding l = record { config = refl; left = inr (inr (refl, refl, refl)) }
left_by phase.Idle l = record { config = refl; left = inl (refl, refl, refl) }
left_by other l = record { config = refl; left = inl (refl, refl, refl) }

pub broken_falls : (l : LinkState) → IsFallen l (broken l)
unfolding broken
broken_falls l = record {
  said = refl;
  told = lost_by l.phase;
  rests = refl;
  waits = refl;
  config = (left_by l.phase l).config;
  left = (left_by l.phase l).left;
}

pub dropped_falls : (l : LinkState) → IsFallen l (dropped l)
unfolding dropped
dropped_falls l = record {
  said = refl;
  told = lost_by l.phase;
  rests = refl;
  waits = refl;
  config = (left_by l.phase l).config;
  left = (left_by l.phase l).left;
}

pub falls : (leave : Leave) (l : LinkState) → Comes leave l (broken l)
falls leave l = by_move leave (Falls (broken l)) l (broken_falls l)

pub drops : (leave : Leave) (l : LinkState) → Comes leave l (dropped l)
drops leave l = by_move leave (Falls (dropped l)) l (dropped_falls l)

-- from a state into which the link came before
left_then : (l middle next : LinkState) → IsLeft l middle → IsLeft middle next → IsLeft l next
left_then l middle next (inl h) (inl m) = inl (m.0 ∙ h.0, m.1 ∙ h.1, m.2 ∙ h.2)
left_then l middle next (inl h) (inr (inl m)) = inr (inl (m.0 ∙ h.0, m.1, m.2 ∙ h.2))
left_then l middle next (inr (inl h)) (inl m) = inr (inl (m.0 ∙ h.0, m.1 ∙ h.1, m.2 ∙ h.2))
left_then l middle next (inr (inl h)) (inr (inl m)) = inr (inl (m.0 ∙ h.0, m.1, m.2 ∙ h.2))
left_then l middle next (inr (inr h)) (inl m) = inr (inr (m.0 ∙ h.0, m.1 ∙ h.1, m.2 ∙ h.2))
left_then l middle next (inr (inr h)) (inr (inl m)) = inr (inr (m.0 ∙ h.0, m.1, m.2 ∙ h.2))
left_then l middle next (inl h) (inr (inr m)) = inr (inr m)
left_then l middle next (inr (inl h)) (inr (inr m)) = inr (inr m)
left_then l middle next (inr (inr h)) (inr (inr m)) = inr (inr m)

pub falls_from : (l next : LinkState) (did : LinkDid) → is_ready next ≡ is_ready l → next.config ≡ l.config
    → IsLeft l next → IsFallen next did → IsFallen l did
falls_from l next did ready config way h = record {
  said = h.said;
  told = h.told ∙ ap lost_if ready;
  rests = h.rests;
  waits = h.waits;
  config = h.config ∙ config;
  left = left_then l next did.link way h.left;
}

-- ---- what is asked

is_ready_by : (l : LinkState) (p : Phase) → l.phase ≡ p → is_ready_phase p ≡ true → true ≡ is_ready l
is_ready_by l p e is = sym (ap is_ready_phase e ∙ is)

pub begun_unready : (p : Phase) → is_begun_phase p ≡ true → is_ready_phase p ≡ false
begun_unready (phase.Ready ready) e = absurd cc
begun_unready phase.Idle e = absurd cc
begun_unready (phase.Dialing taken) e = absurd cc
begun_unready other e = refl

unready_by : (l : LinkState) → is_begun l ≡ true → false ≡ is_ready l
unready_by l h = sym (begun_unready l.phase h)

pub asks_fallen : (leave : Leave) (a : Asking) (l : LinkState) → MayAsk leave a l → IsFallen l (broken (begun a l))
asks_fallen leave (Items id) l h = falls_from l (begun (Items id) l) _ (unready_by l h.0) refl (inl (refl, refl, refl)) (broken_falls _)
asks_fallen leave (Publish ready remembered) l h =
    falls_from l (begun (Publish ready remembered) l) _ (is_ready_by l (phase.Ready ready) h.0 refl) refl (inr (inl (refl, refl, refl))) (broken_falls _)
asks_fallen leave (Modes mode ready id) l h =
    falls_from l (begun (Modes mode ready id) l) _ (is_ready_by l (phase.Ready ready) h.0 refl) refl (inl (refl, refl, refl)) (broken_falls _)
asks_fallen leave Level l h = falls_from l (begun Level l) _ refl refl (inl (refl, refl, refl)) (broken_falls _)
asks_fallen leave Renewal l h = falls_from l (begun Renewal l) _ refl refl (inl (refl, refl, refl)) (broken_falls _)
asks_fallen leave Channel l h = falls_from l (begun Channel l) _ (unready_by l h) refl (inl (refl, refl, refl)) (broken_falls _)
asks_fallen leave Session l h = falls_from l (begun Session l) _ (unready_by l h) refl (inl (refl, refl, refl)) (broken_falls _)
asks_fallen leave Activation l h = falls_from l (begun Activation l) _ (unready_by l h) refl (inl (refl, refl, refl)) (broken_falls _)
asks_fallen leave Probe l h = falls_from l (begun Probe l) _ (unready_by l h) refl (inl (refl, refl, refl)) (broken_falls _)
asks_fallen leave (Transfer id) l h = falls_from l (begun (Transfer id) l) _ (unready_by l h) refl (inl (refl, refl, refl)) (broken_falls _)
asks_fallen leave (Again id number wanted) l h =
    falls_from l (begun (Again id number wanted) l) _ (unready_by l h) refl (inl (refl, refl, refl)) (broken_falls _)
asks_fallen leave Subscription l h = falls_from l (begun Subscription l) _ (unready_by l h) refl (inr (inr (refl, refl, refl))) (broken_falls _)

asking_if : (leave : Leave) (a : Asking) (l : LinkState) (b : Bool) → IsOther a → MayAsk leave a l
    → Comes leave l (if b then done (Puts a) l else broken (begun a l))
asking_if leave a l true other h = by_move leave (Puts a) l (h, other)
asking_if leave a l false other h = by_move leave (Falls (broken (begun a l))) l (asks_fallen leave a l h)

-- a request in a MSG
pub asking : (leave : Leave) (a : Asking) (l : LinkState) → ((n : ℕ) (r : Request) → told_by a n r ≡ Asks n r) → IsOther a → MayAsk leave a l
    → Comes leave l (asked (request_of a l) (begun a l))
unfolding asked
asking leave a l is other h =
    subst (λ (told : Told). Comes leave l (if nat_le (length (written_request (request_of a l))) (begun a l).conversation.limit
    then numbered told (begun a l) else broken (begun a l)))
    (is (next_request (begun a l)) (request_of a l))
    (asking_if leave a l (nat_le (length (written_request (request_of a l))) (begun a l).conversation.limit) other h)

-- in an OPN
pub opening : (leave : Leave) (a : Asking) (l : LinkState) → ((n : ℕ) (r : Request) → told_by a n r ≡ Opens n r) → IsOther a → MayAsk leave a l
    → Comes leave l (asked_opening (request_of a l) (begun a l))
unfolding asked_opening
opening leave a l is other h =
    subst (λ (told : Told). Comes leave l (if nat_le (length (written_request (request_of a l))) (min (begun a l).conversation.limit 4096)
    then numbered told (begun a l) else broken (begun a l)))
    (is (next_request (begun a l)) (request_of a l))
    (asking_if leave a l (nat_le (length (written_request (request_of a l))) (min (begun a l).conversation.limit 4096)) other h)
