-- A link asks for the modes that its client wants.
use Rattle.std.proofs.Common.{◌≡◌, ◌≢◌, ℤ, List, [], ◌∷◌, ◌++◌, false, Option, Some, None, Result, Ok, Err, refl, sym, ap, ◌∙◌, subst}
use Rattle.std.specs.Prelude.{pos}
use Rattle.ua_base.specs.declared.modes.Mode.{Mode}
use Rattle.ua_base.specs.declared.modes.Mode.TheVariants.{Disabled, Sampling, Reporting}
use Rattle.ua_base.specs.Modes.{mode_number, mode_of}
use Rattle.ua_structures.specs.declared.body.BodyFault.{BodyFault}
use Rattle.ua_structures.specs.Body.{body_at}
use Rattle.ua_channel.specs.declared.heard.Heard.{Heard}
use Rattle.ua_channel.specs.declared.heard.Heard.TheVariants as said_of
use Rattle.ua_session_msgs.specs.declared.reply.SessionReply.{SessionReply}
use Rattle.ua_session_msgs.specs.declared.reply.SessionReply.TheVariants as session_reply
use Rattle.ua_sub_msgs.specs.declared.reply.SubReply.{SubReply}
use Rattle.ua_sub_msgs.specs.declared.reply.SubReply.TheVariants as sub_reply
use Rattle.ua_services.specs.declared.reply.Reply.{Reply}
use Rattle.ua_services.specs.declared.reply.Reply.TheVariants as reply
use Rattle.ua_services.specs.Families.{replies}
use Rattle.link_rules.specs.declared.phase.Phase.{Phase}
use Rattle.link_rules.specs.declared.phase.Phase.TheVariants as phase
use Rattle.link_rules.specs.declared.phase.ReadyState.{ReadyState}
use Rattle.link_rules.specs.State.{LinkState, is_ready, is_ready_phase}
use Rattle.link_rules.specs.Said.{LinkDid, Said, Told, Limited, Renewed, Greeted, Opens, Asks}
use Rattle.link_rules.specs.Requests.{activation_request, channel_request, items_request, level_request, mode_request, probe_request, publish_request, republish_request, session_request_of, subscription_request, transfer_request}
use Rattle.link_rules.specs.Step as step_rules
use Rattle.link_rules.specs.Step.{Happening, after, after_all}
use Rattle.link_laws.specs.Asked.{IsNoWish, NeverAsks, NeverWants, mode_asked}
use Rattle.link_laws.proofs.Moves.{AreFair, AreSilent, Asking, Channel, Session, Activation, Probe, Transfer, Again, Subscription, Items, Publish, Modes, Level, Renewal, Face, Sends, IsFair, IsSilent, Leave, MayAsk, Move, Turns, Falls, Ages, Wishes, Greets, Puts, Enters, Completes, Loses, Makes, Keeps, Brings, Levels, Probed, Answers, Seeks, Sets, Confirms, begun, done, done_all, face_of, left, left_asked, leave_heard, leave_in, leave_of, leave_read, told_of}
use Rattle.link_laws.proofs.Opening.{happens}
use Rattle.link_laws.proofs.Plain.{alive_brings, data_brings, move_silent}

-- ---- what is asked

abbrev pub mode_by : Asking → Option ℤ
mode_by (Modes mode ready id) = Some (pos (mode_number mode))
mode_by other = None

pub asks_mode : (a : Asking) (l : LinkState) → mode_asked (told_of a l) ≡ mode_by a
unfolding activation_request channel_request items_request level_request mode_request probe_request publish_request republish_request session_request_of subscription_request transfer_request
asks_mode Channel l = refl
asks_mode Session l = refl
asks_mode Activation l = refl
asks_mode Probe l = refl
asks_mode (Transfer id) l = refl
asks_mode (Again id number wanted) l = refl
asks_mode Subscription l = refl
asks_mode (Items id) l = refl
asks_mode (Publish ready remembered) l = refl
asks_mode (Modes mode ready id) l = refl
asks_mode Level l = refl
asks_mode Renewal l = refl

read_again : (mode : Mode) → mode_of (mode_number mode) ≡ Some mode
read_again Disabled = refl
read_again Sampling = refl
read_again Reporting = refl

one_mode : (mode other : Mode) → Some (pos (mode_number mode)) ≡ Some (pos (mode_number other)) → mode ≡ other
one_mode mode other e =
    let same : mode_number mode ≡ mode_number other = cc in
    let is : Some mode ≡ Some other = sym (read_again mode) ∙ ap mode_of same ∙ read_again other in
    cc

-- ---- lists

never_join : (mode : Mode) (one other : List Said) → NeverAsks mode one → NeverAsks mode other → NeverAsks mode (one ++ other)
never_join mode [] other h rest = rest
never_join mode (said ∷ one) other h rest = (h.0, never_join mode one other h.1 rest)

pub no_mode : (told : Told) → IsSilent told → mode_asked told ≡ None
no_mode (Greeted greeting url) h = absurd h
no_mode (Opens number r) h = absurd h
no_mode (Asks number r) h = absurd h
no_mode (Limited limits) h = refl
no_mode (Renewed channel token) h = refl

none_asks : (mode : Mode) (o : Option ℤ) → o ≡ None → o ≢ Some (pos (mode_number mode))
none_asks mode o e is = let bad : None ≡ Some (pos (mode_number mode)) = sym e ∙ is in absurd cc

silent_never : (mode : Mode) (said : List Said) → AreSilent said → NeverAsks mode said
silent_never mode [] h = tt
silent_never mode (one ∷ more) h = (none_asks mode (mode_asked one.told) (no_mode one.told h.0), silent_never mode more h.1)

-- ---- the mode that is wanted

abbrev wanted_in : Face → Option Mode
wanted_in (Sends wanted publishes setting confirmed) = wanted
wanted_in other = None

abbrev wanted_by : LinkState → Option Mode
wanted_by l = wanted_in (face_of l.phase)

record Spares (mode : Mode) (did : LinkDid) : Type 0 where
  pub asks : NeverAsks mode did.said
  pub wants : wanted_by did.link ≢ Some mode

none_wanted : (mode : Mode) (o : Option Mode) → o ≡ None → o ≢ Some mode
none_wanted mode o e is = let bad : None ≡ Some mode = sym e ∙ is in absurd cc

same_wanted : (mode : Mode) (one other : Option Mode) → one ≡ other → other ≢ Some mode → one ≢ Some mode
same_wanted mode one other e h is = h (sym e ∙ is)

ready_wanted : (l : LinkState) (ready : ReadyState) → l.phase ≡ phase.Ready ready → ready.wanted ≡ wanted_by l
ready_wanted l ready e = sym (ap (λ p. wanted_in (face_of p)) e)

begun_wanted : (mode : Mode) (leave : Leave) (a : Asking) (l : LinkState) → MayAsk leave a l → wanted_by l ≢ Some mode → wanted_by (begun a l) ≢ Some mode
begun_wanted mode leave (Publish ready remembered) l h wants = same_wanted mode ready.wanted (wanted_by l) (ready_wanted l ready h.0) wants
begun_wanted mode leave (Modes other ready id) l h wants = same_wanted mode ready.wanted (wanted_by l) (ready_wanted l ready h.0) wants
begun_wanted mode leave Level l h wants = wants
begun_wanted mode leave Renewal l h wants = wants
begun_wanted mode leave Channel l h wants = none_wanted mode None refl
begun_wanted mode leave Session l h wants = none_wanted mode None refl
begun_wanted mode leave Activation l h wants = none_wanted mode None refl
begun_wanted mode leave Probe l h wants = none_wanted mode None refl
begun_wanted mode leave (Transfer id) l h wants = none_wanted mode None refl
begun_wanted mode leave (Again id number wanted) l h wants = none_wanted mode None refl
begun_wanted mode leave Subscription l h wants = none_wanted mode None refl
begun_wanted mode leave (Items id) l h wants = none_wanted mode None refl

asks_other : (mode : Mode) (leave : Leave) (a : Asking) (l : LinkState) → MayAsk leave a l → wanted_by l ≢ Some mode → mode_by a ≢ Some (pos (mode_number mode))
asks_other mode leave (Modes other ready id) l h wants = λ e.
    let same : other ≡ mode = one_mode other mode e in
    wants (sym (ready_wanted l ready h.0) ∙ h.1 ∙ ap Some same)
asks_other mode leave Channel l h wants = none_asks mode None refl
asks_other mode leave other l h wants = none_asks mode None refl

-- ---- moves

move_wanted : (mode : Mode) (leave : Leave) (move : Move) (l : LinkState) → leave.wish ≢ Some mode → IsFair leave move l → wanted_by l ≢ Some mode
    → wanted_by (done move l).link ≢ Some mode
move_wanted mode leave (Turns did) l wish h wants = same_wanted mode (wanted_by did.link) (wanted_by l) (ap wanted_in h.same.face) wants
move_wanted mode leave (Falls did) l wish h wants = none_wanted mode (wanted_by did.link) (ap (λ p. wanted_in (face_of p)) h.rests)
move_wanted mode leave (Ages ms) l wish h wants = wants
move_wanted mode leave Wishes l wish h wants = none_wanted mode None refl
move_wanted mode leave (Greets url) l wish h wants = none_wanted mode None refl
move_wanted mode leave (Puts a) l wish h wants = begun_wanted mode leave a l h.0 wants
move_wanted mode leave (Sets other ready id) l wish h wants = begun_wanted mode leave (Modes other ready id) l h wants
move_wanted mode leave (Confirms setting ready) l wish h wants = same_wanted mode ready.wanted (wanted_by l) (ready_wanted l ready h.0) wants
move_wanted mode leave (Enters confirmed) l wish h wants = none_wanted mode None refl
move_wanted mode leave (Completes confirmed items) l wish h wants = none_wanted mode None refl
move_wanted mode leave Loses l wish h wants = none_wanted mode None refl
move_wanted mode leave (Makes id) l wish h wants = wants
move_wanted mode leave (Keeps number remembered) l wish h wants =
    same_wanted mode _ (wanted_by l) (ap (λ p. wanted_in (face_of p)) (alive_brings number remembered l).phase) wants
move_wanted mode leave (Brings number values remembered) l wish h wants =
    same_wanted mode _ (wanted_by l) (ap (λ p. wanted_in (face_of p)) (data_brings number values remembered l).phase) wants
move_wanted mode leave (Levels level) l wish h wants = wants
move_wanted mode leave (Probed level) l wish h wants = none_wanted mode None refl
move_wanted mode leave (Answers ready publishes since) l wish h wants = same_wanted mode ready.wanted (wanted_by l) (ready_wanted l ready h.0) wants
move_wanted mode leave (Seeks other ready) l wish h wants = same_wanted mode (Some other) leave.wish (sym h.1) wish

move_asks : (mode : Mode) (leave : Leave) (move : Move) (l : LinkState) → IsFair leave move l → wanted_by l ≢ Some mode → NeverAsks mode (done move l).said
move_asks mode leave (Greets url) l h wants = (none_asks mode None refl, tt)
move_asks mode leave (Puts a) l h wants = ((λ e. asks_other mode leave a l h.0 wants (sym (asks_mode a l) ∙ e)), tt)
move_asks mode leave (Sets other ready id) l h wants =
    ((λ e. asks_other mode leave (Modes other ready id) l h wants (sym (asks_mode (Modes other ready id) l) ∙ e)), tt)
move_asks mode leave (Turns did) l h wants = silent_never mode did.said h.silent
move_asks mode leave other l h wants = silent_never mode (done other l).said (move_silent leave other l h refl)

left_wish : (mode : Mode) (move : Move) (leave : Leave) → leave.wish ≢ Some mode → (left move leave).wish ≢ Some mode
left_wish mode (Puts a) leave h = by_asking a
  where
    by_asking : (a : Asking) → (left_asked a leave).wish ≢ Some mode
    by_asking (Items id) = h
    by_asking other = h
left_wish mode (Seeks other ready) leave h = none_wanted mode None refl
left_wish mode (Turns did) leave h = h
left_wish mode other leave h = h

moves_spare : (mode : Mode) (leave : Leave) (moves : List Move) (l : LinkState) → leave.wish ≢ Some mode → AreFair leave moves l → wanted_by l ≢ Some mode
    → Spares mode (done_all moves l)
moves_spare mode leave [] l wish h wants = record { asks = tt; wants = wants }
moves_spare mode leave (move ∷ moves) l wish h wants =
    let next : LinkDid = done move l in
    let rest : Spares mode (done_all moves next.link) =
    moves_spare mode (left move leave) moves next.link (left_wish mode move leave wish) h.1 (move_wanted mode leave move l wish h.0 wants) in
    record { asks = never_join mode next.said (done_all moves next.link).said (move_asks mode leave move l h.0 wants) rest.asks; wants = rest.wants }

-- ---- events

session_wish : (r : SessionReply) → (leave_in (Some (reply.Session r))).wish ≡ None
session_wish (session_reply.ServiceFault h) = refl
session_wish (session_reply.Read r) = refl
session_wish other = refl

sub_wish : (r : SubReply) → (leave_in (Some (reply.Subscription r))).wish ≡ None
sub_wish (sub_reply.CreateSubscription r) = refl
sub_wish (sub_reply.Publish r) = refl
sub_wish (sub_reply.Republish r) = refl
sub_wish other = refl

read_wish : (result : Result Reply BodyFault) → (leave_read result).wish ≡ None
read_wish (Ok (reply.Session r)) = session_wish r
read_wish (Ok (reply.Subscription r)) = sub_wish r
read_wish (Err fault) = refl

heard_wish : (h : Heard) → (leave_heard h).wish ≡ None
heard_wish (said_of.Message number body) = read_wish (body_at replies body)
heard_wish other = refl

no_wish : (mode : Mode) (h : Happening) → IsNoWish mode h → (leave_of h).wish ≢ Some mode
no_wish mode (step_rules.Wants other) h = λ e. let same : other ≡ mode = cc in h same
no_wish mode (step_rules.Hears heard) h = none_wanted mode (leave_heard heard).wish (heard_wish heard)
no_wish mode (step_rules.Ticks ms) h = none_wanted mode None refl
no_wish mode step_rules.Dials h = none_wanted mode None refl
no_wish mode other h = none_wanted mode None refl

event_spares : (mode : Mode) (h : Happening) (l : LinkState) → IsNoWish mode h → wanted_by l ≢ Some mode → Spares mode (after h l)
event_spares mode h l wish wants =
    let comes = happens h l in
    subst (Spares mode) (sym comes.is) (moves_spare mode (leave_of h) comes.moves l (no_wish mode h wish) comes.fair wants)

all_spare : (mode : Mode) (happenings : List Happening) (l : LinkState) → NeverWants mode happenings → wanted_by l ≢ Some mode
    → Spares mode (after_all happenings l)
all_spare mode [] l wishes wants = record { asks = tt; wants = wants }
all_spare mode (h ∷ more) l wishes wants =
    let now : Spares mode (after h l) = event_spares mode h l wishes.0 wants in
    let rest : Spares mode (after_all more (after h l).link) = all_spare mode more (after h l).link wishes.1 now.wants in
    record { asks = never_join mode (after h l).said (after_all more (after h l).link).said now.asks rest.asks; wants = rest.wants }

unready_wants : (mode : Mode) (p : Phase) → is_ready_phase p ≡ false → wanted_in (face_of p) ≢ Some mode
unready_wants mode (phase.Ready ready) e = absurd cc
unready_wants mode phase.Idle e = none_wanted mode None refl
unready_wants mode other e = none_wanted mode None refl

pub modes_are_wanted : (mode : Mode) (happenings : List Happening) (l : LinkState) → is_ready l ≡ false → NeverWants mode happenings
    → NeverAsks mode (after_all happenings l).said
modes_are_wanted mode happenings l e wishes = (all_spare mode happenings l wishes (unready_wants mode l.phase e)).asks
