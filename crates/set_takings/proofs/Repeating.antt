-- Data of a Republish response were kept in a life, under the id and the number that the link asked for.
use Rattle.std.proofs.Common.{◌≡◌, ◌+◌, ℕ, List, [], ◌∷◌, ◌++◌, length, slice_get, Some, sym, ap, ◌∙◌, subst, append_assoc, arith}
use Rattle.std.specs.Prelude.{take}
use Rattle.std.specs.List.{AllByRecursion}
use Rattle.std.proofs.lemmas.List.{length-append}
use Rattle.set_model.specs.declared.source.Change.{Change}
use Rattle.ua_chunks.specs.Assembly.{Tokens}
use Rattle.ua_channel.specs.declared.ear.Ear.{Ear}
use Rattle.ua_channel.specs.declared.heard.Heard.{Heard}
use Rattle.ua_channel.specs.declared.heard.Heard.TheVariants as heard_as
use Rattle.ua_channel.specs.Messages.{hearing_of}
use Rattle.ua_channel.specs.Orders.{puts_of}
use Rattle.ua_channel.specs.State.{WireState}
use Rattle.ua_sub_msgs.specs.declared.notification.MonitoredItemNotification.{MonitoredItemNotification}
use Rattle.ua_sub_msgs.specs.declared.notification.NotificationMessage.{NotificationMessage}
use Rattle.ua_sub_msgs.specs.declared.publish.RepublishRequest.{RepublishRequest}
use Rattle.ua_sub_msgs.specs.declared.publish.RepublishResponse.{RepublishResponse}
use Rattle.ua_sub_msgs.specs.declared.reply.SubReply.TheVariants as sub_reply
use Rattle.ua_sub_msgs.specs.declared.request.SubRequest.TheVariants as sub_request
use Rattle.ua_services.specs.declared.reply.Reply.TheVariants as reply
use Rattle.ua_services.specs.declared.request.Request.TheVariants as request
use Rattle.server_rules.specs.declared.config.ServerConfig.{ServerConfig}
use Rattle.server_rules.specs.State.{ServerState, new_server}
use Rattle.server_rules.specs.Step.{Happening, Hears}
use Rattle.server_rules.specs.Acts.{state_after}
use Rattle.server_laws.specs.Beginning.{KeptUnder}
use Rattle.server_keeps.specs.Fitting.{FitsChange, FitsConfig, FitsHappening}
use Rattle.server_answers.specs.Repeats.{WasKeptThen}
use Rattle.server_answers.specs.Turns.{AreHeard, AreNoPublish, IsAnswer, heard_on, puts_on}
use Rattle.link_keeps.specs.Fitting.{KeepsSaid}
use Rattle.link_rules.specs.Said.{Asks, Said, Told, orders_of}
use Rattle.link_laws.specs.Taken.{heard_reply}
use Rattle.link_takings.specs.Exchange.{AsksAgain, Exchange, messages_of}
use Rattle.link_takings.specs.From.{HasData}
use Rattle.link_following.specs.Book.{Book, InBook}
use Rattle.set_talks.specs.Heard.{AreHeardOf}
use Rattle.client_askings.specs.Reading.{AreReadAs, ReadsAs}
use Rattle.client_dials.specs.Spoken.{Spoken}
use Rattle.set_talks.specs.Meetings.{IsShared, Life, Served, start_of}
use Rattle.set_takings.specs.Booked.{IsBooked}
use Rattle.set_takings.proofs.Places.{IsHeardAt, heard_then, none_read, on_same, place_behind, read_at}

-- ---- what other crates say

abbrev pub HeardWereAsked : Type 0
HeardWereAsked = (said : List Said) (heard : List Heard) → AllByRecursion KeepsSaid said → AreHeardOf heard (puts_of (orders_of said))
    → AreReadAs heard (messages_of said)

abbrev pub AnswersInTurn : Type 0
AnswersInTurn = (config : ServerConfig) (current : List Change) (happenings : List Happening) (conn place : ℕ) (wire : WireState)
    → AreHeard happenings (new_server config current) → slice_get (puts_on conn happenings (new_server config current)) place ≡ Some wire
    → AreNoPublish (take (place + 1) (heard_on conn happenings)) → IsAnswer conn place wire happenings (new_server config current)

abbrev pub RepeatedWereKept : Type 0
RepeatedWereKept = (config : ServerConfig) (current : List Change) (happenings : List Happening) (conn place : ℕ) (wire : WireState) (e : Ear)
    (tokens : Tokens) (response : RepublishResponse) (x : IsAnswer conn place wire happenings (new_server config current)) → FitsConfig config
    → AllByRecursion FitsChange current → AllByRecursion FitsHappening happenings
    → heard_reply (hearing_of e wire tokens).heard ≡ Some (reply.Subscription (sub_reply.Republish response))
    → WasKeptThen x.heard response.notification_message (state_after x.earlier (new_server config current))

-- ---- what was asked for

-- the last message that was put is the request, at the place of the answer
asked_there : (id : ℕ) (e : Exchange) (others : List Told) (asks : AsksAgain id e)
    → slice_get (e.put ++ others) (length e.taken) ≡ Some (Asks asks.number (request.Subscription (sub_request.Republish asks.body)))
asked_there id e others asks =
    let one : Told = Asks asks.number (request.Subscription (sub_request.Republish asks.body)) in
    let long : length (asks.before ++ one ∷ []) ≡ length asks.before + 1 = length-append asks.before (one ∷ []) in
    let put : length e.put ≡ length (asks.before ++ one ∷ []) = ap (λ (l : List Told). length l) asks.put in
    let step : length e.put ≡ length e.taken + 1 = asks.step in
    let place : length e.taken ≡ length asks.before = omega (arith, long, put, step) in
    ap (λ (l : List Told). slice_get (l ++ others) (length e.taken)) asks.put
    ∙ ap (λ (l : List Told). slice_get l (length e.taken)) (append_assoc asks.before (one ∷ []) others)
    ∙ ap (λ (n : ℕ). slice_get (asks.before ++ one ∷ others) n) place
    ∙ place_behind asks.before one others

-- ---- what was kept then

-- it was kept under the id that the link asked for
kept_in_book : (book : Book) (life : Life) (conn place : ℕ) (wire : WireState) (id number asked : ℕ) (body : RepublishRequest) (values : List MonitoredItemNotification)
    (message : NotificationMessage) (x : IsAnswer conn place wire life.happenings (start_of life)) → IsBooked book life
    → ReadsAs (Asks asked (request.Subscription (sub_request.Republish body))) x.heard → body.subscription_id ≡ id
    → WasKeptThen x.heard message (state_after x.earlier (start_of life)) → HasData number values message → InBook book id number values
kept_in_book book life conn place wire id number asked body values message x booked reads subscription kept has =
    let one : Told = Asks asked (request.Subscription (sub_request.Republish body)) in
    let read : ReadsAs one (heard_as.Message kept.number kept.body) = subst (λ (h : Heard). ReadsAs one h) kept.is reads in
    let said = read (request.Subscription (sub_request.Republish kept.asked)) kept.reads in
    let told : Asks asked (request.Subscription (sub_request.Republish body)) ≡ Asks said.0 (request.Subscription (sub_request.Republish kept.asked)) = said.1 in
    let same : body ≡ kept.asked = cc in
    let own : kept.asked.subscription_id ≡ id = sym (ap (λ (r : RepublishRequest). r.subscription_id) same) ∙ subscription in
    booked.kept (x.later ++ Hears conn x.heard ∷ []) x.earlier id kept.asked.retransmit_sequence_number number message values
    (x.are ∙ sym (append_assoc x.later (Hears conn x.heard ∷ []) x.earlier))
    (subst (λ (i : ℕ). KeptUnder i kept.asked.retransmit_sequence_number message (state_after x.earlier (start_of life))) own kept.kept) has

-- ---- so it is in the book

pub republished_in_book : HeardWereAsked → AnswersInTurn → RepeatedWereKept → (book : Book) (spoken : Spoken) (served : Served) (e : Exchange) (others : List Told)
    (h : Heard) (id number : ℕ) (values : List MonitoredItemNotification) (response : RepublishResponse) → IsShared spoken served → IsBooked book served.life
    → AllByRecursion KeepsSaid spoken.said → messages_of spoken.said ≡ e.put ++ others → AsksAgain id e
    → IsHeardAt h (length e.taken) (puts_on served.number served.life.happenings (start_of served.life))
    → heard_reply h ≡ Some (reply.Subscription (sub_reply.Republish response)) → HasData number values response.notification_message
    → InBook book id number values
republished_in_book asked answers repeated book spoken served e others h id number values response shared booked keeps put asks at comes has =
    let life : Life = served.life in
    let conn : ℕ = served.number in
    let s : ServerState = start_of life in
    let place : ℕ = length e.taken in
    let there : AreHeardOf (heard_on conn life.happenings) (puts_of (orders_of spoken.said)) =
    subst (λ (l : List Heard). AreHeardOf l (puts_of (orders_of spoken.said))) (on_same conn life.happenings) shared.there in
    let reads : AreReadAs (heard_on conn life.happenings) (e.put ++ others) =
    subst (λ (l : List Told). AreReadAs (heard_on conn life.happenings) l) put (asked spoken.said (heard_on conn life.happenings) keeps there) in
    let none : AreNoPublish (take (place + 1) (heard_on conn life.happenings)) =
    none_read (place + 1) (heard_on conn life.happenings) e.put others reads asks.step asks.unpublished in
    let x : IsAnswer conn place at.wire life.happenings s = answers life.config life.current life.happenings conn place at.wire booked.heard at.at none in
    let heard : slice_get (heard_on conn life.happenings) place ≡ Some x.heard =
    ap (λ (l : List Happening). slice_get (heard_on conn l) place) x.are
    ∙ ap (λ (n : ℕ). slice_get (heard_on conn (x.later ++ Hears conn x.heard ∷ x.earlier)) n) (sym x.place_is)
    ∙ heard_then conn x.later x.heard x.earlier in
    kept_in_book book life conn place at.wire id number asks.number asks.body values response.notification_message x booked
    (read_at (heard_on conn life.happenings) (e.put ++ others) place x.heard (Asks asks.number (request.Subscription (sub_request.Republish asks.body))) reads heard
    (asked_there id e others asks))
    asks.subscription
    (repeated life.config life.current life.happenings conn place at.wire at.of.0 at.of.1 response x booked.config booked.current booked.happenings
    (ap heard_reply (sym at.of.2) ∙ comes))
    has
