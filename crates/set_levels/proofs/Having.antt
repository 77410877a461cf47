-- Each level that a link tells was that of a life.
use Rattle.std.proofs.Common.{◌≡◌, ℕ, List, [], ◌∷◌, ◌++◌, length, slice_get, Option, None, Some, refl, sym, ap, ◌∙◌, subst, append_assoc}
use Rattle.std.specs.Prelude.{Ok}
use Rattle.std.specs.List.{AllByRecursion}
use Rattle.set_model.specs.declared.source.Change.{Change}
use Rattle.ua_chunks.specs.Assembly.{Tokens}
use Rattle.ua_channel.specs.declared.ear.Ear.{Ear}
use Rattle.ua_channel.specs.declared.heard.Heard.{Heard}
use Rattle.ua_channel.specs.declared.heard.Heard.TheVariants as heard_as
use Rattle.ua_channel.specs.Messages.{hearing_of}
use Rattle.ua_channel.specs.Orders.{puts_of}
use Rattle.ua_channel.specs.Sharing.{own}
use Rattle.ua_channel.specs.State.{WireState}
use Rattle.ua_variants.specs.declared.variant.Stamped.{Stamped}
use Rattle.ua_variants.specs.declared.variant.Variant.{Variant}
use Rattle.ua_session_msgs.specs.declared.attribute.ReadRequest.{ReadRequest}
use Rattle.ua_session_msgs.specs.declared.attribute.ReadResponse.{ReadResponse}
use Rattle.ua_session_msgs.specs.declared.reply.SessionReply.{SessionReply}
use Rattle.ua_session_msgs.specs.declared.reply.SessionReply.TheVariants as session_reply
use Rattle.ua_session_msgs.specs.declared.request.SessionRequest.TheVariants as session_request
use Rattle.ua_services.specs.declared.reply.Reply.{Reply}
use Rattle.ua_services.specs.declared.reply.Reply.TheVariants as reply
use Rattle.ua_services.specs.declared.request.Request.TheVariants as request
use Rattle.ua_services.specs.Requests.{request_at}
use Rattle.server_rules.specs.declared.config.ServerConfig.{ServerConfig}
use Rattle.server_rules.specs.State.{ServerState, new_server}
use Rattle.server_rules.specs.Said.{orders_of}
use Rattle.server_rules.specs.Step as server
use Rattle.server_rules.specs.Acts.{state_after}
use Rattle.server_laws.specs.Course.{said_after}
use Rattle.server_keeps.specs.Fitting.{FitsChange, FitsConfig, FitsHappening}
use Rattle.server_tellings.specs.Heard.{IsPutOn, IsReplySaid}
use Rattle.link_rules.specs.declared.config.LinkConfig.{LinkConfig}
use Rattle.link_rules.specs.declared.notice.Notice.{Notice}
use Rattle.link_rules.specs.declared.notice.Notice.TheVariants as notice
use Rattle.link_rules.specs.Ready.{level_of}
use Rattle.link_rules.specs.State.{LinkState, new_link}
use Rattle.link_rules.specs.Said as link
use Rattle.link_rules.specs.Step.{Happening, Hears, after, after_all}
use Rattle.link_keeps.specs.Fitting.{KeepsSaid}
use Rattle.link_laws.specs.Taken.{heard_reply, reply_of}
use Rattle.link_takings.specs.Exchange.{Exchange, exchange_all, messages_of, no_exchange}
use Rattle.level_readings.specs.Levels.{AnswersRead, AsksForLevel, IsForLevel, IsRead, IsReadOf, TellLevel}
use Rattle.client_links.specs.Awaited.{AllAwaited}
use Rattle.client_links.specs.Links.{passed_by}
use Rattle.client_askings.specs.Reading.{AreReadAs}
use Rattle.client_dials.specs.Behind.{IsHeardBehind}
use Rattle.client_dials.specs.Spoken.{Spoken, spoken_in}
use Rattle.set_talks.specs.Heard.{AreHeardOf}
use Rattle.set_talks.specs.Lives.{heard_on, put_on}
use Rattle.set_talks.specs.Meetings.{AllShared, AreShared, IsShared, Life, Served, connections_of, served_by, start_of}
use Rattle.set_askings.specs.Once.{AllKept, IsOrderly}
use Rattle.set_levels.specs.Had.{HadLevel, WasLevel}
use Rattle.set_levels.proofs.Asking.{AreFor, ReadsAskFirst, messages_for, reads_are_for_levels}
use Rattle.set_levels.proofs.Places.{IsHeardAt, IsReadAt, all_at, all_behind, all_join, all_to, heard_at, heard_then, place_behind, put_at, read_at}
use Rattle.set_levels.proofs.Saying.{IsSaidThen, ReadsAreAnswered, answered_then, said_then}

-- ---- what other crates say

abbrev pub HeardBehind : Type 0
HeardBehind = (config : LinkConfig) (front : List Happening) (h : Heard) (more : List Happening) → AllAwaited (front ++ Hears h ∷ more) (new_link config)
    → IsHeardBehind h (exchange_all front (new_link config) no_exchange) (spoken_in (passed_by (front ++ Hears h ∷ more) (new_link config)) [])

abbrev pub HeardWereAsked : Type 0
HeardWereAsked = (said : List link.Said) (heard : List Heard) → AllByRecursion KeepsSaid said → AreHeardOf heard (puts_of (link.orders_of said))
    → AreReadAs heard (messages_of said)

abbrev pub HeardWereSaid : Type 0
HeardWereSaid = (config : ServerConfig) (current : List Change) (happenings : List server.Happening) (conn : ℕ) (wire : WireState) (e : Ear) (tokens : Tokens)
    (answer : Reply) → FitsConfig config → AllByRecursion FitsChange current → AllByRecursion FitsHappening happenings
    → IsPutOn conn wire (said_after happenings (new_server config current)) → heard_reply (hearing_of e wire tokens).heard ≡ Some answer
    → IsReplySaid conn wire answer (said_after happenings (new_server config current))

abbrev pub LevelsWereRead : Type 0
LevelsWereRead = (h : Happening) (l : LinkState) → AllByRecursion (IsRead h) (after h l).notices

-- ---- levels

-- the first value is one level alone
same_value : (one other : Stamped Variant) (a b : ℕ) → one ≡ other → level_of one ≡ Some a → level_of other ≡ Some b → a ≡ b
same_value one other a b same first second =
    let both : Some a ≡ Some b = sym first ∙ ap level_of same ∙ second in cc

same_level : (a b : ℕ) (values : List (Stamped Variant)) → TellLevel a values → TellLevel b values → a ≡ b
same_level a b values one other =
    let both : one.0 ∷ one.1 ≡ other.0 ∷ other.1 = sym one.2 ∙ other.2 in
    let same : one.0 ≡ other.0 = cc in
    same_value one.0 other.0 a b same one.3 other.3

-- what is read of a level is a Read response
record IsReadIn (level : ℕ) (o : Option Reply) : Type 0 where
  response : ReadResponse
  is : o ≡ Some (reply.Session (session_reply.Read response))
  tells : TellLevel level response.results

read_session : (level : ℕ) (r : SessionReply) → IsReadOf level (Some (reply.Session r)) → IsReadIn level (Some (reply.Session r))
read_session level (session_reply.Read r) h = record { response = r; is = refl; tells = h }
read_session level other h = absurd h

read_in : (level : ℕ) (o : Option Reply) → IsReadOf level o → IsReadIn level o
read_in level None h = absurd h
read_in level (Some (reply.Session r)) h = read_session level r h
read_in level (Some (reply.Subscription r)) h = absurd h

-- ---- the connections of lives

-- one of these lives, which is orderly
record IsOf (lives : List Life) (served : Served) : Type 0 where
  newer : List Life
  older : List Life
  among : lives ≡ newer ++ served.life ∷ older
  orderly : IsOrderly served.life

all_served : (lives : List Life) (life : Life) (numbers : List ℕ) (newer older : List Life) → lives ≡ newer ++ life ∷ older → IsOrderly life
    → AllByRecursion (IsOf lives) (served_by life numbers)
all_served lives life [] newer older are orderly = tt
all_served lives life (number ∷ earlier) newer older are orderly =
    (record { newer = newer; older = older; among = are; orderly = orderly }, all_served lives life earlier newer older are orderly)

all_of : (lives newer all : List Life) → lives ≡ newer ++ all → AllByRecursion IsOrderly all → AllByRecursion (IsOf lives) (connections_of all)
all_of lives newer [] are orderly = tt
all_of lives newer (life ∷ earlier) are orderly =
    all_join (IsOf lives) (served_by life life.connections) (connections_of earlier) (all_served lives life life.connections newer earlier are orderly.0)
    (all_of lives (newer ++ life ∷ []) earlier (are ∙ sym (append_assoc newer (life ∷ []) earlier)) orderly.1)

-- a connection of the link is one of a life
record IsMet (lives : List Life) (spoken : Spoken) : Type 0 where
  served : Served
  shared : IsShared spoken served
  of : IsOf lives served

met : (lives : List Life) (newer : List Spoken) (spoken : Spoken) (older : List Spoken) (all : List Served) → AreShared (newer ++ spoken ∷ older) all
    → AllByRecursion (IsOf lives) all → IsMet lives spoken
met lives [] spoken older [] are of = absurd are
met lives [] spoken older (served ∷ others) are of = record { served = served; shared = are.0; of = of.0 }
met lives (one ∷ newer) spoken older [] are of = absurd are
met lives (one ∷ newer) spoken older (served ∷ others) are of = met lives newer spoken older others are.1 of.1

-- ---- what was asked for

-- the Read that a life heard is one that the link put there
asked_first : HeardWereAsked → (spoken : Spoken) (served : Served) (later earlier : List server.Happening) (number : ℕ) (body : List ℕ) (r : ReadRequest)
    → IsShared spoken served → AllByRecursion KeepsSaid spoken.said → AreFor spoken
    → served.life.happenings ≡ later ++ server.Hears served.number (heard_as.Message number body) ∷ earlier
    → request_at body ≡ Ok (request.Session (session_request.Read r)) → IsForLevel r.nodes_to_read
asked_first asked spoken served later earlier number body r shared keeps first are reads =
    let heard : List Heard = heard_on served.number served.life.happenings in
    let told : List link.Told = messages_of spoken.said in
    let place : ℕ = length (heard_on served.number earlier) in
    let h : Heard = heard_as.Message number body in
    let there : slice_get heard place ≡ Some h =
    ap (λ (l : List server.Happening). slice_get (heard_on served.number l) place) are ∙ heard_then served.number later h earlier in
    let at : IsReadAt h place told = read_at heard told place h (asked spoken.said heard keeps shared.there) there in
    let said = at.as_told (request.Session (session_request.Read r)) reads in
    subst AsksForLevel said.1 (all_at AsksForLevel told place at.one (messages_for spoken.said first) at.at)

-- ---- a life that had the level

had : HeardWereAsked → ReadsAreAnswered → (lives : List Life) (level number : ℕ) (r : ReadResponse) (spoken : Spoken) (m : IsMet lives spoken)
    → (wire : WireState) → AllByRecursion KeepsSaid spoken.said → AreFor spoken
    → IsReplySaid m.served.number wire (reply.Session (session_reply.Read r)) (said_after m.served.life.happenings (start_of m.served.life))
    → TellLevel level r.results → WasLevel lives level
had asked answered lives level number r spoken m wire keeps first said tells =
    let life : Life = m.served.life in
    let s : ServerState = start_of life in
    let x : IsSaidThen said.said life.happenings s = said_then said.said life.happenings s said.among in
    let t : ServerState = state_after x.earlier s in
    let a : AnswersRead x.happening t said.said.conn r.results = answered_then answered said.said said.request r life.happenings s said.told x in
    let is : x.happening ≡ server.Hears m.served.number (heard_as.Message a.number a.body) =
    a.is ∙ ap (λ (conn : ℕ). server.Hears conn (heard_as.Message a.number a.body)) said.on in
    let are : life.happenings ≡ x.later ++ server.Hears m.served.number (heard_as.Message a.number a.body) ∷ x.earlier =
    x.are ∙ ap (λ (happening : server.Happening). x.later ++ happening ∷ x.earlier) is in
    record {
      newer = m.of.newer;
      life = life;
      older = m.of.older;
      among = m.of.among;
      later = x.later;
      conn = m.served.number;
      number = a.number;
      body = a.body;
      earlier = x.earlier;
      are = are;
      asked = a.asked;
      reads = a.reads;
      had = same_level t.level level r.results
          (a.tells (asked_first asked spoken m.served x.later x.earlier a.number a.body a.asked m.shared keeps first are a.reads)) tells;
    }

-- ---- one event more

after_one : (front : List Happening) (h : Happening) (l : LinkState) → (after_all (front ++ h ∷ []) l).link ≡ (after h (after_all front l).link).link
after_one [] h l = refl
after_one (first ∷ front) h l = after_one front h (after first l).link

-- ---- a link whose connections are those of lives

record IsOfLives (config : LinkConfig) (lives : List Life) (happenings : List Happening) : Type 0 where
  awaited : AllAwaited happenings (new_link config)
  shared : AllShared (spoken_in (passed_by happenings (new_link config)) []) lives
  kept : AllKept (spoken_in (passed_by happenings (new_link config)) [])

module _ (behind : HeardBehind) (asked : HeardWereAsked) (were_said : HeardWereSaid) (told : LevelsWereRead) (first : ReadsAskFirst) (answered : ReadsAreAnswered)
    (config : LinkConfig) (lives : List Life) (orderly : AllByRecursion IsOrderly lives) where
  heard_level : (front : List Happening) (h : Heard) (more : List Happening) (level : ℕ) → IsOfLives config lives (front ++ Hears h ∷ more)
      → IsReadOf level (heard_reply h) → WasLevel lives level
  heard_level front h more level x reads =
      had asked answered lives level 0 i.response b.spoken m at.wire keeps for said i.tells
    where
      b : IsHeardBehind h (exchange_all front (new_link config) no_exchange) (spoken_in (passed_by (front ++ Hears h ∷ more) (new_link config)) [])
      b = behind config front h more x.awaited

      e : Exchange
      e = exchange_all front (new_link config) no_exchange

      m : IsMet lives b.spoken
      m = met lives b.newer b.spoken b.older (connections_of lives) (subst (λ (all : List Spoken). AreShared all (connections_of lives)) b.are x.shared)
          (all_of lives [] lives refl orderly)

      at : IsHeardAt h (length e.taken) (put_on m.served.number m.served.life.happenings (start_of m.served.life))
      at = heard_at b.spoken.heard (put_on m.served.number m.served.life.happenings (start_of m.served.life)) (length e.taken) h m.shared.back
          (ap (λ (l : List Heard). slice_get l (length e.taken)) b.heard ∙ place_behind e.taken h b.later)

      keeps : AllByRecursion KeepsSaid b.spoken.said
      keeps = (all_behind (λ (spoken : Spoken). AllByRecursion KeepsSaid spoken.said) b.newer (b.spoken ∷ b.older) (subst AllKept b.are x.kept)).0

      for : AreFor b.spoken
      for = (all_behind AreFor b.newer (b.spoken ∷ b.older)
          (subst (λ (all : List Spoken). AllByRecursion AreFor all) b.are (reads_are_for_levels first (front ++ Hears h ∷ more) (new_link config)))).0

      i : IsReadIn level (heard_reply h)
      i = read_in level (heard_reply h) reads

      said : IsReplySaid m.served.number at.wire (reply.Session (session_reply.Read i.response))
          (said_after m.served.life.happenings (start_of m.served.life))
      said = were_said m.served.life.config m.served.life.current m.served.life.happenings m.served.number at.wire at.of.0 at.of.1
          (reply.Session (session_reply.Read i.response)) m.of.orderly.config m.of.orderly.current m.of.orderly.happenings
          (put_at (own m.served.number (orders_of (said_after m.served.life.happenings (start_of m.served.life)))) (length e.taken) at.wire at.at)
          (ap heard_reply (sym at.of.2) ∙ i.is)

  -- only what is heard brings a reply
  level_in : (front : List Happening) (h : Happening) (more : List Happening) (level : ℕ) → IsOfLives config lives (front ++ h ∷ more)
      → IsReadOf level (reply_of h) → WasLevel lives level
  level_in front (Hears h) more level x reads = heard_level front h more level x reads
  level_in front other more level x reads = absurd reads

  one_had : (front : List Happening) (h : Happening) (more : List Happening) → IsOfLives config lives (front ++ h ∷ more)
      → (n : Notice) → IsRead h n → HadLevel lives n
  one_had front h more x (notice.Level level) reads = level_in front h more level x reads
  one_had front h more x notice.Ready reads = tt
  one_had front h more x other reads = tt

  all_had : (front more : List Happening) → IsOfLives config lives (front ++ more)
      → AllByRecursion (HadLevel lives) (after_all more (after_all front (new_link config)).link).notices
  all_had front [] x = tt
  all_had front (h ∷ more) x =
      let l : LinkState = (after_all front (new_link config)).link in
      all_join (HadLevel lives) (after h l).notices (after_all more (after h l).link).notices
      (all_to (IsRead h) (HadLevel lives) (one_had front h more x) (after h l).notices (told h l))
      (subst (λ (next : LinkState). AllByRecursion (HadLevel lives) (after_all more next).notices) (after_one front h (new_link config))
      (all_had (front ++ h ∷ []) more (subst (λ (all : List Happening). IsOfLives config lives all) (sym (append_assoc front (h ∷ []) more)) x)))

  pub levels_were_had : (happenings : List Happening) → AllAwaited happenings (new_link config)
      → AllShared (spoken_in (passed_by happenings (new_link config)) []) lives → AllKept (spoken_in (passed_by happenings (new_link config)) [])
      → AllByRecursion (HadLevel lives) (after_all happenings (new_link config)).notices
  levels_were_had happenings awaited shared kept = all_had [] happenings (record { awaited = awaited; shared = shared; kept = kept })
