-- What a rule of a server comes to, in moves.
use Rattle.std.specs.Prelude.{◌≡◌, ℕ, List, [], ◌∷◌, ◌++◌, ◌⊎◌, Option, Some, Result, Ok}
use Rattle.ua_base.specs.declared.modes.Mode.{Mode}
use Rattle.set_model.specs.declared.source.Change.{Change}
use Rattle.sessions.specs.Calls.{Call as SessionCall, Transfer}
use Rattle.ua_channel.specs.declared.heard.Heard.{Heard}
use Rattle.ua_channel.specs.declared.heard.Heard.TheVariants as heard
use Rattle.ua_session_msgs.specs.declared.request.SessionRequest.{SessionRequest}
use Rattle.ua_session_msgs.specs.declared.request.SessionRequest.TheVariants as session_request
use Rattle.ua_sub_msgs.specs.declared.request.SubRequest.{SubRequest}
use Rattle.ua_sub_msgs.specs.declared.request.SubRequest.TheVariants as sub_request
use Rattle.ua_services.specs.declared.request.Request.{Request}
use Rattle.ua_services.specs.declared.request.Request.TheVariants as request
use Rattle.ua_services.specs.declared.request.RequestFault.{RequestFault}
use Rattle.ua_services.specs.Requests.{request_at}
use Rattle.server_rules.specs.State.{ServerState}
use Rattle.server_rules.specs.Said.{Did, Said}
use Rattle.server_rules.specs.Operations.{mode_named}
use Rattle.server_rules.specs.Step.{Happening, Hears, Feeds, after}
use Rattle.server_rules.specs.Acts.{Put, ServerAct, state_after}
use Rattle.server_laws.specs.Moves.{AreFair, Core, feeds_in, Doing, Adds, Removes, Modes, Cycles, Sends, Acknowledges, Modifies, Enables, Goes, Answer, ChannelOpened, ModesSet, ValuesRead, Move, Makes, Does, Enters, Ends, Asks, Issues, Repeats, Answers, facts_of_all, moved_all}
use Rattle.server_laws.specs.Facts.{IsWithin, facts_said}

-- the part of a server of which the moves tell
abbrev pub core_of : ServerState → Core
core_of s =
    record { boot = s.config.boot; current = s.current; subs = s.subs; made = s.made; channels = s.channels_given; sessions = s.sessions }

-- what may be done, beside what any request may do: items are made in a subscription, or a mode is set, subscriptions of
-- these ids go to another session, nodes are read, the message of a subscription and a number is said again, a channel is
-- issued, or a change is fed
pub data Leave : Type 0 where
  Nothing : Leave
  Adding : ℕ → Leave
  Setting : ℕ → Option Mode → Leave
  Transferring : List ℕ → Leave
  Reading : Leave
  Repeating : ℕ → ℕ → Leave
  Issuing : Leave
  Feeding : Change → Leave

abbrev pub MayAdd : Leave → ℕ → Type 0
MayAdd (Adding other) id = other ≡ id
MayAdd leave id = ⊥

abbrev pub MaySet : Leave → ℕ → Mode → Type 0
MaySet (Setting other that) id mode = (other ≡ id) × (that ≡ Some mode)
MaySet leave id mode = ⊥

abbrev pub MayAnswer : Leave → Answer → Type 0
MayAnswer (Setting id mode) ModesSet = Unit {0}
MayAnswer Reading ValuesRead = Unit {0}
MayAnswer Issuing (ChannelOpened channel) = Unit {0}
MayAnswer leave answer = ⊥

abbrev pub MayRepeat : Leave → ℕ → ℕ → Type 0
MayRepeat (Repeating other that) id number = (other ≡ id) × (that ≡ number)
MayRepeat leave id number = ⊥

abbrev pub IsAmong : ℕ → List ℕ → Type 0
IsAmong id [] = ⊥
IsAmong id (other ∷ ids) = (other ≡ id) ⊎ IsAmong id ids

abbrev pub MayTransfer : Leave → ℕ → Type 0
MayTransfer (Transferring ids) id = IsAmong id ids
MayTransfer leave id = ⊥

abbrev pub MayAsk : Leave → SessionCall → Type 0
MayAsk leave (Transfer id to) = MayTransfer leave id
MayAsk leave other = Unit {0}

abbrev pub MayIssue : Leave → Type 0
MayIssue Issuing = Unit {0}
MayIssue leave = ⊥

abbrev pub MayFeed : Leave → Change → Type 0
MayFeed (Feeding other) change = other ≡ change
MayFeed leave change = ⊥

abbrev pub MayDo : Leave → ℕ → Doing → Type 0
MayDo leave id (Modes item mode) = MaySet leave id mode
MayDo leave id (Adds spec) = MayAdd leave id
MayDo leave id (Removes item) = Unit {0}
MayDo leave id (Cycles queued) = Unit {0}
MayDo leave id (Sends now) = Unit {0}
MayDo leave id (Acknowledges number) = Unit {0}
MayDo leave id (Modifies spec now) = Unit {0}
MayDo leave id (Enables enabled) = Unit {0}
MayDo leave id Goes = Unit {0}

abbrev pub MayMove : Leave → Move → Type 0
MayMove leave (Makes spec start) = Unit {0}
MayMove leave (Does id doing) = MayDo leave id doing
MayMove leave (Enters change) = MayFeed leave change
MayMove leave (Ends id) = Unit {0}
MayMove leave (Asks call) = MayAsk leave call
MayMove leave Issues = MayIssue leave
MayMove leave (Repeats id number) = MayRepeat leave id number
MayMove leave (Answers answer) = MayAnswer leave answer

abbrev pub MayMoves : Leave → List Move → Type 0
MayMoves leave [] = Unit {0}
MayMoves leave (move ∷ moves) = MayMove leave move × MayMoves leave moves

-- each move is fair and one that may be; they lead from the one state to the other; and what is said of them is within
-- their facts, in order
pub record Comes (leave : Leave) (s : ServerState) (did : Did) : Type 0 where
  pub moves : List Move
  pub may : MayMoves leave moves
  pub fair : AreFair moves (core_of s)
  pub leads : core_of did.state ≡ moved_all moves (core_of s)
  pub told : IsWithin (facts_said did.said) (facts_of_all moves (core_of s))

-- ---- of what happens

abbrev pub leave_of_sub : SubRequest → Leave
leave_of_sub (sub_request.CreateMonitoredItems r) = Adding r.subscription_id
leave_of_sub (sub_request.SetMonitoringMode r) = Setting r.subscription_id (mode_named r.monitoring_mode)
leave_of_sub (sub_request.TransferSubscriptions r) = Transferring r.subscription_ids
leave_of_sub (sub_request.Republish r) = Repeating r.subscription_id r.retransmit_sequence_number
leave_of_sub other = Nothing

abbrev pub leave_of_session : SessionRequest → Leave
leave_of_session (session_request.Read r) = Reading
leave_of_session other = Nothing

abbrev pub leave_of_request : Result Request RequestFault → Leave
leave_of_request (Ok (request.Subscription r)) = leave_of_sub r
leave_of_request (Ok (request.Session r)) = leave_of_session r
leave_of_request other = Nothing

abbrev pub leave_of_heard : Heard → Leave
leave_of_heard (heard.Message number body) = leave_of_request (request_at body)
leave_of_heard (heard.Opening channel follows number body) = Issuing
leave_of_heard other = Nothing

abbrev pub leave_of : Happening → Leave
leave_of (Hears conn h) = leave_of_heard h
leave_of (Feeds change) = Feeding change
leave_of other = Nothing

-- ---- of a life

-- what is said of all that happened, newest first, in order
abbrev pub said_after : List Happening → ServerState → List Said
said_after [] s = []
said_after (happening ∷ earlier) s = said_after earlier s ++ (after happening (state_after earlier s)).said

abbrev pub life_of : List Happening → ServerState → Did
life_of happenings s = record { state = state_after happenings s; said = said_after happenings s }

-- the changes that were fed, in order
abbrev pub fed_with_one : List Change → Happening → List Change
fed_with_one changes (Feeds change) = changes ++ change ∷ []
fed_with_one changes other = changes

abbrev pub fed_in : List Happening → List Change
fed_in [] = []
fed_in (happening ∷ earlier) = fed_with_one (fed_in earlier) happening

abbrev pub said_by : ServerAct → List Said
said_by (Put said) = said ∷ []
said_by other = []

-- what is said in these acts
abbrev pub said_in : List ServerAct → List Said
said_in [] = []
said_in (act ∷ acts) = said_by act ++ said_in acts

-- a mode is asked for in a subscription by one of these requests
abbrev pub IsAsked : List Happening → ℕ → Mode → Type 0
IsAsked [] id mode = ⊥
IsAsked (happening ∷ earlier) id mode = (leave_of happening ≡ Setting id (Some mode)) ⊎ IsAsked earlier id mode

abbrev pub IsAskedDoing : List Happening → ℕ → Doing → Type 0
IsAskedDoing happenings id (Modes item mode) = IsAsked happenings id mode
IsAskedDoing happenings id other = Unit {0}

abbrev pub IsAskedMove : List Happening → Move → Type 0
IsAskedMove happenings (Does id doing) = IsAskedDoing happenings id doing
IsAskedMove happenings other = Unit {0}

-- each mode that is set was asked for
abbrev pub AreAsked : List Happening → List Move → Type 0
AreAsked happenings [] = Unit {0}
AreAsked happenings (move ∷ moves) = IsAskedMove happenings move × AreAsked happenings moves

-- all that happened, newest first, comes to moves: they lead to the state after it, what was said is within what they tell,
-- the changes that were fed are theirs, and the modes that they set were asked for
pub record IsCourse (happenings : List Happening) (s : ServerState) : Type 0 where
  pub moves : List Move
  pub fair : AreFair moves (core_of s)
  pub leads : core_of (state_after happenings s) ≡ moved_all moves (core_of s)
  pub told : IsWithin (facts_said (said_after happenings s)) (facts_of_all moves (core_of s))
  pub feeds : feeds_in moves ≡ fed_in happenings
  pub asked : AreAsked happenings moves
