-- The ServiceLevel that a link reads, and that a server tells (OPC 10000-5, 6.3.1; OPC 10000-4, 5.10.2).
use Rattle.std.specs.Prelude.{◌≡◌, ℕ, List, ◌∷◌, Option, Some, Ok}
use Rattle.ua_channel.specs.declared.heard.Heard.TheVariants as heard
use Rattle.ua_variants.specs.declared.variant.Stamped.{Stamped}
use Rattle.ua_variants.specs.declared.variant.Variant.{Variant}
use Rattle.ua_structures.specs.declared.shared.ReadValueId.{ReadValueId}
use Rattle.ua_session_msgs.specs.declared.attribute.ReadRequest.{ReadRequest}
use Rattle.ua_session_msgs.specs.declared.reply.SessionReply.TheVariants as session_reply
use Rattle.ua_session_msgs.specs.declared.request.SessionRequest.TheVariants as session_request
use Rattle.ua_services.specs.declared.reply.Reply.{Reply}
use Rattle.ua_services.specs.declared.reply.Reply.TheVariants as reply
use Rattle.ua_services.specs.declared.request.Request.TheVariants as request
use Rattle.ua_services.specs.Requests.{request_at}
use Rattle.link_rules.specs.declared.notice.Notice.{Notice}
use Rattle.link_rules.specs.declared.notice.Notice.TheVariants as notice
use Rattle.link_rules.specs.Ready.{level_of}
use Rattle.link_rules.specs.Requests.{value_id}
use Rattle.link_rules.specs.Said as link
use Rattle.link_rules.specs.Step as alone
use Rattle.link_laws.specs.Taken.{reply_of}
use Rattle.server_rules.specs.State.{ServerState}
use Rattle.server_rules.specs.Said.{Replied, Said, Told}
use Rattle.server_rules.specs.Step.{Happening, Hears}

-- ---- what is asked for

-- the first node is ServiceLevel, number 2267 of namespace 0 (OPC 10000-6, annex A.3)
abbrev pub IsForLevel : List ReadValueId → Type 0
IsForLevel nodes = (more : List ReadValueId) × (nodes ≡ value_id 0 2267 ∷ more)

-- a link that reads, reads it first
abbrev pub AsksForLevel : link.Told → Type 0
AsksForLevel (link.Asks number (request.Session (session_request.Read r))) = IsForLevel r.nodes_to_read
AsksForLevel other = Unit {0}

-- ---- what is answered

-- the first value is this level
abbrev pub TellLevel : ℕ → List (Stamped Variant) → Type 0
TellLevel level values =
    (value : Stamped Variant) × (more : List (Stamped Variant)) × (values ≡ value ∷ more) × (level_of value ≡ Some level)

abbrev pub IsReadOf : ℕ → Option Reply → Type 0
IsReadOf level (Some (reply.Session (session_reply.Read r))) = TellLevel level r.results
IsReadOf level other = ⊥

-- a level that is told in an event is the first value of the Read response that came
abbrev pub IsRead : alone.Happening → Notice → Type 0
IsRead h (notice.Level level) = IsReadOf level (reply_of h)
IsRead h other = Unit {0}

-- a Read response is said where a Read was heard, on its connection; and where that asked for ServiceLevel first, its first
-- value is the level that the server had when it was heard
pub record AnswersRead (happening : Happening) (s : ServerState) (conn : ℕ) (values : List (Stamped Variant)) : Type 0 where
  pub number : ℕ
  pub body : List ℕ
  pub asked : ReadRequest
  pub is : happening ≡ Hears conn (heard.Message number body)
  pub reads : request_at body ≡ Ok (request.Session (session_request.Read asked))
  pub tells : IsForLevel asked.nodes_to_read → TellLevel s.level values

abbrev pub IsLevelTold : Happening → ServerState → ℕ → Told → Type 0
IsLevelTold happening s conn (Replied request (reply.Session (session_reply.Read r))) = AnswersRead happening s conn r.results
IsLevelTold happening s conn other = Unit {0}

abbrev pub IsLevelSaid : Happening → ServerState → Said → Type 0
IsLevelSaid happening s said = IsLevelTold happening s said.conn said.told
