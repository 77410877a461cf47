-- A level that was read is one that the server had (OPC 10000-4, 6.6.2.4.2).
use Rattle.std.specs.Prelude.{◌≡◌, ℕ, List, ◌∷◌, ◌++◌, Ok}
use Rattle.ua_channel.specs.declared.heard.Heard.TheVariants as heard
use Rattle.ua_session_msgs.specs.declared.attribute.ReadRequest.{ReadRequest}
use Rattle.ua_session_msgs.specs.declared.request.SessionRequest.TheVariants as session_request
use Rattle.ua_services.specs.declared.request.Request.TheVariants as request
use Rattle.ua_services.specs.Requests.{request_at}
use Rattle.link_rules.specs.declared.notice.Notice.{Notice}
use Rattle.link_rules.specs.declared.notice.Notice.TheVariants as notice
use Rattle.server_rules.specs.Acts.{state_after}
use Rattle.server_rules.specs.Step.{Happening, Hears}
use Rattle.set_talks.specs.Meetings.{Life, start_of}

-- one of these lives had this level when it heard a Read, before which all that is earlier had happened to it
pub record WasLevel (lives : List Life) (level : ℕ) : Type 0 where
  pub newer : List Life
  pub life : Life
  pub older : List Life
  pub among : lives ≡ newer ++ life ∷ older
  pub later : List Happening
  pub conn : ℕ
  pub number : ℕ
  pub body : List ℕ
  pub earlier : List Happening
  pub are : life.happenings ≡ later ++ Hears conn (heard.Message number body) ∷ earlier
  pub asked : ReadRequest
  pub reads : request_at body ≡ Ok (request.Session (session_request.Read asked))
  pub had : (state_after earlier (start_of life)).level ≡ level

-- each level among these notices
abbrev pub HadLevel : List Life → Notice → Type 0
HadLevel lives (notice.Level level) = WasLevel lives level
HadLevel lives other = Unit {0}
