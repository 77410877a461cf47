-- What is counted of a link's life.
use Rattle.std.specs.Prelude.{ℕ, ◌+◌, ◌==◌, List, [], ◌∷◌, if◌then◌else◌}
use Rattle.ua_session_msgs.specs.declared.request.SessionRequest.{SessionRequest}
use Rattle.ua_session_msgs.specs.declared.request.SessionRequest.TheVariants as session_request
use Rattle.ua_services.specs.declared.request.Request.{Request}
use Rattle.ua_services.specs.declared.request.Request.TheVariants as request
use Rattle.link_rules.specs.declared.notice.Notice.{Notice}
use Rattle.link_rules.specs.declared.notice.Notice.TheVariants as notice
use Rattle.link_rules.specs.State.{LinkState}
use Rattle.link_rules.specs.Said.{Said, Told, Asks}
use Rattle.link_rules.specs.Opening.{may_dial}
use Rattle.link_rules.specs.Step.{Happening, Dials, Ticks, after}

-- ---- dials

-- a dial is one where the link may dial
abbrev pub dial_at : Happening → LinkState → ℕ
dial_at Dials l = if may_dial l then 1 else 0
dial_at other l = 0

abbrev pub dials_in : List Happening → LinkState → ℕ
dials_in [] l = 0
dials_in (h ∷ more) l = dial_at h l + dials_in more (after h l).link

-- time that passes
abbrev pub tick_at : Happening → ℕ
tick_at (Ticks ms) = if ms == 0 then 0 else 1
tick_at other = 0

abbrev pub ticks_in : List Happening → ℕ
ticks_in [] = 0
ticks_in (h ∷ more) = tick_at h + ticks_in more

-- ---- levels

abbrev pub read_in_session : SessionRequest → ℕ
read_in_session (session_request.Read r) = 1
read_in_session other = 0

abbrev pub read_in : Request → ℕ
read_in (request.Session r) = read_in_session r
read_in (request.Subscription r) = 0

abbrev pub read_told : Told → ℕ
read_told (Asks number r) = read_in r
read_told other = 0

-- the Reads that are put
abbrev pub reads_put : List Said → ℕ
reads_put [] = 0
reads_put (said ∷ more) = read_told said.told + reads_put more

abbrev pub level_told : Notice → ℕ
level_told (notice.Level level) = 1
level_told other = 0

abbrev pub levels_told : List Notice → ℕ
levels_told [] = 0
levels_told (n ∷ more) = level_told n + levels_told more
