-- Messages that come on a connection of a server: over bytes and over messages.
use Rattle.std.proofs.Common.{◌≡◌, ℕ, true, List, [], ◌∷◌, map}
use Rattle.std.specs.List.{AllByRecursion}
use Rattle.ua_channel.specs.declared.heard.Heard.TheVariants as said
use Rattle.ua_channel.specs.State.{is_deaf}
use Rattle.ua_channel.specs.Arriving.{Chain, Sent, bytes_of}
use Rattle.message_ends.specs.Talk.{Talk}
use Rattle.message_ends.proofs.Coming.{AllComeFit, CameAll, Laws, hears}
use Rattle.server_rules.specs.State.{ServerState}
use Rattle.server_rules.specs.Step.{ears}
use Rattle.server_keeps.specs.Fitting.{FitsHeard, FitsServer}
use Rattle.server_keeps.specs.Lawful.{HasLimit}
use Rattle.ua_server.specs.State.{BytesState}
use Rattle.ua_server.specs.Step.{taken}
use Rattle.ua_server.proofs.Deafening as server
use Rattle.server_ends.specs.Matching.{Matches}
use Rattle.server_messages.specs.Fitting.{Brings, ComesFit}
use Rattle.server_messages.specs.Messages.{answers, heard}
use Rattle.server_messages.specs.Showing.{Awaits, ServerStands}
use Rattle.server_messages.proofs.Rules.{Rules, heard_brings, heard_keeps, heard_lawful}

-- a fault is the last thing that is heard
pub deafens : (conn code : ℕ) (s : ServerState) → is_deaf (ears conn (answers conn (said.Fault code) s).0) ≡ true
deafens conn code s = server.deafens conn code (record { hub = s; channels = [] })

laws_of : Rules → Laws ears answers FitsServer FitsHeard HasLimit Brings
laws_of law = record {
  deafens = deafens;
  keeps = heard_keeps law;
  lawful = heard_lawful law;
  brings = heard_brings law;
}

all_fit : (sent : List Sent) → AllByRecursion (λ (m : Sent). ComesFit m.wire) sent → AllComeFit ears answers FitsHeard sent
all_fit [] fit = tt
all_fit (m ∷ sent) fit = (fit.0, all_fit sent fit.1)

comes : (law : Rules) → (conn first next : ℕ) (firsts : ℕ → ℕ) (sent : List Sent) (r : BytesState) (t : Talk ServerState)
    → AllByRecursion (λ (m : Sent). ComesFit m.wire) sent → Chain first sent next → Awaits conn first r → ServerStands firsts r t
    → CameAll ears answers FitsServer FitsHeard HasLimit Brings (laws_of law) conn next firsts r (taken conn (bytes_of sent) r)
    (heard conn (map (λ (m : Sent). m.wire) sent) t)
unfolding taken
comes law conn first next firsts sent r t fit chain awaits s =
    hears ears answers FitsServer FitsHeard HasLimit Brings (laws_of law) conn first next firsts sent r t (all_fit sent fit) chain awaits s.stands

pub shows_heard : Rules → ((bytes : List ℕ) (conn : ℕ) (r : BytesState) → Matches r → Matches (taken conn bytes r))
    → (conn first next : ℕ) (firsts : ℕ → ℕ) (sent : List Sent) (r : BytesState) (t : Talk ServerState)
    → AllByRecursion (λ (m : Sent). ComesFit m.wire) sent → Chain first sent next → Awaits conn first r → ServerStands firsts r t
    → ServerStands firsts (taken conn (bytes_of sent) r) (heard conn (map (λ (m : Sent). m.wire) sent) t)
shows_heard law matches conn first next firsts sent r t fit chain awaits s = record {
  stands = (comes law conn first next firsts sent r t fit chain awaits s).stands;
  matches = matches (bytes_of sent) conn r s.matches;
}

pub awaits_heard : Rules → (conn first next : ℕ) (firsts : ℕ → ℕ) (sent : List Sent) (r : BytesState) (t : Talk ServerState)
    → AllByRecursion (λ (m : Sent). ComesFit m.wire) sent → Chain first sent next → Awaits conn first r → ServerStands firsts r t
    → Awaits conn next (taken conn (bytes_of sent) r)
awaits_heard law conn first next firsts sent r t fit chain awaits s = (comes law conn first next firsts sent r t fit chain awaits s).awaits
