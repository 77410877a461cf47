-- A link of which nothing is heard: a fault makes one, and what the client wants leaves it so.
use Rattle.std.proofs.Common.{◌≡◌, Bool, true, false, cond, ◌||◌, ◌∷◌, [], Option, Some, None, ℕ, refl, sym, ◌∙◌, ap}
use Rattle.ua_base.specs.declared.modes.Mode.{Mode}
use Rattle.ua_channel.specs.declared.ear.Ear.TheVariants as ear
use Rattle.ua_channel.specs.declared.heard.Heard.TheVariants as said
use Rattle.ua_channel.specs.State.{is_deaf}
use Rattle.ua_services.specs.declared.request.Request.{Request}
use Rattle.link_rules.specs.declared.notice.Notice.{Notice}
use Rattle.link_rules.specs.declared.notice.Notice.TheVariants as notice
use Rattle.link_rules.specs.declared.phase.Phase.{Phase}
use Rattle.link_rules.specs.declared.phase.Phase.TheVariants as phase
use Rattle.link_rules.specs.declared.phase.ReadyState.{ReadyState}
use Rattle.link_rules.specs.declared.remembered.Remembered.{Remembered}
use Rattle.link_rules.specs.Asking.{asked, next_request, numbered}
use Rattle.link_rules.specs.Closing.{broken, stands_in}
use Rattle.link_rules.specs.Publishing.{mode_due, sets, sets_if, sets_in, sets_mode, tells_sent, with_setting}
use Rattle.link_rules.specs.Requests.{mode_request}
use Rattle.link_rules.specs.Said.{Asks, nothing, tells}
use Rattle.link_rules.specs.State.{LinkState, is_ready, ready_in, with_ready}
use Rattle.link_rules.specs.Step.{ear_in, ear_of, heard, hears, wants, wants_in}

abbrev pub IsDeaf : LinkState → Type 0
IsDeaf l = is_deaf (ear_of l) ≡ true

-- ---- one whose connection is to be closed

closing_deaf : (l : LinkState) → l.closes ≡ true → IsDeaf l
closing_deaf l e = ap (λ b. is_deaf (cond b ear.Deaf (ear_in l.phase))) e

asked_by : (b : Bool) (request : Request) (l : LinkState) → l.closes ≡ true
    → (cond b (numbered (Asks (next_request l) request) l) (broken l)).link.closes ≡ true
unfolding broken
asked_by true request l e = e
asked_by false request l e = ap (λ b. b || stands_in l.phase) e

asked_closes : (request : Request) (l : LinkState) → l.closes ≡ true → (asked request l).link.closes ≡ true
unfolding asked
asked_closes request l e = asked_by _ request l e

sent_by : (b : Bool) (n : Notice) (l : LinkState) → (cond b (tells (n ∷ []) l) (nothing l)).link ≡ l
sent_by true n l = refl
sent_by false n l = refl

sent_stays : (mode : Mode) (l : LinkState) → (tells_sent mode l).link ≡ l
unfolding tells_sent
sent_stays mode l = sent_by (is_ready l) (notice.Sent mode) l

sets_closes : (mode : Mode) (ready : ReadyState) (remembered : Remembered) (l : LinkState) → l.closes ≡ true
    → (sets mode ready remembered l).link.closes ≡ true
unfolding sets
sets_closes mode ready remembered l e =
    ap (λ (k : LinkState). k.closes) (sent_stays mode (asked (mode_request remembered.id mode l) (with_setting mode ready l)).link)
    ∙ asked_closes (mode_request remembered.id mode l) (with_setting mode ready l) e

sets_if_closes : (due : Option Mode) (ready : ReadyState) (remembered : Option Remembered) (l : LinkState) → l.closes ≡ true
    → (sets_if due ready remembered l).link.closes ≡ true
sets_if_closes None ready remembered l e = e
sets_if_closes (Some mode) ready None l e = e
sets_if_closes (Some mode) ready (Some remembered) l e = sets_closes mode ready remembered l e

sets_in_closes : (o : Option ReadyState) (l : LinkState) → l.closes ≡ true → (sets_in o l).link.closes ≡ true
sets_in_closes None l e = e
sets_in_closes (Some ready) l e = sets_if_closes (mode_due ready) ready l.remembered l e

sets_mode_closes : (l : LinkState) → l.closes ≡ true → (sets_mode l).link.closes ≡ true
unfolding sets_mode
sets_mode_closes l e = sets_in_closes (ready_in l.phase) l e

-- ---- what the client wants

closes_of : (b : Bool) → is_deaf (cond b ear.Deaf ear.Open) ≡ true → b ≡ true
closes_of true e = refl
closes_of false e = absurd cc

ready_closes : (ready : ReadyState) (l : LinkState) → l.phase ≡ phase.Ready ready → IsDeaf l → l.closes ≡ true
ready_closes ready l e deaf =
    closes_of l.closes (ap (λ (p : Phase). is_deaf (cond l.closes ear.Deaf (ear_in p))) (sym e) ∙ deaf)

wants_by : (p : Phase) (mode : Mode) (l : LinkState) → l.phase ≡ p → IsDeaf l → IsDeaf (wants_in (ready_in p) mode l).link
wants_by (phase.Ready ready) mode l e deaf =
    let next : LinkState = with_ready (record ready { wanted = Some mode }) l in
    closing_deaf (sets_mode next).link (sets_mode_closes next (ready_closes ready l e deaf))
wants_by phase.Idle mode l e deaf = deaf
wants_by other mode l e deaf = deaf

pub wants_deaf : (mode : Mode) (l : LinkState) → IsDeaf l → IsDeaf (wants mode l).link
unfolding wants
wants_deaf mode l deaf = wants_by l.phase mode l refl deaf

-- ---- a fault

idle_deaf : (b : Bool) → is_deaf (cond b ear.Deaf ear.Deaf) ≡ true
idle_deaf true = refl
idle_deaf false = refl

broken_deaf : (l : LinkState) → IsDeaf (broken l).link
unfolding broken
broken_deaf l = idle_deaf (l.closes || stands_in l.phase)

fault_by : (b : Bool) (code : ℕ) (l : LinkState) → is_deaf (ear_of l) ≡ b
    → IsDeaf (cond b (nothing l) (hears (said.Fault code) l)).link
fault_by true code l e = e
fault_by false code l e = broken_deaf l

pub fault_deaf : (code : ℕ) (l : LinkState) → IsDeaf (heard (said.Fault code) l).link
unfolding heard
fault_deaf code l = fault_by (is_deaf (ear_of l)) code l refl
