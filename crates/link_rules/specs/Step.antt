-- The phases of a link: in each, what it takes next and what a reply does; and all that may happen to a link.
use Rattle.std.specs.Prelude.{ℕ, List, [], ◌∷◌, Bool, true, false, Option, Some, None, Result, Ok, Err, if◌then◌else◌}
use Rattle.ua_base.specs.declared.modes.Mode.{Mode}
use Rattle.ua_structures.specs.declared.body.BodyFault.{BodyFault}
use Rattle.ua_structures.specs.Body.{body_at}
use Rattle.ua_channel.specs.declared.ear.Ear.{Ear}
use Rattle.ua_channel.specs.declared.ear.Ear.TheVariants as ear
use Rattle.ua_channel.specs.declared.heard.Heard.{Heard}
use Rattle.ua_channel.specs.declared.heard.Heard.TheVariants as heard_of
use Rattle.ua_channel.specs.State.{is_deaf}
use Rattle.ua_services.specs.declared.reply.Reply.{Reply}
use Rattle.ua_services.specs.Families.{replies}
use Rattle.link_rules.specs.declared.notice.Wish.{Wish}
use Rattle.link_rules.specs.declared.notice.Wish.TheVariants as wish
use Rattle.link_rules.specs.declared.phase.Phase.{Phase}
use Rattle.link_rules.specs.declared.phase.Phase.TheVariants as phase
use Rattle.link_rules.specs.declared.phase.ReadyState.{ReadyState}
use Rattle.link_rules.specs.State.{LinkState, ready_in, with_ready}
use Rattle.link_rules.specs.Said.{LinkDid, and_then, nothing}
use Rattle.link_rules.specs.Closing.{broken}
use Rattle.link_rules.specs.Publishing.{sets_mode}
use Rattle.link_rules.specs.Ready.{in_ready}
use Rattle.link_rules.specs.Subscribing.{in_adding, in_republishing, in_subscribing, in_transferring}
use Rattle.link_rules.specs.Starting.{in_activating, in_creating, in_probing}
use Rattle.link_rules.specs.Opening.{closed, dials, greeted, in_opening, opened, refused}
use Rattle.link_rules.specs.Time.{ticked}

-- ---- the phases

-- which frames are taken next; before a connection is opened no byte is awaited, and one that comes is a fault
abbrev pub ear_in : Phase → Ear
ear_in phase.Idle = ear.Deaf
ear_in (phase.Dialing taken) = ear.Acknowledge
ear_in phase.Hello = ear.Acknowledge
ear_in phase.Opening = ear.Opening
ear_in other = ear.Open

-- nothing is heard of a connection that is to be closed
abbrev pub ear_of : LinkState → Ear
ear_of l = if l.closes then ear.Deaf else ear_in l.phase

-- a reply in a MSG: the phase says which one is awaited, and another one closes the link
abbrev pub replied_in : Phase → Reply → LinkState → LinkDid
replied_in phase.Idle r l = broken l
replied_in (phase.Dialing taken) r l = broken l
replied_in phase.Hello r l = broken l
replied_in phase.Opening r l = broken l
replied_in phase.Creating r l = in_creating r l
replied_in phase.Activating r l = in_activating r l
replied_in phase.Probing r l = in_probing r l
replied_in phase.Transferring r l = in_transferring r l
replied_in (phase.Republishing wanted) r l = in_republishing r l
replied_in phase.Subscribing r l = in_subscribing r l
replied_in phase.Adding r l = in_adding r l
replied_in (phase.Ready ready) r l = in_ready r ready l

-- ---- what is heard

abbrev pub replied_by : Result Reply BodyFault → LinkState → LinkDid
replied_by (Ok r) l = replied_in l.phase r l
replied_by (Err fault) l = broken l

-- a body that is no reply's closes the link
unfoldable pub replied : List ℕ → LinkState → LinkDid
replied body l = replied_by (body_at replies body) l

abbrev pub opening_by : Result Reply BodyFault → LinkState → LinkDid
opening_by (Ok r) l = in_opening r l
opening_by (Err fault) l = broken l

-- a number that doesn't follow closes the link
unfoldable pub opening_replied : Bool → List ℕ → LinkState → LinkDid
opening_replied follows body l = if follows then opening_by (body_at replies body) l else broken l

abbrev pub hears : Heard → LinkState → LinkDid
hears (heard_of.Greeting body) l = greeted body l
hears (heard_of.Opening channel follows request body) l = opening_replied follows body l
hears (heard_of.Message request body) l = replied body l
hears heard_of.Close l = broken l
hears (heard_of.Fault code) l = broken l

-- what comes to a deaf link has no effect
unfoldable pub heard : Heard → LinkState → LinkDid
heard h l = if is_deaf (ear_of l) then nothing l else hears h l

-- ---- what the client wants

abbrev pub wants_in : Option ReadyState → Mode → LinkState → LinkDid
wants_in (Some ready) mode l = sets_mode (with_ready (record ready { wanted = Some mode }) l)
wants_in None mode l = nothing l

-- a mode of all items
unfoldable pub wants : Mode → LinkState → LinkDid
wants mode l = wants_in (ready_in l.phase) mode l

-- ---- what it wishes for its connection

abbrev pub wish_in : Phase → Wish
wish_in (phase.Dialing false) = wish.Dial
wish_in other = wish.None

-- that it be closed comes first
abbrev pub wish_of : LinkState → Wish
wish_of l = if l.closes then wish.Close else wish_in l.phase

abbrev pub taken_in : Phase → Phase
taken_in (phase.Dialing taken) = phase.Dialing true
taken_in other = other

-- a wish is taken once
abbrev pub wish_taken : LinkState → LinkState
wish_taken l = if l.closes then record l { closes = false } else record l { phase = taken_in l.phase }

-- ---- all that may happen

-- a connection to an endpoint is opened, is refused, or ended; something is heard; milliseconds go by; the client wants a
-- mode, or has it dial; its wish is taken
pub data Happening : Type 0 where
  Opens : Option (List ℕ) → Happening
  Refuses : Happening
  Closes : Happening
  Hears : Heard → Happening
  Ticks : ℕ → Happening
  Wants : Mode → Happening
  Dials : Happening
  Takes : Happening

abbrev pub after : Happening → LinkState → LinkDid
after (Opens url) l = opened url l
after Refuses l = refused l
after Closes l = closed l
after (Hears h) l = heard h l
after (Ticks ms) l = ticked ms l
after (Wants mode) l = wants mode l
after Dials l = nothing (dials l)
after Takes l = nothing (wish_taken l)

-- one after the other
abbrev pub after_all : List Happening → LinkState → LinkDid
after_all [] l = nothing l
after_all (happening ∷ more) l = and_then (after_all more) (after happening l)
