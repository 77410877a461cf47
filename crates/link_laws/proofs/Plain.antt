-- What moves leave alone.
use Rattle.std.proofs.Common.{◌≡◌, ℕ, List, [], ◌∷◌, Bool, true, false, if◌then◌else◌, refl, sym, ap, ◌∙◌, subst}
use Rattle.ua_sub_msgs.specs.declared.notification.MonitoredItemNotification.{MonitoredItemNotification}
use Rattle.link_rules.specs.declared.notice.Notice.TheVariants as notice
use Rattle.link_rules.specs.declared.remembered.Remembered.{Remembered}
use Rattle.link_rules.specs.State.{LinkState}
use Rattle.link_rules.specs.Said.{LinkDid, nothing, tells}
use Rattle.link_rules.specs.Messages.{acknowledged, all_taken, awaits, data_taken, kept_alive, newest}
use Rattle.link_rules.specs.Numbers.{is_jump, is_next}
use Rattle.link_rules.specs.Step.{Happening, after, after_all}
use Rattle.link_laws.proofs.Moves.{AreFair, AreSilent, Asking, Channel, Session, Activation, Probe, Transfer, Again, Subscription, Items, Publish, Modes, Level, Renewal, IsFair, Leave, Move, Turns, Falls, Greets, Puts, Keeps, Brings, begun, done, done_all, left, leave_of, Sets}
use Rattle.link_laws.proofs.Opening.{happens}

-- ---- messages of the subscription

pub record IsBringing (l : LinkState) (did : LinkDid) : Type 0 where
  pub said : did.said ≡ []
  pub phase : did.link.phase ≡ l.phase
  pub config : did.link.config ≡ l.config
  pub wait : did.link.wait ≡ l.wait
  pub talk : did.link.conversation ≡ l.conversation

pub alive_brings : (number : ℕ) (remembered : Remembered) (l : LinkState) → IsBringing l (kept_alive number remembered l)
unfolding kept_alive
alive_brings number remembered l = by_test (is_jump remembered.next number)
  where
    by_test : (b : Bool) → IsBringing l (if b then tells (notice.Jump ∷ []) (awaits number remembered l) else nothing l)
    by_test true = record { said = refl; phase = refl; config = refl; wait = refl; talk = refl }
    by_test false = record { said = refl; phase = refl; config = refl; wait = refl; talk = refl }

pub data_brings : (number : ℕ) (values : List MonitoredItemNotification) (remembered : Remembered) (l : LinkState)
    → IsBringing l (data_taken number values remembered l)
unfolding data_taken
data_brings number values remembered l = by_tests (is_next remembered.next number) (is_jump remembered.next number)
  where
    by_tests : (a b : Bool) → IsBringing l (if a then tells (all_taken l.monitored values) (newest number remembered l)
        else if b then tells (notice.Jump ∷ all_taken l.monitored values) (newest number remembered l)
        else nothing (acknowledged number l))
    by_tests true b = record { said = refl; phase = refl; config = refl; wait = refl; talk = refl }
    by_tests false true = record { said = refl; phase = refl; config = refl; wait = refl; talk = refl }
    by_tests false false = record { said = refl; phase = refl; config = refl; wait = refl; talk = refl }

-- ---- what is said

abbrev pub is_speaking : Move → Bool
is_speaking (Greets url) = true
is_speaking (Puts a) = true
is_speaking (Sets mode ready id) = true
is_speaking other = false

pub move_silent : (leave : Leave) (move : Move) (l : LinkState) → IsFair leave move l → is_speaking move ≡ false → AreSilent (done move l).said
move_silent leave (Turns did) l h e = h.silent
move_silent leave (Falls did) l h e = subst AreSilent (sym h.said) tt
move_silent leave (Greets url) l h e = absurd cc
move_silent leave (Puts a) l h e = absurd cc
move_silent leave (Sets mode ready id) l h e = absurd cc
move_silent leave (Keeps number remembered) l h e = subst AreSilent (sym (alive_brings number remembered l).said) tt
move_silent leave (Brings number values remembered) l h e = subst AreSilent (sym (data_brings number values remembered l).said) tt
move_silent leave other l h e = tt

-- ---- the configuration

begun_config : (a : Asking) (l : LinkState) → (begun a l).config ≡ l.config
begun_config Channel l = refl
begun_config Session l = refl
begun_config Activation l = refl
begun_config Probe l = refl
begun_config (Transfer id) l = refl
begun_config (Again id number wanted) l = refl
begun_config Subscription l = refl
begun_config (Items id) l = refl
begun_config (Publish ready remembered) l = refl
begun_config (Modes mode ready id) l = refl
begun_config Level l = refl
begun_config Renewal l = refl

pub move_config : (leave : Leave) (move : Move) (l : LinkState) → IsFair leave move l → (done move l).link.config ≡ l.config
move_config leave (Turns did) l h = h.same.config
move_config leave (Falls did) l h = h.config
move_config leave (Puts a) l h = begun_config a l
move_config leave (Sets mode ready id) l h = begun_config (Modes mode ready id) l
move_config leave (Keeps number remembered) l h = (alive_brings number remembered l).config
move_config leave (Brings number values remembered) l h = (data_brings number values remembered l).config
move_config leave other l h = refl

moves_config : (leave : Leave) (moves : List Move) (l : LinkState) → AreFair leave moves l → (done_all moves l).link.config ≡ l.config
moves_config leave [] l h = refl
moves_config leave (move ∷ moves) l h =
    moves_config (left move leave) moves (done move l).link h.1 ∙ move_config leave move l h.0

pub event_config : (h : Happening) (l : LinkState) → (after h l).link.config ≡ l.config
event_config h l =
    let comes = happens h l in
    ap (λ (d : LinkDid). d.link.config) comes.is ∙ moves_config (leave_of h) comes.moves l comes.fair

pub config_stays : (happenings : List Happening) (l : LinkState) → (after_all happenings l).link.config ≡ l.config
config_stays [] l = refl
config_stays (h ∷ more) l = config_stays more (after h l).link ∙ event_config h l
