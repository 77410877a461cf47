-- What a link says where it knows the limits of the connection that it uses, if it uses one.
use Rattle.std.proofs.Common.{◌≡◌, ℕ, ◌≤◌, ◌||◌, List, [], ◌∷◌, Bool, true, false, Option, Some, None, Result, Ok, Err, if◌then◌else◌, refl, sym, ap, ◌∙◌, subst, arith}
use Rattle.ua_base.specs.declared.modes.Mode.{Mode}
use Rattle.ua_channel.specs.declared.heard.Heard.{Heard}
use Rattle.ua_channel.specs.declared.heard.Heard.TheVariants as said
use Rattle.ua_channel.specs.State.{is_deaf}
use Rattle.ua_structures.specs.declared.body.BodyFault.{BodyFault}
use Rattle.ua_structures.specs.Body.{body_at}
use Rattle.ua_session_msgs.specs.declared.channel.ChannelSecurityToken.{ChannelSecurityToken}
use Rattle.ua_session_msgs.specs.declared.channel.OpenSecureChannelResponse.{OpenSecureChannelResponse}
use Rattle.ua_session_msgs.specs.declared.reply.SessionReply.TheVariants as session_reply
use Rattle.ua_services.specs.declared.reply.Reply.{Reply}
use Rattle.ua_services.specs.declared.reply.Reply.TheVariants as reply
use Rattle.ua_services.specs.Families.{replies}
use Rattle.link_rules.specs.declared.phase.Phase.{Phase}
use Rattle.link_rules.specs.declared.phase.Phase.TheVariants as phase
use Rattle.link_rules.specs.declared.phase.ReadyState.{ReadyState}
use Rattle.link_rules.specs.State.{LinkState, is_ready_phase, ready_in, with_phase}
use Rattle.link_rules.specs.Said.{LinkDid, Said, Told, Greeted, Opens, Asks, Limited, Renewed, and_then, nothing, says}
use Rattle.link_rules.specs.Requests.{hello}
use Rattle.link_rules.specs.Closing.{broken, dropped, stands_in}
use Rattle.link_rules.specs.Ready as ready_rules
use Rattle.link_rules.specs.Opening as open_rules
use Rattle.link_rules.specs.Time as time_rules
use Rattle.link_rules.specs.Step as step_rules
use Rattle.client_orders.specs.Holding.{HoldsConnection}
use Rattle.client_orders.proofs.Saying.{AreShort, Does, FitsHeader, Stands, limit_after}

-- ---- what a link says that uses no connection: a HEL, or that its channel is renewed

abbrev IsLight : Told → Type 0
IsLight (Greeted greeting url) = Unit {0}
IsLight (Opens number r) = ⊥
IsLight (Asks number r) = ⊥
IsLight (Limited limits) = ⊥
IsLight (Renewed channel token) = Unit {0}

abbrev AreLight : List Said → Type 0
AreLight [] = Unit {0}
AreLight (one ∷ said) = IsLight one.told × AreLight said

-- so a limit doesn't matter to it
light_first : (m n : ℕ) (channel token : ℕ) (told : Told) (said : List Said) → IsLight told → AreLight said
    → AreShort m (record { channel = channel; token = token; told = told } ∷ said)
    → (AreShort m said → AreShort n said) → AreShort n (record { channel = channel; token = token; told = told } ∷ said)
light_first m n channel token (Greeted greeting url) said light more short rest = (short.0, rest short.1)
light_first m n channel token (Opens number r) said light more short rest = absurd light
light_first m n channel token (Asks number r) said light more short rest = absurd light
light_first m n channel token (Limited limits) said light more short rest = absurd light
light_first m n channel token (Renewed new other) said light more short rest = (tt, rest short.1)

light_short : (m n : ℕ) (said : List Said) → AreLight said → AreShort m said → AreShort n said
light_short m n [] light short = tt
light_short m n (one ∷ said) light short =
    light_first m n one.channel one.token one.told said light.0 light.1 short (light_short m n said light.1)

-- where it uses one afterwards, nothing is known of its server
pub record Idles (did : LinkDid) : Type 0 where
  pub light : AreLight did.said
  pub limit : stands_in did.link.phase ≡ true → did.link.conversation.limit ≡ 0

not_both : (b : Bool) → b ≡ true → b ≡ false → ⊥
not_both true first second = cc
not_both false first second = cc

idles_nothing : (l : LinkState) → stands_in l.phase ≡ false → Idles (nothing l)
idles_nothing l idle = record { light = tt; limit = λ stands. absurd (not_both (stands_in l.phase) stands idle) }

idles_if : (b : Bool) (one other : LinkDid) → Idles one → Idles other → Idles (if b then one else other)
idles_if true one other first second = first
idles_if false one other first second = second

broken_idles : (l : LinkState) → Idles (broken l)
unfolding broken
broken_idles l = record { light = tt; limit = λ stands. absurd (not_both false stands refl) }

dropped_idles : (l : LinkState) → Idles (dropped l)
unfolding dropped
dropped_idles l = record { light = tt; limit = λ stands. absurd (not_both false stands refl) }

-- ---- what is heard

greeted_idles : (p : Phase) (body : List ℕ) (l : LinkState) → stands_in p ≡ false → Idles (open_rules.greeted_in p body l)
greeted_idles phase.Hello body l idle = absurd cc
greeted_idles phase.Idle body l idle = broken_idles l
greeted_idles other body l idle = broken_idles l

renews_idles : (t : ChannelSecurityToken) (l : LinkState) → stands_in l.phase ≡ false → Idles (open_rules.renews t l)
unfolding open_rules.renews
renews_idles t l idle = record { light = (tt, tt); limit = λ stands. absurd (not_both (stands_in l.phase) stands idle) }

renewed_idles : (r : OpenSecureChannelResponse) (l : LinkState) → stands_in l.phase ≡ false
    → Idles (if ready_rules.is_answer_to l.conversation.renewal r.response_header then
    open_rules.renews r.security_token (open_rules.heard_once l) else broken l)
renewed_idles r l idle =
    idles_if (ready_rules.is_answer_to l.conversation.renewal r.response_header)
    (open_rules.renews r.security_token (open_rules.heard_once l)) (broken l)
    (renews_idles r.security_token (open_rules.heard_once l) idle) (broken_idles l)

channel_idles : (p : Phase) (r : OpenSecureChannelResponse) (l : LinkState) → stands_in p ≡ false → stands_in l.phase ≡ false
    → Idles (open_rules.channel_replied_in p r l)
unfolding open_rules.channel_replied_in
channel_idles phase.Opening r l is idle = absurd cc
channel_idles phase.Idle r l is idle = renewed_idles r l idle
channel_idles other r l is idle = renewed_idles r l idle

opening_idles : (r : Reply) (l : LinkState) → stands_in l.phase ≡ false → Idles (open_rules.in_opening r l)
unfolding open_rules.in_opening
opening_idles (reply.Session (session_reply.OpenSecureChannel r)) l idle = channel_idles l.phase r l idle idle
opening_idles other l idle = broken_idles l

read_opening : (result : Result Reply BodyFault) (l : LinkState) → stands_in l.phase ≡ false → Idles (step_rules.opening_by result l)
read_opening (Ok r) l idle = opening_idles r l idle
read_opening (Err fault) l idle = broken_idles l

replied_idles : (p : Phase) (r : Reply) (l : LinkState) → stands_in p ≡ false → Idles (step_rules.replied_in p r l)
replied_idles phase.Idle r l idle = broken_idles l
replied_idles (phase.Dialing taken) r l idle = broken_idles l
replied_idles other r l idle = absurd cc

read_reply : (result : Result Reply BodyFault) (l : LinkState) → stands_in l.phase ≡ false → Idles (step_rules.replied_by result l)
read_reply (Ok r) l idle = replied_idles l.phase r l idle
read_reply (Err fault) l idle = broken_idles l

hears_idles : (h : Heard) (l : LinkState) → stands_in l.phase ≡ false → Idles (step_rules.hears h l)
unfolding open_rules.greeted step_rules.opening_replied step_rules.replied
hears_idles (said.Greeting body) l idle = greeted_idles l.phase body l idle
hears_idles (said.Opening channel follows request body) l idle =
    idles_if follows (step_rules.opening_by (body_at replies body) l) (broken l) (read_opening (body_at replies body) l idle) (broken_idles l)
hears_idles (said.Message request body) l idle = read_reply (body_at replies body) l idle
hears_idles said.Close l idle = broken_idles l
hears_idles (said.Fault code) l idle = broken_idles l

pub heard_idles : (h : Heard) (l : LinkState) → stands_in l.phase ≡ false → Idles (step_rules.heard h l)
unfolding step_rules.heard
heard_idles h l idle =
    idles_if (is_deaf (step_rules.ear_of l)) (nothing l) (step_rules.hears h l) (idles_nothing l idle) (hears_idles h l idle)

-- ---- other events

greets_idles : (url : Option (List ℕ)) (l : LinkState) → l.conversation.limit ≡ 0 → Idles (open_rules.greets url l)
unfolding open_rules.greets
greets_idles url l none =
    idles_if (open_rules.is_short url) (says (Greeted hello url) l) (broken l) (record { light = (tt, tt); limit = λ stands. none })
    (broken_idles l)

opened_in : (p : Phase) (url : Option (List ℕ)) (l : LinkState) → stands_in p ≡ false → stands_in l.phase ≡ false
    → Idles (open_rules.opened_in p url l)
opened_in phase.Idle url l is idle =
    record { light = tt; limit = λ stands. absurd (not_both (stands_in l.phase) stands idle) }
opened_in (phase.Dialing taken) url l is idle = greets_idles url (open_rules.connected url l) refl
opened_in other url l is idle = broken_idles l

pub opened_idles : (url : Option (List ℕ)) (l : LinkState) → stands_in l.phase ≡ false → Idles (open_rules.opened url l)
unfolding open_rules.opened
opened_idles url l idle = opened_in l.phase url l idle idle

refused_in : (p : Phase) (l : LinkState) → stands_in l.phase ≡ false → Idles (open_rules.refused_in p l)
refused_in (phase.Dialing taken) l idle = dropped_idles l
refused_in other l idle = idles_nothing l idle

pub refused_idles : (l : LinkState) → stands_in l.phase ≡ false → Idles (open_rules.refused l)
unfolding open_rules.refused
refused_idles l idle = refused_in l.phase l idle

closed_in : (p : Phase) (l : LinkState) → stands_in l.phase ≡ false → Idles (open_rules.closed_in p l)
closed_in phase.Idle l idle = idles_nothing l idle
closed_in (phase.Dialing taken) l idle = idles_nothing l idle
closed_in other l idle = dropped_idles l

pub closed_idles : (l : LinkState) → stands_in l.phase ≡ false → Idles (open_rules.closed l)
unfolding open_rules.closed
closed_idles l idle =
    idles_if l.closes (nothing (record l { closes = false })) (open_rules.closed_in l.phase l)
    (record { light = tt; limit = λ stands. absurd (not_both (stands_in l.phase) stands idle) }) (closed_in l.phase l idle)

not_ready : (p : Phase) → stands_in p ≡ false → is_ready_phase p ≡ false
not_ready phase.Idle idle = refl
not_ready (phase.Dialing taken) idle = refl
not_ready other idle = absurd cc

none_ready : (p : Phase) → stands_in p ≡ false → ready_in p ≡ None
none_ready phase.Idle idle = refl
none_ready (phase.Dialing taken) idle = refl
none_ready other idle = absurd cc

keeps_idle : (l : LinkState) → stands_in l.phase ≡ false → Idles (time_rules.keeps_up l)
unfolding time_rules.keeps_up
keeps_idle l idle =
    subst (λ (b : Bool). Idles (if b then and_then time_rules.renews_token (time_rules.reads_level l) else nothing l))
    (sym (not_ready l.phase idle)) (idles_nothing l idle)

pub ticked_idles : (ms : ℕ) (l : LinkState) → stands_in l.phase ≡ false → Idles (time_rules.ticked ms l)
unfolding time_rules.ticked
ticked_idles ms l idle =
    let now : LinkState = time_rules.aged ms l in
    idles_if (time_rules.is_overdue now) (broken now) (time_rules.keeps_up now) (broken_idles now) (keeps_idle now idle)

pub wants_idles : (mode : Mode) (l : LinkState) → stands_in l.phase ≡ false → Idles (step_rules.wants mode l)
unfolding step_rules.wants
wants_idles mode l idle =
    subst (λ (o : Option ReadyState). Idles (step_rules.wants_in o mode l)) (sym (none_ready l.phase idle)) (idles_nothing l idle)

dials_idle : (b : Bool) (l : LinkState) → stands_in l.phase ≡ false
    → Idles (nothing (if b then with_phase (phase.Dialing false) l else l))
dials_idle true l idle = record { light = tt; limit = λ stands. absurd (not_both false stands refl) }
dials_idle false l idle = idles_nothing l idle

taken_apart : (p : Phase) → stands_in p ≡ false → stands_in (step_rules.taken_in p) ≡ false
taken_apart phase.Idle idle = refl
taken_apart (phase.Dialing taken) idle = refl
taken_apart other idle = absurd cc

taken_idle : (b : Bool) (l : LinkState) → stands_in l.phase ≡ false
    → Idles (nothing (if b then record l { closes = false } else record l { phase = step_rules.taken_in l.phase }))
taken_idle true l idle = record { light = tt; limit = λ stands. absurd (not_both (stands_in l.phase) stands idle) }
taken_idle false l idle =
    record { light = tt; limit = λ stands. absurd (not_both (stands_in (step_rules.taken_in l.phase)) stands (taken_apart l.phase idle)) }

pub after_idles : (h : step_rules.Happening) (l : LinkState) → stands_in l.phase ≡ false → Idles (step_rules.after h l)
after_idles (step_rules.Opens url) l idle = opened_idles url l idle
after_idles step_rules.Refuses l idle = refused_idles l idle
after_idles step_rules.Closes l idle = closed_idles l idle
after_idles (step_rules.Hears h) l idle = heard_idles h l idle
after_idles (step_rules.Ticks ms) l idle = ticked_idles ms l idle
after_idles (step_rules.Wants mode) l idle = wants_idles mode l idle
after_idles step_rules.Dials l idle = dials_idle (open_rules.may_dial l) l idle
after_idles step_rules.Takes l idle = taken_idle l.closes l idle

-- ---- a limit that is known always, or where a connection is used

abbrev pub Limits : Bool → ℕ → LinkState → Type 0
Limits always n l = (always || stands_in l.phase) ≡ true → l.conversation.limit ≤ n

pub record Rests (H K : Type 0) (always : Bool) (n : ℕ) (l : LinkState) : Type 0 where
  pub limit : K → Limits always n l
  pub holds : H → HoldsConnection l
  pub header : K → FitsHeader l

pub record Uses (H K : Type 0) (always : Bool) (n : ℕ) (did : LinkDid) : Type 0 where
  pub short : K → AreShort n did.said
  pub limit : K → Limits always (limit_after n did.said) did.link
  pub holds : H → HoldsConnection did.link

or_first : (a b : Bool) → (a || b) ≡ false → a ≡ false
or_first true b e = e
or_first false b e = refl

or_second : (a b : Bool) → (a || b) ≡ false → b ≡ false
or_second true b e = absurd cc
or_second false b e = e

pub uses_of : (J H K : Type 0) (always : Bool) (n : ℕ) (l : LinkState) (did : LinkDid) → Rests J K always n l
    → ((m : ℕ) → Stands J K m l → Does H K m did) → (stands_in l.phase ≡ false → Idles did) → Uses H K always n did
uses_of J H K always n l did on does idles = by_test (always || stands_in l.phase) refl
  where
    by_test : (b : Bool) → (always || stands_in l.phase) ≡ b → Uses H K always n did
    by_test true test =
        let did_so : Does H K n did = does n (record { limit = λ k. on.limit k test; holds = on.holds; header = on.header }) in
        record { short = did_so.short; limit = λ k used. did_so.after.limit k; holds = did_so.after.holds }
    by_test false test =
        let idle : Idles did = idles (or_second always (stands_in l.phase) test) in
        let did_so : Does H K l.conversation.limit did =
        does l.conversation.limit (record { limit = λ k. omega arith; holds = on.holds; header = on.header }) in
        record {
          short = λ k. light_short l.conversation.limit n did.said idle.light (did_so.short k);
          limit = λ k used.
              let none : did.link.conversation.limit ≡ 0 =
              idle.limit (subst (λ (a : Bool). (a || stands_in did.link.phase) ≡ true) (or_first always (stands_in l.phase) test) used) in
              omega arith;
          holds = did_so.after.holds;
        }
