-- What is heard of a message that was put is what was said.
use Rattle.std.proofs.Common.{◌≡◌, ℕ, ◌==◌, List, [], ◌∷◌, Bool, true, false, cond, not, Some, refl, sym, ap, ◌∙◌, subst, arith, ◌⊎◌, inl, inr}
use Rattle.std.specs.Prelude.{reverse}
use Rattle.std.specs.List.{AllByRecursion}
use Rattle.std.proofs.lemmas.Bool.Decides.{nat_tests}
use Rattle.ua_base.specs.Status.{bad_secure_channel_token_unknown, bad_tcp_secure_channel_unknown}
use Rattle.ua_chunks.specs.declared.frame.Kind.{Kind}
use Rattle.ua_chunks.specs.declared.frame.Kind.TheVariants as kind
use Rattle.ua_chunks.specs.Assembly.{Tokens, used}
use Rattle.ua_channel.specs.declared.ear.Ear.{Ear}
use Rattle.ua_channel.specs.declared.heard.Heard.{Heard}
use Rattle.ua_channel.specs.declared.heard.Heard.TheVariants as heard_of
use Rattle.ua_channel.specs.declared.wire.Order.TheVariants as order
use Rattle.ua_channel.specs.Hearing.{takes}
use Rattle.ua_channel.specs.Messages.{hearing_of, judged_by, judges, takes_token_of}
use Rattle.ua_channel.specs.Sharing.{own, own_first}
use Rattle.ua_channel.specs.State.{WireState}
use Rattle.ua_structures.specs.Body.{body_at}
use Rattle.ua_services.specs.declared.reply.Reply.{Reply}
use Rattle.ua_services.specs.Families.{replies, written_reply}
use Rattle.server_rules.specs.State.{ServerState}
use Rattle.server_rules.specs.Said.{Acknowledged, Limited, Opened, Refused, Renewed, Replied, Said, Told, order_of, orders_of, told_order}
use Rattle.server_rules.specs.Step.{Happening}
use Rattle.server_rules.specs.Acts.{Began, Ended, Fed, Leveled, Put, ServerAct, Ticked, Took, history}
use Rattle.server_laws.specs.Course.{said_after, said_in}
use Rattle.server_laws.specs.Facts.{IsWithin}
use Rattle.server_keeps.specs.Again.{IsReadAgain, IsToldAgain}
use Rattle.server_keeps.proofs.Lists.{all_reverse}
use Rattle.link_laws.specs.Taken.{heard_reply, reply_by}
use Rattle.server_tellings.specs.Heard.{IsPutOn, IsReplySaid}
use Rattle.server_laws.proofs.Within.{none_within, not_within, one_is, one_of}
use Rattle.server_tellings.proofs.Within.{one_has}

-- ---- each that was said is read again

abbrev pub IsSaidAgain : Said → Type 0
IsSaidAgain said = IsToldAgain said.told

said_again : (acts : List ServerAct) → AllByRecursion IsReadAgain acts → AllByRecursion IsSaidAgain (said_in acts)
said_again [] h = tt
said_again (Began number ∷ acts) h = said_again acts h.1
said_again (Ended number ∷ acts) h = said_again acts h.1
said_again (Took number one ∷ acts) h = said_again acts h.1
said_again (Put said ∷ acts) h = (h.0, said_again acts h.1)
said_again (Fed change ∷ acts) h = said_again acts h.1
said_again (Ticked ∷ acts) h = said_again acts h.1
said_again (Leveled ∷ acts) h = said_again acts h.1

-- what the crate of the laws of a life says of what is said
abbrev pub SaidIs : Type 0
SaidIs = (happenings : List Happening) (s : ServerState) → said_in (reverse (history happenings s)) ≡ said_after happenings s

pub life_again : SaidIs → (happenings : List Happening) (s : ServerState) → AllByRecursion IsReadAgain (history happenings s)
    → AllByRecursion IsSaidAgain (said_after happenings s)
life_again law happenings s h =
    subst (AllByRecursion IsSaidAgain) (law happenings s)
    (said_again (reverse (history happenings s)) (all_reverse IsReadAgain (history happenings s) h))

-- ---- a message that was put was said

pub record IsFound (conn : ℕ) (wire : WireState) (all : List Said) : Type 0 where
  pub said : Said
  pub among : IsWithin (said ∷ []) all
  pub on : said.conn ≡ conn
  pub puts : (order_of said).1 ≡ order.Put wire

found_now : (b : Bool) (conn : ℕ) (wire : WireState) (said : Said) (more : List Said) → (said.conn == conn) ≡ b
    → IsWithin (order.Put wire ∷ []) (cond b ((order_of said).1 ∷ []) []) → IsFound conn wire (said ∷ more)
found_now true conn wire said more test h =
    record {
      said = said;
      among = inr ([], refl, none_within more);
      on = grind (arith, nat_tests);
      puts = one_is (order.Put wire) (order_of said).1 h;
    }
found_now false conn wire said more test h = absurd (not_within (order.Put wire) [] refl h)

found_later : (conn : ℕ) (wire : WireState) (said : Said) (more : List Said) → IsFound conn wire more → IsFound conn wire (said ∷ more)
found_later conn wire said more h = record { said = h.said; among = inl h.among; on = h.on; puts = h.puts }

found_by : (conn : ℕ) (wire : WireState) (said : Said) (more : List Said) → (IsPutOn conn wire more → IsFound conn wire more)
    → IsWithin (order.Put wire ∷ []) (own_first conn (order_of said)) ⊎ IsPutOn conn wire more → IsFound conn wire (said ∷ more)
found_by conn wire said more rest (inl h) = found_now (said.conn == conn) conn wire said more refl h
found_by conn wire said more rest (inr h) = found_later conn wire said more (rest h)

pub found : (conn : ℕ) (wire : WireState) (all : List Said) → IsPutOn conn wire all → IsFound conn wire all
found conn wire [] h = absurd (not_within (order.Put wire) [] refl h)
found conn wire (said ∷ more) h =
    found_by conn wire said more (found conn wire more)
    (one_of (order.Put wire) (own_first conn (order_of said)) (own conn (orders_of more)) h)

-- ---- what is heard as a reply is a MSG

pub record IsHeard (k : Kind) (wire : WireState) (answer : Reply) : Type 0 where
  pub kind_is : k ≡ kind.Msg
  pub read : reply_by (body_at replies wire.body) ≡ Some answer

channel_heard : (b c : Bool) (h : Heard) (w : WireState) (t : Tokens) (answer : Reply)
    → heard_reply (cond b (judges (heard_of.Fault bad_tcp_secure_channel_unknown) t)
    (cond c (judges (heard_of.Fault bad_secure_channel_token_unknown) t) (judges h (used w.token t)))).heard ≡ Some answer
    → heard_reply h ≡ Some answer
channel_heard true c h w t answer is = absurd cc
channel_heard false true h w t answer is = absurd cc
channel_heard false false h w t answer is = is

kind_heard : (k : Kind) (w : WireState) (t : Tokens) (answer : Reply) → heard_reply (judged_by k w t).heard ≡ Some answer → IsHeard k w answer
kind_heard kind.Hel w t answer is = absurd cc
kind_heard kind.Ack w t answer is = absurd cc
kind_heard kind.Err w t answer is = absurd cc
kind_heard kind.Opn w t answer is = absurd cc
kind_heard kind.Msg w t answer is =
    record {
      kind_is = refl;
      read = channel_heard (not (w.channel == t.channel)) (not (takes_token_of w.token t)) (heard_of.Message w.request w.body) w t answer is;
    }
kind_heard kind.Clo w t answer is =
    let none : heard_reply heard_of.Close ≡ Some answer =
    channel_heard (not (w.channel == t.channel)) (not (takes_token_of w.token t)) heard_of.Close w t answer is in
    absurd cc

taken_heard : (b : Bool) (w : WireState) (t : Tokens) (answer : Reply) (code : ℕ)
    → heard_reply (cond b (judged_by w.kind w t) (judges (heard_of.Fault code) t)).heard ≡ Some answer → IsHeard w.kind w answer
taken_heard true w t answer code is = kind_heard w.kind w t answer is
taken_heard false w t answer code is = absurd cc

pub is_heard : (e : Ear) (w : WireState) (t : Tokens) (answer : Reply) → heard_reply (hearing_of e w t).heard ≡ Some answer → IsHeard w.kind w answer
unfolding hearing_of
is_heard e w t answer is = taken_heard (takes e w.kind) w t answer _ is

-- ---- so it is a reply that was said

pub record IsReplied (told : Told) (answer : Reply) : Type 0 where
  pub request : ℕ
  pub is : told ≡ Replied request answer

kind_not : {A : Type 0} (w v : WireState) → order.Put w ≡ order.Put v → v.kind ≡ kind.Msg → (w.kind ≡ kind.Msg → A) → A
kind_not w v is msg on =
    let same : w ≡ v = cc in
    on (ap (λ (x : WireState). x.kind) same ∙ msg)

pub replied_so : (channel token : ℕ) (told : Told) (w : WireState) (answer : Reply) → IsToldAgain told → told_order channel token told ≡ order.Put w
    → IsHeard w.kind w answer → IsReplied told answer
replied_so channel token (Acknowledged greeting) w answer again is h = kind_not _ w is h.kind_is (λ no_msg. absurd cc)
replied_so channel token (Opened request response) w answer again is h = kind_not _ w is h.kind_is (λ no_msg. absurd cc)
replied_so channel token (Replied request other) w answer again is h =
    let body : written_reply other ≡ w.body = cc in
    let read : reply_by (body_at replies (written_reply other)) ≡ Some answer = ap (λ b. reply_by (body_at replies b)) body ∙ h.read in
    let both : Some other ≡ Some answer = ap reply_by (sym again.again) ∙ read in
    let same : other ≡ answer = cc in
    record { request = request; is = ap (Replied request) same }
replied_so channel token (Refused code) w answer again is h = kind_not _ w is h.kind_is (λ no_msg. absurd cc)
replied_so channel token (Limited limits) w answer again is h = absurd cc
replied_so channel token (Renewed new_channel new_token) w answer again is h = absurd cc

pub was_said : (all : List Said) (conn : ℕ) (w : WireState) (e : Ear) (t : Tokens) (answer : Reply) → AllByRecursion IsSaidAgain all
    → IsPutOn conn w all → heard_reply (hearing_of e w t).heard ≡ Some answer → IsReplySaid conn w answer all
was_said all conn w e t answer again put is =
    let one = found conn w all put in
    let so = replied_so one.said.channel one.said.token one.said.told w answer (one_has IsSaidAgain one.said all again one.among) one.puts (is_heard e w t answer is) in
    record { said = one.said; among = one.among; on = one.on; puts = one.puts; request = so.request; told = so.is }
