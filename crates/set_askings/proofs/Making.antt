-- What a link hears on a connection: no more new subscriptions of an id than the server's life said there.
use Rattle.std.proofs.Common.{◌≡◌, ℕ, ◌+◌, ◌≤◌, ◌==◌, List, [], ◌∷◌, ◌++◌, Bool, true, false, cond, Option, Some, None, refl, sym, ap, ◌∙◌, subst, append_assoc, arith}
use Rattle.std.specs.List.{AllByRecursion}
use Rattle.ua_chunks.specs.Assembly.{Tokens}
use Rattle.ua_channel.specs.declared.ear.Ear.{Ear}
use Rattle.ua_channel.specs.declared.heard.Heard.{Heard}
use Rattle.ua_channel.specs.declared.wire.Order.{Order}
use Rattle.ua_channel.specs.declared.wire.Order.TheVariants as order
use Rattle.ua_channel.specs.Messages.{hearing_of}
use Rattle.ua_channel.specs.Orders.{put_by, puts_of}
use Rattle.ua_channel.specs.Sharing.{own}
use Rattle.ua_channel.specs.State.{WireState}
use Rattle.ua_sub_msgs.specs.declared.reply.SubReply.{SubReply}
use Rattle.ua_sub_msgs.specs.declared.reply.SubReply.TheVariants as sub_reply
use Rattle.ua_services.specs.declared.reply.Reply.{Reply}
use Rattle.ua_services.specs.declared.reply.Reply.TheVariants as reply
use Rattle.server_rules.specs.Said.{Replied, Said, Told, order_of, orders_of, told_order}
use Rattle.server_keeps.specs.Again.{IsToldAgain}
use Rattle.server_laws.specs.Facts.{facts_of_reply, facts_of_sub, facts_said, facts_told, ids_in, picked}
use Rattle.server_laws.specs.Facts as facts
use Rattle.server_laws.specs.Moves.{Fact}
use Rattle.server_tellings.proofs.Hearing.{IsReplied, IsSaidAgain, is_heard, replied_so}
use Rattle.link_laws.specs.Taken.{heard_reply, id_in}
use Rattle.set_talks.specs.Heard.{AreHeardOf, IsHeardOf}
use Rattle.client_dials.specs.Making.{makes_by, makes_in}
use Rattle.set_askings.proofs.Sums.{count, count_join, only, sum, sum_only, sum_two}
use Rattle.set_askings.specs.Once.{AreApart}

-- ---- how many were said

abbrev makes_told : ℕ → Told → ℕ
makes_told id (Replied number answer) = makes_by id (id_in (Some answer))
makes_told id other = 0

-- on one connection
abbrev pub makes_on : ℕ → List Said → ℕ → ℕ
makes_on id [] conn = 0
makes_on id (one ∷ more) conn = only one.conn (makes_told id one.told) conn + makes_on id more conn

abbrev pub makes_all : ℕ → List Said → ℕ
makes_all id [] = 0
makes_all id (one ∷ more) = makes_told id one.told + makes_all id more

-- ---- a reply that is heard was said

heard_makes : (id channel token : ℕ) (told : Told) (w : WireState) (e : Ear) (t : Tokens) (o : Option Reply) → IsToldAgain told
    → told_order channel token told ≡ order.Put w → heard_reply (hearing_of e w t).heard ≡ o → makes_by id (id_in o) ≤ makes_told id told
heard_makes id channel token told w e t None again is reads = omega arith
heard_makes id channel token told w e t (Some answer) again is reads =
    let so : IsReplied told answer = replied_so channel token told w answer again is (is_heard e w t answer reads) in
    let same : makes_told id told ≡ makes_by id (id_in (Some answer)) = ap (makes_told id) so.is in
    omega arith

one_makes : (id channel token : ℕ) (told : Told) (w : WireState) (h : Heard) → IsToldAgain told → told_order channel token told ≡ order.Put w
    → IsHeardOf h w → makes_by id (id_in (heard_reply h)) ≤ makes_told id told
one_makes id channel token told w h again is heard =
    let most : makes_by id (id_in (heard_reply (hearing_of heard.0 w heard.1).heard)) ≤ makes_told id told =
    heard_makes id channel token told w heard.0 heard.1 _ again is refl in
    subst (λ (x : Heard). makes_by id (id_in (heard_reply x)) ≤ makes_told id told) (sym heard.2) most

-- the messages that an order puts, before others
put_makes : (id channel token : ℕ) (told : Told) (o : Order) (hs : List Heard) (others : List WireState) (most : ℕ) → IsToldAgain told
    → told_order channel token told ≡ o → ((rest : List Heard) → AreHeardOf rest others → makes_in id rest ≤ most)
    → AreHeardOf hs (put_by o ++ others) → makes_in id hs ≤ makes_told id told + most
put_makes id channel token told o [] others most again is rest heard = omega arith
put_makes id channel token told (order.Put w) (h ∷ more) others most again is rest heard =
    let first : makes_by id (id_in (heard_reply h)) ≤ makes_told id told = one_makes id channel token told w h again is heard.0 in
    let last : makes_in id more ≤ most = rest more heard.1 in
    omega arith
put_makes id channel token told (order.Limit limits) (h ∷ more) others most again is rest heard =
    let last : makes_in id (h ∷ more) ≤ most = rest (h ∷ more) heard in
    omega arith
put_makes id channel token told (order.Renew new other) (h ∷ more) others most again is rest heard =
    let last : makes_in id (h ∷ more) ≤ most = rest (h ∷ more) heard in
    omega arith

said_makes : (b : Bool) (id : ℕ) (one : Said) (hs : List Heard) (others : List Order) (most : ℕ) → IsToldAgain one.told
    → ((rest : List Heard) → AreHeardOf rest (puts_of others) → makes_in id rest ≤ most)
    → AreHeardOf hs (puts_of (cond b ((order_of one).1 ∷ []) [] ++ others)) → makes_in id hs ≤ cond b (makes_told id one.told) 0 + most
said_makes true id one hs others most again rest heard =
    put_makes id one.channel one.token one.told (order_of one).1 hs (puts_of others) most again refl rest heard
said_makes false id one hs others most again rest heard = let few : makes_in id hs ≤ most = rest hs heard in omega arith

-- on a connection
pub makes_few : (id conn : ℕ) (all : List Said) (hs : List Heard) → AllByRecursion IsSaidAgain all → AreHeardOf hs (puts_of (own conn (orders_of all)))
    → makes_in id hs ≤ makes_on id all conn
makes_few id conn [] [] again heard = omega arith
makes_few id conn [] (h ∷ more) again heard = absurd heard
makes_few id conn (one ∷ more) hs again heard =
    said_makes (one.conn == conn) id one hs (own conn (orders_of more)) (makes_on id more conn) again.0
    (λ rest are. makes_few id conn more rest again.1 are) heard

-- ---- all connections together

pub makes_apart : (id : ℕ) (all : List Said) (numbers : List ℕ) → AreApart numbers → sum (makes_on id all) numbers ≤ makes_all id all
makes_apart id [] numbers apart = none numbers
  where
    none : (ns : List ℕ) → sum (makes_on id []) ns ≤ 0
    none [] = omega arith
    none (n ∷ ns) = let rest : sum (makes_on id []) ns ≤ 0 = none ns in omega arith
makes_apart id (one ∷ more) numbers apart =
    let two : sum (makes_on id (one ∷ more)) numbers ≡ sum (only one.conn (makes_told id one.told)) numbers + sum (makes_on id more) numbers =
    sum_two (only one.conn (makes_told id one.told)) (makes_on id more) (makes_on id (one ∷ more)) (λ n. refl) numbers in
    let first : sum (only one.conn (makes_told id one.told)) numbers ≤ makes_told id one.told =
    sum_only one.conn (makes_told id one.told) numbers apart in
    let rest : sum (makes_on id more) numbers ≤ makes_all id more = makes_apart id more numbers apart in
    omega arith

-- ---- each is a fact

picked_join : {A : Type 0} (pick : Fact → List A) (one other : List Fact) → picked pick (one ++ other) ≡ picked pick one ++ picked pick other
picked_join pick [] other = refl
picked_join pick (fact ∷ one) other =
    ap (λ l. pick fact ++ l) (picked_join pick one other) ∙ sym (append_assoc (pick fact) (picked pick one) (picked pick other))

sub_fact : (id : ℕ) (r : SubReply) → makes_by id (id_in (Some (reply.Subscription r))) ≤ count id (ids_in (facts_of_sub r))
sub_fact id (sub_reply.CreateSubscription r) = omega arith
sub_fact id other = omega arith

told_fact : (id : ℕ) (told : Told) → makes_told id told ≤ count id (ids_in (facts_told told))
told_fact id (Replied number (reply.Subscription r)) = sub_fact id r
told_fact id (Replied number (reply.Session r)) = omega arith
told_fact id other = omega arith

pub makes_facts : (id : ℕ) (all : List Said) → makes_all id all ≤ count id (ids_in (facts_said all))
makes_facts id [] = omega arith
makes_facts id (one ∷ more) =
    let first : makes_told id one.told ≤ count id (ids_in (facts_told one.told)) = told_fact id one.told in
    let rest : makes_all id more ≤ count id (ids_in (facts_said more)) = makes_facts id more in
    let both : count id (ids_in (facts_told one.told ++ facts_said more)) ≡ count id (ids_in (facts_told one.told)) + count id (ids_in (facts_said more)) =
    ap (count id) (picked_join facts.id_in (facts_told one.told) (facts_said more)) ∙ count_join id (ids_in (facts_told one.told)) (ids_in (facts_said more)) in
    omega arith
