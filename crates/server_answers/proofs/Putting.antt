-- What is heard on a connection puts one message there, and what isn't puts none.
use Rattle.std.proofs.Common.{◌≡◌, ◌≢◌, ℕ, ◌==◌, List, [], ◌∷◌, ◌++◌, Bool, true, false, cond, Some, refl, ap, ap₂, ◌∙◌, arith, ◌⊎◌, inl, inr}
use Rattle.std.specs.Prelude.{Result}
use Rattle.std.proofs.lemmas.Bool.Decides.{nat_tests}
use Rattle.ua_channel.specs.declared.heard.Heard.{Heard}
use Rattle.ua_channel.specs.declared.heard.Heard.TheVariants as heard_as
use Rattle.ua_channel.specs.declared.wire.Order.{Order}
use Rattle.ua_channel.specs.Orders.{put_by, puts_of}
use Rattle.ua_channel.specs.Sharing.{own}
use Rattle.ua_channel.specs.State.{WireState, is_deaf}
use Rattle.ua_services.specs.declared.reply.Reply.{Reply}
use Rattle.ua_services.specs.declared.request.Request.{Request}
use Rattle.ua_services.specs.declared.request.RequestFault.{RequestFault}
use Rattle.ua_services.specs.Requests.{request_at}
use Rattle.server_rules.specs.declared.conn.Asker.{Asker}
use Rattle.server_rules.specs.declared.conn.Conn.{Conn}
use Rattle.server_rules.specs.Answering.{replied}
use Rattle.server_rules.specs.State.{ServerState, conn_at}
use Rattle.server_rules.specs.Requests.{asker_of}
use Rattle.server_rules.specs.Said.{Acknowledged, Did, Limited, Opened, Refused, Renewed, Replied, Said, Told, order_of, orders_of, told_order}
use Rattle.server_rules.specs.Step.{Hears, after, ears}
use Rattle.server_laws.specs.Lockstep.{IsAtOnceOf, IsNoPublish, IsOnePut, IsOpening, IsQuiet, IsReplied, Other, SaysOn, is_put, puts}
use Rattle.server_answers.proofs.Places.{first_passes, map_join, own_join}

-- ---- limits and a new token put nothing

unput : (c : Bool) (channel token : ℕ) (told : Told) (rest : List Order) → is_put told ≡ false
    → puts_of (cond c (told_order channel token told ∷ []) [] ++ rest) ≡ puts_of rest
unput false channel token told rest is = refl
unput true channel token (Limited limits) rest is = refl
unput true channel token (Renewed new_channel new_token) rest is = refl
unput true channel token (Acknowledged greeting) rest is = absurd cc
unput true channel token (Opened request response) rest is = absurd cc
unput true channel token (Replied request answer) rest is = absurd cc
unput true channel token (Refused code) rest is = absurd cc

both_put : (c : Bool) (o : Order) (one more : List Order) → puts_of one ≡ puts_of more
    → puts_of (cond c (o ∷ []) [] ++ one) ≡ puts_of (cond c (o ∷ []) [] ++ more)
both_put true o one more same = ap (λ (l : List WireState). put_by o ++ l) same
both_put false o one more same = same

pub puts_alone : (conn : ℕ) (said : List Said) → puts_of (own conn (orders_of said)) ≡ puts_of (own conn (orders_of (puts said)))
puts_alone conn [] = refl
puts_alone conn (one ∷ said) = by_test (is_put one.told) refl (puts_alone conn said)
  where
    by_test : (b : Bool) → is_put one.told ≡ b → puts_of (own conn (orders_of said)) ≡ puts_of (own conn (orders_of (puts said)))
        → puts_of (own conn (orders_of (one ∷ said))) ≡ puts_of (own conn (orders_of (cond b (one ∷ puts said) (puts said))))
    by_test true is rest = both_put (one.conn == conn) (order_of one).1 (own conn (orders_of said)) (own conn (orders_of (puts said))) rest
    by_test false is rest = unput (one.conn == conn) one.channel one.token one.told (own conn (orders_of said)) is ∙ rest

-- ---- one message

-- of what is said one message is put on this connection
abbrev pub PutsOne : ℕ → List Said → Type 0
PutsOne conn said = (wire : WireState) × (puts_of (own conn (orders_of said)) ≡ wire ∷ [])

told_puts : (channel token : ℕ) (told : Told) → is_put told ≡ true → (wire : WireState) × (put_by (told_order channel token told) ≡ wire ∷ [])
told_puts channel token (Limited limits) is = absurd cc
told_puts channel token (Renewed new_channel new_token) is = absurd cc
told_puts channel token (Acknowledged greeting) is = (_, refl)
told_puts channel token (Opened request response) is = (_, refl)
told_puts channel token (Replied request answer) is = (_, refl)
told_puts channel token (Refused code) is = (_, refl)

here_puts : (b : Bool) (o : Order) (wire : WireState) → b ≡ true → put_by o ≡ wire ∷ [] → puts_of (cond b (o ∷ []) [] ++ []) ≡ wire ∷ []
here_puts true o wire here is = ap (λ (l : List WireState). l ++ []) is
here_puts false o wire here is = absurd cc

same_number : (one conn : ℕ) → one ≡ conn → (one == conn) ≡ true
same_number one conn is = grind (arith, nat_tests)

pub one_put : (conn : ℕ) (did : Did) → IsOnePut conn did → PutsOne conn did.said
one_put conn did h =
    let told = told_puts h.one.channel h.one.token h.one.told (first_passes (λ (one : Said). is_put one.told) did.said h.one [] h.put) in (
      told.0,
      puts_alone conn did.said ∙ ap (λ (l : List Said). puts_of (own conn (orders_of l))) h.put
          ∙ here_puts (h.one.conn == conn) (order_of h.one).1 told.0 (same_number h.one.conn conn h.on) told.1,
    )

-- ---- what is said elsewhere

differs : (b : Bool) (one conn : ℕ) → (one == conn) ≡ b → one ≢ conn → b ≡ false
differs true one conn test apart = absurd (apart (grind (arith, nat_tests)))
differs false one conn test apart = refl

pub none_own : (conn : ℕ) (said : List Said) → SaysOn (Other conn) said → own conn (orders_of said) ≡ []
none_own conn [] h = refl
none_own conn (one ∷ said) h =
    ap₂ (λ (b : Bool) (l : List Order). cond b ((order_of one).1 ∷ []) [] ++ l) (differs (one.conn == conn) one.conn conn refl h.0) (none_own conn said h.1)

behind_others : (conn : ℕ) (front said all : List Said) → all ≡ front ++ said → SaysOn (Other conn) front → PutsOne conn said → PutsOne conn all
behind_others conn front said all is on one = (
  one.0,
  ap (λ (l : List Said). puts_of (own conn (orders_of l))) is
      ∙ ap (λ (l : List (ℕ × Order)). puts_of (own conn l)) (map_join order_of front said)
      ∙ ap (λ (l : List Order). puts_of l) (own_join conn (orders_of front) (orders_of said))
      ∙ ap (λ (l : List Order). puts_of (l ++ own conn (orders_of said))) (none_own conn front on)
      ∙ one.1,
)

-- ---- what is heard

-- one message answers it at once: it is no Publish, which waits, and no CLO, which isn't answered
abbrev pub GetsOne : Heard → Type 0
GetsOne heard_as.Close = ⊥
GetsOne other = IsNoPublish other

pub closes_or_gets : (h : Heard) → IsNoPublish h → (h ≡ heard_as.Close) ⊎ GetsOne h
closes_or_gets (heard_as.Greeting body) h = inr h
closes_or_gets (heard_as.Opening channel follows number body) h = inr h
closes_or_gets (heard_as.Message number body) h = inr h
closes_or_gets heard_as.Close h = inl refl
closes_or_gets (heard_as.Fault code) h = inr h

-- what the crate of the laws of a life says of answers
abbrev pub RequestsAnswered : Type 0
RequestsAnswered = (conn number : ℕ) (body : List ℕ) (s : ServerState) → is_deaf (ears conn s) ≡ false → IsAtOnceOf (request_at body) → IsQuiet conn s
    → IsReplied (Other conn) conn number (request_at body) s (after (Hears conn (heard_as.Message number body)) s)

abbrev pub OpeningsAnswered : Type 0
OpeningsAnswered = (conn : ℕ) (h : Heard) (s : ServerState) → is_deaf (ears conn s) ≡ false → IsOpening h → IsOnePut conn (after (Hears conn h) s)

abbrev pub AnswersPut : Type 0
AnswersPut = (asker : Asker) (answer : Reply) (s : ServerState) (c : Conn) → conn_at asker.conn s.conns ≡ Some c → IsOnePut asker.conn (replied asker answer s)

replied_puts : AnswersPut → (conn number : ℕ) (r : Result Request RequestFault) (s : ServerState) (did : Did) → IsReplied (Other conn) conn number r s did
    → PutsOne conn did.said
replied_puts answers conn number r s did h =
    let asker : Asker = asker_of conn number h.handle in
    let one = one_put conn (replied asker h.answered.answer h.answered.from) (answers asker h.answered.answer h.answered.from h.there.0 h.there.1) in
    behind_others conn h.answered.front (replied asker h.answered.answer h.answered.from).said did.said h.answered.said h.answered.on one

pub heard_puts : RequestsAnswered → OpeningsAnswered → AnswersPut → (conn : ℕ) (h : Heard) (s : ServerState) → is_deaf (ears conn s) ≡ false
    → IsQuiet conn s → GetsOne h → PutsOne conn (after (Hears conn h) s).said
heard_puts requests openings answers conn (heard_as.Greeting body) s hears quiet gets = one_put conn _ (openings conn (heard_as.Greeting body) s hears tt)
heard_puts requests openings answers conn (heard_as.Opening channel follows number body) s hears quiet gets =
    one_put conn _ (openings conn (heard_as.Opening channel follows number body) s hears tt)
heard_puts requests openings answers conn (heard_as.Message number body) s hears quiet gets =
    replied_puts answers conn number (request_at body) s _ (requests conn number body s hears gets quiet)
heard_puts requests openings answers conn heard_as.Close s hears quiet gets = absurd gets
heard_puts requests openings answers conn (heard_as.Fault code) s hears quiet gets = one_put conn _ (openings conn (heard_as.Fault code) s hears tt)
