-- What a life hears on one of its connections: the requests that a link asked for there.
use Rattle.std.proofs.Common.{◌≡◌, ◌≢◌, ℕ, ◌+◌, ◌≤◌, List, [], ◌∷◌, ◌++◌, map, pos, Bool, true, false, cond, Some, Result, Ok, Err, refl, sym, ap, subst, arith}
use Rattle.std.specs.List.{AllByRecursion}
use Rattle.ua_base.specs.declared.modes.Mode.TheVariants.{Disabled}
use Rattle.ua_base.specs.Modes.{mode_number}
use Rattle.ua_channel.specs.declared.heard.Heard.{Heard}
use Rattle.ua_channel.specs.declared.heard.Heard.TheVariants as heard
use Rattle.ua_sub_msgs.specs.declared.item.CreateMonitoredItemsRequest.{CreateMonitoredItemsRequest}
use Rattle.ua_services.specs.declared.request.Request.{Request}
use Rattle.ua_services.specs.declared.request.RequestFault.{RequestFault}
use Rattle.ua_services.specs.Requests.{request_at}
use Rattle.link_rules.specs.declared.config.LinkConfig.{LinkConfig}
use Rattle.link_rules.specs.Said.{Said, Told, Asks}
use Rattle.link_laws.specs.Asked.{NeverAsks, items_asked, items_in, items_put, mode_asked, mode_in}
use Rattle.link_laws.specs.Lockstep.{is_put, puts}
use Rattle.link_takings.specs.Exchange.{messages_of}
use Rattle.client_dials.specs.Making.{AreStandard, asks_for}
use Rattle.client_askings.specs.Reading.{AreReadAs, ReadsAs}

-- ---- how often items are asked for

abbrev pub asks_in_request : ℕ → Result Request RequestFault → ℕ
asks_in_request id (Ok r) = asks_for id (items_in r)
asks_in_request id (Err fault) = 0

abbrev pub asks_heard : ℕ → Heard → ℕ
asks_heard id (heard.Message number body) = asks_in_request id (request_at body)
asks_heard id other = 0

-- in the subscription of an id, by all that was heard
abbrev pub asks_by_all : ℕ → List Heard → ℕ
asks_by_all id [] = 0
asks_by_all id (h ∷ more) = asks_heard id h + asks_by_all id more

pub asks_join : (id : ℕ) (one other : List Heard) → asks_by_all id (one ++ other) ≡ asks_by_all id one + asks_by_all id other
asks_join id [] other = omega arith
asks_join id (h ∷ one) other =
    let rest : asks_by_all id (one ++ other) ≡ asks_by_all id one + asks_by_all id other = asks_join id one other in
    omega arith

-- ---- what a link asks for

abbrev asks_told : ℕ → List Told → ℕ
asks_told id [] = 0
asks_told id (told ∷ more) = asks_for id (items_asked told) + asks_told id more

-- items as a link asks for them, and no Disabled
pub record IsGoodTold (config : LinkConfig) (told : Told) : Type 0 where
  pub standard : AreStandard config (items_asked told)
  pub on : mode_asked told ≢ Some (pos (mode_number Disabled))

for_join : (id : ℕ) (one other : List CreateMonitoredItemsRequest) → asks_for id (one ++ other) ≡ asks_for id one + asks_for id other
for_join id [] other = omega arith
for_join id (r ∷ one) other =
    let rest : asks_for id (one ++ other) ≡ asks_for id one + asks_for id other = for_join id one other in
    omega arith

standard_front : (config : LinkConfig) (one other : List CreateMonitoredItemsRequest) → AreStandard config (one ++ other) → AreStandard config one
standard_front config [] other are = tt
standard_front config (r ∷ one) other are = (are.0, standard_front config one other are.1)

standard_back : (config : LinkConfig) (one other : List CreateMonitoredItemsRequest) → AreStandard config (one ++ other) → AreStandard config other
standard_back config [] other are = are
standard_back config (r ∷ one) other are = standard_back config one other are.1

fewer_by : (b : Bool) (id : ℕ) (one : Said) (more : List Said) → asks_told id (messages_of more) ≤ asks_for id (items_put more)
    → asks_told id (map (λ (x : Said). x.told) (cond b (one ∷ puts more) (puts more))) ≤ asks_for id (items_asked one.told) + asks_for id (items_put more)
fewer_by true id one more rest = omega arith
fewer_by false id one more rest = omega arith

told_fewer : (id : ℕ) (said : List Said) → asks_told id (messages_of said) ≤ asks_for id (items_put said)
told_fewer id [] = omega arith
told_fewer id (one ∷ more) =
    let both : asks_for id (items_asked one.told ++ items_put more) ≡ asks_for id (items_asked one.told) + asks_for id (items_put more) =
    for_join id (items_asked one.told) (items_put more) in
    subst (λ (n : ℕ). asks_told id (messages_of (one ∷ more)) ≤ n) (sym both) (fewer_by (is_put one.told) id one more (told_fewer id more))

good_by : (b : Bool) (config : LinkConfig) (one : Said) (more : List Said) → IsGoodTold config one.told → AllByRecursion (IsGoodTold config) (messages_of more)
    → AllByRecursion (IsGoodTold config) (map (λ (x : Said). x.told) (cond b (one ∷ puts more) (puts more)))
good_by true config one more first rest = (first, rest)
good_by false config one more first rest = rest

good_told : (config : LinkConfig) (said : List Said) → AreStandard config (items_put said) → NeverAsks Disabled said
    → AllByRecursion (IsGoodTold config) (messages_of said)
good_told config [] are never = tt
good_told config (one ∷ more) are never =
    good_by (is_put one.told) config one more
    (record { standard = standard_front config (items_asked one.told) (items_put more) are; on = never.0 })
    (good_told config more (standard_back config (items_asked one.told) (items_put more) are) never.1)

-- ---- so it is of what is heard

-- where it is heard as a request
pub record IsGoodRequest (config : LinkConfig) (r : Request) : Type 0 where
  pub standard : AreStandard config (items_in r)
  pub on : mode_in r ≢ Some (pos (mode_number Disabled))

abbrev pub IsGoodHeard : LinkConfig → Heard → Type 0
IsGoodHeard config (heard.Message number body) = (r : Request) → request_at body ≡ Ok r → IsGoodRequest config r
IsGoodHeard config other = Unit {0}

good_request : (config : LinkConfig) (told : Told) (number : ℕ) (r : Request) → told ≡ Asks number r → IsGoodTold config told → IsGoodRequest config r
good_request config told number r is good =
    let same : IsGoodTold config (Asks number r) = subst (IsGoodTold config) is good in
    record { standard = same.standard; on = same.on }

good_heard : (config : LinkConfig) (told : Told) (h : Heard) → ReadsAs told h → IsGoodTold config told → IsGoodHeard config h
good_heard config told (heard.Message number body) reads good = λ r e. good_request config told (reads r e).0 r (reads r e).1 good
good_heard config told other reads good = tt

pub all_good : (config : LinkConfig) (hs : List Heard) (told : List Told) → AreReadAs hs told → AllByRecursion (IsGoodTold config) told
    → AllByRecursion (IsGoodHeard config) hs
all_good config [] told reads good = tt
all_good config (h ∷ more) [] reads good = absurd reads
all_good config (h ∷ more) (one ∷ told) reads good = (good_heard config one h reads.0 good.0, all_good config more told reads.1 good.1)

-- ---- and they are no more

asks_of_told : (id : ℕ) (told : Told) (x : Result Request RequestFault) → ((r : Request) → x ≡ Ok r → (asked : ℕ) × (told ≡ Asks asked r))
    → asks_in_request id x ≤ asks_for id (items_asked told)
asks_of_told id told (Ok r) reads =
    let is : told ≡ Asks (reads r refl).0 r = (reads r refl).1 in
    let same : asks_for id (items_asked told) ≡ asks_for id (items_in r) = ap (λ (t : Told). asks_for id (items_asked t)) is in
    omega arith
asks_of_told id told (Err fault) reads = omega arith

asks_one : (id : ℕ) (told : Told) (h : Heard) → ReadsAs told h → asks_heard id h ≤ asks_for id (items_asked told)
asks_one id told (heard.Message number body) reads = asks_of_told id told (request_at body) reads
asks_one id told other reads = omega arith

asks_few : (id : ℕ) (hs : List Heard) (told : List Told) → AreReadAs hs told → asks_by_all id hs ≤ asks_told id told
asks_few id [] told reads = omega arith
asks_few id (h ∷ more) [] reads = absurd reads
asks_few id (h ∷ more) (one ∷ told) reads =
    let first : asks_heard id h ≤ asks_for id (items_asked one) = asks_one id one h reads.0 in
    let rest : asks_by_all id more ≤ asks_told id told = asks_few id more told reads.1 in
    omega arith

-- ---- on one connection

pub record IsHeardThere (config : LinkConfig) (hs : List Heard) (said : List Said) : Type 0 where
  pub good : AllByRecursion (IsGoodHeard config) hs
  pub few : (id : ℕ) → asks_by_all id hs ≤ asks_for id (items_put said)

pub heard_there : (config : LinkConfig) (hs : List Heard) (said : List Said) → AreReadAs hs (messages_of said) → AreStandard config (items_put said)
    → NeverAsks Disabled said → IsHeardThere config hs said
heard_there config hs said reads are never = record {
  good = all_good config hs (messages_of said) reads (good_told config said are never);
  few = λ id.
      let one : asks_by_all id hs ≤ asks_told id (messages_of said) = asks_few id hs (messages_of said) reads in
      let two : asks_told id (messages_of said) ≤ asks_for id (items_put said) = told_fewer id said in
      omega arith;
}
