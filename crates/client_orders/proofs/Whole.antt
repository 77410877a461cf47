-- What is so of a client and any of its servers.
use Rattle.std.proofs.Common.{◌≡◌, ℕ, [], ◌≤◌, ◌&&◌, length, nat_le, Bool, true, false, if◌then◌else◌, refl, sym, ap, ◌∙◌, subst, arith}
use Rattle.std.proofs.lemmas.Bool.Decides.{nat_tests}
use Rattle.ua_chunks.specs.Sending.{Sending, limit_of}
use Rattle.ua_channel.specs.Sharing.{own}
use Rattle.ua_channel.specs.State.{first_sending}
use Rattle.link_rules.specs.declared.notice.Wish.TheVariants as wish
use Rattle.link_rules.specs.declared.phase.Phase.{Phase}
use Rattle.link_rules.specs.declared.phase.Phase.TheVariants as phase
use Rattle.link_rules.specs.State.{LinkState, with_phase}
use Rattle.link_rules.specs.Opening.{begins_anew, dials, is_apart, may_dial}
use Rattle.link_rules.specs.Closing.{stands_in}
use Rattle.link_rules.specs.Said.{LinkDid}
use Rattle.link_rules.specs.Step as link
use Rattle.link_rules.specs.Step.{wish_of}
use Rattle.link_keeps.specs.Fitting as link_keeps
use Rattle.link_keeps.specs.Fitting.{FitsLink}
use Rattle.client_rules.specs.State.{ClientState, is_server, link_of}
use Rattle.client_rules.specs.Acts.{Happening, Opens}
use Rattle.client_rules.specs.Dialling.{dialled}
use Rattle.client_rules.specs.Step.{after}
use Rattle.client_keeps.specs.Fitting.{FitsClient, FitsHappening}
use Rattle.client_orders.specs.Lawful.{IsLawfulInUse, IsLawfulInUseTo, IsLawfulTo, KnowsLimitInUse, KnowsLimitInUseOf, KnowsLimitOf}
use Rattle.client_orders.specs.Coming.{PutsFit}
use Rattle.client_orders.specs.Holding.{HoldsConnection, IsBeside}
use Rattle.client_orders.proofs.Answering.{after_does, dials_stands, wish_begins}
use Rattle.client_orders.proofs.Ordering.{AllGo, all_go, header_fits, said_keeps}
use Rattle.client_orders.proofs.Using.{Limits, Rests, Uses, after_idles, uses_of}
use Rattle.client_orders.proofs.Clients.{Client, Known, Obeys, after_obeys, dialled_keeps, first_within, last_within, opening_obeys}
use Rattle.client_orders.proofs.Coming.{all_fit}

-- ---- a server's number

both_true : (a b : Bool) → a ≡ true → b ≡ true → (a && b) ≡ true
both_true a b first second = ap (λ c. c && b) first ∙ second

is_here : (number total : ℕ) (c : ClientState) → length c.links ≡ total → (1 ≤ number) × (number ≤ total) → is_server number c ≡ true
is_here number total c count here =
    let first : 1 ≤ number = here.0 in
    let last : number ≤ length c.links = subst (λ n. number ≤ n) (sym count) here.1 in
    both_true (nat_le 1 number) (nat_le number (length c.links)) (grind (arith, nat_tests)) (grind (arith, nat_tests))

here_is : (number total : ℕ) (c : ClientState) → length c.links ≡ total → is_server number c ≡ true → (1 ≤ number) × (number ≤ total)
here_is number total c count is =
    (first_within number (length c.links) is, subst (λ n. number ≤ n) count (last_within number (length c.links) is))

not_both : (b : Bool) → b ≡ true → b ≡ false → ⊥
not_both true first second = cc
not_both false first second = cc

-- ---- what it orders

pub client_lawful : (number : ℕ) (s : Sending) (h : Happening) (c : ClientState) → FitsClient c → FitsHappening h
    → KnowsLimitOf number c s → IsLawfulTo number s (after h c)
client_lawful number s h c fits kept knows =
    let total : ℕ = length c.links in
    let on : Client ⊥ (Unit {0}) true number total s c = record {
      known = record { count = refl; fits = λ k. fits; limit = λ k here always. knows (is_here number total c refl here) };
      holds = λ here h. absurd h;
    } in
    let did : Obeys ⊥ (Unit {0}) true number total s (after h c) =
    after_obeys ⊥ (Unit {0}) true number total s h c (λ k. kept) (λ h. absurd h) on in
    record {
      lawful = did.lawful tt;
      limit = λ is. did.after.known.limit tt (here_is number total (after h c).client did.after.known.count is) refl;
    }

not_here : (total : ℕ) → (1 ≤ 0) × (0 ≤ total) → ⊥
not_here total here = let first : 1 ≤ 0 = here.0 in absurd (omega arith)

pub client_puts : (h : Happening) (c : ClientState) → FitsClient c → FitsHappening h → PutsFit (after h c).orders
client_puts h c fits kept =
    let total : ℕ = length c.links in
    let on : Client ⊥ (Unit {0}) true 0 total first_sending c = record {
      known = record { count = refl; fits = λ k. fits; limit = λ k here. absurd (not_here total here) };
      holds = λ here h. absurd h;
    } in
    all_fit (after h c).orders ((after_obeys ⊥ (Unit {0}) true 0 total first_sending h c (λ k. kept) (λ h. absurd h) on).put tt)

pub servers_stay : (h : Happening) (c : ClientState) → length (after h c).client.links ≡ length c.links
servers_stay h c =
    let total : ℕ = length c.links in
    let on : Client ⊥ ⊥ true 0 total first_sending c = record {
      known = record { count = refl; fits = λ k. absurd k; limit = λ k here. absurd k };
      holds = λ here h. absurd h;
    } in
    (after_obeys ⊥ ⊥ true 0 total first_sending h c (λ k. absurd k) (λ h. absurd h) on).after.known.count

pub client_quiet : (number : ℕ) (h : Happening) (c : ClientState) → is_server number c ≡ false → own number (after h c).orders ≡ []
client_quiet number h c away =
    let total : ℕ = length c.links in
    let on : Client ⊥ ⊥ true number total first_sending c = record {
      known = record { count = refl; fits = λ k. absurd k; limit = λ k here. absurd k };
      holds = λ here h. absurd h;
    } in
    (after_obeys ⊥ ⊥ true number total first_sending h c (λ k. absurd k) (λ h. absurd h) on).none
    (λ here. not_both (is_server number c) (is_here number total c refl here) away)

-- ---- what stands

pub client_holds : (number : ℕ) (h : Happening) (c : ClientState) → is_server number c ≡ true → IsBeside number h
    → HoldsConnection (link_of number c) → HoldsConnection (link_of number (after h c).client)
client_holds number h c is beside holds =
    let total : ℕ = length c.links in
    let on : Client (Unit {0}) ⊥ true number total first_sending c = record {
      known = record { count = refl; fits = λ k. absurd k; limit = λ k here. absurd k };
      holds = λ here h. holds;
    } in
    (after_obeys (Unit {0}) ⊥ true number total first_sending h c (λ k. absurd k) (λ h. beside) on).after.holds
    (here_is number total c refl is) tt

pub client_opens : (number : ℕ) (c : ClientState) → is_server number c ≡ true → begins_anew (link_of number c) ≡ true
    → HoldsConnection (link_of number (after (Opens number) c).client)
client_opens number c is anew =
    let total : ℕ = length c.links in
    let known : Known (Unit {0}) ⊥ true number total first_sending c =
    record { count = refl; fits = λ k. absurd k; limit = λ k here. absurd k } in
    (opening_obeys (Unit {0}) ⊥ true number total first_sending c is known (λ h. anew)).after.holds (here_is number total c refl is) tt

dials_hold : (l : LinkState) → HoldsConnection l → HoldsConnection (dials l)
dials_hold l holds =
    (dials_stands (Unit {0}) ⊥ 0 l (record { limit = λ k. absurd k; holds = λ h. holds; header = λ k. absurd k })).holds tt

pub dialled_holds : (number : ℕ) (c : ClientState) → HoldsConnection (link_of number c) → HoldsConnection (link_of number (dialled c))
dialled_holds number c holds = dialled_keeps HoldsConnection dials_hold number c holds

dials_talk : (l : LinkState) (b : Bool) → (if b then with_phase (phase.Dialing false) l else l).conversation ≡ l.conversation
dials_talk l true = refl
dials_talk l false = refl

pub dialled_talks : (number : ℕ) (c : ClientState) → (link_of number (dialled c)).conversation ≡ (link_of number c).conversation
dialled_talks number c =
    dialled_keeps (λ l. l.conversation ≡ (link_of number c).conversation) (λ l same. dials_talk l (may_dial l) ∙ same) number c refl

pub wish_opens : (l : LinkState) → wish_of l ≡ wish.Dial → (begins_anew l ≡ true) × (l.closes ≡ false)
wish_opens l e = wish_begins l.phase l.closes e

-- ---- where a connection is used

anew_idle : (p : Phase) → is_apart p ≡ true → stands_in p ≡ false
anew_idle phase.Idle apart = refl
anew_idle (phase.Dialing taken) apart = refl
anew_idle other apart = absurd cc

pub anew_knows : (s : Sending) (l : LinkState) → begins_anew l ≡ true → KnowsLimitInUse l s
anew_knows s l anew = λ stands. absurd (not_both (stands_in l.phase) stands (anew_idle l.phase anew))

pub link_in_use : (s : Sending) (h : link.Happening) (l : LinkState) → FitsLink l → link_keeps.FitsHappening h → KnowsLimitInUse l s
    → IsLawfulInUse s (link.after h l)
link_in_use s h l fits kept knows =
    let did : LinkDid = link.after h l in
    let on : Rests ⊥ (Unit {0}) false (limit_of s) l =
    record { limit = λ k. knows; holds = λ h. absurd h; header = λ k. header_fits l fits } in
    let uses : Uses ⊥ (Unit {0}) false (limit_of s) did =
    uses_of ⊥ ⊥ (Unit {0}) false (limit_of s) l did on (λ m. after_does ⊥ (Unit {0}) m h l (λ k. kept) (λ u. absurd u)) (after_idles h l) in
    let go : AllGo (limit_of s) did.said s = all_go (limit_of s) did.said s (said_keeps h l kept fits) (uses.short tt) refl in
    record { lawful = go.lawful; limit = subst (λ m. Limits false m did.link) (sym go.limit) (uses.limit tt) }

pub client_in_use : (number : ℕ) (s : Sending) (h : Happening) (c : ClientState) → FitsClient c → FitsHappening h
    → KnowsLimitInUseOf number c s → IsLawfulInUseTo number s (after h c)
client_in_use number s h c fits kept knows =
    let total : ℕ = length c.links in
    let on : Client ⊥ (Unit {0}) false number total s c = record {
      known = record { count = refl; fits = λ k. fits; limit = λ k here. knows (is_here number total c refl here) };
      holds = λ here h. absurd h;
    } in
    let did : Obeys ⊥ (Unit {0}) false number total s (after h c) =
    after_obeys ⊥ (Unit {0}) false number total s h c (λ k. kept) (λ h. absurd h) on in
    record {
      lawful = did.lawful tt;
      limit = λ is. did.after.known.limit tt (here_is number total (after h c).client did.after.known.count is);
    }

dials_in_use : (s : Sending) (l : LinkState) (b : Bool) → KnowsLimitInUse l s
    → KnowsLimitInUse (if b then with_phase (phase.Dialing false) l else l) s
dials_in_use s l true knows = λ stands. absurd (not_both false stands refl)
dials_in_use s l false knows = knows

pub dialled_in_use : (number : ℕ) (s : Sending) (c : ClientState) → KnowsLimitInUse (link_of number c) s
    → KnowsLimitInUse (link_of number (dialled c)) s
dialled_in_use number s c knows =
    dialled_keeps (λ l. KnowsLimitInUse l s) (λ l known. dials_in_use s l (may_dial l) known) number c knows
