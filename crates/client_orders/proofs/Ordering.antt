-- What a link says are orders that its end may be given.
use Rattle.std.proofs.Common.{◌≡◌, ℕ, ◌≤◌, Option, List, [], ◌∷◌, true, length, nat_le, refl, sym, ◌∙◌, subst, arith}
use Rattle.std.specs.List.{AllByRecursion}
use Rattle.std.proofs.lemmas.Bool.Decides.{nat_tests}
use Rattle.ua_chunks.specs.declared.frame.Kind.TheVariants as kind
use Rattle.ua_chunks.specs.Sending.{Part, Sending, after_parts, limit_of, parts_of, stepped}
use Rattle.ua_channel.specs.declared.wire.Order.{Order}
use Rattle.ua_channel.specs.Arriving.{AreLawful, IsLawfulOrder, after_order, after_orders}
use Rattle.ua_services.specs.Families.{written_request}
use Rattle.link_rules.specs.Said.{LinkDid, Said, Told, Greeted, Opens, Asks, Limited, Renewed, order_of, orders_of, told_order}
use Rattle.link_rules.specs.Opening.{begins_anew}
use Rattle.link_rules.specs.State.{LinkState}
use Rattle.link_rules.specs.Step as step_rules
use Rattle.link_keeps.specs.Fitting.{FitsHappening, FitsLink, IsUInt32, KeepsSaid, KeepsTold}
use Rattle.link_keeps.proofs.Rules as links
use Rattle.client_orders.specs.Lawful.{IsLawfulFrom, KnowsLimit}
use Rattle.client_orders.specs.Holding.{HoldsConnection, IsQuiet}
use Rattle.client_orders.proofs.Saying.{AreShort, Does, FitsHeader, ShortTold, limit_after, limit_told}
use Rattle.client_orders.proofs.Answering.{after_does, opened_does}

-- ---- one thing that is said

-- what is put leaves the limits
parts_leave : (parts : List Part) (s : Sending) → limit_of (after_parts parts s) ≡ limit_of s
parts_leave [] s = refl
parts_leave (part ∷ parts) s = parts_leave parts (stepped s)

record Goes (n : ℕ) (told : Told) (o : Order) (s : Sending) : Type 0 where
  lawful : IsLawfulOrder o s
  limit : limit_of (after_order o s) ≡ limit_told n told

-- a length within a limit, as it is compared
within : (count n : ℕ) (s : Sending) → limit_of s ≡ n → count ≤ n → nat_le count (limit_of s) ≡ true
within count n s same h = let few : count ≤ limit_of s = subst (λ m. count ≤ m) (sym same) h in grind (arith, nat_tests)

told_goes : (n channel token : ℕ) (told : Told) (s : Sending) → IsUInt32 channel → IsUInt32 token → KeepsTold told
    → ShortTold n told → limit_of s ≡ n → Goes n told (told_order channel token told) s
told_goes n channel token (Greeted greeting url) s c t kept short same =
    record { lawful = (c, t, omega arith, short, refl); limit = same }
told_goes n channel token (Opens number r) s c t kept short same =
    let body : List ℕ = written_request r in
    let put : Sending = record s { channel = channel; token = token } in
    record {
      lawful = (c, t, kept.0, short.1, within (length body) n s same short.0);
      limit = parts_leave (parts_of kind.Opn number body put) put ∙ same;
    }
told_goes n channel token (Asks number r) s c t kept short same =
    let body : List ℕ = written_request r in
    let put : Sending = record s { channel = channel; token = token } in
    record {
      lawful = (c, t, kept.0, tt, within (length body) n s same short.0);
      limit = parts_leave (parts_of kind.Msg number body put) put ∙ same;
    }
told_goes n channel token (Limited limits) s c t kept short same = record { lawful = short; limit = refl }
told_goes n channel token (Renewed new other) s c t kept short same = record { lawful = tt; limit = same }

-- ---- all that is said

pub record AllGo (n : ℕ) (said : List Said) (s : Sending) : Type 0 where
  pub lawful : AreLawful (orders_of said) s
  pub limit : limit_of (after_orders (orders_of said) s) ≡ limit_after n said

pub all_go : (n : ℕ) (said : List Said) (s : Sending) → AllByRecursion KeepsSaid said → AreShort n said → limit_of s ≡ n
    → AllGo n said s
all_go n [] s kept short same = record { lawful = tt; limit = same }
all_go n (one ∷ said) s kept short same =
    let first : Goes n one.told (told_order one.channel one.token one.told) s =
    told_goes n one.channel one.token one.told s kept.0.channel kept.0.token kept.0.told short.0 same in
    let more : AllGo (limit_told n one.told) said (after_order (told_order one.channel one.token one.told) s) =
    all_go (limit_told n one.told) said (after_order (told_order one.channel one.token one.told) s) kept.1 short.1 first.limit in
    record { lawful = (first.lawful, more.lawful); limit = more.limit }

-- ---- where an order comes from

-- something that is said, and keeps the limits
pub record IsPut (o : Order) : Type 0 where
  pub limit : ℕ
  pub one : Said
  pub is : o ≡ order_of one
  pub keeps : KeepsSaid one
  pub short : ShortTold limit one.told

pub all_put : (n : ℕ) (said : List Said) → AllByRecursion KeepsSaid said → AreShort n said
    → AllByRecursion IsPut (orders_of said)
all_put n [] kept short = tt
all_put n (one ∷ said) kept short =
    (record { limit = n; one = one; is = refl; keeps = kept.0; short = short.0 }, all_put (limit_told n one.told) said kept.1 short.1)

-- ---- whatever happens to a link

pub said_keeps : (h : step_rules.Happening) (l : LinkState) → FitsHappening h → FitsLink l
    → AllByRecursion KeepsSaid (step_rules.after h l).said
said_keeps (step_rules.Opens url) l kept fits = (links.opened_fits url l kept fits).said
said_keeps step_rules.Refuses l kept fits = (links.refused_fits l fits).said
said_keeps step_rules.Closes l kept fits = (links.closed_fits l fits).said
said_keeps (step_rules.Hears h) l kept fits = (links.heard_fits h l kept fits).said
said_keeps (step_rules.Ticks ms) l kept fits = (links.ticked_fits ms l fits).said
said_keeps (step_rules.Wants mode) l kept fits = (links.wants_fits mode l fits).said
said_keeps step_rules.Dials l kept fits = tt
said_keeps step_rules.Takes l kept fits = tt

pub header_fits : (l : LinkState) → FitsLink l → FitsHeader l
header_fits l fits = (fits.session, fits.conversation.last, fits.config.start)

pub link_lawful : (s : Sending) (h : step_rules.Happening) (l : LinkState) → FitsLink l → FitsHappening h → KnowsLimit l s
    → IsLawfulFrom s (step_rules.after h l)
link_lawful s h l fits kept known =
    let did : LinkDid = step_rules.after h l in
    let does : Does ⊥ (Unit {0}) (limit_of s) did =
    after_does ⊥ (Unit {0}) (limit_of s) h l (λ k. kept) (λ h. absurd h)
    (record { limit = λ k. known; holds = λ h. absurd h; header = λ k. header_fits l fits }) in
    let go : AllGo (limit_of s) did.said s = all_go (limit_of s) did.said s (said_keeps h l kept fits) (does.short tt) refl in
    record { lawful = go.lawful; limit = subst (λ m. did.link.conversation.limit ≤ m) (sym go.limit) (does.after.limit tt) }

pub link_holds : (h : step_rules.Happening) (l : LinkState) → IsQuiet h → HoldsConnection l
    → HoldsConnection (step_rules.after h l).link
link_holds h l quiet holds =
    (after_does (Unit {0}) ⊥ 0 h l (λ k. absurd k) (λ u. quiet)
    (record { limit = λ k. absurd k; holds = λ u. holds; header = λ k. absurd k })).after.holds tt

pub link_opens : (url : Option (List ℕ)) (l : LinkState) → begins_anew l ≡ true → HoldsConnection (step_rules.after (step_rules.Opens url) l).link
link_opens url l anew =
    (opened_does (Unit {0}) ⊥ 0 url l (λ u. anew)
    (record { limit = λ k. absurd k; holds = λ h. absurd h; header = λ k. absurd k })).after.holds tt
