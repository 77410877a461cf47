-- What is made of a link's own requests.
use Rattle.std.proofs.Common.{◌≡◌, ◌≤◌, ◌<◌, ℕ, zero, suc, List, [], ◌∷◌, ◌++◌, Bool, true, false, cond, Some, None, refl, sym, ap, subst, ◌∙◌, arith, inl, inr, slice_get}
use Rattle.std.specs.Prelude.{Ok}
use Rattle.std.proofs.lemmas.List.{map-append}
use Rattle.std.proofs.lemmas.Option.{same_Some}
use Rattle.ua_base.specs.declared.modes.Timestamps.{Timestamps}
use Rattle.ua_sub_msgs.specs.declared.item.MonitoredItemCreateRequest.{MonitoredItemCreateRequest}
use Rattle.subscription.specs.declared.spec.ItemSpec.{ItemSpec}
use Rattle.server_rules.specs.Items.{judged}
use Rattle.server_rules.specs.Durations.{revised_queue}
use Rattle.link_rules.specs.declared.config.LinkConfig.{LinkConfig}
use Rattle.link_rules.specs.Requests.{item_request, item_requests}
use Rattle.server_makings.specs.Asked.{AreMadeOf, AskedItem, IsAsAsked, asked_with}
use Rattle.life_books.specs.Books.{AreOwnItems, IsOwnItem}

-- what the crate of the makings says
abbrev pub Makes : Type 0
Makes = (items : ℕ) (stamps : Timestamps) (asked : MonitoredItemCreateRequest) (spec : ItemSpec)
    → judged items stamps asked ≡ Ok spec → IsAsAsked items stamps asked spec

-- ---- requests from the first on

abbrev own_asked : LinkConfig → Timestamps → ℕ → AskedItem
own_asked config stamps n = record { stamps = stamps; item = item_request config n }

-- requests of rising numbers, from above one up to another
abbrev AreAsked : LinkConfig → Timestamps → ℕ → List AskedItem → ℕ → Type 0
AreAsked config stamps low [] high = low ≤ high
AreAsked config stamps low (one ∷ asked) high =
    (n : ℕ) × (low < n) × (one ≡ own_asked config stamps n) × AreAsked config stamps n asked high

asked_more : (config : LinkConfig) (stamps : Timestamps) (low : ℕ) (asked : List AskedItem) (high n : ℕ)
    → AreAsked config stamps low asked high → high < n → AreAsked config stamps low (asked ++ own_asked config stamps n ∷ []) n
asked_more config stamps low [] high n are above =
    let rises : low < n = omega (arith, are, above) in
    let ends : n ≤ n = omega arith in
    (n, rises, refl, ends)
asked_more config stamps low (one ∷ asked) high n are above =
    (are.0, are.1, are.2, asked_more config stamps are.0 asked high n are.3 above)

asked_all : (config : LinkConfig) (stamps : Timestamps) (count : ℕ)
    → AreAsked config stamps 0 (asked_with (Some stamps) (item_requests config count)) count
asked_all config stamps zero = omega arith
asked_all config stamps (suc count) =
    let above : count < suc count = omega arith in
    let named : MonitoredItemCreateRequest → AskedItem = λ (item : MonitoredItemCreateRequest). record { stamps = stamps; item = item } in
    subst (λ (l : List AskedItem). AreAsked config stamps 0 l (suc count))
    (sym (map-append named (item_requests config count) (item_request config (suc count) ∷ [])))
    (asked_more config stamps 0 (asked_with (Some stamps) (item_requests config count)) count (suc count) (asked_all config stamps count) above)

asked_most : (config : LinkConfig) (stamps : Timestamps) (low : ℕ) (asked : List AskedItem) (high : ℕ)
    → AreAsked config stamps low asked high → low ≤ high
asked_most config stamps low [] high are = are
asked_most config stamps low (one ∷ asked) high are =
    let more : are.0 ≤ high = asked_most config stamps are.0 asked high are.3 in
    let less : low < are.0 = are.1 in
    omega (arith, more, less)

-- ---- what is made of one

number_is : (b : Bool) (n node : ℕ) → cond b (Some n) None ≡ Some node → node ≡ n
number_is true n node is = sym (same_Some n node is)
number_is false n node is = absurd cc

two_at_least : (asked made : ℕ) → made ≡ revised_queue asked → 2 ≤ asked → 2 ≤ made
two_at_least asked made is wide = omega (arith, is, wide)

own_item : Makes → (items : ℕ) (config : LinkConfig) (stamps : Timestamps) (n high : ℕ) (one : AskedItem) (spec : ItemSpec)
    → one ≡ own_asked config stamps n → 1 ≤ n → n ≤ high → judged items one.stamps one.item ≡ Ok spec
    → (spec.handle ≡ n) × IsOwnItem config high stamps spec
unfolding item_request
own_item makes items config stamps n high one spec is least most made =
    let such : IsAsAsked items stamps (item_request config n) spec =
    makes items stamps (item_request config n) spec (subst (λ (a : AskedItem). judged items a.stamps a.item ≡ Ok spec) is made) in
    let handle : spec.handle ≡ n = such.handle in (
      handle,
      record {
        node = number_is _ n spec.node such.node ∙ sym handle;
        least = subst (λ (m : ℕ). 1 ≤ m) (sym handle) least;
        most = subst (λ (m : ℕ). m ≤ high) (sym handle) most;
        queue = such.queue;
        wide = two_at_least config.queue spec.queue such.queue;
        timed = such.stamps;
      },
    )

-- ---- and of all

abbrev AreRising : LinkConfig → Timestamps → ℕ → List ItemSpec → ℕ → Type 0
AreRising config stamps low [] high = Unit {0}
AreRising config stamps low (spec ∷ specs) high =
    (low < spec.handle) × IsOwnItem config high stamps spec × AreRising config stamps spec.handle specs high

lower : (config : LinkConfig) (stamps : Timestamps) (low mid : ℕ) (specs : List ItemSpec) (high : ℕ) → low ≤ mid
    → AreRising config stamps mid specs high → AreRising config stamps low specs high
lower config stamps low mid [] high less are = tt
lower config stamps low mid (spec ∷ specs) high less are =
    let from : mid < spec.handle = are.0 in
    let rises : low < spec.handle = omega (arith, less, from) in
    (rises, are.1, are.2)

made_rise : Makes → (items : ℕ) (config : LinkConfig) (stamps : Timestamps) (low : ℕ) (specs : List ItemSpec) (asked : List AskedItem)
    (high : ℕ) → AreMadeOf items specs asked → AreAsked config stamps low asked high → AreRising config stamps low specs high
made_rise makes items config stamps low [] asked high made are = tt
made_rise makes items config stamps low (spec ∷ specs) [] high made are = absurd made
made_rise makes items config stamps low (spec ∷ specs) (one ∷ asked) high (inl made) are =
    let from : low < are.0 = are.1 in
    let least : 1 ≤ are.0 = omega (arith, from) in
    let most : are.0 ≤ high = asked_most config stamps are.0 asked high are.3 in
    let own : (spec.handle ≡ are.0) × IsOwnItem config high stamps spec = own_item makes items config stamps are.0 high one spec are.2 least most made.0 in
    let same : spec.handle ≡ are.0 = own.0 in (
      subst (λ (m : ℕ). low < m) (sym same) from,
      own.1,
      subst (λ (m : ℕ). AreRising config stamps m specs high) (sym same)
          (made_rise makes items config stamps are.0 specs asked high made.1 are.3),
    )
made_rise makes items config stamps low (spec ∷ specs) (one ∷ asked) high (inr made) are =
    let from : low < are.0 = are.1 in
    let less : low ≤ are.0 = omega (arith, from) in
    lower config stamps low are.0 (spec ∷ specs) high less
    (made_rise makes items config stamps are.0 (spec ∷ specs) asked high made are.3)

-- ---- by places

at_place : (config : LinkConfig) (stamps : Timestamps) (low : ℕ) (specs : List ItemSpec) (high place : ℕ) (spec : ItemSpec)
    → AreRising config stamps low specs high → slice_get specs place ≡ Some spec
    → (low < spec.handle) × IsOwnItem config high stamps spec
at_place config stamps low [] high place spec are here = let bad : None ≡ Some spec = here in absurd cc
at_place config stamps low (first ∷ specs) high zero spec are here =
    subst (λ (s : ItemSpec). (low < s.handle) × IsOwnItem config high stamps s) (same_Some first spec here) (are.0, are.1)
at_place config stamps low (first ∷ specs) high (suc place) spec are here =
    let more : (first.handle < spec.handle) × IsOwnItem config high stamps spec = at_place config stamps first.handle specs high place spec are.2 here in
    let from : low < first.handle = are.0 in
    let later : first.handle < spec.handle = more.0 in
    let rises : low < spec.handle = omega (arith, from, later) in
    (rises, more.1)

behind : (config : LinkConfig) (stamps : Timestamps) (first : ItemSpec) (specs : List ItemSpec) (high place : ℕ) (one two : ItemSpec)
    → AreRising config stamps first.handle specs high → Some first ≡ Some one → slice_get specs place ≡ Some two
    → one.handle < two.handle
behind config stamps first specs high place one two are here there =
    subst (λ (s : ItemSpec). s.handle < two.handle) (same_Some first one here)
    (at_place config stamps first.handle specs high place two are there).0

apart : (config : LinkConfig) (stamps : Timestamps) (low : ℕ) (specs : List ItemSpec) (high place other : ℕ) (one two : ItemSpec)
    → AreRising config stamps low specs high → slice_get specs place ≡ Some one → slice_get specs other ≡ Some two
    → one.handle ≡ two.handle → place ≡ other
apart config stamps low [] high place other one two are here there same = let bad : None ≡ Some one = here in absurd cc
apart config stamps low (first ∷ specs) high zero zero one two are here there same = refl
apart config stamps low (first ∷ specs) high zero (suc other) one two are here there same =
    let less : one.handle < two.handle = behind config stamps first specs high other one two are.2 here there in
    absurd (omega (arith, less, same))
apart config stamps low (first ∷ specs) high (suc place) zero one two are here there same =
    let less : two.handle < one.handle = behind config stamps first specs high place two one are.2 there here in
    absurd (omega (arith, less, same))
apart config stamps low (first ∷ specs) high (suc place) (suc other) one two are here there same =
    ap suc (apart config stamps first.handle specs high place other one two are.2 here there same)

pub own_items : Makes → (items : ℕ) (config : LinkConfig) (count : ℕ) (stamps : Timestamps) (specs : List ItemSpec)
    → AreMadeOf items specs (asked_with (Some stamps) (item_requests config count)) → AreOwnItems config count stamps specs
own_items makes items config count stamps specs made =
    let rise : AreRising config stamps 0 specs count =
    made_rise makes items config stamps 0 specs (asked_with (Some stamps) (item_requests config count)) count made (asked_all config stamps count) in
    record {
      each = λ place spec here. (at_place config stamps 0 specs count place spec rise here).1;
      apart = λ place other one two here there same. apart config stamps 0 specs count place other one two rise here there same;
    }
