-- A set that begins, and its servers' lives: over messages they show what they are over bytes.
use Rattle.std.proofs.Common.{◌≡◌, ◌==◌, reverse, ℕ, zero, suc, ◌+◌, ◌^◌, ◌≤◌, ◌<◌, pos, Bool, true, false, cond, List, [], ◌∷◌, ◌++◌, length, codes, Option, Some, None, IfSome, refl, sym, subst, arith, FitsSigned}
use Rattle.std.proofs.lemmas.Fmt.{length-decimal-le}
use Rattle.std.proofs.lemmas.List.{length-append, reverse-append}
use Rattle.std.specs.Fmt.{decimal}
use Rattle.std.specs.Int.{w64}
use Rattle.std.specs.List.{AllByRecursion, find}
use Rattle.ua_base.specs.declared.modes.SetMode.{SetMode}
use Rattle.ua_base.specs.declared.modes.SetMode.TheVariants.{Direct, Hot, Warm, Cold}
use Rattle.ua_values.specs.Limits.{most_bytes}
use Rattle.set_model.specs.declared.source.Change.{Change}
use Rattle.set_model.specs.Source.{last_of}
use Rattle.client_keeps.specs.Fitting as client_keeps
use Rattle.server_keeps.specs.Fitting.{FitsChange, FitsConfig, KeepsMember}
use Rattle.set_rules.specs.Slots.{current_of, currents}
use Rattle.set_world.specs.Texts.{client_config, member, members, server_config, support_of, uri_text, url_text, urls}

-- ---- short texts

short : (n : ℕ) → n ≤ 8 → length (decimal n) ≤ 20
short n less = length-decimal-le 20 n (omega arith) (omega arith) (omega (arith, less))

uri_short : (n : ℕ) → n ≤ 8 → length (uri_text n) ≤ 40
uri_short n less =
    let one = short n less in
    let all : length (uri_text n) ≡ 17 + length (decimal n) = length-append (codes "urn:uaset:server:") (decimal n) in
    omega (arith, one, all)

url_short : (n : ℕ) → n ≤ 8 → length (url_text n) ≤ 41
url_short n less =
    let one = short n less in
    let all : length (url_text n) ≡ 16 + length (decimal n ++ codes ":4840") = length-append (codes "opc.tcp://server") (decimal n ++ codes ":4840") in
    let rest : length (decimal n ++ codes ":4840") ≡ length (decimal n) + 5 = length-append (decimal n) (codes ":4840") in
    omega (arith, one, all, rest)

-- ---- configurations

most_texts : (n : ℕ) → n ≤ 41 → n ≤ most_bytes
most_texts n less = omega (arith, less)

member_fits : (n : ℕ) → n ≤ 8 → KeepsMember (member n)
member_fits n less = record {
  uri = most_texts (length (uri_text n)) (let few = uri_short n less in omega (arith, few));
  url = most_texts (length (url_text n)) (url_short n less);
}

all_join : {A : Type 0} (P : A → Type 0) (xs : List A) (y : A) → AllByRecursion P xs → P y → AllByRecursion P (xs ++ y ∷ [])
all_join P [] y all one = (one, tt)
all_join P (x ∷ xs) y all one = (all.0, all_join P xs y all.1 one)

members_fit : (count : ℕ) → count ≤ 8 → AllByRecursion KeepsMember (members count)
unfolding members
members_fit zero less = tt
members_fit (suc count) less =
    all_join KeepsMember (members count) (member (count + 1)) (members_fit count (omega (arith, less))) (member_fits (count + 1) (omega (arith, less)))

members_long : (count : ℕ) → length (members count) ≡ count
unfolding members
members_long zero = refl
members_long (suc count) = let last = length-append (members count) (member (count + 1) ∷ []) in let before = members_long count in omega (arith, last, before)

url_fits : (n : ℕ) → n ≤ 8 → client_keeps.FitsUrl (Some (url_text n))
url_fits n less = let few = url_short n less in omega (arith, few)

urls_fit : (count : ℕ) → count ≤ 8 → AllByRecursion client_keeps.FitsUrl (urls count)
unfolding urls
urls_fit zero less = tt
urls_fit (suc count) less =
    all_join client_keeps.FitsUrl (urls count) (Some (url_text (count + 1))) (urls_fit count (omega (arith, less))) (url_fits (count + 1) (omega (arith, less)))

support_fits : (mode : SetMode) → support_of mode < 2 ^ 8
support_fits Direct = omega arith
support_fits Hot = omega arith
support_fits Warm = omega arith
support_fits Cold = omega arith

start_fits : FitsSigned w64 (pos 132000000000000000)
start_fits = record { sfits = omega arith }

pub server_fits : (mode : SetMode) (servers items number boot : ℕ) → servers ≤ 8 → boot < 2 ^ 16 → FitsConfig (server_config mode servers items number boot)
server_fits mode servers items number boot few small = record {
  boot = small;
  support = support_fits mode;
  members = (let long = members_long servers in omega (arith, long, few), members_fit servers few);
  start = start_fits;
}

pub client_fits : (mode : SetMode) (servers items queue : ℕ) (oldest : Bool) → servers ≤ 8 → items < 2 ^ 8 → queue < 2 ^ 32
    → client_keeps.FitsConfig (client_config mode servers items queue oldest)
client_fits mode servers items queue oldest few some long =
    record { urls = urls_fit servers few; items = some; queue = long; start = start_fits }

-- ---- current values

last_fits_by : (o : Option Change) → IfSome o FitsChange → AllByRecursion FitsChange (current_of o)
last_fits_by None fits = tt
last_fits_by (Some change) fits = (fits, tt)

-- the last of a list that is of an item is one of the list
found_fits : (p : Change → Bool) (changes : List Change) → AllByRecursion FitsChange changes → IfSome (find p changes) FitsChange
found_fits p [] all = tt
found_fits p (change ∷ changes) all = found_by (p change) (found_fits p changes all.1)
  where
    found_by : (b : Bool) → IfSome (find p changes) FitsChange → IfSome (cond b (Some change) (find p changes)) FitsChange
    found_by true later = all.0
    found_by false later = later

reversed_fits : (changes : List Change) → AllByRecursion FitsChange changes → AllByRecursion FitsChange (reverse changes)
reversed_fits [] all = tt
reversed_fits (change ∷ changes) all =
    subst (AllByRecursion FitsChange) (sym (reverse-append (change ∷ []) changes))
    (all_join FitsChange (reverse changes) change (reversed_fits changes all.1) all.0)

last_fits : (item : ℕ) (source : List Change) → AllByRecursion FitsChange source → AllByRecursion FitsChange (current_of (last_of item source))
last_fits item source all = last_fits_by (last_of item source) (found_fits (λ c. c.item == item) (reverse source) (reversed_fits source all))

both_fit : (xs ys : List Change) → AllByRecursion FitsChange xs → AllByRecursion FitsChange ys → AllByRecursion FitsChange (xs ++ ys)
both_fit [] ys one other = other
both_fit (x ∷ xs) ys one other = (one.0, both_fit xs ys one.1 other)

pub currents_fit : (count : ℕ) (source : List Change) → AllByRecursion FitsChange source → AllByRecursion FitsChange (currents count source)
unfolding currents
currents_fit zero source all = tt
currents_fit (suc count) source all =
    both_fit (currents count source) (current_of (last_of (count + 1) source)) (currents_fit count source all) (last_fits (count + 1) source all)
