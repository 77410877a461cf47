-- What the nodes of a set are made with fits.
use Rattle.std.proofs.Common.{◌≡◌, ℕ, zero, suc, ◌+◌, ◌^◌, ◌≤◌, ◌<◌, pos, Bool, List, [], ◌∷◌, ◌++◌, length, codes, Some, refl, arith, FitsSigned}
use Rattle.std.proofs.lemmas.Fmt.{length-decimal-le}
use Rattle.std.proofs.lemmas.List.{length-append}
use Rattle.std.specs.Fmt.{decimal}
use Rattle.std.specs.Int.{w64}
use Rattle.std.specs.List.{AllByRecursion}
use Rattle.ua_base.specs.declared.modes.SetMode.{SetMode}
use Rattle.ua_base.specs.declared.modes.SetMode.TheVariants.{Cold, Direct, Hot, Warm}
use Rattle.ua_values.specs.Limits.{most_bytes}
use Rattle.client_keeps.specs.Fitting as client_keeps
use Rattle.server_keeps.specs.Fitting.{FitsConfig, KeepsMember}
use Rattle.set_histories.specs.Below.{client_config, member, members, server_config, support_of, uri_text, url_text, urls}

-- ---- names and addresses of at most eight servers

digits_few : (n : ℕ) → n ≤ 8 → length (decimal n) ≤ 20
digits_few n less = length-decimal-le 20 n (omega arith) (omega arith) (omega (arith, less))

uri_few : (n : ℕ) → n ≤ 8 → length (uri_text n) ≤ 40
uri_few n less =
    let digits = digits_few n less in
    let all : length (uri_text n) ≡ 17 + length (decimal n) = length-append (codes "urn:uaset:server:") (decimal n) in
    omega (arith, digits, all)

url_few : (n : ℕ) → n ≤ 8 → length (url_text n) ≤ 41
url_few n less =
    let digits = digits_few n less in
    let all : length (url_text n) ≡ 16 + length (decimal n ++ codes ":4840") = length-append (codes "opc.tcp://server") (decimal n ++ codes ":4840") in
    let rest : length (decimal n ++ codes ":4840") ≡ length (decimal n) + 5 = length-append (decimal n) (codes ":4840") in
    omega (arith, digits, all, rest)

within_most : (n : ℕ) → n ≤ 41 → n ≤ most_bytes
within_most n less = omega (arith, less)

member_keeps : (n : ℕ) → n ≤ 8 → KeepsMember (member n)
member_keeps n less = record {
  uri = within_most (length (uri_text n)) (let few = uri_few n less in omega (arith, few));
  url = within_most (length (url_text n)) (url_few n less);
}

url_keeps : (n : ℕ) → n ≤ 8 → client_keeps.FitsUrl (Some (url_text n))
url_keeps n less = let few = url_few n less in omega (arith, few)

-- ---- all of them

one_behind : {A : Type 0} (P : A → Type 0) (xs : List A) (y : A) → AllByRecursion P xs → P y → AllByRecursion P (xs ++ y ∷ [])
one_behind P [] y all one = (one, tt)
one_behind P (x ∷ xs) y all one = (all.0, one_behind P xs y all.1 one)

members_keep : (count : ℕ) → count ≤ 8 → AllByRecursion KeepsMember (members count)
unfolding members
members_keep zero less = tt
members_keep (suc count) less =
    one_behind KeepsMember (members count) (member (count + 1)) (members_keep count (omega (arith, less))) (member_keeps (count + 1) (omega (arith, less)))

members_count : (count : ℕ) → length (members count) ≡ count
unfolding members
members_count zero = refl
members_count (suc count) = let last = length-append (members count) (member (count + 1) ∷ []) in let before = members_count count in omega (arith, last, before)

urls_keep : (count : ℕ) → count ≤ 8 → AllByRecursion client_keeps.FitsUrl (urls count)
unfolding urls
urls_keep zero less = tt
urls_keep (suc count) less =
    one_behind client_keeps.FitsUrl (urls count) (Some (url_text (count + 1))) (urls_keep count (omega (arith, less))) (url_keeps (count + 1) (omega (arith, less)))

-- ---- configs

support_is_byte : (mode : SetMode) → support_of mode < 2 ^ 8
support_is_byte Direct = omega arith
support_is_byte Hot = omega arith
support_is_byte Warm = omega arith
support_is_byte Cold = omega arith

start_is_long : FitsSigned w64 (pos 132000000000000000)
start_is_long = record { sfits = omega arith }

pub server_config_fits : (mode : SetMode) (servers items number boot : ℕ) → servers ≤ 8 → boot < 2 ^ 16 → FitsConfig (server_config mode servers items number boot)
server_config_fits mode servers items number boot few small = record {
  boot = small;
  support = support_is_byte mode;
  members = (let long = members_count servers in omega (arith, long, few), members_keep servers few);
  start = start_is_long;
}

pub client_config_fits : (mode : SetMode) (servers items queue : ℕ) (oldest : Bool) → servers ≤ 8 → items < 2 ^ 8 → queue < 2 ^ 32
    → client_keeps.FitsConfig (client_config mode servers items queue oldest)
client_config_fits mode servers items queue oldest few some long = record { urls = urls_keep servers few; items = some; queue = long; start = start_is_long }
