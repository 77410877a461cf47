-- The item of an id is the one of that place among those that were made.
use Rattle.std.proofs.Common.{◌≡◌, ℕ, zero, suc, ◌+◌, ◌==◌, List, [], ◌∷◌, ◌++◌, Bool, true, false, cond, length, Option, Some, None, refl, sym, ap, ◌∙◌, arith, slice_get}
use Rattle.std.specs.Prelude.{reverse}
use Rattle.std.proofs.lemmas.Bool.Decides.{nat_tests}
use Rattle.std.proofs.lemmas.List.{length-reverse, reverse-append}
use Rattle.subscription.specs.declared.spec.ItemSpec.{ItemSpec}
use Rattle.subscription.specs.declared.spec.SubSpec.{SubSpec}
use Rattle.subscription.specs.History.{Call, Add, Remove, SetMode, Feed, Timer, Publish, Acknowledge, Modify, SetEnabled, Moved, state_of}
use Rattle.server_laws.specs.Bounded.{items_made}
use Rattle.server_laws.proofs.Waking.{given_made}
use Rattle.server_chains.specs.Chains.{spec_of}

next_test : (count place : ℕ) (b : Bool) → (count + 1 == place + 1) ≡ b → (count == place) ≡ b
next_test count place true test = grind (arith, nat_tests)
next_test count place false test = grind (arith, nat_tests)

one_less : (count place : ℕ) (b : Bool) → (suc count == suc place) ≡ b → (count == place) ≡ b
one_less count place true test = grind (arith, nat_tests)
one_less count place false test = grind (arith, nat_tests)

get_more : (items : List ItemSpec) (added : ItemSpec) (place : ℕ) (b : Bool) → (length items == place) ≡ b
    → slice_get (items ++ added ∷ []) place ≡ cond b (Some added) (slice_get items place)
get_more [] added zero true test = refl
get_more [] added zero false test = absurd (grind (arith, nat_tests))
get_more [] added (suc place) true test = absurd (grind (arith, nat_tests))
get_more [] added (suc place) false test = refl
get_more (item ∷ items) added zero true test = absurd (grind (arith, nat_tests))
get_more (item ∷ items) added zero false test = refl
get_more (item ∷ items) added (suc place) b test = get_more items added place b (one_less (length items) place b test)

item_more : (given place : ℕ) (added : ItemSpec) (found : Option ItemSpec) (items : List ItemSpec) → length items ≡ given → found ≡ slice_get items place
    → cond (given + 1 == place + 1) (Some added) found ≡ slice_get (items ++ added ∷ []) place
item_more given place added found items same is =
    ap (cond (given + 1 == place + 1) (Some added)) is
    ∙ sym (get_more items added place (given + 1 == place + 1) (ap (λ n. n == place) same ∙ next_test given place (given + 1 == place + 1) refl))

pub in_place : (spec : SubSpec) (start : ℕ) (calls : List Call) (place : ℕ) → spec_of (place + 1) spec start calls ≡ slice_get (reverse (items_made calls)) place
in_place spec start [] place = refl
in_place spec start (Add added current ∷ earlier) place =
    item_more (state_of spec start earlier).given place added (spec_of (place + 1) spec start earlier) (reverse (items_made earlier))
    (length-reverse (items_made earlier) ∙ given_made spec start earlier) (in_place spec start earlier place)
    ∙ ap (λ l. slice_get l place) (sym (reverse-append (added ∷ []) (items_made earlier)))
in_place spec start (Remove id ∷ earlier) place = in_place spec start earlier place
in_place spec start (SetMode id mode current ∷ earlier) place = in_place spec start earlier place
in_place spec start (Feed change ∷ earlier) place = in_place spec start earlier place
in_place spec start (Timer queued ∷ earlier) place = in_place spec start earlier place
in_place spec start (Publish now ∷ earlier) place = in_place spec start earlier place
in_place spec start (Acknowledge number ∷ earlier) place = in_place spec start earlier place
in_place spec start (Modify changed now ∷ earlier) place = in_place spec start earlier place
in_place spec start (SetEnabled enabled ∷ earlier) place = in_place spec start earlier place
in_place spec start (Moved ∷ earlier) place = in_place spec start earlier place

no_item : (given : ℕ) (added : ItemSpec) (found : Option ItemSpec) → found ≡ None → cond (given + 1 == 0) (Some added) found ≡ None
no_item given added found none =
    let test : (given + 1 == 0) ≡ false = grind (arith, nat_tests) in
    ap (λ b. cond b (Some added) found) test ∙ none

-- ids begin with 1
pub none_of : (spec : SubSpec) (start : ℕ) (calls : List Call) → spec_of 0 spec start calls ≡ None
none_of spec start [] = refl
none_of spec start (Add added current ∷ earlier) =
    no_item (state_of spec start earlier).given added (spec_of 0 spec start earlier) (none_of spec start earlier)
none_of spec start (Remove id ∷ earlier) = none_of spec start earlier
none_of spec start (SetMode id mode current ∷ earlier) = none_of spec start earlier
none_of spec start (Feed change ∷ earlier) = none_of spec start earlier
none_of spec start (Timer queued ∷ earlier) = none_of spec start earlier
none_of spec start (Publish now ∷ earlier) = none_of spec start earlier
none_of spec start (Acknowledge number ∷ earlier) = none_of spec start earlier
none_of spec start (Modify changed now ∷ earlier) = none_of spec start earlier
none_of spec start (SetEnabled enabled ∷ earlier) = none_of spec start earlier
none_of spec start (Moved ∷ earlier) = none_of spec start earlier
