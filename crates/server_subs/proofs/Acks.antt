-- What an acknowledgement says of the kept messages.
use Rattle.std.proofs.Common.{◌≡◌, ℕ, ◌==◌, List, [], ◌∷◌, Bool, true, false, Option, Some, None, refl, sym, ◌∙◌, ap}
use Rattle.std.specs.Prelude.{Result, Ok, Err, IsErr, is_ok, is_some, OnErr, OnOk, ◌↔◌}
use Rattle.retransmit.specs.declared.retransmission.Sent.{Sent}
use Rattle.retransmit.specs.Kept.{message_of, without}
use Rattle.subscription.specs.Calls.{acknowledged}
use Rattle.subscription.specs.State.{SubState}

stays_test : {M : Type 0} (number : ℕ) (sent : Sent M) (kept : List (Sent M)) (b : Bool) → (sent.number == number) ≡ b
    → (message_of number kept ≡ None → without number kept ≡ kept)
    → message_of number (sent ∷ kept) ≡ None → without number (sent ∷ kept) ≡ sent ∷ kept
stays_test number sent kept true is rest none = let h = rw is at none in absurd cc
stays_test number sent kept false is rest none = rw is (ap (λ more. sent ∷ more) (rest (let h = rw is at none in h)))

-- where none of this number is kept, all stay
pub stays : {M : Type 0} (number : ℕ) (kept : List (Sent M)) → message_of number kept ≡ None → without number kept ≡ kept
stays number [] none = refl
stays number (sent ∷ kept) none = stays_test number sent kept _ refl (stays number kept) none

pub known : {M E : Type 0} (result : Result (Unit {0}) E) (found : Option M) → (IsErr result ↔ (found ≡ None)) → is_ok result ≡ is_some found
known (Ok one) None h = absurd (let fails = h.1 refl in cc)
known (Ok one) (Some message) h = refl
known (Err fault) None h = refl
known (Err fault) (Some message) h = let no_such = h.0 refl in absurd cc

-- the call comes to this, also where none of this number is kept
pub gives : {E : Type 0} (result : Result (Unit {0}) E) (number : ℕ) (before after : SubState) → OnOk result (after ≡ acknowledged number before)
    → OnErr result (after ≡ before) → (IsErr result ↔ (message_of number before.kept ≡ None)) → after ≡ acknowledged number before
gives (Ok one) number before after ok err none = ok
gives (Err fault) number before after ok err none =
    err ∙ ap (λ kept. record before { kept = kept }) (sym (stays number before.kept (none.0 refl)))
