-- What is to be shown of an input, and what a call answers of it.
use Rattle.std.specs.Prelude.{◌≡◌, ℕ, List, Result, Ok, Err}
use Rattle.show.specs.declared.fault.ShowFault.{ShowFault}
use Rattle.show.specs.declared.fault.ShowFault.TheVariants as faults

-- where an input breaks a rule, and the code of the rule
pub record Refusal : Type 0 where
  pub place : ℕ
  pub code : ℕ

abbrev pub refusal : ℕ → ℕ → Refusal
refusal place code = record { place = place; code = code }

-- a fault is what is to be shown, unless memory was refused
abbrev pub IsShownFault : ShowFault → Result (List ℕ) Refusal → Type 0
IsShownFault (faults.Bad place code) shown = shown ≡ Err (refusal place code)
IsShownFault faults.OutOfMemory shown = Unit {0}

-- what a call answered is what is to be shown
abbrev pub Shows : {X : Type 0} → (X → List ℕ) → Result X ShowFault → Result (List ℕ) Refusal → Type 0
Shows view (Ok x) shown = shown ≡ Ok (view x)
Shows view (Err fault) shown = IsShownFault fault shown
