-- One level of values that hold others.
use Rattle.std.proofs.Common.{◌≡◌, ℕ, suc, ◌-◌, ◌<◌, Result, Err, sym, ap, subst, ◌∙◌, arith}
use Rattle.ua_base.specs.Status.{bad_encoding_limits_exceeded}
use Rattle.ua_values.specs.declared.fault.ValueFault.{ValueFault}
use Rattle.ua_values.specs.declared.fault.ValueFault.TheVariants as faults
use Rattle.ua_values.specs.Reading.{Input, Fault, Bad, Fails}
use Rattle.ua_variants.specs.Reader.{diagnostic_by_at, diagnostic_at, variant_by_at, variant_at, data_value_by_at, data_value_at}

-- what is refused for its depth
pub is_refused : {A : Type 0} (e : ValueFault) (p place code : ℕ) (read : Result A Fault) → e ≡ faults.Bad p code → p ≡ place → read ≡ Err (Bad place code) → Fails e read
is_refused e p place code read is there fails = subst (λ (f : ValueFault). Fails f read) (sym is) (fails ∙ ap (λ (n : ℕ). Err (Bad n code)) (sym there))

one_more : (levels : ℕ) → 0 < levels → levels ≡ suc (levels - 1)
one_more levels some = omega arith

pub diagnostic_none : (levels : ℕ) (from : Input) → levels ≡ 0 → diagnostic_at levels from ≡ Err (Bad from.place bad_encoding_limits_exceeded)
unfolding diagnostic_at
diagnostic_none levels from none = ap (λ (n : ℕ). diagnostic_at n from) none

pub diagnostic_some : (levels : ℕ) → 0 < levels → diagnostic_at levels ≡ diagnostic_by_at (diagnostic_at (levels - 1))
unfolding diagnostic_at
diagnostic_some levels some = ap diagnostic_at (one_more levels some)

pub variant_none : (levels : ℕ) (from : Input) → levels ≡ 0 → variant_at levels from ≡ Err (Bad from.place bad_encoding_limits_exceeded)
unfolding variant_at data_value_at
variant_none levels from none = ap (λ (n : ℕ). variant_at n from) none

pub variant_some : (levels : ℕ) → 0 < levels → variant_at levels ≡ variant_by_at (variant_at (levels - 1)) (data_value_at (levels - 1))
unfolding variant_at data_value_at
variant_some levels some = ap variant_at (one_more levels some)

pub data_value_none : (levels : ℕ) (from : Input) → levels ≡ 0 → data_value_at levels from ≡ Err (Bad from.place bad_encoding_limits_exceeded)
unfolding variant_at data_value_at
data_value_none levels from none = ap (λ (n : ℕ). data_value_at n from) none

pub data_value_some : (levels : ℕ) → 0 < levels → data_value_at levels ≡ data_value_by_at (variant_at (levels - 1))
unfolding variant_at data_value_at
data_value_some levels some = ap data_value_at (one_more levels some)
