use Rattle.std.proofs.Common.{◌≡◌, ℕ, get_or, ◌-◌, ◌*◌, ◌+◌, ◌^◌, ◌∷◌, suc, min, drop, ap, ◌∙◌, arith}
use Rattle.std.proofs.Math.Nat.{min-le_right}
use Rattle.std.proofs.Math.Seq.{drop-cons}
use Rattle.std.proofs.lemmas.List.{drop_all}
use Rattle.ua_variants.specs.Grammar.{product}
use Rattle.ua_variants.proofs.Products.{more_product, whole_product}
use Rattle.ua_variants.proofs.dimensions.product.Goals as goal

pub loop-size-preserved : goal.loop-size-preserved
loop-size-preserved c =
    let i = c.loop-size.size-index in
    let sizes = c.args.sizes.now in
    let one : suc i ≡ i + 1 = omega arith in
    let next : drop i sizes ≡ c.from.result ∷ drop (i + 1) sizes = drop-cons sizes i 0 c.loop-size-test.true ∙ rw c.from.ensures (ap (λ (j : ℕ). get_or sizes i 0 ∷ drop j sizes) one) in
    let whole = more_product c.loop-size.total c.from.result (2 ^ 128 - 1) (drop (i + 1) sizes) (drop i sizes) (min (product sizes) (2 ^ 128 - 1)) next c.loop-size.invariant.1 in
    rw c.saturating_mul-total.ensures (min-le_right (c.loop-size.total * c.from.result) (2 ^ 128 - 1), whole)

pub returns : goal.returns
returns c = whole_product c.loop-size.total (2 ^ 128 - 1) (drop c.loop-size.size-index c.args.sizes.now) (min (product c.args.sizes.now) (2 ^ 128 - 1)) c.loop-size.invariant.0 (drop_all _ c.args.sizes.now c.loop-size-test.false) c.loop-size.invariant.1
