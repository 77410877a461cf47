use Rattle.std.proofs.Common.{◌<◌, sym, subst, arith}
use Rattle.ua_base.specs.Status.{bad_encoding_limits_exceeded}
use Rattle.ua_values.specs.Reading.{Moves, Reader}
use Rattle.ua_values.specs.Readers.{elements_at}
use Rattle.ua_values.proofs.ArrayLoop.{goes_on}
use Rattle.ua_variants.specs.declared.variant.Variant.{Variant}
use Rattle.ua_variants.specs.declared.variant.Stamped.{Stamped}
use Rattle.ua_variants.specs.Reader.{variant_at, data_value_at}
use Rattle.ua_variants.proofs.Depth.{is_refused, variant_none, variant_some, data_value_none, data_value_some}
use Rattle.ua_variants.proofs.nested.+reads.Goals as goal

pub variant-returns-then-levels-eq0 : goal.variant-returns-then-levels-eq0
variant-returns-then-levels-eq0 t c =
    is_refused c.too_deep.result c.place.result c.args.from.now.place bad_encoding_limits_exceeded (variant_at c.args.levels c.args.from.now) c.too_deep.ensures c.place.ensures (variant_none c.args.levels c.args.from.now c.if-levels-eq0.true)

pub variant-returns : goal.variant-returns
variant-returns t c =
    let some : 0 < c.args.levels = omega (arith, c.if-levels-eq0.false) in
    subst (λ (at : Reader Variant). Moves (λ x. x) c.variant_in.result c.variant_in.new.from (at c.args.from.now)) (sym (variant_some c.args.levels some)) c.variant_in.ensures

pub data_value-returns-then-levels-eq0 : goal.data_value-returns-then-levels-eq0
data_value-returns-then-levels-eq0 t c =
    is_refused c.too_deep.result c.place.result c.args.from.now.place bad_encoding_limits_exceeded (data_value_at c.args.levels c.args.from.now) c.too_deep.ensures c.place.ensures (data_value_none c.args.levels c.args.from.now c.if-levels-eq0.true)

pub data_value-returns : goal.data_value-returns
data_value-returns t c =
    let some : 0 < c.args.levels = omega (arith, c.if-levels-eq0.false) in
    subst (λ (at : Reader (Stamped Variant)). Moves (λ x. x) c.data_value_in.result c.data_value_in.new.from (at c.args.from.now)) (sym (data_value_some c.args.levels some)) c.data_value_in.ensures

pub variants-loop-i-preserved : goal.variants-loop-i-preserved
variants-loop-i-preserved t c =
    rw c.in_ok-push.ensures.ok (goes_on (variant_at c.args.levels) c.loop-i.items c.args.count c.loop-i._i c.loop-i.from c.in_ok-element.element c.variant.new.from (elements_at c.args.count (variant_at c.args.levels) c.args.from.now) c.loop-i-test.true c.in_ok-element.ensures c.loop-i.invariant)

pub data_values-loop-i-preserved : goal.data_values-loop-i-preserved
data_values-loop-i-preserved t c =
    rw c.in_ok-push.ensures.ok (goes_on (data_value_at c.args.levels) c.loop-i.items c.args.count c.loop-i._i c.loop-i.from c.in_ok-element.element c.data_value.new.from (elements_at c.args.count (data_value_at c.args.levels) c.args.from.now) c.loop-i-test.true c.in_ok-element.ensures c.loop-i.invariant)
