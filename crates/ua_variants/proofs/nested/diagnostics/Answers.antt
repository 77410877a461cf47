use Rattle.std.proofs.Common.{◌≡◌, ◌++◌, ◌∷◌, []}
use Rattle.std.proofs.lemmas.Result.{err_from_is_err_and}
use Rattle.ua_values.specs.Readers.{elements_at}
use Rattle.ua_values.proofs.ArrayLoop.{goes_on, stops}
use Rattle.ua_variants.specs.Reader.{diagnostic_at}
use Rattle.ua_variants.proofs.nested.diagnostics.Goals as goal

pub returns-in_err-element : goal.returns-in_err-element
returns-in_err-element c =
    let p = err_from_is_err_and c.from_residual.result c.from_residual.ensures.1 in
    rw (p.1, p.2) (stops c.in_err-element.field-0.0 (diagnostic_at 101) c.loop-i.items.items c.args.count c.loop-i._i c.loop-i.from (elements_at c.args.count (diagnostic_at 101) c.args.from.now) c.loop-i-test.true c.in_err-element.ensures c.loop-i.invariant)

pub loop-i-preserved : goal.loop-i-preserved
loop-i-preserved c =
    let e : c.push.new.self.items ≡ c.loop-i.items.items ++ c.in_ok-element.element ∷ [] = c.in_ok-push.ensures.items in
    rw e (goes_on (diagnostic_at 101) c.loop-i.items.items c.args.count c.loop-i._i c.loop-i.from c.in_ok-element.element c.diagnostic.new.from (elements_at c.args.count (diagnostic_at 101) c.args.from.now) c.loop-i-test.true c.in_ok-element.ensures c.loop-i.invariant)
