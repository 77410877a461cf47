use Rattle.std.proofs.Common.{◌<◌, sym, subst, arith}
use Rattle.ua_base.specs.Status.{bad_encoding_limits_exceeded}
use Rattle.ua_values.specs.Reading.{Moves, Reader}
use Rattle.ua_variants.specs.declared.variant.DiagnosticInfo.{DiagnosticInfo}
use Rattle.ua_variants.specs.Reader.{diagnostic_at}
use Rattle.ua_variants.proofs.Depth.{is_refused, diagnostic_none, diagnostic_some}
use Rattle.ua_variants.proofs.diagnostic.+diagnostics.Goals as goal

pub diagnostic-returns-then-levels-eq0 : goal.diagnostic-returns-then-levels-eq0
diagnostic-returns-then-levels-eq0 t c =
    is_refused c.too_deep.result c.place.result c.args.from.now.place bad_encoding_limits_exceeded (diagnostic_at c.args.levels c.args.from.now) c.too_deep.ensures c.place.ensures (diagnostic_none c.args.levels c.args.from.now c.if-levels-eq0.true)

pub diagnostic-returns : goal.diagnostic-returns
diagnostic-returns t c =
    let some : 0 < c.args.levels = omega (arith, c.if-levels-eq0.false) in
    subst (λ (at : Reader DiagnosticInfo). Moves (λ x. x) c.diagnostic_in.result c.diagnostic_in.new.from (at c.args.from.now)) (sym (diagnostic_some c.args.levels some)) c.diagnostic_in.ensures
