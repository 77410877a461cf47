use Rattle.std.proofs.Common.{List, subst, sym, arith}
use Rattle.std.specs.Prelude.{◌≤◌}
use Rattle.scenario.specs.declared.line.Line.{Line}
use Rattle.uaset.specs.Answer.{size_of}
use Rattle.scenario.specs.Rules.{rules_of_replay}
use Rattle.uaset.proofs.Trust.{queue_fits, servers_fit}
use Rattle.uaset.proofs.replay.replay.Goals as goal

pub report_lines-requires-clause-queue : goal.report_lines-requires-clause-queue
report_lines-requires-clause-queue c =
    let P : List Line → Type 0 = λ lines. (1 ≤ (size_of lines).queue) × ((size_of lines).queue ≤ 1000) in
    let fits = queue_fits (rules_of_replay c.args.pool) c.args.bytes.now c.in_ok-lines.lines.items c.in_ok-lines.ensures in
    subst P (sym c.as_slice.ensures.value) (omega (arith, fits.0), fits.1)

pub report_lines-requires-clause-servers : goal.report_lines-requires-clause-servers
report_lines-requires-clause-servers c =
    let P : List Line → Type 0 = λ lines. (1 ≤ (size_of lines).servers) × ((size_of lines).servers ≤ 8) in
    subst P (sym c.as_slice.ensures.value)
    (servers_fit (rules_of_replay c.args.pool) c.args.bytes.now c.in_ok-lines.lines.items c.in_ok-lines.ensures)
