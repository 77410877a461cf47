use Rattle.std.proofs.Common.{sym}
use Rattle.scenario.proofs.WordLemmas.{line_found, line_last}
use Rattle.scenario.proofs.words.split_line.Goals as goal

pub returns-in-Some-clause-cut : goal.returns-in-Some-clause-cut
returns-in-Some-clause-cut c = line_found c.args.bytes.now c.in-Some.end (sym c.in-Some.ensures.place)

pub returns-in-None-clause-cut : goal.returns-in-None-clause-cut
returns-in-None-clause-cut c = line_last c.args.bytes.now c.requires (sym c.in-None.ensures.place)
