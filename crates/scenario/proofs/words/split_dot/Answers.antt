use Rattle.std.proofs.Common.{sym}
use Rattle.scenario.proofs.WordLemmas.{dot_found, dot_none}
use Rattle.scenario.proofs.words.split_dot.Goals as goal

pub returns-in-Some : goal.returns-in-Some
returns-in-Some c = dot_found c.args.word.now c.in-Some.end (sym c.in-Some.ensures.place)

pub returns-in-None : goal.returns-in-None
returns-in-None c = dot_none c.args.word.now (sym c.in-None.ensures.place)
