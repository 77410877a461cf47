use Rattle.std.proofs.Common.{sym}
use Rattle.scenario.proofs.WordLemmas.{word_found, word_last}
use Rattle.scenario.proofs.words.split_word.Goals as goal

pub returns-in-Some : goal.returns-in-Some
returns-in-Some c = word_found c.args.text.now c.in-Some.end (sym c.in-Some.ensures.place)

pub returns-in-None : goal.returns-in-None
returns-in-None c = word_last c.args.text.now (sym c.in-None.ensures.place)
