use Rattle.uaset.specs.Words.{value_row, stream_row, replay_row}
use Rattle.std.proofs.Common.{◌∷◌, []}
use Rattle.uaset.proofs.Rows.{command-words, words-command, any-place}
use Rattle.uaset.proofs.laws.commands_are_read.Goals as goal

pub returns-clause-words : goal.returns-clause-words
returns-clause-words c = λ words command. (command-words words command, words-command words command)

pub returns-clause-place : goal.returns-clause-place
returns-clause-place c = any-place replay_row (value_row ∷ stream_row ∷ [])
