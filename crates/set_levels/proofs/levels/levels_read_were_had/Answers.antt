use Rattle.set_levels.proofs.Having.{levels_were_had}
use Rattle.set_levels.proofs.levels.levels_read_were_had.Goals as goal

pub returns : goal.returns
returns c = λ config happenings lives awaited shared kept orderly.
    levels_were_had c.what_is_heard_comes_on_a_connection.ensures c.what_is_heard_was_asked.ensures c.what_is_heard_was_said.ensures
    c.levels_are_read_first.ensures.told c.levels_are_read_first.ensures.asked c.levels_are_those_of_the_server.ensures config lives orderly happenings
    awaited shared kept
