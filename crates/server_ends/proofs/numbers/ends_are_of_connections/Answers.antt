use Rattle.server_ends.proofs.Ending.{ends_match, ends_there, first_matches, step_matches}
use Rattle.server_ends.proofs.numbers.ends_are_of_connections.Goals as goal

pub returns-clause-first : goal.returns-clause-first
returns-clause-first c = first_matches

pub returns-clause-step : goal.returns-clause-step
returns-clause-step c = step_matches (record {
  numbers = c.connections_are_those_opened.ensures.numbers;
  highest = c.connections_are_those_opened.ensures.highest;
  rise = c.connections_are_those_opened.ensures.rise;
})

pub returns-clause-life : goal.returns-clause-life
returns-clause-life c = ends_match (record {
  numbers = c.connections_are_those_opened.ensures.numbers;
  highest = c.connections_are_those_opened.ensures.highest;
  rise = c.connections_are_those_opened.ensures.rise;
})

pub returns-clause-there : goal.returns-clause-there
returns-clause-there c = ends_there (record {
  numbers = c.connections_are_those_opened.ensures.numbers;
  highest = c.connections_are_those_opened.ensures.highest;
  rise = c.connections_are_those_opened.ensures.rise;
})
