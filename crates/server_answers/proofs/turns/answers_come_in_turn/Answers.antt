use Rattle.server_rules.specs.State.{new_server}
use Rattle.server_answers.proofs.Turning.{answer_in_turn}
use Rattle.server_answers.proofs.turns.answers_come_in_turn.Goals as goal

pub returns : goal.returns
returns c = λ config current happenings conn place wire.
    answer_in_turn c.requests_are_answered_at_once.ensures c.openings_are_answered_at_once.ensures.openings
    c.openings_are_answered_at_once.ensures.answers c.connections_are_quiet_until_a_publish.ensures.others
    c.connections_are_quiet_until_a_publish.ensures.own c.what_comes_is_awaited_still.ensures.deaf
    c.connections_are_those_opened.ensures.highest conn (new_server config current)
    (c.connections_are_quiet_until_a_publish.ensures.first conn config current)
    (c.connections_are_those_opened.ensures.life config current) happenings place wire
