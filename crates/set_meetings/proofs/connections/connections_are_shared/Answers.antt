use Rattle.set_meetings.proofs.Meeting.{connections_meet}
use Rattle.set_meetings.proofs.connections.connections_are_shared.Goals as goal

pub returns : goal.returns
returns c = λ mode servers items queue oldest lines place within few.
    connections_meet mode servers items queue oldest lines (c.histories_are_of_the_set.ensures mode servers items queue oldest lines)
    (c.histories_meet.ensures mode servers items queue oldest lines) place within few
