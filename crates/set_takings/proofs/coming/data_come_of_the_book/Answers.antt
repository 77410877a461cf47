use Rattle.set_takings.proofs.Booking.{come_of_the_book}
use Rattle.set_takings.proofs.coming.data_come_of_the_book.Goals as goal

pub returns : goal.returns
returns c = λ config happenings lives book awaited shared kept booked.
    come_of_the_book c.data_heard_were_sent.ensures.published c.what_is_heard_was_asked.ensures c.answers_come_in_turn.ensures
    c.repeated_messages_were_kept_then.ensures.answered c.what_is_heard_comes_on_a_connection.ensures c.republished_messages_were_asked_for.ensures
    config lives book booked happenings awaited shared kept
