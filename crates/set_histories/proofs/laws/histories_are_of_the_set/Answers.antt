use Rattle.set_histories.proofs.Whole.{learned, lives, same}
use Rattle.set_histories.proofs.laws.histories_are_of_the_set.Goals as goal

pub returns : goal.returns
returns c = λ mode servers items queue oldest lines. record {
  client = learned mode servers items queue oldest lines;
  lives = λ place within.
      lives c.connections_are_quiet_until_a_publish.ensures.others c.connections_are_quiet_until_a_publish.ensures.first mode servers items queue oldest lines place within;
  same = same mode servers items queue oldest lines;
}
