use Rattle.std.specs.Prelude.{List}
use Rattle.set_model.specs.declared.line.LogLine.{LogLine}
use Rattle.client_rules.specs.declared.config.ClientConfig.{ClientConfig}
use Rattle.client_rules.specs.Step.{Moment}
use Rattle.client_laws.specs.Life.{client_after}
use Rattle.set_laws.proofs.Joining.{ClientLaws, all_follow}
use Rattle.set_laws.proofs.Meeting.{SetLaws}
use Rattle.set_laws.proofs.Ordering.{ordered}
use Rattle.set_histories.specs.Below.{client_config}
use Rattle.set_histories.specs.Histories.{recorded_after}
use Rattle.set_laws.proofs.safe.hot_and_cold_logs_are_safe.Goals as goal

abbrev client_log : ClientConfig → List Moment → List LogLine
client_log config moments = (client_after config moments).log.lines

pub returns : goal.returns
returns c mode servers items queue oldest lines hot within =
    let set = recorded_after mode servers items queue oldest lines in
    let config = client_config mode servers items queue oldest in
    let moments = set.client.node.moments in
    let laws : ClientLaws = record {
      links = record {
        live = c.links_live_in_clients.ensures;
        keeps = c.what_is_said_keeps_the_limits.ensures.said;
        few = c.connections_are_few.ensures;
      };
      others = c.others_tell_nothing.ensures;
      follow = c.values_of_a_link_follow.ensures;
      asked = c.items_are_asked_for_once.ensures;
      come = c.data_come_of_the_book.ensures;
      binding = record {
        knowing = record {
          linked = c.known_changes_end_the_source.ensures.linked;
          found = c.known_changes_end_the_source.ensures.found;
        };
        books = λ life. c.lives_make_whole_books.ensures life.config life.current life.happenings;
        ids = λ life. c.ids_tell_their_life.ensures life.config life.current life.happenings;
      };
    } in
    let counted = c.lives_and_ticks_are_counted.ensures in
    let whole : SetLaws mode servers items queue oldest lines = record {
      shared = c.connections_are_shared.ensures mode servers items queue oldest lines;
      meet = c.histories_meet.ensures mode servers items queue oldest lines;
      heard = c.lives_hear_what_they_await.ensures mode servers items queue oldest lines;
      awaited = c.the_client_hears_what_it_awaits.ensures mode servers items queue oldest lines;
      fed = c.lives_are_fed_from_the_source.ensures mode servers items queue oldest lines;
      fit = c.what_happens_fits.ensures.lives mode servers items queue oldest lines within.servers_fit within.items_fit within.queue_fits within.lines_fit;
      client = c.what_happens_fits.ensures.client mode servers items queue oldest lines within.servers_fit within.items_fit within.queue_fits within.lines_fit;
      few = counted.lives mode servers items queue oldest lines;
      ticks = counted.ticks mode servers items queue oldest lines;
      short = counted.source mode servers items queue oldest lines;
      is = counted.is_source mode servers items queue oldest lines;
    } in
    let follow = all_follow mode servers items queue oldest lines hot within laws whole in
    let safe = c.linked_values_feed_the_log.ensures.safe config moments set.source hot follow whole.is in
    record {
      fed = c.linked_values_feed_the_log.ensures.fed config moments set.source hot follow;
      safe = safe;
      ordered = ordered set.source (client_log config moments) safe;
    }
