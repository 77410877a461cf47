use Rattle.set_laws.proofs.Having.{place_had}
use Rattle.set_laws.proofs.Meeting.{LinkLaws, SetLaws}
use Rattle.set_laws.proofs.levels.levels_are_the_servers_own.Goals as goal

pub returns : goal.returns
returns c mode servers items queue oldest lines within =
    let laws : LinkLaws = record {
      live = c.links_live_in_clients.ensures;
      keeps = c.what_is_said_keeps_the_limits.ensures.said;
      few = c.connections_are_few.ensures;
    } in
    let counted = c.lives_and_ticks_are_counted.ensures in
    let whole : SetLaws mode servers items queue oldest lines = record {
      shared = c.connections_are_shared.ensures mode servers items queue oldest lines;
      meet = c.histories_meet.ensures mode servers items queue oldest lines;
      heard = c.lives_hear_what_they_await.ensures mode servers items queue oldest lines;
      awaited = c.the_client_hears_what_it_awaits.ensures mode servers items queue oldest lines;
      fed = c.lives_are_fed_from_the_source.ensures mode servers items queue oldest lines;
      fit = c.what_happens_fits.ensures.lives mode servers items queue oldest lines within.servers_fit within.items_fit within.queue_fits within.lines_fit;
      client = c.what_happens_fits.ensures.client mode servers items queue oldest lines within.servers_fit within.items_fit within.queue_fits within.lines_fit;
      few = counted.lives mode servers items queue oldest lines;
      ticks = counted.ticks mode servers items queue oldest lines;
      short = counted.source mode servers items queue oldest lines;
      is = counted.is_source mode servers items queue oldest lines;
    } in
    place_had mode servers items queue oldest lines within laws c.levels_read_were_had.ensures whole
