use Rattle.server_chains.proofs.Keeping.{Streams}
use Rattle.server_eras.proofs.Counting.{eras_long, eras_most}
use Rattle.server_eras.proofs.Making.{items_are_made}
use Rattle.server_eras.proofs.Linking.{linked_of}
use Rattle.server_eras.proofs.eras.entries_of_an_era_are_linked.Goals as goal

pub returns-clause-linked : goal.returns-clause-linked
returns-clause-linked c =
    let streams : Streams = record { rises = c.ids_rise.ensures; stops = c.streams_are_of_the_source.ensures.stops } in
    linked_of (record { streams = streams; linked = c.neighbours_are_linked.ensures.linked }) (items_are_made streams)

pub returns-clause-each : goal.returns-clause-each
returns-clause-each c = eras_long

pub returns-clause-most : goal.returns-clause-most
returns-clause-most c = eras_most
