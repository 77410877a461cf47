use Rattle.uaset.proofs.Client.{of_clients}
use Rattle.uaset.proofs.Delivery.{delivers, reads_had}
use Rattle.uaset.proofs.Trust.{report_promised}
use Rattle.uaset.proofs.answer.replayed.Goals as goal

pub returns-in-Ok-clause-means : goal.returns-in-Ok-clause-means
returns-in-Ok-clause-means c =
    report_promised c.scenarios_are_read.ensures.no_others c.messages_show_bytes.ensures.shown
    (of_clients c.histories_are_of_the_set.ensures (record {
      caused = c.gaps_have_true_causes.ensures;
      rising = c.stamps_rise.ensures;
      switches = c.switch_lines_are_switches.ensures;
      chosen = c.switches_are_choices.ensures;
      best = c.switches_go_to_the_best.ensures;
    }))
    (reads_had c.scenarios_are_read.ensures.no_others c.levels_are_the_servers_own.ensures)
    (delivers c.scenarios_are_read.ensures.no_others c.histories_are_of_the_set.ensures c.hot_and_cold_logs_are_safe.ensures c.the_source_is_the_lines_changes.ensures.whole)
    c.args.pool c.args.bytes.now c.in-Ok.text.items c.in-Ok.ensures
