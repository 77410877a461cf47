use Rattle.std.proofs.Common.{◌≡◌, ◌++◌, drop}
use Rattle.server_rules.specs.Publishing.{ack_results, all_acked}
use Rattle.server_subs.proofs.data.ServerData.acknowledge_all.Given as goal

abbrev pub invariant-loop-ack : goal.invariant-loop-ack
invariant-loop-ack l = record {
  acked : all_acked l.session (drop l.ack-index l.acks) l.self ≡ all_acked l.session l.acks l.fn.self;
  results : l.results.items ++ ack_results l.session (drop l.ack-index l.acks) l.self ≡ ack_results l.session l.acks l.fn.self;
}
