use Rattle.std.proofs.Common.{rules, ◌≡◌, Ok}
use Rattle.redundancy_nodes.specs.Read.{read_of}
use Rattle.redundancy_nodes.proofs.Sent.{read_sent}
use Rattle.redundancy_nodes.proofs.nodes.Nodes.read_node.Goals as goal

pub returns-clause-sent : goal.returns-clause-sent
returns-clause-sent c = λ bytes is sends.
    let reads : read_of c.args.self.now c.args.id.now c.args.attribute ≡ Ok c.in_ok-value.value = search rules in
    read_sent c.args.self.now c.args.id.now c.args.attribute bytes c.in_ok-value.value is sends reads
