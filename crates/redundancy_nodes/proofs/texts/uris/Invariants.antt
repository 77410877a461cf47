use Rattle.std.proofs.Common.{◌≡◌, ◌++◌, drop}
use Rattle.redundancy_nodes.specs.Texts.{uris_of}
use Rattle.redundancy_nodes.proofs.texts.uris.Given as goal

abbrev pub invariant-loop-member : goal.invariant-loop-member
invariant-loop-member l = l.texts.items ++ uris_of (drop l.member-index l.members) ≡ uris_of l.members
