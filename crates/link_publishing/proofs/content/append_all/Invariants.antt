use Rattle.std.proofs.Common.{◌≡◌, drop}
use Rattle.link_rules.specs.Messages.{values_after}
use Rattle.link_publishing.proofs.content.append_all.Given as goal

abbrev pub invariant-loop-object : goal.invariant-loop-object
invariant-loop-object l = values_after l.to.items (drop l.object-index l.objects) ≡ values_after l.fn.to.items l.objects
