use Rattle.std.proofs.Common.{◌≡◌, ◌++◌, drop}
use Rattle.ua_structures.proofs.array.UaArray+ExtensionObject.copy.Given as goal

abbrev pub invariant-loop-object : goal.invariant-loop-object
invariant-loop-object l = l.copied.items ++ drop l.object-index l.object-items ≡ l.object-items
