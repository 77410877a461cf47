use Rattle.std.proofs.Common.{◌≡◌, ◌<◌, ◌≤◌, None, rules, arith}
use Rattle.std.proofs.lemmas.Grind.{common_steps}
use Rattle.set_model.specs.Source.{refusal}
use Rattle.set_model.proofs.SourceLemmas.{more_stands}
use Rattle.set_model.proofs.source.SourceLog.append.Goals as goal

pub invariant_of-self-2 : goal.invariant_of-self-2
invariant_of-self-2 c =
    let within : c.args.change.item < 256 = search rules in
    let free : refusal c.self.inside.changes.items c.args.change ≡ None = grind (arith, common_steps) in
    let few : c.args.change.pico ≤ 9999 = search rules in
    more_stands _ _ _ _ _ within few free c.self.invariant c.add.ensures c.in_ok-push.ensures.items
