use Rattle.std.proofs.Common.{◌≡◌, length, rules, ◌++◌, ◌∷◌, [], ◌+◌, arith}
use Rattle.std.proofs.lemmas.Grind.{common_steps}
use Rattle.set_model.specs.Source.{IsEndOf}
use Rattle.scenario.specs.Past.{change_of, changes_in, ids_after}
use Rattle.scenario.proofs.PastLemmas.{end_has_room, recalls_then}
use Rattle.scenario.proofs.reader.Reader.take.Goals as goal

pub feed_source-requires : goal.feed_source-requires
feed_source-requires c = end_has_room c.self.inside.lines.items _ c.args.line c.self.invariant.source_is (rw c.self.view_is c.requires)

pub invariant_of-self-2 : goal.invariant_of-self-2
invariant_of-self-2 c =
    let long : length c.self.inside.tally.lives ≡ 8 = search rules in
    let lines : c.push_reserved.new.lines.items ≡ c.self.inside.lines.items ++ c.args.line ∷ [] = grind (arith, common_steps) in
    let source : IsEndOf c.feed_source.new.source_end (changes_in c.self.inside.lines.items ++ change_of c.args.line) = c.feed_source.ensures _ c.self.invariant.source_is in
    let ids : c.attach.new.attached.items ≡ ids_after (c.self.inside.tally.listens + 1) c.self.inside.attached.items c.args.line = grind (arith, common_steps) in
    recalls_then _ _ _ _ _ _ _ _ c.args.line long c.self.invariant (rw c.self.view_is c.requires) lines source c.add.ensures ids
