use Rattle.std.proofs.Common.{◌≡◌, ◌∷◌, ◌++◌, [], rules}
use Rattle.scenario.specs.declared.line.Line.TheVariants as line
use Rattle.scenario.specs.Generate.{change_drawn, second_draw}
use Rattle.scenario.proofs.SoundLemmas.{change_sound_at}
use Rattle.scenario.proofs.course.Course.add_change.Goals as goal

pub invariant_of-self-2 : goal.invariant_of-self-2
invariant_of-self-2 c =
    let later : c.from-2.result ≡ second_draw 10 c.self.inside.dice.state = search rules in
    let now : c.take.new.self ≡ c.self.inside.reader ++ line.Change (change_drawn c.self.inside.reader c.self.inside.time c.self.inside.dice.state) ∷ [] = search rules in
    change_sound_at c.self.inside.time c.self.inside.reader c.self.inside.dice.state c.from-2.result c.take.new.self later now c.self.invariant
