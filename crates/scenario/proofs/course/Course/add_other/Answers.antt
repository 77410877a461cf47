use Rattle.std.proofs.Common.{◌≡◌, ◌∷◌, ◌++◌, [], rules}
use Rattle.scenario.proofs.SoundLemmas.{other_may, other_sound_at}
use Rattle.scenario.proofs.course.Course.add_other.Goals as goal

pub take-requires : goal.take-requires
take-requires c =
    other_may c.self.inside.time c.self.inside.reader c.args.number c.self.inside.dice.state c.draw_line-line.result c.draw_line-line.ensures.line c.self.invariant

pub invariant_of-self-2 : goal.invariant_of-self-2
invariant_of-self-2 c =
    let now : c.take.new.self ≡ c.self.inside.reader ++ c.draw_line-line.result ∷ [] = search rules in
    other_sound_at c.self.inside.time c.self.inside.reader c.args.number c.self.inside.dice.state c.draw_line-line.result c.take.new.self c.draw_line-line.ensures.line now c.self.invariant
