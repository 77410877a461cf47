use Rattle.std.proofs.Common.{◌≡◌, ◌∷◌, [], rules}
use Rattle.scenario.specs.Generate.{items_drawn, next_state}
use Rattle.scenario.proofs.SoundLemmas.{items_may, set_may}
use Rattle.scenario.proofs.course.Course.begin.Goals as goal

pub take-requires : goal.take-requires
take-requires c = set_may c.args.seed c.new-reader.result c.draw_set-set.result c.new-reader.ensures c.draw_set-set.ensures.line

pub take-requires-2 : goal.take-requires-2
take-requires-2 c =
    let before : c.take.new.self ≡ c.draw_set-set.result ∷ [] = search rules in
    let items : c.draw_items-items.result ≡ items_drawn (next_state (next_state c.args.seed)) = search rules in
    items_may (next_state (next_state c.args.seed)) c.take.new.self c.draw_set-set.result c.draw_items-items.result before items
