use Rattle.std.proofs.Common.{◌∷◌, [], ◌++◌, ◌∙◌, sym, ap}
use Rattle.std.specs.List.{remove}
use Rattle.sessions.proofs.Firsts.{gives_room, has_room}
use Rattle.sessions.proofs.table.give.Goals as goal

pub returns-in-Some-clause-ok : goal.returns-in-Some-clause-ok
returns-in-Some-clause-ok c =
    c.remove.ensures.items
    ∙ ap (λ given. remove given c.in-Some.place) c.in_ok-push.ensures.items
    ∙ gives_room _ _ _ _ c.args.session c.place_to_leave-leaves.ensures.place c.deref.ensures.value c.in-Some.is

pub returns-in_default-clause-ok : goal.returns-in_default-clause-ok
returns-in_default-clause-ok c =
    c.in_ok-push.ensures.items
    ∙ ap (λ left. left ++ c.args.session ∷ []) (sym (has_room _ _ _ c.place_to_leave-leaves.ensures.place c.deref.ensures.value c.in_default.is))
