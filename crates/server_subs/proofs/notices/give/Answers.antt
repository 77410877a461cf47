use Rattle.std.proofs.Common.{◌∷◌, [], ◌++◌, ◌∙◌, sym, ap}
use Rattle.std.specs.List.{remove}
use Rattle.server_subs.proofs.Oldest.{gives_room, has_room}
use Rattle.server_subs.proofs.notices.give.Goals as goal

pub returns-in-Some : goal.returns-in-Some
returns-in-Some c =
    c.remove.ensures.items
    ∙ ap (λ given. remove given c.in-Some.place) c.in_ok-push.ensures.items
    ∙ gives_room _ _ _ _ _ _ c.args.notice c.place_to_leave-leaves.ensures.place c.deref.ensures.value c.in-Some.is c.session.ensures

pub returns-in_default : goal.returns-in_default
returns-in_default c =
    c.in_ok-push.ensures.items
    ∙ ap (λ left. left ++ c.args.notice ∷ []) (sym (has_room _ _ _ _ _ c.place_to_leave-leaves.ensures.place c.deref.ensures.value c.in_default.is c.session.ensures))
