use Rattle.std.proofs.Common.{◌+◌, [], ◌∷◌, ◌++◌, ◌∙◌, sym, ap}
use Rattle.sessions.specs.Table.{is_full, with_room}
use Rattle.sessions.proofs.StaysSound.{sound_among, state_of}
use Rattle.sessions.proofs.Steps.{sound_created}
use Rattle.sessions.proofs.table.Sessions.create.Goals as goal

pub invariant_of-self-2 : goal.invariant_of-self-2
invariant_of-self-2 c =
    sound_among (record (state_of c.self.inside) { last_counter = c.self.inside.last_counter + 1 }) _ _ _ _
    (c.in_ok-give.ensures.ok ∙ ap (λ session. with_room c.self.inside.sessions.items ++ session ∷ []) c.new-session.ensures)
    c.deref.ensures.value c.keep_owners_among.ensures
    (sound_created (state_of c.self.inside) _ _ _ _ c.self.invariant (ap is_full c.self.view_is ∙ sym c.is_full.ensures ∙ c.if-is_full.false))
