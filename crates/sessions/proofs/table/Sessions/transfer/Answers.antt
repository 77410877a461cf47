use Rattle.std.proofs.Common.{rules, ◌≡◌, ◌∙◌, true, ap}
use Rattle.sessions.specs.Calls.{Transfer}
use Rattle.sessions.specs.Table.{lives, may_transfer}
use Rattle.sessions.proofs.StaysSound.{sound_transfer, state_of}
use Rattle.sessions.proofs.Steps.{sound_step}
use Rattle.sessions.proofs.table.Sessions.transfer.Goals as goal

pub invariant_of-self : goal.invariant_of-self
invariant_of-self c =
    let passes : may_transfer c.args.id c.args.to (state_of c.self.inside) ≡ true = search rules in
    let exists : lives c.args.to c.self.inside.sessions.items ≡ true = ap (λ state. lives c.args.to state.sessions) c.self.view_is ∙ c.requires in
    sound_transfer (state_of c.self.inside) c.args.id c.args.to _ passes c.give_to.ensures
    (sound_step (Transfer c.args.id c.args.to) (state_of c.self.inside) exists c.self.invariant)
