use Rattle.std.proofs.Common.{rules, ◌≡◌, ◌∙◌, Some, false, true, ap}
use Rattle.sessions.specs.Calls.{Own}
use Rattle.sessions.specs.Table.{keeps, lives, session_at}
use Rattle.sessions.proofs.StaysSound.{sound_own, state_of}
use Rattle.sessions.proofs.Steps.{sound_step}
use Rattle.sessions.proofs.table.Sessions.own.Goals as goal

pub invariant_of-self : goal.invariant_of-self
invariant_of-self c =
    let found : session_at c.args.session c.self.inside.sessions.items ≡ Some c.in-Some.session.now = search rules in
    let exists : lives c.args.session c.self.inside.sessions.items ≡ true = ap (λ state. lives c.args.session state.sessions) c.self.view_is ∙ c.requires.exists in
    let fresh : keeps c.args.id c.self.inside.owned.items ≡ false = ap (λ state. keeps c.args.id state.owned) c.self.view_is ∙ c.requires.fresh in
    sound_own (state_of c.self.inside) c.args.id c.args.session c.in-Some.session.now _ found (search rules)
    (sound_step (Own c.args.id c.args.session) (state_of c.self.inside) (exists, fresh) c.self.invariant)
