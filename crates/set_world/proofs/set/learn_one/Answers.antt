use Rattle.std.proofs.Common.{◌≡◌, rules, sym, subst}
use Rattle.ua_client.specs.State.{BytesState}
use Rattle.ua_client.specs.declared.event.ClientEvent.{ClientEvent}
use Rattle.ua_client.specs.Step.{stepped}
use Rattle.client_cuts.specs.Resting.{IsAtRest}
use Rattle.client_cuts.proofs.Cutting.{step_rests}
use Rattle.set_world.proofs.set.learn_one.Goals as goal

rests : (e : ClientEvent) (old new : BytesState) → new ≡ stepped e old → IsAtRest old → IsAtRest new
rests e old new is at_rest = subst IsAtRest (sym is) (step_rests e old at_rest)

pub returns-clause-rests : goal.returns-clause-rests
returns-clause-rests c =
    let is : c.step.new.self.bytes ≡ stepped c.args.event.now c.args.client.now.bytes = search rules in
    rests c.args.event.now c.args.client.now.bytes c.step.new.self.bytes is c.requires
