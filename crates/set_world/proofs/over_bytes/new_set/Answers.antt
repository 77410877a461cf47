use Rattle.std.proofs.Common.{◌∙◌, ◌≤◌, length, sym, ap, subst, arith}
use Rattle.ua_client.specs.State.{Life}
use Rattle.client_cuts.specs.Resting.{IsAtRest}
use Rattle.client_cuts.proofs.Resting.{begins}
use Rattle.set_world.specs.Texts.{client_config}
use Rattle.set_world.proofs.Counting.{slots_count}
use Rattle.set_world.proofs.over_bytes.new_set.Goals as goal

some : 1 ≤ 65536
some = omega arith

pub invariant_of-result : goal.invariant_of-result
invariant_of-result c =
    let kind = c.args.kind in (
      subst (λ n. n ≤ 8)
          (sym (ap (λ slots. length slots) c.in_ok-slots.ensures ∙ slots_count kind.mode kind.servers kind.items kind.servers))
          c.requires.servers.1,
      some,
    )

pub returns-clause-rests : goal.returns-clause-rests
returns-clause-rests c =
    let kind = c.args.kind in
    subst (λ (life : Life). IsAtRest life.bytes) (sym c.in_ok-client.ensures)
    (begins (client_config kind.mode kind.servers kind.items c.args.queue c.args.oldest))
