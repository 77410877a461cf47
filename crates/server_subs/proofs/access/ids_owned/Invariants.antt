use Rattle.std.proofs.Common.{◌≡◌, map, take}
use Rattle.std.specs.List.{filter}
use Rattle.subscription.specs.State.{SubState}
use Rattle.server_subs.specs.Access.{is_owned}
use Rattle.server_subs.proofs.access.ids_owned.Given as goal

abbrev pub invariant-loop-sub : goal.invariant-loop-sub
invariant-loop-sub l =
    l.ids.items ≡ map (λ (sub : SubState). sub.spec.id) (filter (is_owned l.sessions l.session) (take l.sub-index l.subs))
