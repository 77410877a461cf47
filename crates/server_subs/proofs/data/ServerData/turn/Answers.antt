use Rattle.std.proofs.Common.{subst, sym, ap}
use Rattle.std.specs.Prelude.{IsSome}
use Rattle.sessions.specs.State.{SessionsState}
use Rattle.sessions.specs.Table.{conn_of, session_at}
use Rattle.server_rules.specs.State.{ServerState}
use Rattle.server_subs.proofs.Takes.{parks}
use Rattle.server_subs.proofs.data.ServerData.turn.Goals as goal

pub park-requires : goal.park-requires
park-requires c =
    subst (λ (x : SessionsState). IsSome (conn_of (session_at c.args.session x.sessions)))
    (sym (ap (λ (s : ServerState). s.sessions) c.self.view_is))
    (parks c.args.session _ _ _ _ c.take_waiting.ensures.oldest c.in-Some.is c.take_waiting.ensures.taken)
