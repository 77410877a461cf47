use Rattle.std.proofs.Common.{◌≡◌, ◌++◌, map, take, drop}
use Rattle.server_rules.specs.State.{renewed_conn}
use Rattle.server_subs.proofs.connections.renew_all.Given as goal

abbrev pub invariant-loop-known : goal.invariant-loop-known
invariant-loop-known l =
    take l.known-index l.known-items ++ map (renewed_conn l.conn) (drop l.known-index l.known-items)
    ≡ map (renewed_conn l.conn) l.fn.conns.items
