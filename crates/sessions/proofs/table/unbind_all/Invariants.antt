use Rattle.std.proofs.Common.{◌≡◌, ◌++◌, map, take, drop}
use Rattle.sessions.specs.Session.{unbound_from}
use Rattle.sessions.proofs.table.unbind_all.Given as goal

abbrev pub invariant-loop-session : goal.invariant-loop-session
invariant-loop-session l =
    take l.session-index l.session-items ++ map (unbound_from l.conn) (drop l.session-index l.session-items)
    ≡ map (unbound_from l.conn) l.fn.sessions.items
