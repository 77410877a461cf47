use Rattle.std.proofs.Common.{◌≡◌, ◌++◌, map, filter, drop}
use Rattle.server_rules.specs.Sessions.{described, is_listed}
use Rattle.server_core.proofs.discovery.list_servers.Given as goal

abbrev pub invariant-loop-member : goal.invariant-loop-member
invariant-loop-member l =
    l.list.items ++ map described (filter (is_listed l.uris) (drop l.member-index l.members))
    ≡ map described (filter (is_listed l.uris) l.fn.members)
