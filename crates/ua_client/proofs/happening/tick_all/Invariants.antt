use Rattle.std.proofs.Common.{◌≡◌, ◌++◌, length}
use Rattle.client_rules.specs.Doing.{each_server}
use Rattle.client_rules.specs.Links.{linked}
use Rattle.link_rules.specs.Time.{ticked}
use Rattle.ua_client.proofs.happening.tick_all.Given as goal

-- the servers so far did it
abbrev pub invariant-loop-before : goal.invariant-loop-before
invariant-loop-before l =
    (l.client ≡ (each_server (λ server. linked server (ticked l.ms)) l.before l.fn.client).client)
    × (l.to.items ≡ l.fn.to.items ++ (each_server (λ server. linked server (ticked l.ms)) l.before l.fn.client).orders)
    × (length l.client.links ≡ length l.fn.client.links)
