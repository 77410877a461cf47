use Rattle.std.proofs.Common.{◌≡◌, ◌++◌, length}
use Rattle.client_rules.specs.Doing.{each_server}
use Rattle.client_rules.specs.Settling.{told_mode}
use Rattle.ua_client.proofs.settling.tell_modes.Given as goal

-- the servers so far did it
abbrev pub invariant-loop-before : goal.invariant-loop-before
invariant-loop-before l =
    (l.client ≡ (each_server told_mode l.before l.fn.client).client)
    × (l.to.items ≡ l.fn.to.items ++ (each_server told_mode l.before l.fn.client).orders)
    × (length l.client.links ≡ length l.fn.client.links)
