use Rattle.std.proofs.Common.{◌≡◌}
use Rattle.std.specs.Prelude.{replicate}
use Rattle.direct_world.specs.Server.{new_server}
use Rattle.direct_world.proofs.world.new_servers.Given as goal

abbrev pub invariant-loop-server : goal.invariant-loop-server
invariant-loop-server l = l.made.items ≡ replicate l._server (new_server l.items l.oldest l.queue)
