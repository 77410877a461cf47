use Rattle.std.proofs.Common.{◌≡◌}
use Rattle.std.specs.Prelude.{replicate}
use Rattle.link_rules.specs.State.{new_link}
use Rattle.ua_client.proofs.client_core.new_links.Given as goal

abbrev pub invariant-loop-server : goal.invariant-loop-server
invariant-loop-server l = l.links.items ≡ replicate l._server (new_link l.config)
