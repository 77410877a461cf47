use Rattle.std.proofs.Common.{◌≡◌, drop}
use Rattle.client_rules.specs.Links.{all_told}
use Rattle.ua_client.proofs.linking.tell_all.Given as goal

-- what is left to be told after what was told comes to all
abbrev pub invariant-loop-notice : goal.invariant-loop-notice
invariant-loop-notice l =
    (all_told l.server (drop l.notice-index l.notices) l.client ≡ all_told l.server l.notices l.fn.client)
    × (l.client.links ≡ l.fn.client.links)
