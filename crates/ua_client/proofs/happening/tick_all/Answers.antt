use Rattle.link_rules.specs.Time.{ticked}
use Rattle.client_rules.specs.Links.{linked}
use Rattle.ua_client.proofs.Looping.{each_begins, each_goes_on}
use Rattle.ua_client.proofs.happening.tick_all.Goals as goal

pub loop-before-init : goal.loop-before-init
loop-before-init c = each_begins (λ server. linked server (ticked c.args.ms)) c.args.client.now c.args.to.now.items

pub loop-before-preserved : goal.loop-before-preserved
loop-before-preserved c =
    each_goes_on (λ server. linked server (ticked c.args.ms)) c.loop-before.before c.args.client.now c.loop-before.client _
    c.args.to.now.items c.loop-before.to.items _ c.loop-before.invariant
    c.in_ok-link.ensures.state c.in_ok-link.ensures.orders c.in_ok-link.ensures.links
