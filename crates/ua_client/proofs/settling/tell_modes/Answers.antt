use Rattle.client_rules.specs.Settling.{told_mode}
use Rattle.ua_client.proofs.Looping.{each_begins, each_goes_on}
use Rattle.ua_client.proofs.settling.tell_modes.Goals as goal

pub loop-before-init : goal.loop-before-init
loop-before-init c = each_begins told_mode c.args.client.now c.args.to.now.items

pub loop-before-preserved : goal.loop-before-preserved
loop-before-preserved c =
    each_goes_on told_mode c.loop-before.before c.args.client.now c.loop-before.client _ c.args.to.now.items c.loop-before.to.items _
    c.loop-before.invariant c.in_ok-tell_mode.ensures.state c.in_ok-tell_mode.ensures.orders c.in_ok-tell_mode.ensures.links
