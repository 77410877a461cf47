use Rattle.std.proofs.Common.{◌≡◌, ◌∙◌, ◌<◌, ℕ, Bool, true, false, List, [], ◌∷◌, nat_le, drop, sym, refl, rules, arith}
use Rattle.std.proofs.lemmas.Bool.Decides.{nat_tests}
use Rattle.ua_sub_msgs.specs.declared.item.MonitoredItemCreateResult.{MonitoredItemCreateResult}
use Rattle.link_rules.specs.declared.remembered.Monitored.{Monitored}
use Rattle.link_rules.specs.Subscribing.{monitored_after}
use Rattle.link_starting.proofs.subscribing.monitored_of.Goals as goal

-- behind the last item no result counts
stops_by : (b : Bool) (items item : ℕ) (result : MonitoredItemCreateResult) (results : List MonitoredItemCreateResult)
    (monitored : List Monitored) → nat_le item items ≡ b → items < item
    → monitored_after items item (result ∷ results) monitored ≡ monitored
stops_by true items item result results monitored is lt = absurd (grind (arith, nat_tests))
stops_by false items item result results monitored is lt = rw (is) refl

stops : (items item : ℕ) (results : List MonitoredItemCreateResult) (monitored : List Monitored) → items < item
    → monitored_after items item results monitored ≡ monitored
stops items item [] monitored lt = refl
stops items item (result ∷ results) monitored lt = stops_by (nat_le item items) items item result results monitored refl lt

pub returns-then-from-item : goal.returns-then-from-item
returns-then-from-item c =
    let l = c.loop-one in
    let behind : c.args.items < l.item = search rules in
    sym (stops c.args.items l.item (drop l.one-index c.args.results.now) l.monitored.items behind) ∙ l.invariant
