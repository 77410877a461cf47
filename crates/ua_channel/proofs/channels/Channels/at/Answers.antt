use Rattle.std.proofs.Common.{◌∙◌, sym, ap}
use Rattle.std.specs.Ordering.{nat_cmp}
use Rattle.std.specs.BTreeMap.{is_at}
use Rattle.std.specs.Map.{lookup}
use Rattle.ua_channel.proofs.Slots.{found_at, found_none}
use Rattle.ua_channel.proofs.channels.Channels.at.Goals as goal

pub returns-in-Some : goal.returns-in-Some
returns-in-Some c =
    let t = is_at (nat_cmp c.args.number) in
    c.get-in-Some.ensures
    ∙ found_at t c.self.inside.slots c.self.inside.keys.entries c.in-Some.key.now (sym c.in-Some.ensures.value) c.self.invariant
    ∙ ap (lookup t) c.self.view_is

pub returns-in-None : goal.returns-in-None
returns-in-None c =
    let t = is_at (nat_cmp c.args.number) in
    sym (found_none t c.self.inside.slots c.self.inside.keys.entries (sym c.in-None.ensures.value)) ∙ ap (lookup t) c.self.view_is
