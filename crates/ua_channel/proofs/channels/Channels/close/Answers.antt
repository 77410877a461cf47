use Rattle.std.proofs.Common.{◌∙◌, sym, ap, subst}
use Rattle.std.specs.Ordering.{nat_cmp}
use Rattle.std.specs.BTreeMap.{is_at}
use Rattle.std.specs.Map.{lookup, remove_entry}
use Rattle.ua_channel.specs.Connections.{AreHeld, shown}
use Rattle.ua_channel.proofs.Slots.{found_at, found_none, removes, unremoved}
use Rattle.ua_channel.proofs.channels.Channels.close.Goals as goal

pub invariant_of-self : goal.invariant_of-self
invariant_of-self c =
    let t = is_at (nat_cmp c.args.number) in
    subst (AreHeld c.try_remove.new.self) (sym c.remove.ensures.entries)
    (removes t c.self.inside.keys.entries c.in-Some.key c.self.inside.slots c.try_remove.new.self c.try_remove.ensures.updates.others c.self.invariant (sym c.in-Some.ensures.value)).held

pub returns-in-Some-clause-channel : goal.returns-in-Some-clause-channel
returns-in-Some-clause-channel c =
    let t = is_at (nat_cmp c.args.number) in
    c.try_remove.ensures.value
    ∙ found_at t c.self.inside.slots c.self.inside.keys.entries c.in-Some.key (sym c.in-Some.ensures.value) c.self.invariant
    ∙ ap (lookup t) c.self.view_is

pub returns-in-Some-clause-state : goal.returns-in-Some-clause-state
returns-in-Some-clause-state c =
    let t = is_at (nat_cmp c.args.number) in
    ap (shown c.try_remove.new.self) c.remove.ensures.entries
    ∙ (removes t c.self.inside.keys.entries c.in-Some.key c.self.inside.slots c.try_remove.new.self c.try_remove.ensures.updates.others c.self.invariant (sym c.in-Some.ensures.value)).shows
    ∙ ap (remove_entry t) c.self.view_is

pub returns-in-None-clause-channel : goal.returns-in-None-clause-channel
returns-in-None-clause-channel c =
    let t = is_at (nat_cmp c.args.number) in
    sym (found_none t c.self.inside.slots c.self.inside.keys.entries (sym c.in-None.ensures.value)) ∙ ap (lookup t) c.self.view_is

pub returns-in-None-clause-state : goal.returns-in-None-clause-state
returns-in-None-clause-state c =
    let t = is_at (nat_cmp c.args.number) in
    let es = c.self.inside.keys.entries in
    ap (shown c.self.inside.slots) c.in-None.ensures.unchanged
    ∙ sym (unremoved t (shown c.self.inside.slots es) (found_none t c.self.inside.slots es (sym c.in-None.ensures.value)))
    ∙ ap (remove_entry t) c.self.view_is
