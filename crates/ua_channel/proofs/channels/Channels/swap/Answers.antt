use Rattle.std.proofs.Common.{◌≡◌, ◌∙◌, ℕ, List, Option, Some, None, sym, ap, unwrap_or}
use Rattle.std.specs.Ordering.{nat_cmp}
use Rattle.std.specs.BTreeMap.{is_at}
use Rattle.std.specs.Map.{lookup, set_value}
use Rattle.slab.specs.Slab.{get}
use Rattle.ua_channel.specs.State.{ChannelState}
use Rattle.ua_channel.proofs.Slots.{Sets, found_at, found_none, held_at, sets, unset}
use Rattle.ua_channel.proofs.channels.Channels.swap.Goals as goal

-- no connection has the number
without : (c : goal.In_default) → lookup (is_at (nat_cmp c.args.number)) c.args.self.now ≡ None
without c =
    let t = is_at (nat_cmp c.args.number) in
    ap (lookup t) (sym c.self.view_is) ∙ found_none t c.self.inside.slots c.self.inside.keys.entries (sym c.in_default.ensures.value)

pub returns-in_default-clause-channel : goal.returns-in_default-clause-channel
returns-in_default-clause-channel c = sym (ap (λ (o : Option ChannelState). unwrap_or o c.args.channel) (without c))

pub returns-in_default-clause-state : goal.returns-in_default-clause-state
returns-in_default-clause-state c = sym (unset (is_at (nat_cmp c.args.number)) c.args.self.now c.args.channel (without c))

none_some : (x : ChannelState) (o : Option ChannelState) → None ≡ o → o ≡ Some x → ⊥
none_some x o none some = absurd cc

-- each key has a channel
never : (c : goal.In_default-try_remove) → ⊥
never c =
    let key = c.in-Some.key.now in
    let held = held_at (is_at (nat_cmp c.args.number)) c.self.inside.slots c.self.inside.keys.entries key (sym c.in-Some.ensures.value) c.self.invariant in
    none_some _ (get c.self.inside.slots key) c.in_default-try_remove.ensures.value held

pub returns-in_default-try_remove-clause-channel : goal.returns-in_default-try_remove-clause-channel
returns-in_default-try_remove-clause-channel c = absurd (never c)

pub returns-in_default-try_remove-clause-state : goal.returns-in_default-try_remove-clause-state
returns-in_default-try_remove-clause-state c = absurd (never c)

swapped : (c : goal.After-insert_reserved) → Sets (is_at (nat_cmp c.args.number)) c.self.inside.keys.entries c.self.inside.slots c.insert_reserved.new.self c.args.channel
swapped c =
    let key = c.in-Some.key.now in
    let new = c.insert_reserved.new.self in
    let same : c.insert_reserved.result ≡ key = c.insert_reserved.ensures.key ∙ c.in-Some-try_remove.ensures.key_is_next in
    sets (is_at (nat_cmp c.args.number)) c.self.inside.keys.entries key c.self.inside.slots new c.args.channel
    (λ k other. c.insert_reserved.ensures.updates.others k (λ equal. other (equal ∙ same)) ∙ c.try_remove.ensures.updates.others k other)
    (ap (get new) (sym same) ∙ c.insert_reserved.ensures.updates.changed)
    c.self.invariant
    (sym c.in-Some.ensures.value)

pub invariant_of-self-2 : goal.invariant_of-self-2
invariant_of-self-2 c = (swapped c).held

pub returns-clause-channel : goal.returns-clause-channel
returns-clause-channel c =
    let t = is_at (nat_cmp c.args.number) in
    let found = found_at t c.self.inside.slots c.self.inside.keys.entries c.in-Some.key.now (sym c.in-Some.ensures.value) c.self.invariant in
    ap (λ (o : Option ChannelState). unwrap_or o c.args.channel) (c.in-Some-try_remove.ensures.value ∙ found ∙ ap (lookup t) c.self.view_is)

pub returns-clause-state : goal.returns-clause-state
returns-clause-state c =
    let t = is_at (nat_cmp c.args.number) in
    (swapped c).shows ∙ ap (λ (l : List (ℕ × ChannelState)). set_value t l c.args.channel) c.self.view_is
