use Rattle.std.proofs.Common.{◌≡◌, ◌∙◌, ℕ, List, sym, ap, subst}
use Rattle.std.specs.Ordering.{nat_cmp}
use Rattle.std.specs.BTreeMap.{insert_entry}
use Rattle.slab.specs.Slab.{Slab, get}
use Rattle.ua_channel.specs.State.{ChannelState}
use Rattle.ua_channel.specs.Connections.{AreHeld, shown}
use Rattle.ua_channel.proofs.Slots.{Inserts, held_all, inserts, shown_all, vacant}
use Rattle.ua_channel.proofs.channels.Channels.open.Goals as goal

pub invariant_of-self : goal.invariant_of-self
invariant_of-self c =
    held_all c.self.inside.keys.entries c.self.inside.slots c.reserve.new.self (λ k. ap (λ (s : Slab ChannelState). get s k) c.reserve.ensures.rest_kept) c.self.invariant

pub invariant_of-self-in_err-insert : goal.invariant_of-self-in_err-insert
invariant_of-self-in_err-insert c =
    subst (AreHeld c.reserve.new.self) (sym c.in_err-insert.ensures.err)
    (held_all c.self.inside.keys.entries c.self.inside.slots c.reserve.new.self (λ k. ap (λ (s : Slab ChannelState). get s k) c.reserve.ensures.rest_kept) c.self.invariant)

inserted : (c : goal.After-insert_reserved) → Inserts nat_cmp c.self.inside.keys.entries c.args.number c.vacant_key-key.result c.reserve.new.self c.insert_reserved.new.self c.args.channel
inserted c =
    let es = c.self.inside.keys.entries in
    let old = c.reserve.new.self in
    let new = c.insert_reserved.new.self in
    let key = c.vacant_key-key.result in
    let same : c.insert_reserved.result ≡ key = c.insert_reserved.ensures.key ∙ sym c.vacant_key-key.ensures.value in
    let held = held_all es c.self.inside.slots old (λ k. ap (λ (s : Slab ChannelState). get s k) c.reserve.ensures.rest_kept) c.self.invariant in
    inserts nat_cmp es c.args.number key old new c.args.channel
    (λ k other. c.insert_reserved.ensures.updates.others k (λ equal. other (equal ∙ same)))
    (ap (get new) (sym same) ∙ c.insert_reserved.ensures.updates.changed)
    held
    (vacant old es key c.vacant_key-key.ensures.vacant held)

pub invariant_of-self-2 : goal.invariant_of-self-2
invariant_of-self-2 c = subst (AreHeld c.insert_reserved.new.self) (sym c.in_ok-insert.ensures.entries) (inserted c).held

pub returns-clause-ok : goal.returns-clause-ok
returns-clause-ok c =
    ap (shown c.insert_reserved.new.self) c.in_ok-insert.ensures.entries
    ∙ (inserted c).shows
    ∙ ap (λ (l : List (ℕ × ChannelState)). insert_entry nat_cmp l c.args.number c.args.channel)
    (shown_all c.self.inside.keys.entries c.self.inside.slots c.reserve.new.self (λ k. ap (λ (s : Slab ChannelState). get s k) c.reserve.ensures.rest_kept) ∙ c.self.view_is)
