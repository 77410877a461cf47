use Rattle.std.proofs.Common.{refl}
use Rattle.server_subs.proofs.Oldest.{none_at, oldest_at}
use Rattle.server_subs.proofs.notices.Notices.take.Goals as goal

pub returns-in-Some-clause-oldest : goal.returns-in-Some-clause-oldest
returns-in-Some-clause-oldest c =
    let h = oldest_at _ _ _ _ _ _ c.place_of.ensures.place c.deref.ensures.value c.in-Some.is c.remove.ensures.value in
    rw (← c.self.view_is, h.found) refl

pub returns-in-Some-clause-taken : goal.returns-in-Some-clause-taken
returns-in-Some-clause-taken c =
    let h = oldest_at _ _ _ _ _ _ c.place_of.ensures.place c.deref.ensures.value c.in-Some.is c.remove.ensures.value in
    rw (← c.self.view_is, h.leaves, ← c.remove.ensures.items) refl

pub returns-in-None-clause-oldest : goal.returns-in-None-clause-oldest
returns-in-None-clause-oldest c =
    let h = none_at _ _ _ _ c.place_of.ensures.place c.deref.ensures.value c.in-None.is in
    rw (← c.self.view_is, h.found) refl

pub returns-in-None-clause-taken : goal.returns-in-None-clause-taken
returns-in-None-clause-taken c =
    let h = none_at _ _ _ _ c.place_of.ensures.place c.deref.ensures.value c.in-None.is in
    rw (← c.self.view_is, h.leaves) refl
