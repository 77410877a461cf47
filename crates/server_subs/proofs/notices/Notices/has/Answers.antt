use Rattle.server_subs.proofs.Oldest.{has_by}
use Rattle.server_subs.proofs.notices.Notices.has.Goals as goal

pub returns : goal.returns
returns c = rw (← c.self.view_is, has_by, ← c.deref.ensures.value) c.any_of.ensures
