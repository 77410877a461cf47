use Rattle.std.proofs.Common.{rules}
use Rattle.std.proofs.lemmas.Fn.{filter_same}
use Rattle.sessions.proofs.table.drop_session.Goals as goal

pub returns : goal.returns
returns c = filter_same _ _ _ (λ session kept after called. search rules) _ _ c.retain.ensures.filtered
