use Rattle.std.proofs.Common.{rules}
use Rattle.std.proofs.lemmas.Fn.{filter_same}
use Rattle.server_subs.proofs.connections.drop_in.Goals as goal

pub returns : goal.returns
returns c = filter_same _ _ _ (λ conn kept after called. search rules) _ _ c.retain.ensures.filtered
