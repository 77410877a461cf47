use Rattle.std.proofs.Common.{rules}
use Rattle.std.proofs.lemmas.Fn.{filter_same}
use Rattle.server_subs.proofs.notices.keep_lasting.Goals as goal

pub returns : goal.returns
returns c = filter_same _ _ _ (λ notice kept after called. search rules) _ _ c.retain.ensures.filtered
