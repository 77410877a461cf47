use Rattle.std.proofs.Common.{◌∙◌, sym, subst}
use Rattle.subscription.specs.Calls.{IsInterrupted}
use Rattle.subscription.proofs.Telling.{all_gone, on_err}
use Rattle.subscription.proofs.publishing.Subscription.publish.Goals as goal

pub returns-in_err-message-clause-interrupted : goal.returns-in_err-message-clause-interrupted
returns-in_err-message-clause-interrupted c =
    on_err c.from_residual-in_err-message.result (IsInterrupted c.args.self.now c.take_values.new.self)
    (subst (IsInterrupted c.args.self.now) (sym c.in_ok-values.ensures.items) (all_gone c.args.self.now))

pub returns-in_err-keep-clause-interrupted : goal.returns-in_err-keep-clause-interrupted
returns-in_err-keep-clause-interrupted c =
    on_err c.from_residual-in_err-keep.result (IsInterrupted c.args.self.now c.keep.new.self)
    (subst (IsInterrupted c.args.self.now) (sym (c.in_err-keep.ensures.unchanged ∙ c.in_ok-values.ensures.items)) (all_gone c.args.self.now))
