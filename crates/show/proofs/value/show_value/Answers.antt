use Rattle.std.proofs.Common.{ℕ, List, Result, subst, refl}
use Rattle.ua_values.specs.Reading.{input, sized}
use Rattle.ua_variants.specs.Reader.{data_value_at}
use Rattle.show.specs.Answer.{Refusal, Shows}
use Rattle.show.proofs.Spelled.{is_shown, shown_spelling}
use Rattle.show.proofs.value.show_value.Goals as goal

pub returns-clause-spelled : goal.returns-clause-spelled
returns-clause-spelled c = is_shown (λ text. text.items) c.args.bytes.now c.shown.result (sized (data_value_at 101 (input 0 c.args.bytes.now))) refl c.shown.ensures

pub returns-clause-complete : goal.returns-clause-complete
returns-clause-complete c = λ d spelled. subst (λ (r : Result (List ℕ) Refusal). Shows (λ text. text.items) c.shown.result r) (shown_spelling c.args.bytes.now d spelled) c.shown.ensures
