use Rattle.set_fronts.proofs.Numbers.{numbers_fall}
use Rattle.set_fronts.proofs.laws.lives_have_numbers_of_their_own.Goals as goal

pub returns-clause-messages : goal.returns-clause-messages
returns-clause-messages c = λ lives numbered few. numbers_fall lives numbered few

pub returns-clause-bytes : goal.returns-clause-bytes
returns-clause-bytes c = λ lives numbered few. numbers_fall lives numbered few
