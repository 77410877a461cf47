use Rattle.link_laws.proofs.Setting as lemma
use Rattle.link_laws.proofs.requests.modes_are_confirmed.Goals as goal

pub returns-clause-told : goal.returns-clause-told
returns-clause-told c = lemma.modes_are_told

pub returns-clause-confirmed : goal.returns-clause-confirmed
returns-clause-confirmed c = lemma.modes_are_confirmed

pub returns-clause-few : goal.returns-clause-few
returns-clause-few c = lemma.modes_are_few
