use Rattle.link_laws.proofs.Lockstepping as lemma
use Rattle.link_laws.proofs.lockstep.requests_go_in_lockstep.Goals as goal

pub returns : goal.returns
returns c = lemma.in_step
