use Rattle.client_cuts.proofs.Cutting as cutting
use Rattle.client_cuts.proofs.Resting as resting
use Rattle.client_cuts.proofs.laws.clients_are_at_rest.Goals as goal

pub returns-clause-twice : goal.returns-clause-twice
returns-clause-twice c = cutting.ended_twice

pub returns-clause-begins : goal.returns-clause-begins
returns-clause-begins c = resting.begins

pub returns-clause-event : goal.returns-clause-event
returns-clause-event c = cutting.step_rests

pub returns-clause-bytes : goal.returns-clause-bytes
returns-clause-bytes c = resting.out_rests

pub returns-clause-wish : goal.returns-clause-wish
returns-clause-wish c = resting.wish_rests

pub returns-clause-life : goal.returns-clause-life
returns-clause-life c = resting.life_rests
