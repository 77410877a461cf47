use Rattle.uaset.proofs.Rows.{any-spelled, none-spelled, any-place}
use Rattle.uaset.proofs.laws.rows_are_read.Goals as goal

pub returns-clause-spelled : goal.returns-clause-spelled
returns-clause-spelled g c = any-spelled

pub returns-clause-refused : goal.returns-clause-refused
returns-clause-refused g c = none-spelled

pub returns-clause-place : goal.returns-clause-place
returns-clause-place g c = any-place
