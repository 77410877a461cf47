use Rattle.std.proofs.Common.{◌≡◌, drop}
use Rattle.server_rules.specs.Sessions.{all_gone}
use Rattle.server_core.proofs.session.delete_all.Given as goal

abbrev pub invariant-loop-id : goal.invariant-loop-id
invariant-loop-id l = all_gone (drop l.id-index l.ids) l.server ≡ all_gone l.ids l.fn.server
