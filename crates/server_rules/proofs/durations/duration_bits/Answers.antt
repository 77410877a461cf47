use Rattle.std.proofs.Common.{◌≡◌}
use Rattle.server_rules.proofs.Doubles.{whole_is_number}
use Rattle.server_rules.proofs.durations.duration_bits.Goals as goal

pub float_to_bits-result : goal.float_to_bits-result
float_to_bits-result c = rw (c.from.ensures) (whole_is_number c.args.ms)
