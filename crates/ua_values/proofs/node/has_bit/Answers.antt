use Rattle.ua_values.proofs.Bits.{and_is_bit}
use Rattle.ua_values.proofs.node.has_bit.Goals as goal

pub returns : goal.returns
returns c = and_is_bit c.args.byte c.args.worth c.requires
