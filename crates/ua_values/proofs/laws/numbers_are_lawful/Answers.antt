use Rattle.std.proofs.Common.{◌<◌, ◌^◌}
use Rattle.byteorder.specs.Endian.{little_bytes}
use Rattle.ua_values.specs.Parts.{number}
use Rattle.ua_values.specs.Reading.{number_at}
use Rattle.ua_values.proofs.Leaves.{number_codec}
use Rattle.ua_values.proofs.WrittenLemmas.{lawful, number_spelled}
use Rattle.ua_values.proofs.laws.numbers_are_lawful.Goals as goal

pub returns : goal.returns
returns c = λ w some. lawful (λ n. n < 256 ^ w) (number w) (number_at w) (little_bytes w) (number_codec w some) (number_spelled w)
