use Rattle.byteorder.specs.Endian.{little_bytes}
use Rattle.ua_values.proofs.WrittenLemmas.{lawful_by}
use Rattle.ua_variants.specs.Grammar.{diagnostic_info, diagnostic_cut}
use Rattle.ua_variants.specs.Reader.{diagnostic_at}
use Rattle.ua_variants.proofs.Codecs.{diagnostic_reads}
use Rattle.ua_variants.proofs.Spelled.{diagnostic_spelled}
use Rattle.ua_variants.proofs.laws.diagnostic_infos_are_lawful.Goals as goal

pub returns : goal.returns
returns c = lawful_by (λ d. Unit {0}) (diagnostic_info 101) (diagnostic_cut 101) (diagnostic_at 101) (λ d. little_bytes 1 0) (diagnostic_reads 101) (λ d kept. diagnostic_spelled 100 d)
