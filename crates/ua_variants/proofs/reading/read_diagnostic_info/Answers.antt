use Rattle.ua_values.proofs.Answers.{exact_by, reads_by}
use Rattle.ua_variants.specs.Grammar.{diagnostic_info, diagnostic_cut}
use Rattle.ua_variants.specs.Reader.{diagnostic_at}
use Rattle.ua_variants.proofs.Codecs.{diagnostic_reads}
use Rattle.ua_variants.proofs.reading.read_diagnostic_info.Goals as goal

pub returns-clause-exact : goal.returns-clause-exact
returns-clause-exact c = exact_by (diagnostic_at 101) c.args.bytes.now c.new-from.result c.diagnostic-value.result c.diagnostic-value.new.from c.sized.result c.new-from.ensures c.diagnostic-value.ensures c.sized.ensures

pub returns-clause-spelled : goal.returns-clause-spelled
returns-clause-spelled c =
    reads_by (diagnostic_info 101) (diagnostic_cut 101) (diagnostic_at 101) (diagnostic_reads 101) c.args.bytes.now c.new-from.result c.diagnostic-value.result c.diagnostic-value.new.from c.sized.result c.new-from.ensures c.diagnostic-value.ensures c.sized.ensures
