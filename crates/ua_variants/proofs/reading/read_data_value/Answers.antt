use Rattle.ua_values.proofs.Answers.{exact_by, reads_by}
use Rattle.ua_variants.specs.Grammar.{data_value, data_value_cut}
use Rattle.ua_variants.specs.Reader.{data_value_at}
use Rattle.ua_variants.proofs.Codecs.{reads_both}
use Rattle.ua_variants.proofs.reading.read_data_value.Goals as goal

pub returns-clause-exact : goal.returns-clause-exact
returns-clause-exact c = exact_by (data_value_at 101) c.args.bytes.now c.new-from.result c.data_value-value.result c.data_value-value.new.from c.sized.result c.new-from.ensures c.data_value-value.ensures c.sized.ensures

pub returns-clause-spelled : goal.returns-clause-spelled
returns-clause-spelled c =
    reads_by (data_value 101) (data_value_cut 101) (data_value_at 101) (reads_both 101).stamped c.args.bytes.now c.new-from.result c.data_value-value.result c.data_value-value.new.from c.sized.result c.new-from.ensures c.data_value-value.ensures c.sized.ensures
