use Rattle.ua_values.proofs.WrittenLemmas.{lawful_by}
use Rattle.ua_variants.specs.Grammar.{data_value, data_value_cut}
use Rattle.ua_variants.specs.Reader.{data_value_at}
use Rattle.ua_variants.specs.Spelling.{written_data_value}
use Rattle.ua_variants.specs.Keeps.{KeepsDataValue}
use Rattle.ua_variants.proofs.Codecs.{reads_both}
use Rattle.ua_variants.proofs.Spelled.{spelled_both}
use Rattle.ua_variants.proofs.laws.data_values_are_lawful.Goals as goal

pub returns : goal.returns
returns c = lawful_by (KeepsDataValue 101) (data_value 101) (data_value_cut 101) (data_value_at 101) written_data_value (reads_both 101).stamped (spelled_both 101).stamped
