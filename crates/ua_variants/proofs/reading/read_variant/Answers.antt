use Rattle.ua_values.proofs.Answers.{exact_by, reads_by}
use Rattle.ua_variants.specs.Grammar.{variant_spells, variant_cut}
use Rattle.ua_variants.specs.Reader.{variant_at}
use Rattle.ua_variants.proofs.Codecs.{reads_both}
use Rattle.ua_variants.proofs.reading.read_variant.Goals as goal

pub returns-clause-exact : goal.returns-clause-exact
returns-clause-exact c = exact_by (variant_at 101) c.args.bytes.now c.new-from.result c.variant-value.result c.variant-value.new.from c.sized.result c.new-from.ensures c.variant-value.ensures c.sized.ensures

pub returns-clause-spelled : goal.returns-clause-spelled
returns-clause-spelled c =
    reads_by (variant_spells 101) (variant_cut 101) (variant_at 101) (reads_both 101).variant c.args.bytes.now c.new-from.result c.variant-value.result c.variant-value.new.from c.sized.result c.new-from.ensures c.variant-value.ensures c.sized.ensures
