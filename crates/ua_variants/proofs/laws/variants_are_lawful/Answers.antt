use Rattle.ua_values.proofs.WrittenLemmas.{lawful_by}
use Rattle.ua_variants.specs.Grammar.{variant_spells, variant_cut}
use Rattle.ua_variants.specs.Reader.{variant_at}
use Rattle.ua_variants.specs.Spelling.{written_variant}
use Rattle.ua_variants.specs.Keeps.{KeepsVariant}
use Rattle.ua_variants.proofs.Codecs.{reads_both}
use Rattle.ua_variants.proofs.Spelled.{spelled_both}
use Rattle.ua_variants.proofs.laws.variants_are_lawful.Goals as goal

pub returns : goal.returns
returns c = lawful_by (KeepsVariant 101) (variant_spells 101) (variant_cut 101) (variant_at 101) written_variant (reads_both 101).variant (spelled_both 101).variant
