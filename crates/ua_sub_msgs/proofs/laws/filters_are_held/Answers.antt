use Rattle.ua_structures.proofs.BodyLaws.{contents_lawful}
use Rattle.ua_sub_msgs.specs.Families.{filters, filter_put}
use Rattle.ua_sub_msgs.proofs.Spelled.{filter_spelled}
use Rattle.ua_sub_msgs.proofs.laws.filters_are_held.Goals as goal

pub returns : goal.returns
returns c = contents_lawful filters filter_put filter_spelled
