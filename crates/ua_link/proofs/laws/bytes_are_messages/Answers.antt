use Rattle.ua_channel.proofs.Coming.{all_heard}
use Rattle.ua_link.specs.Talk.{answer, ears}
use Rattle.ua_link.proofs.Deafening.{deafens}
use Rattle.ua_link.proofs.laws.bytes_are_messages.Goals as goal

pub returns : goal.returns
returns c = λ sent s arrive. all_heard ears answer sent s deafens arrive
