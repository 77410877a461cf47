use Rattle.ua_structures.proofs.BodyLaws.{contents_lawful}
use Rattle.ua_session_msgs.specs.Families.{identity_tokens, token_put}
use Rattle.ua_session_msgs.proofs.Spelled.{token_spelled}
use Rattle.ua_session_msgs.proofs.laws.identity_tokens_are_held.Goals as goal

pub returns : goal.returns
returns c = contents_lawful identity_tokens token_put token_spelled
