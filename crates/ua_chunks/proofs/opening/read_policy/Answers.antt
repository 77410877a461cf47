use Rattle.ua_chunks.specs.Bodies.{policy, policy_at}
use Rattle.ua_chunks.proofs.BodyCodecs.{in_front, policy_codec}
use Rattle.ua_chunks.proofs.opening.read_policy.Goals as goal

pub returns-clause-spelled : goal.returns-clause-spelled
returns-clause-spelled c = in_front policy policy_at policy_codec c.args.body.now c.front_policy.result c.front_policy.ensures
