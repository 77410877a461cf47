use Rattle.std.proofs.Common.{◌≡◌, IfOk, List, ℕ, Option, subst}
use Rattle.ua_values.specs.declared.extension.ExtensionObject.{ExtensionObject}
use Rattle.ua_structures.specs.Body.{object_by}
use Rattle.ua_session_msgs.specs.declared.identity.IdentityToken.TheVariants as identity
use Rattle.ua_session_msgs.specs.Families.{identity_tokens, token_put}
use Rattle.link_turn.proofs.requests.anonymous.Goals as goal

pub returns : goal.returns
returns c =
    subst (λ (policy : Option (List ℕ)). IfOk c.write_identity.result (λ (object : ExtensionObject).
    object ≡ object_by identity_tokens token_put (identity.Anonymous (record { policy_id = policy }))))
    c.in_ok-policy_id.ensures c.write_identity.ensures
