-- The one way in which a client may say who it is.
use Rattle.std.specs.Prelude.{pos, Some, None, codes}
use Rattle.ua_session_msgs.specs.declared.discovery.UserTokenPolicy.{UserTokenPolicy}

-- nobody does (OPC 10000-4, 7.37)
abbrev pub anonymous_policy : UserTokenPolicy
anonymous_policy = record {
  policy_id = Some (codes "anonymous");
  token_type = pos 0;
  issued_token_type = None;
  issuer_endpoint_url = None;
  security_policy_uri = None;
}
