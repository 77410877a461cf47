-- The reply to an OPN is short.
use Rattle.std.specs.Prelude.{◌≡◌, ◌≤◌, ℕ, List, length, refl}
use Rattle.std.proofs.Common.{arith}
use Rattle.ua_structures.specs.Structures.{a_response_header, an_unused_of_response}
use Rattle.ua_session_msgs.specs.Structures.{a_channel_security_token, an_open_secure_channel_response}
use Rattle.ua_services.specs.Families.{written_reply}
use Rattle.server_rules.specs.declared.conn.Conn.{Conn}
use Rattle.server_rules.specs.declared.opening.OpeningRequest.{OpeningRequest}
use Rattle.server_rules.specs.State.{ServerState}
use Rattle.server_rules.specs.Opening.{opening_reply, opening_response}

opening_size : (conn : Conn) (asked : OpeningRequest) (s : ServerState)
    → length (written_reply (opening_reply (opening_response conn asked s))) ≡ 56
unfolding an_open_secure_channel_response a_channel_security_token a_response_header an_unused_of_response
opening_size conn asked s = refl

small : (n : ℕ) → n ≡ 56 → n ≤ 4096
small n is = omega arith

pub short_of : (body : List ℕ) (conn : Conn) (asked : OpeningRequest) (s : ServerState)
    → body ≡ written_reply (opening_reply (opening_response conn asked s)) → length body ≤ 4096
short_of body conn asked s is = rw (is) (small _ (opening_size conn asked s))
