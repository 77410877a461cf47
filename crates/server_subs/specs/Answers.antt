-- How a reply that is too large is replaced.
use Rattle.std.specs.Prelude.{ℕ, if◌then◌else◌}
use Rattle.ua_base.specs.Status.{bad_response_too_large, bad_tcp_message_too_large}
use Rattle.server_rules.specs.declared.conn.Conn.{Conn}
use Rattle.server_rules.specs.State.{ServerState}
use Rattle.server_rules.specs.Said.{Did}
use Rattle.server_rules.specs.Answering.{fault_reply, refused_on, replied_within, takes}

abbrev pub replied_too_large : Conn → ℕ → ℕ → ServerState → Did
replied_too_large conn request handle s =
    if takes conn (fault_reply handle bad_response_too_large s) then
    replied_within conn request (fault_reply handle bad_response_too_large s) s
    else refused_on conn bad_tcp_message_too_large s
