-- How a server answers a request: on its connection, within the sizes that the other end takes (OPC 10000-4, 5.3).
use Rattle.std.specs.Prelude.{ℕ, ℤ, List, [], ◌∷◌, length, nat_le, Bool, Option, Some, None, if◌then◌else◌}
use Rattle.ua_base.specs.Status.{good, bad_response_too_large, bad_tcp_message_too_large}
use Rattle.ua_channel.specs.declared.ear.Ear.TheVariants as ear
use Rattle.ua_structures.specs.declared.header.ResponseHeader.{ResponseHeader}
use Rattle.ua_structures.specs.Structures.{response_header}
use Rattle.ua_session_msgs.specs.declared.reply.SessionReply.TheVariants as session_reply
use Rattle.ua_services.specs.declared.reply.Reply.{Reply}
use Rattle.ua_services.specs.declared.reply.Reply.TheVariants as reply
use Rattle.ua_services.specs.Families.{written_reply}
use Rattle.server_rules.specs.declared.conn.Asker.{Asker}
use Rattle.server_rules.specs.declared.conn.Conn.{Conn}
use Rattle.server_rules.specs.State.{ServerState, conn_at, server_time, with_conn}
use Rattle.server_rules.specs.Said.{Did, Said, Told, Refused, Replied, nothing}

-- the header of a reply: the server's time, the request's handle, and how the service went
abbrev pub header_with : ℕ → ℕ → ServerState → ResponseHeader
header_with handle code s = response_header (server_time s) handle code

-- that of a service that was done
abbrev pub good_header : ℕ → ServerState → ResponseHeader
good_header handle s = header_with handle good s

-- a ServiceFault (OPC 10000-4, 7.35)
abbrev pub fault_reply : ℕ → ℕ → ServerState → Reply
fault_reply handle code s = reply.Session (session_reply.ServiceFault (header_with handle code s))

-- ---- on a connection

-- said under its channel and its token of this moment
abbrev pub said_on : Conn → Told → Said
said_on conn told = record { conn = conn.number; channel = conn.channel; token = conn.token; told = told }

abbrev pub deafened : Conn → Conn
deafened conn = record conn { ear = ear.Deaf }

-- an ERR is the last thing that is said, and nothing more is heard (OPC 10000-6, 7.1.2.5)
unfoldable pub refused_on : Conn → ℕ → ServerState → Did
refused_on conn code s =
    record { state = with_conn (deafened conn) s; said = said_on conn (Refused code) ∷ [] }

-- a body of so many bytes is taken by the other end
abbrev pub takes : Conn → Reply → Bool
takes conn answer = nat_le (length (written_reply answer)) conn.limit

unfoldable pub replied_within : Conn → ℕ → Reply → ServerState → Did
replied_within conn request answer s = record { state = s; said = said_on conn (Replied request answer) ∷ [] }

-- a reply that is too large is replaced by a fault, and a fault that is too large ends the connection
unfoldable pub replied_on : Conn → ℕ → ℕ → Reply → ServerState → Did
replied_on conn request handle answer s =
    if takes conn answer then replied_within conn request answer s
    else if takes conn (fault_reply handle bad_response_too_large s) then
    replied_within conn request (fault_reply handle bad_response_too_large s) s
    else refused_on conn bad_tcp_message_too_large s

abbrev pub replied_to : Option Conn → ℕ → ℕ → Reply → ServerState → Did
replied_to None request handle answer s = nothing s
replied_to (Some conn) request handle answer s = replied_on conn request handle answer s

-- an answer to a request; one on a connection that is no more is for nobody
unfoldable pub replied : Asker → Reply → ServerState → Did
replied asker answer s = replied_to (conn_at asker.conn s.conns) asker.request asker.handle answer s

abbrev pub faulted : Asker → ℕ → ServerState → Did
faulted asker code s = replied asker (fault_reply asker.handle code s) s
