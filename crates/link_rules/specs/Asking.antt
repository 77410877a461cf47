-- How a link asks: its requests are numbered from 1 on each connection, and none is larger than the server takes.
use Rattle.std.specs.Prelude.{ℕ, ◌^◌, ◌==◌, ◌&&◌, length, nat_lt, nat_le, min, Bool, if◌then◌else◌}
use Rattle.ua_structures.specs.declared.header.RequestHeader.{RequestHeader}
use Rattle.ua_structures.specs.declared.header.ResponseHeader.{ResponseHeader}
use Rattle.ua_structures.specs.Structures.{request_header}
use Rattle.ua_services.specs.declared.request.Request.{Request}
use Rattle.ua_services.specs.Families.{written_request}
use Rattle.ua_base.specs.Number.{after_message}
use Rattle.link_rules.specs.State.{LinkState, link_time, null_node, with_conversation}
use Rattle.link_rules.specs.Said.{LinkDid, Told, Opens, Asks, says}
use Rattle.link_rules.specs.Closing.{broken}

-- after 2^32 - 1 comes 1, and 0 is no number
abbrev pub next_request : LinkState → ℕ
next_request l = after_message l.conversation.last

-- the header of the next request (OPC 10000-4, 7.33)
abbrev pub header : LinkState → RequestHeader
header l = request_header l.session (link_time l) (next_request l)

-- that of a request before there is a session
abbrev pub null_header : LinkState → RequestHeader
null_header l = request_header null_node (link_time l) (next_request l)

abbrev pub counted : LinkState → LinkState
counted l = with_conversation (record l.conversation { last = next_request l }) l

-- the number is used up
abbrev pub numbered : Told → LinkState → LinkDid
numbered told l = record (says told l) { link = counted l }

-- a request in a MSG; one that is larger than the server takes closes the link
unfoldable pub asked : Request → LinkState → LinkDid
asked request l =
    if nat_le (length (written_request request)) l.conversation.limit
    then numbered (Asks (next_request l) request) l
    else broken l

-- one in an OPN, which is a single chunk and has at most 4096 bytes
unfoldable pub asked_opening : Request → LinkState → LinkDid
asked_opening request l =
    if nat_le (length (written_request request)) (min l.conversation.limit 4096)
    then numbered (Opens (next_request l) request) l
    else broken l

-- ---- answers

-- the highest two bits of a good StatusCode are 0 (OPC 10000-4, 7.39)
abbrev pub is_good : ℕ → Bool
is_good code = nat_lt code (2 ^ 30)

-- the reply answers the request of this handle, and well
abbrev pub is_reply_to : ℕ → ResponseHeader → Bool
is_reply_to handle h = (h.request_handle == handle) && is_good h.service_result

-- the last request, where it is the one that is awaited
abbrev pub is_answer : ResponseHeader → LinkState → Bool
is_answer h l = is_reply_to l.conversation.last h

-- a ServiceFault answers it by this code
abbrev pub is_fault : ℕ → ℕ → ResponseHeader → Bool
is_fault handle code h = (h.request_handle == handle) && (h.service_result == code)
