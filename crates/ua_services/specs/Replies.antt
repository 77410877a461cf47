-- What every reply begins with.
use Rattle.ua_structures.specs.declared.header.ResponseHeader.{ResponseHeader}
use Rattle.ua_session_msgs.specs.declared.reply.SessionReply.{SessionReply}
use Rattle.ua_session_msgs.specs.declared.reply.SessionReply.TheVariants as session_reply
use Rattle.ua_sub_msgs.specs.declared.reply.SubReply.{SubReply}
use Rattle.ua_sub_msgs.specs.declared.reply.SubReply.TheVariants as sub_reply
use Rattle.ua_services.specs.declared.reply.Reply.{Reply}
use Rattle.ua_services.specs.declared.reply.Reply.TheVariants as reply

abbrev pub session_reply_header : SessionReply → ResponseHeader
session_reply_header (session_reply.ServiceFault r) = r
session_reply_header (session_reply.OpenSecureChannel r) = r.response_header
session_reply_header (session_reply.CloseSecureChannel r) = r
session_reply_header (session_reply.FindServers r) = r.response_header
session_reply_header (session_reply.GetEndpoints r) = r.response_header
session_reply_header (session_reply.CreateSession r) = r.response_header
session_reply_header (session_reply.ActivateSession r) = r.response_header
session_reply_header (session_reply.CloseSession r) = r
session_reply_header (session_reply.Read r) = r.response_header
session_reply_header (session_reply.Call r) = r.response_header

abbrev pub sub_reply_header : SubReply → ResponseHeader
sub_reply_header (sub_reply.CreateMonitoredItems r) = r.response_header
sub_reply_header (sub_reply.SetMonitoringMode r) = r.response_header
sub_reply_header (sub_reply.DeleteMonitoredItems r) = r.response_header
sub_reply_header (sub_reply.CreateSubscription r) = r.response_header
sub_reply_header (sub_reply.ModifySubscription r) = r.response_header
sub_reply_header (sub_reply.SetPublishingMode r) = r.response_header
sub_reply_header (sub_reply.Publish r) = r.response_header
sub_reply_header (sub_reply.Republish r) = r.response_header
sub_reply_header (sub_reply.TransferSubscriptions r) = r.response_header
sub_reply_header (sub_reply.DeleteSubscriptions r) = r.response_header

abbrev pub reply_header_of : Reply → ResponseHeader
reply_header_of (reply.Session r) = session_reply_header r
reply_header_of (reply.Subscription r) = sub_reply_header r
