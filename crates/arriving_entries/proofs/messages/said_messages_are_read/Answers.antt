use Rattle.ua_sub_msgs.specs.declared.reply.SubReply.TheVariants as sub_reply
use Rattle.ua_services.specs.declared.reply.Reply.TheVariants as reply
use Rattle.arriving_entries.proofs.Saying.{publish_fits, republish_fits}
use Rattle.arriving_entries.proofs.messages.said_messages_are_read.Goals as goal

pub returns-clause-replies : goal.returns-clause-replies
returns-clause-replies c = c.replies_are_read_again.ensures.again

pub returns-clause-publish : goal.returns-clause-publish
returns-clause-publish c = λ number now told r is h m.
    c.replies_are_read_again.ensures.again (reply.Subscription (sub_reply.Publish r)) (publish_fits number now told r is h m)

pub returns-clause-republish : goal.returns-clause-republish
returns-clause-republish c = λ number now told r is h m.
    c.replies_are_read_again.ensures.again (reply.Subscription (sub_reply.Republish r)) (republish_fits number now told r is h m)
