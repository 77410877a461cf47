-- Which messages were sent, by their numbers, and which of them are kept, said of all calls so far (OPC 10000-4,
-- 5.13.1.1).
use Rattle.std.specs.Prelude.{ℕ, ℤ, ◌+◌, ◌-◌, ◌%◌, ◌^◌, List, [], ◌∷◌, Option, Some, None}
use Rattle.retransmit.specs.History.{Call as KeptCall, Send, Acknowledge as Acknowledged}
use Rattle.ua_sub_msgs.specs.declared.notification.NotificationMessage.{NotificationMessage}
use Rattle.subscription.specs.declared.spec.SubSpec.{SubSpec}
use Rattle.subscription.specs.State.{SubState}
use Rattle.subscription.specs.Items.{Told}
use Rattle.subscription.specs.Message.{message_of}
use Rattle.subscription.specs.Calls.{entries_told}
use Rattle.subscription.specs.History.{Call, Add, Remove, SetMode, Feed, Timer, Publish, Acknowledge, Modify, SetEnabled, Moved, state_of}

-- the message of entries, where there are any; without entries it is a keep-alive
abbrev pub data_of : ℕ → ℤ → List Told → Option NotificationMessage
data_of number now [] = None
data_of number now (one ∷ more) = Some (message_of number now (one ∷ more))

-- the data message that a call sends
abbrev pub data_sent : Call → SubState → Option NotificationMessage
data_sent (Add spec current) s = None
data_sent (Remove id) s = None
data_sent (SetMode id mode current) s = None
data_sent (Feed change) s = None
data_sent (Timer queued) s = None
data_sent (Publish now) s = data_of s.next now (entries_told s)
data_sent (Acknowledge number) s = None
data_sent (Modify spec now) s = None
data_sent (SetEnabled enabled) s = None
data_sent Moved s = None

abbrev pub counted : Option NotificationMessage → ℕ → ℕ
counted None count = count
counted (Some message) count = count + 1

-- how many data messages were sent by these calls, newest first
abbrev pub data_count : SubSpec → ℕ → List Call → ℕ
data_count spec start [] = 0
data_count spec start (call ∷ earlier) =
    counted (data_sent call (state_of spec start earlier)) (data_count spec start earlier)

-- the number of the k-th data message, k from 1: 1 comes after 2^32 - 1
abbrev pub number_of : ℕ → ℕ
number_of k = 1 + (k - 1) % (2 ^ 32 - 1)

-- the call's part in what is kept
abbrev pub kept_with : Option NotificationMessage → List (KeptCall NotificationMessage)
    → List (KeptCall NotificationMessage)
kept_with None calls = calls
kept_with (Some message) calls = Send message.sequence_number message ∷ calls

abbrev pub kept_next : Call → SubState → List (KeptCall NotificationMessage) → List (KeptCall NotificationMessage)
kept_next (Acknowledge number) s calls = Acknowledged number ∷ calls
kept_next (Publish now) s calls = kept_with (data_of s.next now (entries_told s)) calls
kept_next (Add spec current) s calls = calls
kept_next (Remove id) s calls = calls
kept_next (SetMode id mode current) s calls = calls
kept_next (Feed change) s calls = calls
kept_next (Timer queued) s calls = calls
kept_next (Modify spec now) s calls = calls
kept_next (SetEnabled enabled) s calls = calls
kept_next Moved s calls = calls

-- all sendings and acknowledgements of these calls, newest first
abbrev pub sendings : SubSpec → ℕ → List Call → List (KeptCall NotificationMessage)
sendings spec start [] = []
sendings spec start (call ∷ earlier) = kept_next call (state_of spec start earlier) (sendings spec start earlier)
