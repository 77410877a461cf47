-- The Publishes that wait at the server.
use Rattle.std.specs.Prelude.{ℕ, ◌+◌, List, [], ◌∷◌, Option, Some, if◌then◌else◌}
use Rattle.ua_session_msgs.specs.declared.reply.SessionReply.TheVariants as session_reply
use Rattle.ua_sub_msgs.specs.declared.reply.SubReply.TheVariants as sub_reply
use Rattle.ua_services.specs.declared.reply.Reply.{Reply}
use Rattle.ua_services.specs.declared.reply.Reply.TheVariants as reply
use Rattle.link_rules.specs.declared.notice.Notice.{Notice}
use Rattle.link_rules.specs.declared.notice.Notice.TheVariants as notice
use Rattle.link_rules.specs.declared.phase.Phase.{Phase}
use Rattle.link_rules.specs.declared.phase.Phase.TheVariants as phase
use Rattle.link_rules.specs.declared.phase.Publishes.{Publishes}
use Rattle.link_rules.specs.declared.phase.Publishes.TheVariants.{Zero, One, Two}
use Rattle.link_rules.specs.State.{LinkState}
use Rattle.link_rules.specs.Said.{Said}
use Rattle.link_rules.specs.Step.{Happening}
use Rattle.link_laws.specs.Taken.{reply_of}
use Rattle.link_laws.specs.Lockstep.{is_publish}

-- the Publishes that are put
abbrev pub publishes_put : List Said → ℕ
publishes_put [] = 0
publishes_put (said ∷ more) = (if is_publish said.told then 1 else 0) + publishes_put more

-- a reply that may answer one
abbrev pub answer_in : Option Reply → ℕ
answer_in (Some (reply.Session (session_reply.ServiceFault h))) = 1
answer_in (Some (reply.Subscription (sub_reply.Publish r))) = 1
answer_in other = 0

abbrev pub answers_in : List Happening → ℕ
answers_in [] = 0
answers_in (h ∷ more) = answer_in (reply_of h) + answers_in more

abbrev pub ready_told : Notice → ℕ
ready_told notice.Ready = 1
ready_told other = 0

abbrev pub readies_told : List Notice → ℕ
readies_told [] = 0
readies_told (n ∷ more) = ready_told n + readies_told more

-- how many more a link that is ready may put
abbrev pub room_for : Publishes → ℕ
room_for Zero = 2
room_for (One first) = 1
room_for (Two first second) = 0

abbrev pub room_in : Phase → ℕ
room_in (phase.Ready ready) = room_for ready.publishes
room_in other = 0

abbrev pub room : LinkState → ℕ
room l = room_in l.phase
