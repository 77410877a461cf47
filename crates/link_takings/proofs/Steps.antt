-- What one event does with the subscription that a link remembers, and what several events do.
use Rattle.std.proofs.Common.{◌≡◌, ℕ, List, [], ◌∷◌, ◌++◌, Bool, true, false, Some, None, Result, Ok, Err, if◌then◌else◌, refl, sym, ap, ◌∙◌, subst, inl, inr, ◌⊎◌}
use Rattle.std.proofs.lemmas.List.{append-nil}
use Rattle.ua_structures.specs.declared.body.BodyFault.{BodyFault}
use Rattle.ua_structures.specs.Body.{body_at}
use Rattle.ua_channel.specs.declared.heard.Heard.{Heard}
use Rattle.ua_channel.specs.declared.heard.Heard.TheVariants as said_of
use Rattle.ua_channel.specs.State.{is_deaf}
use Rattle.ua_sub_msgs.specs.declared.notification.MonitoredItemNotification.{MonitoredItemNotification}
use Rattle.ua_sub_msgs.specs.declared.notification.NotificationMessage.{NotificationMessage}
use Rattle.ua_sub_msgs.specs.declared.publish.PublishResponse.{PublishResponse}
use Rattle.ua_sub_msgs.specs.declared.publish.RepublishResponse.{RepublishResponse}
use Rattle.ua_sub_msgs.specs.declared.reply.SubReply.{SubReply}
use Rattle.ua_sub_msgs.specs.declared.reply.SubReply.TheVariants as sub_reply
use Rattle.ua_services.specs.declared.reply.Reply.{Reply}
use Rattle.ua_services.specs.declared.reply.Reply.TheVariants as reply
use Rattle.ua_services.specs.Families.{replies}
use Rattle.link_rules.specs.declared.content.Content.{Content}
use Rattle.link_rules.specs.declared.content.Content.TheVariants as content
use Rattle.link_rules.specs.declared.notice.Notice.{Notice}
use Rattle.link_rules.specs.declared.phase.Phase.{Phase}
use Rattle.link_rules.specs.declared.phase.Phase.TheVariants as phase
use Rattle.link_rules.specs.declared.remembered.Monitored.{Monitored}
use Rattle.link_rules.specs.declared.remembered.Remembered.{Remembered}
use Rattle.link_rules.specs.State.{LinkState}
use Rattle.link_rules.specs.Said.{LinkDid, nothing}
use Rattle.link_rules.specs.Closing.{broken, left_in, loss_of}
use Rattle.link_rules.specs.Messages.{content_of}
use Rattle.link_rules.specs.Step as step_rules
use Rattle.link_rules.specs.Step.{Happening, after, after_all}
use Rattle.link_laws.specs.Acks.{IsWithin}
use Rattle.link_laws.specs.Taken.{id_in, message_in, reply_by, reply_of}
use Rattle.link_laws.specs.Course.{AreDoable, AreKnown, Deed, Forgets, IsCourse, IsSteady, data_heard, data_heard_in, data_in, data_of_all, ids_heard_in, monitored_after, of_values, remembered_after, told_after}
use Rattle.link_takings.specs.From.{AllFrom, AreNamedBy, AreSteps, IsDone, IsFrom, IsStep, deeds_in}
use Rattle.link_takings.proofs.Deeds.{AllCome, deeds_come, deeds_named, doable_join, known_join, monitored_join, no_data, remembered_join, told_join, values_join}
use Rattle.link_takings.proofs.Replying.{IsAwaited, IsOwn, publish_in, republish_in}

-- what link_laws says of a link's courses
abbrev HaveCourses : Type 0
HaveCourses = (happenings : List Happening) (l : LinkState) → IsSteady l
    → IsCourse l (data_heard_in happenings) (ids_heard_in happenings) (after_all happenings l)

-- ---- events in which nothing is taken

same_step : (h : Happening) (l : LinkState) (did : LinkDid) → after h l ≡ did → did.link.remembered ≡ l.remembered
    → did.link.monitored ≡ l.monitored → of_values did.notices ≡ [] → IsStep h l
same_step h l did is remembered items told = record {
  deeds = [];
  doable = tt;
  known = tt;
  leads = ap (λ (d : LinkDid). d.link.remembered) is ∙ remembered;
  items = ap (λ (d : LinkDid). d.link.monitored) is ∙ items;
  told = ap (λ (d : LinkDid). of_values d.notices) is ∙ told;
  from = tt;
  named = tt;
}

forgets_step : (h : Happening) (l : LinkState) (did : LinkDid) → after h l ≡ did → did.link.remembered ≡ None
    → did.link.monitored ≡ [] → of_values did.notices ≡ [] → IsStep h l
forgets_step h l did is remembered items told = record {
  deeds = Forgets ∷ [];
  doable = (tt, tt);
  known = (tt, tt);
  leads = ap (λ (d : LinkDid). d.link.remembered) is ∙ remembered;
  items = ap (λ (d : LinkDid). d.link.monitored) is ∙ items;
  told = ap (λ (d : LinkDid). of_values d.notices) is ∙ told;
  from = (tt, tt);
  named = (tt, tt);
}

loss_values : (p : Phase) → of_values (loss_of p) ≡ []
loss_values (phase.Ready ready) = refl
loss_values phase.Idle = refl
loss_values other = refl

left_step : (p : Phase) (h : Happening) (l : LinkState) (did : LinkDid) → after h l ≡ did → did.link.remembered ≡ (left_in p l).remembered
    → did.link.monitored ≡ (left_in p l).monitored → of_values did.notices ≡ [] → IsStep h l
left_step phase.Adding h l did is remembered items told = forgets_step h l did is remembered items told
left_step phase.Idle h l did is remembered items told = same_step h l did is remembered items told
left_step other h l did is remembered items told = same_step h l did is remembered items told

broken_step : (h : Happening) (l : LinkState) → after h l ≡ broken l → IsStep h l
unfolding broken
broken_step h l is = left_step l.phase h l (broken l) is refl refl (loss_values l.phase)

-- ---- one event with its course

-- where deeds that take what is heard come of what is remembered, they are a step
course_step : (h : Happening) (l : LinkState) → HaveCourses → IsSteady l
    → ((deeds : List Deed) → AreNamedBy deeds (id_in (reply_of h)) → AreDoable deeds l.remembered
    → IsWithin (data_of_all deeds) (data_heard (message_in (reply_of h)) ++ []) → AllFrom deeds l.remembered h l) → IsStep h l
course_step h l courses steady from =
    let course : IsCourse l (data_heard_in (h ∷ [])) (ids_heard_in (h ∷ [])) (after_all (h ∷ []) l) = courses (h ∷ []) l steady in
    let named : AreNamedBy course.deeds (id_in (reply_of h)) = deeds_named course.deeds (id_in (reply_of h)) course.named in
    record {
      deeds = course.deeds;
      doable = course.doable;
      known = course.known;
      leads = course.leads;
      items = course.items;
      told = ap of_values (sym (append-nil (after h l).notices)) ∙ course.told;
      from = from course.deeds named course.doable course.heard;
      named = named;
    }

no_message : (h : Happening) (l : LinkState) → HaveCourses → IsSteady l → message_in (reply_of h) ≡ None → IsStep h l
no_message h l courses steady none = course_step h l courses steady
    (λ deeds named doable within. no_data deeds h l
    (subst (λ m. IsWithin (data_of_all deeds) (data_heard m ++ [])) none within))

-- the data of a message come of the subscription
data_come_by : (message : NotificationMessage) (c : Content) (h : Happening) (l : LinkState) → content_of message.notification_data ≡ c
    → ((values : List MonitoredItemNotification) (r : Remembered) → content_of message.notification_data ≡ content.Values values
    → l.remembered ≡ Some r → IsFrom r.id message.sequence_number values h l)
    → AllCome (data_in message.sequence_number c ++ []) h l
data_come_by message (content.Values values) h l e come = ((λ r is. come values r e is), tt)
data_come_by message content.Alive h l e come = tt
data_come_by message content.Ended h l e come = tt
data_come_by message content.Unread h l e come = tt

message_step : (message : NotificationMessage) (h : Happening) (l : LinkState) → HaveCourses → IsSteady l
    → is_deaf (step_rules.ear_of l) ≡ false → message_in (reply_of h) ≡ Some message → id_in (reply_of h) ≡ None
    → ((values : List MonitoredItemNotification) (r : Remembered) → content_of message.notification_data ≡ content.Values values
    → l.remembered ≡ Some r → IsFrom r.id message.sequence_number values h l) → IsStep h l
message_step message h l courses steady hears is unnamed come = course_step h l courses steady
    (λ deeds named doable within. deeds_come deeds (data_heard (message_in (reply_of h)) ++ []) h l hears
    (subst (AreNamedBy deeds) unnamed named) doable within
    (subst (λ m. AllCome (data_heard m ++ []) h l) (sym is)
    (data_come_by message (content_of message.notification_data) h l refl come)))

-- ---- replies

-- a reply that comes while the link isn't deaf
taken_reply : (number : ℕ) (body : List ℕ) (r : Reply) (l : LinkState) → body_at replies body ≡ Ok r → is_deaf (step_rules.ear_of l) ≡ false
    → after (step_rules.Hears (said_of.Message number body)) l ≡ step_rules.replied_in l.phase r l
unfolding step_rules.heard step_rules.replied
taken_reply number body r l e deaf =
    ap (λ b. if b then nothing l else step_rules.replied_by (body_at replies body) l) deaf
    ∙ ap (λ x. step_rules.replied_by x l) e

deaf_reply : (h : Heard) (l : LinkState) → is_deaf (step_rules.ear_of l) ≡ true → after (step_rules.Hears h) l ≡ nothing l
unfolding step_rules.heard
deaf_reply h l deaf = ap (λ b. if b then nothing l else step_rules.hears h l) deaf

published_step : (number : ℕ) (body : List ℕ) (r : PublishResponse) (l : LinkState) → HaveCourses → IsSteady l
    → is_deaf (step_rules.ear_of l) ≡ false → body_at replies body ≡ Ok (reply.Subscription (sub_reply.Publish r))
    → IsOwn r l ⊎ (step_rules.replied_in l.phase (reply.Subscription (sub_reply.Publish r)) l ≡ broken l)
    → IsStep (step_rules.Hears (said_of.Message number body)) l
published_step number body r l courses steady hears e (inr broke) =
    broken_step (step_rules.Hears (said_of.Message number body)) l
    (taken_reply number body (reply.Subscription (sub_reply.Publish r)) l e hears ∙ broke)
published_step number body r l courses steady hears e (inl own) =
    message_step r.notification_message (step_rules.Hears (said_of.Message number body)) l courses steady hears
    (ap (λ x. message_in (reply_by x)) e) (ap (λ x. id_in (reply_by x)) e)
    (λ values remembered brings is. inl (record {
      response = r;
      comes = ap reply_by e;
      subscription = own.1 remembered is;
      good = own.0;
      message = record { numbered = refl; brings = brings };
    }))

republished_step : (number : ℕ) (body : List ℕ) (r : RepublishResponse) (l : LinkState) → HaveCourses → IsSteady l
    → is_deaf (step_rules.ear_of l) ≡ false → body_at replies body ≡ Ok (reply.Subscription (sub_reply.Republish r))
    → IsAwaited l.phase r ⊎ (step_rules.replied_in l.phase (reply.Subscription (sub_reply.Republish r)) l ≡ broken l)
    → IsStep (step_rules.Hears (said_of.Message number body)) l
republished_step number body r l courses steady hears e (inr broke) =
    broken_step (step_rules.Hears (said_of.Message number body)) l
    (taken_reply number body (reply.Subscription (sub_reply.Republish r)) l e hears ∙ broke)
republished_step number body r l courses steady hears e (inl awaited) =
    message_step r.notification_message (step_rules.Hears (said_of.Message number body)) l courses steady hears
    (ap (λ x. message_in (reply_by x)) e) (ap (λ x. id_in (reply_by x)) e)
    (λ values remembered brings is. inr (record {
      response = r;
      comes = ap reply_by e;
      good = awaited.0;
      message = record { numbered = refl; brings = brings };
      wanted = awaited.1.0;
      awaits = awaited.1.1;
    }))

sub_step : (number : ℕ) (body : List ℕ) (r : SubReply) (l : LinkState) → HaveCourses → IsSteady l
    → is_deaf (step_rules.ear_of l) ≡ false → body_at replies body ≡ Ok (reply.Subscription r) → IsStep (step_rules.Hears (said_of.Message number body)) l
sub_step number body (sub_reply.Publish r) l courses steady hears e =
    published_step number body r l courses steady hears e (publish_in l.phase r l)
sub_step number body (sub_reply.Republish r) l courses steady hears e =
    republished_step number body r l courses steady hears e (republish_in l.phase r l)
sub_step number body other l courses steady hears e =
    no_message (step_rules.Hears (said_of.Message number body)) l courses steady (ap (λ x. message_in (reply_by x)) e)

reply_step : (number : ℕ) (body : List ℕ) (result : Result Reply BodyFault) (l : LinkState) → HaveCourses → IsSteady l
    → is_deaf (step_rules.ear_of l) ≡ false → body_at replies body ≡ result → IsStep (step_rules.Hears (said_of.Message number body)) l
reply_step number body (Ok (reply.Subscription r)) l courses steady hears e = sub_step number body r l courses steady hears e
reply_step number body (Ok (reply.Session r)) l courses steady hears e =
    no_message (step_rules.Hears (said_of.Message number body)) l courses steady (ap (λ x. message_in (reply_by x)) e)
reply_step number body (Err fault) l courses steady hears e =
    no_message (step_rules.Hears (said_of.Message number body)) l courses steady (ap (λ x. message_in (reply_by x)) e)

heard_step : (h : Heard) (l : LinkState) → HaveCourses → IsSteady l → IsStep (step_rules.Hears h) l
heard_step (said_of.Message number body) l courses steady = by_ear (is_deaf (step_rules.ear_of l)) refl
  where
    by_ear : (b : Bool) → is_deaf (step_rules.ear_of l) ≡ b → IsStep (step_rules.Hears (said_of.Message number body)) l
    by_ear true deaf =
        same_step (step_rules.Hears (said_of.Message number body)) l (nothing l) (deaf_reply (said_of.Message number body) l deaf) refl refl refl
    by_ear false hears = reply_step number body (body_at replies body) l courses steady hears refl
heard_step (said_of.Greeting body) l courses steady = no_message (step_rules.Hears (said_of.Greeting body)) l courses steady refl
heard_step (said_of.Opening channel follows request body) l courses steady =
    no_message (step_rules.Hears (said_of.Opening channel follows request body)) l courses steady refl
heard_step said_of.Close l courses steady = no_message (step_rules.Hears said_of.Close) l courses steady refl
heard_step (said_of.Fault code) l courses steady = no_message (step_rules.Hears (said_of.Fault code)) l courses steady refl

-- ---- events

pub data_come : HaveCourses → (h : Happening) (l : LinkState) → IsSteady l → IsStep h l
data_come courses (step_rules.Hears h) l steady = heard_step h l courses steady
data_come courses (step_rules.Opens url) l steady = no_message (step_rules.Opens url) l courses steady refl
data_come courses step_rules.Refuses l steady = no_message step_rules.Refuses l courses steady refl
data_come courses step_rules.Closes l steady = no_message step_rules.Closes l courses steady refl
data_come courses (step_rules.Ticks ms) l steady = no_message (step_rules.Ticks ms) l courses steady refl
data_come courses (step_rules.Wants mode) l steady = no_message (step_rules.Wants mode) l courses steady refl
data_come courses step_rules.Dials l steady = no_message step_rules.Dials l courses steady refl
data_come courses step_rules.Takes l steady = no_message step_rules.Takes l courses steady refl

pub all_step : HaveCourses → ((h : Happening) (l : LinkState) → IsSteady l → IsSteady (after h l).link)
    → (happenings : List Happening) (l : LinkState) → IsSteady l → AreSteps happenings l
all_step courses stays [] l steady = tt
all_step courses stays (h ∷ more) l steady =
    (data_come courses h l steady, all_step courses stays more (after h l).link (stays h l steady))

-- ---- one after another

done_then : (h : Happening) (l : LinkState) (next : LinkDid) (deeds : List Deed) → (one : IsStep h l) → (after h l).link.config ≡ l.config
    → IsDone deeds (after h l).link next
    → IsDone (one.deeds ++ deeds) l
    (record { link = next.link; said = (after h l).said ++ next.said; notices = (after h l).notices ++ next.notices })
done_then h l next deeds one config rest = record {
  doable = doable_join one.deeds deeds l.remembered one.doable (subst (AreDoable deeds) one.leads rest.doable);
  known = known_join one.deeds deeds l.monitored one.known (subst (AreKnown deeds) one.items rest.known);
  leads = rest.leads ∙ ap (remembered_after deeds) one.leads ∙ sym (remembered_join one.deeds deeds l.remembered);
  items = rest.items ∙ ap (monitored_after deeds) one.items ∙ sym (monitored_join one.deeds deeds l.monitored);
  told = values_join (after h l).notices next.notices
      ∙ ap (λ (x : List Notice). x ++ of_values next.notices) one.told
      ∙ ap (λ (x : List Notice). told_after l.config.items one.deeds l.monitored ++ x)
      (rest.told ∙ ap (λ c. told_after c.items deeds (after h l).link.monitored) config
      ∙ ap (λ (x : List Monitored). told_after l.config.items deeds x) one.items)
      ∙ sym (told_join l.config.items one.deeds deeds l.monitored);
}

pub steps_make_courses : ((happenings : List Happening) (l : LinkState) → (after_all happenings l).link.config ≡ l.config)
    → (happenings : List Happening) (l : LinkState) (steps : AreSteps happenings l)
    → IsDone (deeds_in happenings l steps) l (after_all happenings l)
steps_make_courses config [] l steps = record { doable = tt; known = tt; leads = refl; items = refl; told = refl }
steps_make_courses config (h ∷ more) l steps =
    done_then h l (after_all more (after h l).link) (deeds_in more (after h l).link steps.1) steps.0 (config (h ∷ []) l)
    (steps_make_courses config more (after h l).link steps.1)
