-- Until the first Publish each message that is taken is answered by one that is put.
use Rattle.std.proofs.Common.{◌≡◌, ℕ, ◌+◌, List, [], ◌∷◌, length, Bool, true, false, Option, None, Result, Ok, Err, if◌then◌else◌, refl, sym, ◌∙◌, ap, subst, arith, inl, inr}
use Rattle.ua_base.specs.declared.modes.Mode.{Mode}
use Rattle.ua_values.specs.Reading.{Fault}
use Rattle.ua_structures.specs.declared.body.BodyFault.{BodyFault}
use Rattle.ua_structures.specs.Body.{body_at}
use Rattle.ua_chunks.specs.declared.greeting.Greeting.{Greeting}
use Rattle.ua_channel.specs.declared.heard.Heard.{Heard}
use Rattle.ua_channel.specs.declared.heard.Heard.TheVariants as said
use Rattle.ua_channel.specs.State.{is_deaf}
use Rattle.ua_channel.specs.declared.ear.Ear.{Ear}
use Rattle.ua_channel.specs.declared.ear.Ear.TheVariants as ear
use Rattle.ua_session_msgs.specs.declared.channel.ChannelSecurityToken.{ChannelSecurityToken}
use Rattle.ua_session_msgs.specs.declared.channel.OpenSecureChannelResponse.{OpenSecureChannelResponse}
use Rattle.ua_session_msgs.specs.declared.reply.SessionReply.TheVariants as session_reply
use Rattle.ua_services.specs.declared.reply.Reply.{Reply}
use Rattle.ua_services.specs.declared.reply.Reply.TheVariants as reply
use Rattle.ua_services.specs.Families.{replies}
use Rattle.link_rules.specs.declared.config.LinkConfig.{LinkConfig}
use Rattle.link_rules.specs.declared.phase.Phase.{Phase}
use Rattle.link_rules.specs.declared.phase.Phase.TheVariants as phase
use Rattle.link_rules.specs.declared.remembered.Remembered.{Remembered}
use Rattle.link_rules.specs.State.{LinkState, is_ready, is_ready_phase, new_link, ready_in, with_phase}
use Rattle.link_rules.specs.Said.{LinkDid, Said, Greeted, Limited, and_then, nothing, says}
use Rattle.link_rules.specs.Closing.{broken, dropped, stands_in}
use Rattle.link_rules.specs.Asking.{is_answer}
use Rattle.link_rules.specs.Requests.{hello}
use Rattle.link_rules.specs.Publishing.{published}
use Rattle.link_rules.specs.Ready as ready_rules
use Rattle.link_rules.specs.Opening as open_rules
use Rattle.link_rules.specs.Time as time_rules
use Rattle.link_rules.specs.Step as step_rules
use Rattle.link_laws.specs.Lockstep.{Tally, anew_in, has_publish, is_publish, is_put, no_tally, puts, tally_after, tally_all, tally_put}
use Rattle.link_laws.proofs.Moves.{Session, Publish}
use Rattle.link_laws.proofs.Replying.{Holds, IsEarly, HasFallen, IsPast, past_if, broken_fell, dropped_fell, falls, asks_past, opens_past, read_reply}

-- ---- the channel

creates_past : (l : LinkState) → IsEarly l → IsPast (open_rules.creates_session l)
unfolding open_rules.creates_session
creates_past l early = asks_past Session l (λ n r. refl) refl (record { unready = refl; renews = early.renews; holds = tt })

-- what is no message comes before
silent_then : (one : Said) (next : LinkDid) → is_put one.told ≡ false → is_publish one.told ≡ false → IsPast next
    → IsPast (record { link = next.link; said = one ∷ next.said; notices = next.notices })
silent_then one next put publish h = by_past h
  where
    by_past : IsPast next → IsPast (record { link = next.link; said = one ∷ next.said; notices = next.notices })
    by_past (inl f) = inl (record {
      phase = f.phase;
      said = ap (λ b. if b then one ∷ puts next.said else puts next.said) put ∙ f.said;
      unpublished = ap (λ b. if b then true else has_publish next.said) publish ∙ f.unpublished;
      renews = f.renews;
    })
    by_past (inr (inl a)) = inr (inl (record {
      one = a.one;
      said = ap (λ b. if b then one ∷ puts next.said else puts next.said) put ∙ a.said;
      unpublished = ap (λ b. if b then true else has_publish next.said) publish ∙ a.unpublished;
      early = a.early;
    }))
    by_past (inr (inr p)) = inr (inr (ap (λ b. if b then true else has_publish next.said) publish ∙ p))

renewed_past : (t : ChannelSecurityToken) (l : LinkState) → IsEarly l → IsPast (and_then open_rules.creates_session (open_rules.renews t l))
unfolding open_rules.renews
renewed_past t l early =
    let next : LinkState = open_rules.with_token t l in
    silent_then _ (open_rules.creates_session next) refl refl
    (creates_past next (record { unready = early.unready; renews = refl; holds = early.holds }))

none_renewed : (r : OpenSecureChannelResponse) (l : LinkState) → IsEarly l
    → IsPast (if ready_rules.is_answer_to l.conversation.renewal r.response_header then
    open_rules.renews r.security_token (open_rules.heard_once l) else broken l)
none_renewed r l early =
    subst (λ o. IsPast (if ready_rules.is_answer_to o r.response_header then
    open_rules.renews r.security_token (open_rules.heard_once l) else broken l)) (sym early.renews) (falls l early)

channel_by : (p : Phase) (r : OpenSecureChannelResponse) (l : LinkState) → IsEarly l → IsPast (open_rules.channel_replied_in p r l)
unfolding open_rules.channel_replied_in
channel_by phase.Opening r l early =
    past_if (is_answer r.response_header l) (and_then open_rules.creates_session (open_rules.renews r.security_token l)) (broken l)
    (renewed_past r.security_token l early) (falls l early)
channel_by phase.Idle r l early = none_renewed r l early
channel_by other r l early = none_renewed r l early

opening_reply : (r : Reply) (l : LinkState) → IsEarly l → IsPast (open_rules.in_opening r l)
unfolding open_rules.in_opening
opening_reply (reply.Session (session_reply.OpenSecureChannel r)) l early = channel_by l.phase r l early
opening_reply other l early = falls l early

read_opening : (result : Result Reply BodyFault) (l : LinkState) → IsEarly l → IsPast (step_rules.opening_by result l)
read_opening (Ok r) l early = opening_reply r l early
read_opening (Err fault) l early = falls l early

acknowledged_past : (g : Greeting) (l : LinkState) → IsEarly l → IsPast (open_rules.acknowledged_by g l)
unfolding open_rules.acknowledged_by
acknowledged_past g l early =
    let next : LinkState = open_rules.with_limit (open_rules.limit_named g) l in
    past_if (open_rules.is_enough g) (and_then open_rules.opens_channel (says (Limited (open_rules.limits_of g)) next)) (broken l)
    (silent_then _ (open_rules.opens_channel next) refl refl
    (opens_past next (record { unready = early.unready; renews = early.renews; holds = early.holds })))
    (falls l early)

greeting_past : (result : Result Greeting Fault) (l : LinkState) → IsEarly l → IsPast (open_rules.greeted_by result l)
unfolding open_rules.greeted_by
greeting_past (Ok g) l early = acknowledged_past g l early
greeting_past (Err fault) l early = falls l early

greeted_by : (p : Phase) (body : List ℕ) (l : LinkState) → IsEarly l → IsPast (open_rules.greeted_in p body l)
greeted_by phase.Hello body l early = greeting_past _ l early
greeted_by phase.Idle body l early = falls l early
greeted_by other body l early = falls l early

-- each message that is taken
hears_past : (h : Heard) (l : LinkState) → IsEarly l → IsPast (step_rules.hears h l)
unfolding open_rules.greeted step_rules.opening_replied step_rules.replied
hears_past (said.Greeting body) l early = greeted_by l.phase body l early
hears_past (said.Opening channel follows request body) l early =
    past_if follows (step_rules.opening_by (body_at replies body) l) (broken l) (read_opening (body_at replies body) l early) (falls l early)
hears_past (said.Message request body) l early = read_reply _ l early
hears_past said.Close l early = falls l early
hears_past (said.Fault code) l early = falls l early

-- ---- one event

-- before the first Publish the link is early, and while it stands it is in step
record IsInStep (l : LinkState) (t : Tally) : Type 0 where
  pub early : t.published ≡ false → IsEarly l
  pub step : t.published ≡ false → stands_in l.phase ≡ true → t.put ≡ t.taken + 1

broken_rests : (l : LinkState) → (broken l).link.phase ≡ phase.Idle
unfolding broken
broken_rests l = refl

dropped_rests : (l : LinkState) → (dropped l).link.phase ≡ phase.Idle
unfolding dropped
dropped_rests l = refl

not_both : {A : Type 0} (b : Bool) → b ≡ true → b ≡ false → A
not_both b yes_is no_is = let bad : true ≡ false = sym yes_is ∙ no_is in absurd cc

-- what was published stays so
was_false : (b more : Bool) → (if b then true else more) ≡ false → b ≡ false
was_false true more e = absurd cc
was_false false more e = refl

more_false : (b more : Bool) → (if b then true else more) ≡ false → more ≡ false
more_false true more e = absurd cc
more_false false more e = e

idle_early : (l : LinkState) → l.phase ≡ phase.Idle → l.conversation.renewal ≡ None → IsEarly l
idle_early l is e = record { unready = ap is_ready_phase is; renews = e; holds = subst (λ p. Holds p l.remembered) (sym is) tt }

-- nothing is put
stays : (l : LinkState) (did : LinkDid) (t : Tally) → puts did.said ≡ [] → (IsEarly l → IsEarly did.link)
    → (stands_in did.link.phase ≡ true → stands_in l.phase ≡ true) → IsInStep l t → IsInStep did.link (tally_put did.said t)
stays l did t none early stands h = record {
  early = λ e. early (h.early (was_false t.published (has_publish did.said) e));
  step = λ e there.
      let same : t.put + length (puts did.said) ≡ t.put = ap (λ (x : List Said). t.put + length x) none ∙ plus_none t.put in
      same ∙ h.step (was_false t.published (has_publish did.said) e) (stands there);
}
  where
    plus_none : (n : ℕ) → n + 0 ≡ n
    plus_none n = omega arith

fell_stands : (l : LinkState) → l.phase ≡ phase.Idle → {A : Type 0} → stands_in l.phase ≡ true → A
fell_stands l is there = let bad : false ≡ true = sym (ap stands_in is) ∙ there in absurd cc

fallen : (l : LinkState) (did : LinkDid) (t : Tally) → (l.conversation.renewal ≡ None → HasFallen did) → did.link.phase ≡ phase.Idle → IsInStep l t
    → IsInStep did.link (tally_put did.said t)
fallen l did t fell is h = record {
  early = λ e.
      let has : HasFallen did = fell (h.early (was_false t.published (has_publish did.said) e)).renews in
      idle_early did.link has.phase has.renews;
  step = λ e there. fell_stands did.link is there;
}

taken_by : (did : LinkDid) (t : Tally) → IsPast did → t.put ≡ t.taken + 1
    → IsInStep did.link (tally_put did.said (record t { taken = t.taken + 1 }))
taken_by did t (inl f) step = record {
  early = λ e. idle_early did.link f.phase f.renews;
  step = λ e there. fell_stands did.link f.phase there;
}
taken_by did t (inr (inl a)) step = record {
  early = λ e. a.early;
  step = λ e there. one_more t.put t.taken (puts did.said) a.one a.said step;
}
  where
    one_more : (put taken : ℕ) (list : List Said) (one : Said) → list ≡ one ∷ [] → put ≡ taken + 1 → put + length list ≡ taken + 1 + 1
    one_more put taken list one is step =
        let long : length list ≡ 1 = ap length is in omega (arith, long, step)
taken_by did t (inr (inr p)) step = record {
  early = λ e. not_both (has_publish did.said) p (more_false t.published (has_publish did.said) e);
  step = λ e there. not_both (has_publish did.said) p (more_false t.published (has_publish did.said) e);
}

-- once a Publish was put nothing is said any more
published_on : (l : LinkState) (t : Tally) (said_now : List Said) → t.published ≡ true → IsInStep l (tally_put said_now t)
published_on l t said_now is = record {
  early = λ e. not_both t.published is (was_false t.published (has_publish said_now) e);
  step = λ e there. not_both t.published is (was_false t.published (has_publish said_now) e);
}

-- ---- what is heard

hears_on : (b : Bool) (e : Ear) → is_deaf (if b then ear.Deaf else e) ≡ false → is_deaf e ≡ false
hears_on true e is = absurd cc
hears_on false e is = is

-- before the connection is there, what comes makes the link fall
falls_early : (l : LinkState) → IsEarly l → HasFallen (broken l)
falls_early l early = broken_fell l early.renews

calling_channel : (taken : Bool) (r : OpenSecureChannelResponse) (l : LinkState) → IsEarly l
    → HasFallen (open_rules.channel_replied_in (phase.Dialing taken) r l)
unfolding open_rules.channel_replied_in
calling_channel taken r l early =
    subst (λ o. HasFallen (if ready_rules.is_answer_to o r.response_header then
    open_rules.renews r.security_token (open_rules.heard_once l) else broken l)) (sym early.renews) (falls_early l early)

calling_opening : (taken : Bool) (r : Reply) (l : LinkState) → l.phase ≡ phase.Dialing taken → IsEarly l → HasFallen (open_rules.in_opening r l)
unfolding open_rules.in_opening
calling_opening taken (reply.Session (session_reply.OpenSecureChannel r)) l e early =
    subst (λ p. HasFallen (open_rules.channel_replied_in p r l)) (sym e) (calling_channel taken r l early)
calling_opening taken other l e early = falls_early l early

calling_read : (taken : Bool) (result : Result Reply BodyFault) (l : LinkState) → l.phase ≡ phase.Dialing taken → IsEarly l
    → HasFallen (step_rules.opening_by result l)
calling_read taken (Ok r) l e early = calling_opening taken r l e early
calling_read taken (Err fault) l e early = falls_early l early

calling_reply : (taken : Bool) (result : Result Reply BodyFault) (l : LinkState) → l.phase ≡ phase.Dialing taken → IsEarly l
    → HasFallen (step_rules.replied_by result l)
calling_reply taken (Ok r) l e early = subst (λ p. HasFallen (step_rules.replied_in p r l)) (sym e) (falls_early l early)
calling_reply taken (Err fault) l e early = falls_early l early

calling_follows : (b : Bool) (one other : LinkDid) → HasFallen one → HasFallen other → HasFallen (if b then one else other)
calling_follows true one other h rest = h
calling_follows false one other h rest = rest

calling_hears : (taken : Bool) (h : Heard) (l : LinkState) → l.phase ≡ phase.Dialing taken → IsEarly l → HasFallen (step_rules.hears h l)
unfolding open_rules.greeted step_rules.opening_replied step_rules.replied
calling_hears taken (said.Greeting body) l e early =
    subst (λ p. HasFallen (open_rules.greeted_in p body l)) (sym e) (falls_early l early)
calling_hears taken (said.Opening channel follows request body) l e early =
    calling_follows follows (step_rules.opening_by (body_at replies body) l) (broken l) (calling_read taken (body_at replies body) l e early) (falls_early l early)
calling_hears taken (said.Message request body) l e early = calling_reply taken (body_at replies body) l e early
calling_hears taken said.Close l e early = falls_early l early
calling_hears taken (said.Fault code) l e early = falls_early l early

taken_step : (h : Heard) (l : LinkState) (t : Tally) (p : Phase) → l.phase ≡ p → is_deaf (step_rules.ear_in p) ≡ false → t.published ≡ false → IsInStep l t
    → IsInStep (step_rules.hears h l).link (tally_put (step_rules.hears h l).said (record t { taken = t.taken + 1 }))
taken_step h l t phase.Idle e deaf no_is inside = absurd cc
taken_step h l t (phase.Dialing taken) e deaf no_is inside =
    let fell : HasFallen (step_rules.hears h l) = calling_hears taken h l e (inside.early no_is) in
    record { early = λ is. idle_early (step_rules.hears h l).link fell.phase fell.renews; step = λ is there. fell_stands (step_rules.hears h l).link fell.phase there }
taken_step h l t other e deaf no_is inside =
    taken_by (step_rules.hears h l) t (hears_past h l (inside.early no_is)) (inside.step no_is (ap stands_in e))

same_step : (l : LinkState) (t : Tally) → IsInStep l t → IsInStep l (tally_put [] t)
same_step l t h = stays l (nothing l) t refl (λ early. early) (λ there. there) h

heard_step : (h : Heard) (l : LinkState) (t : Tally) → IsInStep l t
    → IsInStep (step_rules.heard h l).link (tally_put (step_rules.heard h l).said (if is_deaf (step_rules.ear_of l) then t else record t { taken = t.taken + 1 }))
unfolding step_rules.heard
heard_step h l t inside = by_ear (is_deaf (step_rules.ear_of l)) refl
  where
    by_published : (b : Bool) → t.published ≡ b → is_deaf (step_rules.ear_of l) ≡ false
        → IsInStep (step_rules.hears h l).link (tally_put (step_rules.hears h l).said (record t { taken = t.taken + 1 }))
    by_published true is deaf = published_on (step_rules.hears h l).link (record t { taken = t.taken + 1 }) (step_rules.hears h l).said is
    by_published false is deaf = taken_step h l t l.phase refl (hears_on l.closes (step_rules.ear_in l.phase) deaf) is inside

    by_ear : (b : Bool) → is_deaf (step_rules.ear_of l) ≡ b
        → IsInStep (if b then nothing l else step_rules.hears h l).link
        (tally_put (if b then nothing l else step_rules.hears h l).said (if b then t else record t { taken = t.taken + 1 }))
    by_ear true is = same_step l t inside
    by_ear false is = by_published t.published refl is

-- ---- other events

broken_step : (l : LinkState) (t : Tally) → IsInStep l t → IsInStep (broken l).link (tally_put (broken l).said t)
broken_step l t h = fallen l (broken l) t (broken_fell l) (broken_rests l) h

dropped_step : (l : LinkState) (t : Tally) → IsInStep l t → IsInStep (dropped l).link (tally_put (dropped l).said t)
dropped_step l t h = fallen l (dropped l) t (dropped_fell l) (dropped_rests l) h

quiet_step : (l next : LinkState) (t : Tally) → next.phase ≡ l.phase → next.remembered ≡ l.remembered
    → next.conversation.renewal ≡ l.conversation.renewal → IsInStep l t → IsInStep next (tally_put [] t)
quiet_step l next t p r c h =
    stays l (nothing next) t refl
    (λ early. record {
      unready = ap is_ready_phase p ∙ early.unready;
      renews = c ∙ early.renews;
      holds = subst (λ x. Holds x next.remembered) (sym p) (subst (Holds l.phase) (sym r) early.holds);
    })
    (λ there. sym (ap stands_in p) ∙ there) h

greets_step : (url : Option (List ℕ)) (l : LinkState)
    → IsInStep (open_rules.greets url (open_rules.connected url l)).link (tally_put (open_rules.greets url (open_rules.connected url l)).said no_tally)
unfolding open_rules.greets
greets_step url l = by_test (open_rules.is_short url)
  where
    by_test : (b : Bool) → IsInStep (if b then says (Greeted hello url) (open_rules.connected url l) else broken (open_rules.connected url l)).link
        (tally_put (if b then says (Greeted hello url) (open_rules.connected url l) else broken (open_rules.connected url l)).said no_tally)
    by_test true = record { early = λ e. record { unready = refl; renews = refl; holds = tt }; step = λ e there. refl }
    by_test false =
        let fell : HasFallen (broken (open_rules.connected url l)) = broken_fell (open_rules.connected url l) refl in
        record { early = λ e. idle_early (broken (open_rules.connected url l)).link fell.phase fell.renews; step = λ e there. fell_stands (broken (open_rules.connected url l)).link fell.phase there }

opened_by : (p : Phase) (url : Option (List ℕ)) (l : LinkState) (t : Tally) → IsInStep l t
    → IsInStep (open_rules.opened_in p url l).link (tally_put (open_rules.opened_in p url l).said (anew_in p t))
opened_by phase.Idle url l t h = quiet_step l (record l { closes = true }) t refl refl refl h
opened_by (phase.Dialing taken) url l t h = greets_step url l
opened_by other url l t h = broken_step l t h

opened_step : (url : Option (List ℕ)) (l : LinkState) (t : Tally) → IsInStep l t
    → IsInStep (open_rules.opened url l).link (tally_put (open_rules.opened url l).said (anew_in l.phase t))
unfolding open_rules.opened
opened_step url l t h = opened_by l.phase url l t h

refused_by : (p : Phase) (l : LinkState) (t : Tally) → IsInStep l t
    → IsInStep (open_rules.refused_in p l).link (tally_put (open_rules.refused_in p l).said t)
refused_by (phase.Dialing taken) l t h = dropped_step l t h
refused_by other l t h = same_step l t h

refused_step : (l : LinkState) (t : Tally) → IsInStep l t → IsInStep (open_rules.refused l).link (tally_put (open_rules.refused l).said t)
unfolding open_rules.refused
refused_step l t h = refused_by l.phase l t h

closed_by : (p : Phase) (l : LinkState) (t : Tally) → IsInStep l t
    → IsInStep (open_rules.closed_in p l).link (tally_put (open_rules.closed_in p l).said t)
closed_by phase.Idle l t h = same_step l t h
closed_by (phase.Dialing taken) l t h = same_step l t h
closed_by other l t h = dropped_step l t h

closed_step : (l : LinkState) (t : Tally) → IsInStep l t → IsInStep (open_rules.closed l).link (tally_put (open_rules.closed l).said t)
unfolding open_rules.closed
closed_step l t h = by_test l.closes
  where
    by_test : (b : Bool) → IsInStep (if b then nothing (record l { closes = false }) else open_rules.closed_in l.phase l).link
        (tally_put (if b then nothing (record l { closes = false }) else open_rules.closed_in l.phase l).said t)
    by_test true = quiet_step l (record l { closes = false }) t refl refl refl h
    by_test false = closed_by l.phase l t h

aged_in : (ms : ℕ) (l : LinkState) (t : Tally) → IsInStep l t → IsInStep (time_rules.aged ms l) t
aged_in ms l t h = record {
  early = λ e. let early = h.early e in record { unready = early.unready; renews = early.renews; holds = early.holds };
  step = λ e there. h.step e there;
}

keeps_step : (l : LinkState) (t : Tally) → IsInStep l t → IsInStep (time_rules.keeps_up l).link (tally_put (time_rules.keeps_up l).said t)
unfolding time_rules.keeps_up
keeps_step l t h = by_published t.published refl
  where
    by_published : (b : Bool) → t.published ≡ b → IsInStep (if is_ready l then and_then time_rules.renews_token (time_rules.reads_level l) else nothing l).link
        (tally_put (if is_ready l then and_then time_rules.renews_token (time_rules.reads_level l) else nothing l).said t)
    by_published true is = published_on (if is_ready l then and_then time_rules.renews_token (time_rules.reads_level l) else nothing l).link t (if is_ready l then and_then time_rules.renews_token (time_rules.reads_level l) else nothing l).said is
    by_published false is =
        subst (λ b. IsInStep (if b then and_then time_rules.renews_token (time_rules.reads_level l) else nothing l).link
        (tally_put (if b then and_then time_rules.renews_token (time_rules.reads_level l) else nothing l).said t))
        (sym (h.early is).unready) (same_step l t h)

ticked_step : (ms : ℕ) (l : LinkState) (t : Tally) → IsInStep l t → IsInStep (time_rules.ticked ms l).link (tally_put (time_rules.ticked ms l).said t)
unfolding time_rules.ticked
ticked_step ms l t h = by_test (time_rules.is_overdue (time_rules.aged ms l))
  where
    by_test : (b : Bool) → IsInStep (if b then broken (time_rules.aged ms l) else time_rules.keeps_up (time_rules.aged ms l)).link
        (tally_put (if b then broken (time_rules.aged ms l) else time_rules.keeps_up (time_rules.aged ms l)).said t)
    by_test true = broken_step (time_rules.aged ms l) t (aged_in ms l t h)
    by_test false = keeps_step (time_rules.aged ms l) t (aged_in ms l t h)

unready_none : (p : Phase) → is_ready_phase p ≡ false → ready_in p ≡ None
unready_none (phase.Ready ready) e = absurd cc
unready_none phase.Idle e = refl
unready_none other e = refl

wants_step : (mode : Mode) (l : LinkState) (t : Tally) → IsInStep l t → IsInStep (step_rules.wants mode l).link (tally_put (step_rules.wants mode l).said t)
unfolding step_rules.wants
wants_step mode l t h = by_published t.published refl
  where
    by_published : (b : Bool) → t.published ≡ b → IsInStep (step_rules.wants_in (ready_in l.phase) mode l).link
        (tally_put (step_rules.wants_in (ready_in l.phase) mode l).said t)
    by_published true is = published_on (step_rules.wants_in (ready_in l.phase) mode l).link t (step_rules.wants_in (ready_in l.phase) mode l).said is
    by_published false is =
        subst (λ o. IsInStep (step_rules.wants_in o mode l).link (tally_put (step_rules.wants_in o mode l).said t))
        (sym (unready_none l.phase (h.early is).unready)) (same_step l t h)

dials_step : (l : LinkState) (t : Tally) (b : Bool) → IsInStep l t
    → IsInStep (if b then with_phase (phase.Dialing false) l else l) (tally_put [] t)
dials_step l t false h = same_step l t h
dials_step l t true h = record {
  early = λ e. let early = h.early (was_false t.published false e) in record { unready = refl; renews = early.renews; holds = tt };
  step = λ e there. absurd cc;
}

taken_early : (p : Phase) (r : Option Remembered) → Holds p r → Holds (step_rules.taken_in p) r
taken_early (phase.Dialing taken) r h = h
taken_early other r h = h

taken_unready : (p : Phase) → is_ready_phase (step_rules.taken_in p) ≡ is_ready_phase p
taken_unready (phase.Dialing taken) = refl
taken_unready other = refl

taken_stands : (p : Phase) → stands_in (step_rules.taken_in p) ≡ stands_in p
taken_stands (phase.Dialing taken) = refl
taken_stands other = refl

takes_step : (l : LinkState) (t : Tally) (b : Bool) → IsInStep l t
    → IsInStep (if b then record l { closes = false } else record l { phase = step_rules.taken_in l.phase }) (tally_put [] t)
takes_step l t true h = quiet_step l (record l { closes = false }) t refl refl refl h
takes_step l t false h =
    let next : LinkState = record l { phase = step_rules.taken_in l.phase } in
    stays l (nothing next) t refl
    (λ early. record {
      unready = taken_unready l.phase ∙ early.unready;
      renews = early.renews;
      holds = taken_early l.phase l.remembered early.holds;
    })
    (λ there. sym (taken_stands l.phase) ∙ there) h

event_step : (h : step_rules.Happening) (l : LinkState) (t : Tally) → IsInStep l t → IsInStep (step_rules.after h l).link (tally_after h l t)
event_step (step_rules.Opens url) l t inside = opened_step url l t inside
event_step step_rules.Refuses l t inside = refused_step l t inside
event_step step_rules.Closes l t inside = closed_step l t inside
event_step (step_rules.Hears h) l t inside = heard_step h l t inside
event_step (step_rules.Ticks ms) l t inside = ticked_step ms l t inside
event_step (step_rules.Wants mode) l t inside = wants_step mode l t inside
event_step step_rules.Dials l t inside = dials_step l t (open_rules.may_dial l) inside
event_step step_rules.Takes l t inside = takes_step l t l.closes inside

all_step : (happenings : List step_rules.Happening) (l : LinkState) (t : Tally) → IsInStep l t
    → IsInStep (step_rules.after_all happenings l).link (tally_all happenings l t)
all_step [] l t inside = inside
all_step (h ∷ more) l t inside = all_step more (step_rules.after h l).link (tally_after h l t) (event_step h l t inside)

pub in_step : (config : LinkConfig) (happenings : List step_rules.Happening)
    → stands_in (step_rules.after_all happenings (new_link config)).link.phase ≡ true
    → (tally_all happenings (new_link config) no_tally).published ≡ false
    → (tally_all happenings (new_link config) no_tally).put ≡ (tally_all happenings (new_link config) no_tally).taken + 1
in_step config happenings there unpublished =
    (all_step happenings (new_link config) no_tally
    (record { early = λ e. record { unready = refl; renews = refl; holds = tt }; step = λ e stands. absurd cc })).step unpublished there
