-- Which acts give the switch lines of a client's log.
use Rattle.std.proofs.Common.{◌≡◌, ℕ, ◌&&◌, List, [], ◌∷◌, ◌++◌, Bool, true, false, cond, nat_le, Option, Some, None, filter, refl, sym, ap, ap₂, ◌∙◌, append_assoc}
use Rattle.std.proofs.lemmas.List.{append-nil}
use Rattle.std.proofs.lemmas.List.Elements.{filter-append}
use Rattle.ua_base.specs.declared.modes.Mode.{Mode}
use Rattle.ua_base.specs.declared.modes.Mode.TheVariants.{Disabled, Sampling, Reporting}
use Rattle.ua_base.specs.declared.modes.SetMode.{SetMode}
use Rattle.ua_base.specs.declared.modes.SetMode.TheVariants.{Direct, Hot, Warm, Cold}
use Rattle.set_model.specs.declared.line.Arrived.{Arrived}
use Rattle.set_model.specs.declared.line.GapCause.TheVariants as cause
use Rattle.set_model.specs.declared.line.LogLine.{LogLine}
use Rattle.set_model.specs.declared.line.LogLine.TheVariants as line
use Rattle.set_model.specs.declared.stamp.Stamp.{Stamp}
use Rattle.delivery_log.specs.declared.rule.Joint.TheVariants.{Held}
use Rattle.delivery_log.specs.declared.rule.Turn.TheVariants.{Become, Confirm, Loosen}
use Rattle.delivery_log.specs.declared.rule.Verdict.{Verdict}
use Rattle.delivery_log.specs.declared.rule.Verdict.TheVariants.{Nothing, Deliver, GapDeliver}
use Rattle.delivery_log.specs.Log.{lines_by, timed_lines}
use Rattle.delivery_log.specs.History.{Act, Enter, Set, TurnOne, TurnAll, Note, last_stamp, joint_of, lines_after, lines_of}
use Rattle.delivery_log.specs.Judge.{has_overflow, verdict_of}
use Rattle.link_rules.specs.declared.notice.Notice.{Notice}
use Rattle.link_rules.specs.declared.notice.Notice.TheVariants as notice
use Rattle.client_rules.specs.declared.config.ClientConfig.{ClientConfig}
use Rattle.client_rules.specs.Arrival.{arrived_of}
use Rattle.client_rules.specs.Acts.{ClientAct, Happened, Tells, Says, Switches, beginning, on_confirmed, on_sent, seen_of_act, seen_of_notice}
use Rattle.client_rules.specs.History.{history_after, seen_before}
use Rattle.client_rules.specs.Step.{Moment}
use Rattle.client_laws.specs.Life.{acts_of, client_after, history_of}
use Rattle.client_links.specs.Switching.{is_switch, switch_in, switch_lines, switches_of}

-- ---- lines

timed_none : (item : ℕ) (stamp : Stamp) (entry : Arrived) (verdict : Verdict) → switch_lines (timed_lines item stamp entry verdict) ≡ []
timed_none item stamp entry Nothing = refl
timed_none item stamp entry Deliver = refl
timed_none item stamp entry (GapDeliver cause) = refl

entry_none : (item : ℕ) (time : Option Stamp) (entry : Arrived) (verdict : Verdict) → switch_lines (lines_by item time entry verdict) ≡ []
entry_none item None entry verdict = refl
entry_none item (Some stamp) entry verdict = timed_none item stamp entry verdict

-- ---- what the log sees

-- it gives no switch line, whatever came before
abbrev IsSilent : Option Act → Type 0
IsSilent seen = (earlier : List Act) → switch_lines (lines_of (seen_before seen earlier)) ≡ switch_lines (lines_of earlier)

unseen : IsSilent None
unseen earlier = refl

seen_one : (act : Act) → ((earlier : List Act) → switch_lines (lines_after act earlier) ≡ []) → IsSilent (Some act)
seen_one act none earlier =
    filter-append is_switch (lines_of earlier) (lines_after act earlier) ∙ ap (λ l. switch_lines (lines_of earlier) ++ l) (none earlier)
    ∙ append-nil (switch_lines (lines_of earlier))

item_by : (b : Bool) (act : Act) → IsSilent (Some act) → IsSilent (cond b (Some act) None)
item_by true act silent = silent
item_by false act silent = unseen

sent_silent : (set : SetMode) (mode : Mode) (server : ℕ) → IsSilent (on_sent set mode server)
sent_silent Warm Disabled server = seen_one (TurnAll server (Become Held)) (λ earlier. refl)
sent_silent Warm Sampling server = unseen
sent_silent Warm Reporting server = unseen
sent_silent Direct mode server = unseen
sent_silent Hot mode server = unseen
sent_silent Cold mode server = unseen

confirmed_silent : (set : SetMode) (mode : Mode) (server : ℕ) → IsSilent (on_confirmed set mode server)
confirmed_silent Warm Reporting server = seen_one (TurnAll server Confirm) (λ earlier. refl)
confirmed_silent Warm Disabled server = unseen
confirmed_silent Warm Sampling server = unseen
confirmed_silent Direct mode server = unseen
confirmed_silent Hot mode server = unseen
confirmed_silent Cold mode server = unseen

told_silent : (set : SetMode) (items server : ℕ) (n : Notice) → IsSilent (seen_of_notice set items server n)
told_silent set items server notice.Ready = seen_one (Note (line.Ready server)) (λ earlier. refl)
told_silent set items server notice.Lost = seen_one (Note (line.Lost server)) (λ earlier. refl)
told_silent set items server notice.Unsupported = seen_one (Note (line.Unsupported server)) (λ earlier. refl)
told_silent set items server (notice.Level level) = unseen
told_silent set items server (notice.Stream item) =
    item_by (nat_le 1 item && nat_le item items) (Set server item (beginning set)) (seen_one (Set server item (beginning set)) (λ earlier. refl))
told_silent set items server notice.Jump = seen_one (TurnAll server (Loosen cause.Lost)) (λ earlier. refl)
told_silent set items server (notice.Taken item value) =
    let entry : Arrived = arrived_of value in
    item_by (nat_le 1 item && nat_le item items) (Enter server item entry)
    (seen_one (Enter server item entry)
    (λ earlier. entry_none item entry.time entry (verdict_of (last_stamp item earlier) (joint_of server item earlier) entry.time (has_overflow entry.status))))
told_silent set items server (notice.Sent mode) = sent_silent set mode server
told_silent set items server (notice.Confirmed mode) = confirmed_silent set mode server

act_gives : (set : SetMode) (items : ℕ) (act : ClientAct) (earlier : List Act)
    → switch_lines (lines_of (seen_before (seen_of_act set items act) earlier)) ≡ switch_lines (lines_of earlier) ++ switch_in act
act_gives set items (Happened happening) earlier = sym (append-nil (switch_lines (lines_of earlier)))
act_gives set items (Tells server n) earlier =
    told_silent set items server n earlier ∙ sym (append-nil (switch_lines (lines_of earlier)))
act_gives set items (Says server said) earlier = sym (append-nil (switch_lines (lines_of earlier)))
act_gives set items (Switches from to) earlier = filter-append is_switch (lines_of earlier) (line.Switch from to ∷ [])

all_give : (set : SetMode) (items : ℕ) (acts : List ClientAct) (earlier : List Act)
    → switch_lines (lines_of (history_after set items acts earlier)) ≡ switch_lines (lines_of earlier) ++ switches_of acts
unfolding history_after
all_give set items [] earlier = sym (append-nil (switch_lines (lines_of earlier)))
all_give set items (act ∷ acts) earlier =
    all_give set items acts (seen_before (seen_of_act set items act) earlier)
    ∙ ap (λ l. l ++ switches_of acts) (act_gives set items act earlier)
    ∙ append_assoc (switch_lines (lines_of earlier)) (switch_in act) (switches_of acts)

-- what the law of logs says of their lines
abbrev pub AreLines : Type 0
AreLines = (config : ClientConfig) (moments : List Moment) → (client_after config moments).log.lines ≡ lines_of (history_of config moments)

pub switch_lines_are : AreLines → (config : ClientConfig) (moments : List Moment)
    → switch_lines (client_after config moments).log.lines ≡ switches_of (acts_of config moments)
switch_lines_are are config moments =
    ap switch_lines (are config moments) ∙ all_give config.mode config.items (acts_of config moments) []
