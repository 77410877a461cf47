-- Acts one after another: what two lists of them come to, and the entries of a take.
use Rattle.std.proofs.Common.{◌≡◌, ℕ, ◌+◌, List, [], ◌∷◌, ◌++◌, take, drop, length, refl, sym, ap, ap₂, ◌∙◌, append_assoc, true, ◌<◌, arith}
use Rattle.std.proofs.lemmas.List.{drop-drop, drop_more, drop-set-lt, take_more_set}
use Rattle.std.proofs.Math.Seq.{take-add}
use Rattle.item_queue.specs.declared.queue.Entry.{Entry}
use Rattle.item_queue.specs.State.{QueueState}
use Rattle.item_queue.specs.Queue.{empty_queue, without_oldest}
use Rattle.delivery_log.specs.State.{LogState}
use Rattle.delivery_log.specs.History.{Act, Enter, acted}
use Rattle.direct_world.specs.Server.{arrived, left_after, queue_at, taken_place}
use Rattle.direct_world.specs.Acts.{after_acts, with_acts, entering, taking, taking_place}

-- the log after acts and more acts
pub after_more_acts : (acts more : List Act) (log : LogState) → after_acts (acts ++ more) log ≡ after_acts more (after_acts acts log)
after_more_acts [] more log = refl
after_more_acts (act ∷ acts) more log = after_more_acts acts more (acted act log)

-- the history with acts and more acts
pub with_more_acts : (acts more history : List Act) → with_acts (acts ++ more) history ≡ with_acts more (with_acts acts history)
with_more_acts [] more history = refl
with_more_acts (act ∷ acts) more history = with_more_acts acts more (act ∷ history)

entering-append : (server item : ℕ) (entries more : List Entry)
    → entering server item (entries ++ more) ≡ entering server item entries ++ entering server item more
entering-append server item [] more = refl
entering-append server item (entry ∷ entries) more = ap (λ acts. Enter server item (arrived entry) ∷ acts) (entering-append server item entries more)

-- a queue after one entry more was taken
pub taken_more : (i : ℕ) (first before after : QueueState) → before ≡ without_oldest i first → after ≡ without_oldest 1 before
    → after ≡ without_oldest (i + 1) first
taken_more i first before after so_far one =
    one ∙ ap (without_oldest 1) so_far ∙ ap (λ entries. record first { entries = entries }) (drop-drop 1 i first.entries)

-- the log after one entry more was entered
pub entered_more : (server item i : ℕ) (queue before : QueueState) (log so_far after : LogState) → before ≡ without_oldest i queue
    → so_far ≡ after_acts (entering server item (take i queue.entries)) log
    → after ≡ after_acts (entering server item (take 1 before.entries)) so_far
    → after ≡ after_acts (entering server item (take (i + 1) queue.entries)) log
entered_more server item i queue before log so_far after out former one =
    let next : after_acts (entering server item (take (i + 1) queue.entries)) log
    ≡ after_acts (entering server item (take 1 (drop i queue.entries))) (after_acts (entering server item (take i queue.entries)) log) =
    ap (λ entries. after_acts (entering server item entries) log) (take-add i 1 queue.entries)
    ∙ ap (λ acts. after_acts acts log) (entering-append server item (take i queue.entries) (take 1 (drop i queue.entries)))
    ∙ after_more_acts (entering server item (take i queue.entries)) (entering server item (take 1 (drop i queue.entries))) log in
    let same : after ≡ after_acts (entering server item (take 1 (drop i queue.entries))) (after_acts (entering server item (take i queue.entries)) log) =
    one
    ∙ ap (λ (q : QueueState). after_acts (entering server item (take 1 q.entries)) so_far) out
    ∙ ap (after_acts (entering server item (take 1 (drop i queue.entries)))) former in
    same ∙ sym next

-- the log after the entries of one queue more were taken
pub log_taken_on : (server place count : ℕ) (queues next : List QueueState) (so_far after : LogState) → place < length queues
    → next ≡ taken_place place count queues → after ≡ after_acts (taking_place server place count queues) so_far
    → after_acts (taking server (place + 1 + 1) count (drop (place + 1) next)) after
    ≡ after_acts (taking server (place + 1) count (drop place queues)) so_far
log_taken_on server place count queues next so_far after within are one =
    let over : place < place + 1 = omega arith in
    let changed = without_oldest count (queue_at place queues) in
    let rest = drop (place + 1) queues in
    ap (λ more. after_acts (taking server (place + 1 + 1) count (drop (place + 1) more)) after) are
    ∙ ap (λ more. after_acts (taking server (place + 1 + 1) count more) after) (drop-set-lt (place + 1) queues place changed over)
    ∙ ap (after_acts (taking server (place + 1 + 1) count rest)) one
    ∙ sym (after_more_acts (taking_place server place count queues) (taking server (place + 1 + 1) count rest) so_far)
    ∙ ap (λ all. after_acts (taking server (place + 1) count all) so_far) (sym (drop_more queues place (empty_queue true 2) within))

-- the queues that are left then
pub queues_taken_on : (place count : ℕ) (queues next : List QueueState) → place < length queues → next ≡ taken_place place count queues
    → take (place + 1) next ++ left_after count (drop (place + 1) next) ≡ take place queues ++ left_after count (drop place queues)
queues_taken_on place count queues next within are =
    let over : place < place + 1 = omega arith in
    let changed = without_oldest count (queue_at place queues) in
    ap (λ more. take (place + 1) more ++ left_after count (drop (place + 1) more)) are
    ∙ ap₂ (λ front more. front ++ left_after count more) (take_more_set queues place changed within) (drop-set-lt (place + 1) queues place changed over)
    ∙ append_assoc (take place queues) (changed ∷ []) (left_after count (drop (place + 1) queues))
    ∙ ap (λ more. take place queues ++ left_after count more) (sym (drop_more queues place (empty_queue true 2) within))
