use Rattle.std.proofs.Common.{refl}
use Rattle.server_rules.specs.State.{ServerState, new_server}
use Rattle.server_laws.specs.Course.{core_of}
use Rattle.server_laws.proofs.Saying.{Knows}
use Rattle.server_makings.specs.Asked.{asked_in}
use Rattle.server_makings.proofs.Calling.{calls_make}
use Rattle.server_makings.proofs.Keeping.{kept_of}
use Rattle.server_makings.proofs.Living.{making}
use Rattle.server_makings.proofs.telling.subscriptions_tell_what_was_asked_for.Goals as goal

pub returns : goal.returns
returns c config current happenings id never =
    let s : ServerState = new_server config current in
    let all = making c.subscriptions_are_calls.ensures.step happenings s in
    let one = c.courses_tell_linked_entries.ensures config current happenings id all.course never in
    let tells = one.0 in
    let law : Knows = record {
      numbers = c.messages_are_numbered.ensures.«data»;
      next = c.messages_are_numbered.ensures.next;
      keeps = c.sent_messages_are_kept.ensures.given;
    } in (
      tells,
      calls_make config.items id all.course.moves (core_of s) tells.spec tells.start tells.calls (asked_in id happenings) one.1 (all.made id),
      kept_of law id happenings s all.course.moves tells.spec tells.start tells.calls all.course.fair refl all.fronts one.1,
    )
