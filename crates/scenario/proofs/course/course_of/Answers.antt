use Rattle.std.proofs.Common.{◌<◌, rules}
use Rattle.scenario.proofs.SoundLemmas.{course_more, course_room}
use Rattle.scenario.proofs.course.course_of.Goals as goal

pub add_line-requires : goal.add_line-requires
add_line-requires c =
    let less : c.loop-place.place < c.args.count = search rules in
    course_room c.args.count c.loop-place.place c.args.seed c.loop-place.course c.loop-place.invariant less c.requires

pub loop-place-preserved : goal.loop-place-preserved
loop-place-preserved c =
    course_more c.loop-place.place c.args.seed c.loop-place.course c.add_line.new.self c.loop-place.invariant c.in_ok-add_line.ensures
