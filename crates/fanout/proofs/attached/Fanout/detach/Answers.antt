use Rattle.std.proofs.Common.{rules, ◌≡◌, None, Some}
use Rattle.fanout.specs.Shown.{place_from}
use Rattle.fanout.proofs.Placing.{gone_found, missing, none_gone, tally_found}
use Rattle.fanout.proofs.attached.Fanout.detach.Goals as goal

pub returns-in_default-clause-state : goal.returns-in_default-clause-state
returns-in_default-clause-state g c =
    let at : place_from 0 c.args.id c.args.self.now.entries.items ≡ None = search rules in
    none_gone _ c.args.id c.args.self.now.last c.args.self.now.entries.items at

pub returns-in_default-clause-none : goal.returns-in_default-clause-none
returns-in_default-clause-none g c =
    let at : place_from 0 c.args.id c.args.self.now.entries.items ≡ None = search rules in
    (missing _ c.args.id 0 c.args.self.now.entries.items at).tally

pub returns-clause-state : goal.returns-clause-state
returns-clause-state g c =
    let at : place_from 0 c.args.id c.args.self.now.entries.items ≡ Some c.in-Some.place = search rules in
    gone_found _ c.args.id c.in-Some.place c.args.self.now.last c.args.self.now.entries.items c.remove-gone.new.self.items at c.remove-gone.ensures.items

pub returns-clause-tally : goal.returns-clause-tally
returns-clause-tally g c =
    let at : place_from 0 c.args.id c.args.self.now.entries.items ≡ Some c.in-Some.place = search rules in
    tally_found _ c.args.id c.in-Some.place c.args.self.now.entries.items c.remove-gone.result c.summary_of.result at c.remove-gone.ensures.value c.summary_of.ensures
