use Rattle.std.proofs.Common.{◌≡◌, ◌<◌, ◌≤◌, ap, false, length, rules, ◌∙◌, arith}
use Rattle.std.proofs.lemmas.Grind.{common_steps}
use Rattle.scenario.specs.Words.{words_of}
use Rattle.scenario.specs.Past.{servers_in, items_in}
use Rattle.scenario.specs.Faults.{misses_set}
use Rattle.scenario.proofs.CapLemmas.{line_read}
use Rattle.scenario.proofs.reader.Reader.line_or_fault.Goals as goal

pub returns : goal.returns
returns c =
    let m : misses_set (length c.args.self.now) (words_of c.args.text.now) ≡ false = search rules in
    let t : length c.args.self.now < c.args.rules.lines = grind (arith, common_steps) in
    let servers : c.self.inside.tally.servers ≡ servers_in c.args.self.now = c.self.invariant.servers_are ∙ ap servers_in c.self.view_is in
    let items : c.self.inside.tally.items ≡ items_in c.args.self.now = c.self.invariant.items_are ∙ ap items_in c.self.view_is in
    let few_servers : c.self.inside.tally.servers ≤ 8 = c.self.invariant.few_servers in
    let few_items : c.self.inside.tally.items ≤ 64 = c.self.invariant.few_items in
    c.any_line.ensures ∙ line_read c.args.rules c.args.self.now c.args.text.now c.form_of.result m t (omega arith) (omega arith) c.form_of.ensures
