use Rattle.std.proofs.Common.{◌≡◌, ◌≤◌, true, rules, arith}
use Rattle.scenario.specs.Table.{all_pass, row_of, first_of, second_of}
use Rattle.scenario.specs.Past.{items_in, servers_in}
use Rattle.scenario.specs.Faults.{in_bounds, is_item, is_server}
use Rattle.scenario.specs.Reading.{AreSmall}
use Rattle.scenario.proofs.TableLemmas.{all_suit, are_small}
use Rattle.scenario.proofs.reader.Reader.plain_line.Goals as goal

pub line-requires : goal.line-requires
line-requires c =
    let range : all_pass in_bounds (row_of c.args.name).arguments c.args.numbers ≡ true = search rules in
    let server : all_pass (is_server (servers_in c.args.self.now)) (row_of c.args.name).arguments c.args.numbers ≡ true = search rules in
    let item : all_pass (is_item (items_in c.args.self.now)) (row_of c.args.name).arguments c.args.numbers ≡ true = search rules in
    let few_servers : servers_in c.args.self.now ≤ 8 = c.has_server.ensures.few in
    let few_items : items_in c.args.self.now ≤ 64 = c.has_item.ensures.few in
    let small : AreSmall (row_of c.args.name).arguments (first_of c.args.numbers) (second_of c.args.numbers) =
    are_small _ _ (row_of c.args.name).arguments c.args.numbers (omega arith) (omega arith)
    (all_suit _ _ (row_of c.args.name).arguments c.args.numbers (record { count = c.requires; range = range; server = server; item = item })) in
    search rules
