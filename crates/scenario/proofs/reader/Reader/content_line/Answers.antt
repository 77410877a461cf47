use Rattle.std.proofs.Common.{◌≡◌, true, subst}
use Rattle.scenario.specs.declared.form.Form.{Form}
use Rattle.scenario.specs.Table.{row_of}
use Rattle.scenario.specs.Faults.{is_in_place}
use Rattle.scenario.proofs.FaultLemmas.{placed_row}
use Rattle.scenario.proofs.reader.Reader.content_line.Goals as goal

pub plain_line-requires : goal.plain_line-requires
plain_line-requires c =
    let P : Form → Type 0 = λ f. is_in_place c.args.rules c.args.self.now f ≡ true in
    (placed_row c.args.rules c.args.self.now (row_of c.in-Plain.name) c.in-Plain.numbers (subst P c.in-Plain.is c.requires)).count

pub returns-in-Set : goal.returns-in-Set
returns-in-Set c = rw c.in-Set.is (c.set_line.ensures c.args.rules c.args.self.now)

pub returns-in-Items : goal.returns-in-Items
returns-in-Items c = rw c.in-Items.is (c.items_line.ensures c.args.rules c.args.self.now)
