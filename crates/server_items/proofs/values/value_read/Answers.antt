use Rattle.std.proofs.Common.{◌∙◌, None, Some, sym, w64, rules}
use Rattle.std.proofs.Math.Facts.{to_z-of_z}
use Rattle.server_rules.specs.Reading.{value_read}
use Rattle.server_items.proofs.Given.{given_is_read}
use Rattle.server_items.proofs.values.value_read.Goals as goal

pub returns-in-None : goal.returns-in-None
unfolding value_read
returns-in-None c =
    let given = rw (to_z-of_z {w = w64} {z = c.args.nodes.now.now} (search rules)) at c.timed.ensures in
    rw (sym c.form_fault.ensures ∙ c.in-None.is)
    (given_is_read c.args.stamps c.args.nodes.now.now None c.read_node-read.result _ c.timed.result c.read_node-read.ensures.read given)

pub returns-in-Some : goal.returns-in-Some
unfolding value_read
returns-in-Some c =
    rw (sym c.form_fault.ensures ∙ c.in-Some.is)
    (given_is_read c.args.stamps c.args.nodes.now.now (Some c.in-Some.code) c.read_node-read.result _ c.refused.result c.read_node-read.ensures.read
    (c.refused.ensures c.args.stamps c.args.nodes.now.now))
