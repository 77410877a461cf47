use Rattle.std.proofs.Common.{rules}
use Rattle.show.proofs.Framed.{text_shown, fault_shown}
use Rattle.show.proofs.stream.shown.Goals as goal

pub returns-in-Ok : goal.returns-in-Ok
returns-in-Ok c = record {
  exact = text_shown c.args.bytes.now c.in_ok-text-in-Ok.text.items c.new-framer.result c.feed.new.self c.new-frames.result.items c.feed.new.to.items c.rest.result c.new-framer.ensures c.new-frames.ensures.items c.in-Ok.ensures (search rules) (search rules);
}

pub returns : goal.returns
returns c = record {
  exact = fault_shown c.args.bytes.now c.new-framer.result c.feed.new.self c.new-frames.result.items c.feed.new.to.items c.in-Err.fault c.fault_of.result c.new-framer.ensures c.in-Err.ensures c.fault_of.ensures;
}
