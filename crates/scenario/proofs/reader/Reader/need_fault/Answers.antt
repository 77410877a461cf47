use Rattle.scenario.proofs.reader.Reader.need_fault.Goals as goal

pub returns-in-Stopped : goal.returns-in-Stopped
returns-in-Stopped c = rw c.in-Stopped.is (c.start_fault.ensures c.args.rules)
