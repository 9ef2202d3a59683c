use Rattle.xns_dump.proofs.Numbered.{stands_noted}
use Rattle.xns_dump.proofs.flows.numbers.FlowNumbers.note.Goals as goal

pub returns-in-Ok-clause-after : goal.returns-in-Ok-clause-after
returns-in-Ok-clause-after c = λ earlier h is.
    stands_noted c.args.self.now.last c.insert.new.self earlier c.args.flow c.args.sequence c.args.item c.ranges.sequence.fits c.in-Ok.ensures.updates is h
