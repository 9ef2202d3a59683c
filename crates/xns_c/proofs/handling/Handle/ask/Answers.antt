use Rattle.xns_c.proofs.Kept.{kept}
use Rattle.xns_c.proofs.handling.Handle.ask.Goals as goal

pub returns-clause-answer : goal.returns-clause-answer
returns-clause-answer g c = λ x is.
    (c.deref.result, c.question-answer.ensures, kept (g.Self.Handle.held c.args.self.now) c.in-Some.kept.value c.deref.result.now x c.in-Some.ensures.answer c.deref.ensures is)
