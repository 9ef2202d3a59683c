use Rattle.xns_connection.specs.Deeds.{gave}
use Rattle.host_world.proofs.Paired.{pair_answers, pair_unchanged, one_waits, waits_on}
use Rattle.host_world.proofs.pair.Pair.answer.Goals as goal

pub returns-clause-steps : goal.returns-clause-steps
returns-clause-steps c =
    pair_answers c.a_step_keeps_its_promises.ensures c.args.self.now c.at.result.now c.answer.new.self c.args.side c.args.now c.args.kind c.args.words.now c.answer.result c.at.ensures.value c.answer.ensures.refused c.answer.ensures.step

pub returns-clause-waits : goal.returns-clause-waits
returns-clause-waits c =
    one_waits c.args.self.now c.at.result.now c.answer.new.self c.args.side c.args.now c.at.ensures.value
    (waits_on c.args.now (gave c.args.kind c.args.words.now) c.at.result.now c.answer.new.self c.answer.result (λ steps. steps) c.answer.ensures.step c.answer.ensures.unchanged)

pub returns-clause-unchanged : goal.returns-clause-unchanged
returns-clause-unchanged c = pair_unchanged c.args.self.now c.at.result.now c.answer.new.self c.args.side c.answer.result c.at.ensures.value c.answer.ensures.unchanged
