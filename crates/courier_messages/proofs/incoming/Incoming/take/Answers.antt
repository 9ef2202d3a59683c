use Rattle.std.proofs.Common.{arith, ◌∙◌, ap, sym, List, ℕ, map}
use Rattle.courier_messages.specs.Text.{byte}
use Rattle.courier_messages.specs.Phases.{run}
use Rattle.courier_messages.proofs.Runs.{said_bytes, said_mark, run_mark, said_append, run_append, other_stream, without_mark}
use Rattle.courier_messages.proofs.incoming.Incoming.take.Goals as goal

pub returns-then-item-ne0-clause-takes : goal.returns-then-item-ne0-clause-takes
returns-then-item-ne0-clause-takes c = other_stream c.args.self.now c.args.item c.if-item-ne0.true

pub returns-else-last-clause-takes : goal.returns-else-last-clause-takes
returns-else-last-clause-takes c =
    without_mark c.args.self.now c.take_body.new.self c.args.item c.if-item-ne0.false c.if-last.false
    (sym (ap (λ (xs : List ℕ). run c.args.self.now (map byte xs)) c.into_vec.ensures) ∙ c.in_ok-take_body.ensures.follows)

pub returns-in_err-take_body-clause-takes : goal.returns-in_err-take_body-clause-takes
returns-in_err-take_body-clause-takes c = grind (arith, run_append, said_append, run_mark, said_mark, said_bytes)

pub returns-then-last-clause-takes : goal.returns-then-last-clause-takes
returns-then-last-clause-takes c = grind (arith, run_append, said_append, run_mark, said_mark, said_bytes)
