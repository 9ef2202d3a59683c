use Rattle.courier_messages.proofs.Runs.{run_append, said_append}
use Rattle.courier_messages.proofs.laws.signs_run_on.Goals as goal

pub returns : goal.returns
returns c = record { run_on = run_append; said_on = said_append }
