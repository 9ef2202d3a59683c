use Rattle.xns_connection.proofs.Dues.{word_open, word_shut}
use Rattle.xns_connection.proofs.settling.note.Goals as goal

pub returns-clause-open_due : goal.returns-clause-open_due
returns-clause-open_due c = word_open c.args.wait.now c.hear.new.self c.args.progress c.args.reply c.goes_again-again.result c.args.now c.hear.ensures

pub returns-clause-closed_due : goal.returns-clause-closed_due
returns-clause-closed_due c = word_shut c.args.wait.now c.hear.new.self c.args.progress c.args.reply c.goes_again-again.result c.args.now c.hear.ensures
