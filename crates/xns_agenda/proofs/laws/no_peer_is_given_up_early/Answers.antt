use Rattle.xns_agenda.proofs.Asking.{not_early as not_early_asked}
use Rattle.xns_agenda.proofs.Patience.{not_early}
use Rattle.xns_agenda.proofs.laws.no_peer_is_given_up_early.Goals as goal

pub returns-clause-tries : goal.returns-clause-tries
returns-clause-tries c = λ w v start n now none vain is. let e = not_early w v start n now none vain is in e.tries

pub returns-clause-patience : goal.returns-clause-patience
returns-clause-patience c = λ w v start n now none vain is. let e = not_early w v start n now none vain is in e.patience

pub returns-clause-asked : goal.returns-clause-asked
returns-clause-asked c = λ w v span n now none asked is. let e = not_early_asked w v span n now none asked is in e.tries

pub returns-clause-idle : goal.returns-clause-idle
returns-clause-idle c = λ w v span n now none asked is. let e = not_early_asked w v span n now none asked is in e.patience
