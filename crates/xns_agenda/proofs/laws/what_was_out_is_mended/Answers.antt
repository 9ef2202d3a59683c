use Rattle.std.proofs.Common.{refl}
use Rattle.xns_agenda.proofs.Mending.{only_its_own, only_out, only_vain}
use Rattle.xns_agenda.proofs.laws.what_was_out_is_mended.Goals as goal

pub returns-clause-vain : goal.returns-clause-vain
returns-clause-vain c = only_vain

pub returns-clause-out : goal.returns-clause-out
returns-clause-out c = only_out

pub returns-clause-said : goal.returns-clause-said
returns-clause-said c = λ timing progress now. refl

pub returns-clause-timed : goal.returns-clause-timed
returns-clause-timed c = only_its_own
