use Rattle.std.proofs.Common.{sym, subst}
use Rattle.item_world.proofs.Quiet.{ok_then}
use Rattle.item_world.proofs.play.Play.happen.Goals as goal
use Rattle.item_world.specs.declared.event.Event.{Event}
use Rattle.item_world.specs.Events.{happens}
use Rattle.item_world.specs.Play.{IsPlaying}

pub returns-in-Send-clause-goes : goal.returns-in-Send-clause-goes
returns-in-Send-clause-goes c = ok_then c.send.result c.send.ensures (λ goes laws w h. subst (λ (e : Event). IsPlaying c.send.new.self (happens w e)) (sym c.in-Send.is) (goes laws w h))
