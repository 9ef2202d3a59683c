use Rattle.std.proofs.Common.{◌∙◌, ap, sym, subst}
use Rattle.xns_connection.specs.Story.{has_message}
use Rattle.xns_connection.specs.declared.side.Side.{Side}
use Rattle.xns_connection.specs.declared.side.Side.TheVariants.{Calls, Answers}
use Rattle.xns_connection.proofs.Coming.{no_call_comes}
use Rattle.courier_sessions.specs.Pumping.{caller_side, server_side}
use Rattle.xns_spp.specs.Held.{StandsFor}
use Rattle.xns_spp.specs.State.{State}
use Rattle.xns_connection.specs.Moving.{Pumps}
use Rattle.xns_connection.proofs.Rounds.{led}
use Rattle.xns_connection.proofs.side.Side.pump.Goals as goal

pub returns-in-Answers-clause-calls : goal.returns-in-Answers-clause-calls
returns-in-Answers-clause-calls c = λ free.
    no_call_comes c.the_next_item_is_handed_up.ensures c.in-Answers.server c.pump-in-Answers.new.side c.args.endpoint.now c.pump-in-Answers.new.endpoint c.pump-in-Answers.result c.pump-in-Answers.ensures
    (ap has_message (sym c.in-Answers.is) ∙ free)

pub returns-in-Calls-clause-pumps : goal.returns-in-Calls-clause-pumps
returns-in-Calls-clause-pumps c = λ s stands.
    subst (λ (x : Side). (v : State) × StandsFor c.pump.new.endpoint v × Pumps x s c.pump.result (Calls c.pump.new.side) v) (sym c.in-Calls.is)
    (led caller_side (c.in-Calls.caller, s) c.pump.result c.pump.new.side c.pump.new.endpoint (c.pump.ensures s stands))

pub returns-in-Answers-clause-pumps : goal.returns-in-Answers-clause-pumps
returns-in-Answers-clause-pumps c = λ s stands.
    subst (λ (x : Side). (v : State) × StandsFor c.pump-in-Answers.new.endpoint v × Pumps x s c.pump-in-Answers.result (Answers c.pump-in-Answers.new.side) v)
    (sym c.in-Answers.is)
    (led server_side (c.in-Answers.server, s) c.pump-in-Answers.result c.pump-in-Answers.new.side c.pump-in-Answers.new.endpoint (c.pump-in-Answers.ensures s stands))
