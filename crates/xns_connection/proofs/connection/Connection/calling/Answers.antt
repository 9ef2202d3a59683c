use Rattle.std.proofs.Common.{[], None, ap, refl, sym, subst}
use Rattle.courier_messages.specs.Conversation.{opening}
use Rattle.courier_sessions.specs.Talk.{Talk, new_talk}
use Rattle.xns_spp.specs.State.{State, initiator_state}
use Rattle.xns_connection.specs.Story.{CallerHas, new_story}
use Rattle.xns_connection.specs.declared.side.Side.TheVariants.{Calls}
use Rattle.xns_connection.proofs.Tellings.{new_tells}
use Rattle.xns_connection.proofs.connection.Connection.calling.Goals as goal

pub returns-clause-tells : goal.returns-clause-tells
returns-clause-tells c =
    let s : State = initiator_state c.args.own c.args.id c.args.peer c.args.terms.now.window c.args.terms.now.backlog in
    let new : CallerHas (new_story None s) new_talk = record { phase = opening []; done = c.a_session_is_its_conversation.ensures.start; going = λ z. refl; table = refl } in
    let has : CallerHas (new_story None s) c.in_ok-caller.caller = subst (λ (t : Talk). CallerHas (new_story None s) t) (sym c.in_ok-caller.ensures) new in
    new_tells c.new-2.result.conversation None s c.in_ok-endpoint.endpoint (Calls c.in_ok-caller.caller) c.new-2.ensures.ends.0 c.new-2.ensures.ends.1 c.new-2.ensures.unsaid c.in_ok-endpoint.ensures has refl refl

pub new-requires-2 : goal.new-requires-2
new-requires-2 c = (
  ∣ (initiator_state c.args.own c.args.id c.args.peer c.args.terms.now.window c.args.terms.now.backlog, c.in_ok-endpoint.ensures) ∣₁,
  ap (λ (t : Talk). t.failed) c.in_ok-caller.ensures,
)
