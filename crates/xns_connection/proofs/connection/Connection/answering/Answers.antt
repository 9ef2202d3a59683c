use Rattle.std.proofs.Common.{[], List, Some, ap, refl, sym, subst}
use Rattle.courier_messages.specs.Conversation.{opening}
use Rattle.courier_sessions.specs.Answering.{Answering, new_answering}
use Rattle.xns_spp.specs.State.{State, responder_state}
use Rattle.xns_connection.specs.Story.{ServerHas, new_story}
use Rattle.xns_connection.specs.declared.side.Side.TheVariants.{Answers}
use Rattle.courier_sessions.specs.declared.program.Program.{Program}
use Rattle.xns_connection.proofs.Rejecting.{nothing_rejected}
use Rattle.xns_connection.proofs.Tellings.{new_tells}
use Rattle.xns_connection.proofs.connection.Connection.answering.Goals as goal

pub returns-clause-tells : goal.returns-clause-tells
returns-clause-tells c =
    let programs : List Program = c.args.programs.items in
    let s : State = responder_state c.args.own c.args.id c.args.peer c.args.peer_id c.args.terms.now.window c.args.terms.now.backlog in
    let new : ServerHas (new_story (Some programs) s) (new_answering programs) = record { phase = opening []; done = c.a_server_session_is_its_conversation.ensures.start programs; going = λ z. refl; table = refl; rejected = nothing_rejected programs } in
    let has : ServerHas (new_story (Some programs) s) c.in_ok-server.server = subst (λ (a : Answering). ServerHas (new_story (Some programs) s) a) (sym c.in_ok-server.ensures) new in
    new_tells c.new-2.result.conversation (Some programs) s c.in_ok-endpoint.endpoint (Answers c.in_ok-server.server) c.new-2.ensures.ends.0 c.new-2.ensures.ends.1 c.new-2.ensures.unsaid c.in_ok-endpoint.ensures has refl refl

pub new-requires-2 : goal.new-requires-2
new-requires-2 c = (
  ∣ (responder_state c.args.own c.args.id c.args.peer c.args.peer_id c.args.terms.now.window c.args.terms.now.backlog, c.in_ok-endpoint.ensures) ∣₁,
  ap (λ (a : Answering). a.failed) c.in_ok-server.ensures,
)
