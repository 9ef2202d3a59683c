use Rattle.std.proofs.Common.{◌∙◌, ap, sym}
use Rattle.courier_sessions.specs.Answering.{has_items}
use Rattle.xns_connection.specs.Story.{out_of}
use Rattle.xns_connection.specs.declared.side.Side.{Side}
use Rattle.xns_connection.proofs.Handing.{is_out}
use Rattle.xns_connection.proofs.side.Side.has_out.Goals as goal

pub returns-in-Calls : goal.returns-in-Calls
returns-in-Calls c = c.is_some.ensures ∙ is_out c.first_out.result c.in-Calls.caller.out c.first_out.ensures.none c.first_out.ensures.some ∙ ap (λ (x : Side). has_items (out_of x)) (sym c.in-Calls.is)

pub returns-in-Answers : goal.returns-in-Answers
returns-in-Answers c = c.is_some-in-Answers.ensures ∙ is_out c.first_out-in-Answers.result c.in-Answers.server.out c.first_out-in-Answers.ensures.none c.first_out-in-Answers.ensures.some ∙ ap (λ (x : Side). has_items (out_of x)) (sym c.in-Answers.is)
