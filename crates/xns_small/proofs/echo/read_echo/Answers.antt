use Rattle.std.proofs.Common.{ap, ◌∙◌, arith}
use Rattle.xns_small.specs.Echo.{echo_of}
use Rattle.xns_small.proofs.Echoes.{echo_found, echo_again}
use Rattle.xns_small.proofs.echo.read_echo.Goals as goal

pub returns-clause-found : goal.returns-clause-found
returns-clause-found c = echo_found c.args.body.now c.read_operation.result (λ i. omega (arith, c.type_inv.body i)) c.read_operation.ensures

pub returns-clause-only : goal.returns-clause-only
returns-clause-only c = λ v spells. c.read_operation.ensures ∙ ap echo_of spells ∙ echo_again v
