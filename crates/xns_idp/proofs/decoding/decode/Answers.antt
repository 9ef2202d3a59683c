use Rattle.std.proofs.Common.{arith, ◌∙◌}
use Rattle.xns_idp.proofs.RoundTrip.{is_found, is_fault, spelling_again}
use Rattle.xns_idp.proofs.decoding.decode.Goals as goal

pub returns-clause-found : goal.returns-clause-found
returns-clause-found c = is_found c.args.bytes.now c.read_packet.result (λ i. omega (arith, c.type_inv.bytes i)) c.read_packet.ensures

pub returns-clause-only : goal.returns-clause-only
returns-clause-only c = λ p taken rest fits spells e. c.read_packet.ensures ∙ spelling_again p taken rest c.args.bytes.now fits spells e

pub returns-clause-fault : goal.returns-clause-fault
returns-clause-fault c = is_fault c.args.bytes.now c.read_packet.result c.read_packet.ensures
