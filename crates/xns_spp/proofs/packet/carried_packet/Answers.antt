use Rattle.std.proofs.Common.{rules}
use Rattle.xns_idp.specs.Packet.{packet_model}
use Rattle.xns_spp.proofs.Reading.{packet_fits}
use Rattle.xns_spp.proofs.packet.carried_packet.Goals as goal

pub returns-clause-fits : goal.returns-clause-fits
returns-clause-fits c = λ fits size. packet_fits (packet_model c.args.packet.now) _ fits size (search rules)
