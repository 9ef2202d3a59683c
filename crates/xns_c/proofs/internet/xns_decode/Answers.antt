use Rattle.std.proofs.Common.{arith, sym}
use Rattle.xns_idp.specs.Packet.{packet_model}
use Rattle.xns_c.proofs.Places.{byte_of_flag, read_as, within}
use Rattle.xns_c.proofs.internet.xns_decode.Goals as goal

pub returns-in-Ok-clause-read : goal.returns-in-Ok-clause-read
returns-in-Ok-clause-read c = λ _. let t = c.told.ensures in read_as c.args.bytes.now (packet_model c.in-Ok.found) c.in-Ok.taken c.told.result c.in-Ok.ensures.exact t.flag t.fields t.ends t.place

pub returns-in-Ok-clause-within : goal.returns-in-Ok-clause-within
returns-in-Ok-clause-within c = λ _.
    let place = c.told.ensures.place in
    let size = place.1 in
    let fits = within c.args.bytes.now (packet_model c.in-Ok.found, c.in-Ok.taken) (sym c.in-Ok.ensures.exact) in
    (place.0, omega (arith, size, fits))

pub returns-in-Ok-clause-flag : goal.returns-in-Ok-clause-flag
returns-in-Ok-clause-flag c = λ _. byte_of_flag c.in-Ok.found.summed c.told.result.summed c.told.ensures.flag
