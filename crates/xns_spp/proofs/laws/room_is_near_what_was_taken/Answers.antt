use Rattle.std.proofs.Common.{arith}
use Rattle.xns_spp.proofs.laws.room_is_near_what_was_taken.Goals as goal

pub returns : goal.returns
returns c = record {
  least = λ s fits. omega (arith, fits.bounds.window_holds, fits.bounds.taken_most);
  most = λ s fits. omega (arith, fits.bounds.handed_taken, fits.ends.window_least);
}
