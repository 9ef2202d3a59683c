use Rattle.std.proofs.Common.{ap, ℕ, List}
use Rattle.courier_messages.specs.RawCalls.{RawCall}
use Rattle.courier_messages.specs.Called.{raws}
use Rattle.courier_calls.proofs.Faults.{answers_stay}
use Rattle.courier_calls.proofs.CallerWithItem as hears
use Rattle.courier_calls.proofs.laws.first_fault_stays.Goals as goal

pub returns : goal.returns
returns c = record {
  stays = λ fed item fault h. (c.a_server_hears_one_item_more.ensures.stays fed item fault h).ending;
  calls = λ fed item fault h. ap (λ (cs : List (ℕ × RawCall)). raws cs) (c.a_server_hears_one_item_more.ensures.silent fed item fault h);
  caller_stays = λ table calls fed item fault h. (hears.stays c.one_item_more.ensures table calls fed item fault h).fault;
  answers = answers_stay c.one_item_more.ensures;
}
