use Rattle.courier_messages.proofs.Written.{leads_items}
use Rattle.courier_messages.proofs.laws.what_is_sent_is_heard.Goals as goal

pub returns : goal.returns
returns c = record {
  messages = λ ms h. (leads_items ms h).said;
  ending = λ ms h. (leads_items ms h).run;
}
