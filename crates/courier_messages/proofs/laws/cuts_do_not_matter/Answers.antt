use Rattle.std.proofs.Common.{ap, List}
use Rattle.courier_messages.specs.Text.{Sign}
use Rattle.courier_messages.specs.Conversation.{conversation, conversation_fault, ending, version_range, messages_of, fault_of, phase_of, or_fault}
use Rattle.courier_messages.proofs.laws.cuts_do_not_matter.Goals as goal

pub returns : goal.returns
unfolding conversation ending conversation_fault
returns c = record {
  messages = λ xs ys h. ap (λ (text : List Sign). messages_of (version_range text)) h;
  ending = λ xs ys h. ap (λ (text : List Sign). or_fault (fault_of (version_range text)) (phase_of (version_range text))) h;
}
