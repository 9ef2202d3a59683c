use Rattle.xns_dump.proofs.Refused.{address, callee, header_loud, hex_loud, idp_loud, number, word, word_list}
use Rattle.xns_dump.proofs.laws.only_refusals_say_refused.Goals as goal

pub returns : goal.returns
returns c = record { number = number; word = word; words = word_list; address = address; callee = callee; hex = hex_loud; packet = idp_loud; header = header_loud }
