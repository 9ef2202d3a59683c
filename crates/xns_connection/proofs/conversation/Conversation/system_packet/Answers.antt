use Rattle.xns_connection.proofs.Owing.{asked_given, no_word_given, word_given}
use Rattle.xns_connection.proofs.conversation.Conversation.system_packet.Goals.{else-not-owed-via-then-not-owed+else-not-owed-2, else-not-owed-via-else-not-owed}
use Rattle.xns_connection.proofs.conversation.Conversation.system_packet.Goals as goal

pub returns-clause-answer : goal.returns-clause-answer
returns-clause-answer c = λ s stands.
    let o = c.args.owed.now in
    let p = c.in_ok-packet.packet in
    elim c.else-not-owed.branch [
      | else-not-owed-via-then-not-owed+else-not-owed-2 w ↦ word_given o s p w.if-not-owed-2.false (c.in_ok-packet.ensures.answer s stands)
      | else-not-owed-via-else-not-owed w ↦ asked_given o s p w.if-not-owed.false (c.in_ok-packet.ensures.answer s stands)
    ]

pub returns-then-not-owed-2-clause-answer : goal.returns-then-not-owed-2-clause-answer
returns-then-not-owed-2-clause-answer c = λ s stands. no_word_given c.args.owed.now s c.if-not-owed.true c.if-not-owed-2.true
