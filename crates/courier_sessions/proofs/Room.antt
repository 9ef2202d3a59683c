-- How many words a message has that was read.
use Rattle.std.proofs.Common.{◌≡◌, ◌∙◌, ap, sym, refl, subst, ℕ, ◌≤◌, List, [], ◌∷◌, ◌++◌, length, arith, Bool, true, false}
use Rattle.std.proofs.Common.{Result, Ok, Err}
use Rattle.std.specs.Prelude.{Option, Some, nat_lt, if◌then◌else◌}
use Rattle.std.specs.List.{AllByRecursion}
use Rattle.std.specs.Option.{option_to_list}
use Rattle.xns_spp.specs.declared.item.Item.{Item}
use Rattle.courier_messages.specs.declared.fault.MessageFault.{MessageFault}
use Rattle.courier_messages.specs.declared.fault.MessageFault.TheVariants.{TooLong}
use Rattle.courier_messages.specs.declared.fault.SessionFault.{SessionFault}
use Rattle.courier_messages.specs.declared.fault.SessionFault.TheVariants.{BadReply}
use Rattle.courier_messages.specs.declared.message.Message.{Message}
use Rattle.courier_messages.specs.declared.message.Message.TheVariants.{Call, Reject, Return, Abort}
use Rattle.courier_messages.specs.Message.{most_words, most_bytes, message_words, message_of}
use Rattle.courier_messages.specs.Conversation.{Phase, VersionRange, unread, refused, agreed, version_range, without_mark, said_by}
use Rattle.courier_messages.specs.Conversation.{message_and, messages_in, messages_of, conversation, ending}
use Rattle.courier_messages.specs.Text.{written, pieces_behind}
use Rattle.courier_messages.specs.RawCalls.{RawCall, most_call_words}
use Rattle.courier_messages.specs.Called.{all_calls}
use Rattle.courier_messages.specs.Head.{words_in}
use Rattle.courier_messages.specs.Laws.{MessageIsSpelled}
use Rattle.courier_sessions.specs.declared.program.Program.{Program}
use Rattle.courier_sessions.specs.Answering.{Answering, is_a_call}
use Rattle.courier_sessions.specs.Answerings.{HasAnswered}
use Rattle.courier_sessions.specs.Room.{MessageHasRoom}
use Rattle.courier_sessions.specs.Talk.{Talk}
use Rattle.courier_sessions.specs.Talks.{HasDone}

room : (m : Message) → length (message_words m) ≤ most_words → MessageHasRoom m
room (Call transaction program version procedure words) h = omega (arith, h)
room (Reject transaction reason words) h = omega (arith, h)
room (Return transaction words) h = omega (arith, h)
room (Abort transaction error words) h = omega (arith, h)

pub read : (law : MessageIsSpelled) (bytes : List ℕ) (m : Message) → message_of bytes ≡ Ok m → MessageHasRoom m
read law bytes m h = room m (law.short bytes m h)

-- the messages of a conversation

said_is : (b : Bool) (r : Result Message MessageFault) (m : Message) → (if b then Err TooLong else r) ≡ Ok m → r ≡ Ok m
said_is true r m h = absurd cc
said_is false r m h = h

said_room : (law : MessageIsSpelled) (piece : List ℕ) (m : Message) → said_by piece ≡ Ok m → MessageHasRoom m
unfolding said_by
said_room law piece m h = read law piece m (said_is (nat_lt most_bytes (length piece)) (message_of piece) m h)

one_more : (law : MessageIsSpelled) (piece : List ℕ) (r : Result Message MessageFault) (more : List Message) → said_by piece ≡ r →
    AllByRecursion MessageHasRoom more → AllByRecursion MessageHasRoom (message_and r more)
one_more law piece (Ok m) more e h = (said_room law piece m e, h)
one_more law piece (Err f) more e h = tt

all_room : (law : MessageIsSpelled) (pieces : List (List ℕ)) → AllByRecursion MessageHasRoom (messages_in pieces)
unfolding messages_in
all_room law [] = tt
all_room law (piece ∷ pieces) = one_more law piece (said_by piece) (messages_in pieces) refl (all_room law pieces)

range_room : (law : MessageIsSpelled) (v : VersionRange) → AllByRecursion MessageHasRoom (messages_of v)
range_room law (unread bytes) = tt
range_room law (refused e) = tt
range_room law (agreed text) = all_room law (pieces_behind [] (without_mark text))

conversation_room : (law : MessageIsSpelled) (fed : List Item) → AllByRecursion MessageHasRoom (conversation fed)
unfolding conversation
conversation_room law fed = range_room law (version_range (written fed))

-- the message that waits

pub last_is : {X : Type 0} (P : X → Type 0) (xs : List X) (x : X) → AllByRecursion P (xs ++ x ∷ []) → P x
last_is P [] x h = h.0
last_is P (y ∷ xs) x h = last_is P xs x h.1

last_room : (law : MessageIsSpelled) (before : List Message) (o : Option Message) (m : Message) (fed : List Item) →
    before ++ option_to_list o ≡ conversation fed → o ≡ Some m → MessageHasRoom m
last_room law before o m fed all e = last_is MessageHasRoom before m (subst (AllByRecursion MessageHasRoom)
    (sym all ∙ ap (λ (x : Option Message). before ++ option_to_list x) e) (conversation_room law fed))

heard_calls : (b : Bool) (q : Result Phase SessionFault) (p : Phase) → (if b then q else Err BadReply) ≡ Ok p → b ≡ true
heard_calls true q p h = refl
heard_calls false q p h = absurd cc

last_call : (ms : List Message) (m : Message) → all_calls (ms ++ m ∷ []) ≡ true → is_a_call m ≡ true
unfolding all_calls
last_call [] (Call transaction program version procedure words) h = refl
last_call [] (Reject transaction reason words) h = absurd cc
last_call [] (Return transaction words) h = absurd cc
last_call [] (Abort transaction error words) h = absurd cc
last_call (Call transaction program version procedure words ∷ ms) m h = last_call ms m h
last_call (Reject transaction reason words ∷ ms) m h = absurd cc
last_call (Return transaction words ∷ ms) m h = absurd cc
last_call (Abort transaction error words ∷ ms) m h = absurd cc

call_room : (m : Message) → is_a_call m ≡ true → MessageHasRoom m → length (words_in m) ≤ most_call_words
call_room (Call transaction program version procedure words) is h = h
call_room (Reject transaction reason words) is h = absurd cc
call_room (Return transaction words) is h = absurd cc
call_room (Abort transaction error words) is h = absurd cc

pub call : (law : MessageIsSpelled) (programs : List Program) (fed given : List Item) (taken handed answers : List Message) (a : Answering)
    (m : Message) → HasAnswered programs fed given taken handed answers a → a.call ≡ Some m → length (words_in m) ≤ most_call_words
call law programs fed given taken handed answers a m h e =
    let all : taken ++ m ∷ [] ≡ conversation fed = ap (λ (o : Option Message). taken ++ option_to_list o) (sym e) ∙ h.calls in
    let calls : all_calls (conversation fed) ≡ true = heard_calls (all_calls (conversation fed)) (ending fed) a.phase h.ending in
    call_room m (last_call taken m (ap all_calls all ∙ calls)) (last_room law taken a.call m fed h.calls e)

pub outcome : (law : MessageIsSpelled) (made : List RawCall) (fed given : List Item) (handed : List Message) (t : Talk) (m : Message) →
    HasDone made fed given handed t → t.outcome ≡ Some m → MessageHasRoom m
outcome law made fed given handed t m h e = last_room law handed t.outcome m fed h.messages e
