-- What a conversation comes to with one more item, and what goes out with one more call.
use Rattle.std.proofs.Common.{◌≡◌, ◌∙◌, ap, sym, subst, refl, ℕ, List, [], ◌∷◌, ◌++◌, Bool, true, false, append_assoc, append-nil, Ok, Err, ◌≤◌, length, Result, arith, ◌+◌, map}
use Rattle.std.specs.Prelude.{if◌then◌else◌, ◌==◌}
use Rattle.xns_spp.specs.declared.item.Item.{Item}
use Rattle.courier_messages.specs.declared.fault.SessionFault.{SessionFault}
use Rattle.courier_messages.specs.declared.message.Message.{Message}
use Rattle.courier_messages.specs.Text.{Sign, signs, byte, mark, foreign, end_of}
use Rattle.courier_messages.specs.Conversation.{Phase, opening, conversation, ending, fresh, inside}
use Rattle.courier_messages.specs.Phases.{run, said, onwards, ◌then◌, after_sign, ended, closed, good}
use Rattle.courier_messages.specs.RawCalls.{RawCall, transaction_of, call_message, call_items, caller_items}
use Rattle.courier_messages.specs.Cutting.{cut, versions_item}
use Rattle.courier_messages.proofs.Runs.{run_append, run_mark, said_append, said_bytes, said_mark, said_stream}
use Rattle.courier_messages.proofs.Talks.{conversation_append, ending_append}
use Rattle.courier_messages.specs.declared.fault.MessageFault.{MessageFault}
use Rattle.courier_messages.specs.Message.{message_of}
use Rattle.xns_spp.specs.Growth.{Begins}

-- ---- the conversation goes on

pub conversation_more : (items : List Item) (x : Item) → conversation (items ++ x ∷ []) ≡ conversation items ++ onwards (ending items) (λ p. said p (signs x))
conversation_more items x = conversation_append items (x ∷ []) ∙ ap (λ (ss : List Sign). conversation items ++ onwards (ending items) (λ p. said p ss)) (append-nil (signs x))

pub ending_more : (items : List Item) (x : Item) → ending (items ++ x ∷ []) ≡ (ending items then λ p. run p (signs x))
ending_more items x = ending_append items (x ∷ []) ∙ ap (λ (ss : List Sign). ending items then λ p. run p ss) (append-nil (signs x))

-- ---- one item ends at most one message

good_one : (r : Result Message MessageFault) → length (good r) ≤ 1
good_one (Ok m) = omega arith
good_one (Err e) = omega arith

ended_one : (p : Phase) → length (ended p mark) ≤ 1
ended_one (opening bytes) = omega arith
ended_one fresh = omega arith
ended_one (inside bytes) = good_one (message_of bytes)

last_one : (last : Bool) (p : Phase) → length (said p (end_of last)) ≤ 1
unfolding said
last_one true p = subst (λ (ms : List Message). length ms ≤ 1) (sym (said_mark p)) (ended_one p)
last_one false p = omega arith

pub onwards_one : (r : Result Phase SessionFault) (f : Phase → List Message) → ((p : Phase) → length (f p) ≤ 1) → length (onwards r f) ≤ 1
onwards_one (Ok p) f h = h p
onwards_one (Err e) f h = omega arith

signs_one : (ours : Bool) (x : Item) (p : Phase) → length (said p (if ours then map byte x.body ++ end_of x.last else foreign x.stream ∷ [])) ≤ 1
signs_one true x p =
    subst (λ (ms : List Message). length ms ≤ 1)
    (sym (said_append p (map byte x.body) (end_of x.last) ∙ ap (λ (ms : List Message). ms ++ onwards (run p (map byte x.body)) (λ q. said q (end_of x.last))) (said_bytes p x.body)))
    (onwards_one (run p (map byte x.body)) (λ q. said q (end_of x.last)) (λ q. last_one x.last q))
signs_one false x p = subst (λ (ms : List Message). length ms ≤ 1) (sym (said_stream p x.stream)) (omega arith)

pub item_one : (x : Item) (p : Phase) → length (said p (signs x)) ≤ 1
item_one x p = signs_one (x.stream == 0) x p

-- ---- where signs stop, they end no message

unread_mark : (r : Result Message MessageFault) (e : SessionFault) → closed r ≡ Err e → good r ≡ []
unread_mark (Ok m) e h = absurd cc
unread_mark (Err d) e h = refl

unended : (p : Phase) (e : SessionFault) → after_sign p mark ≡ Err e → ended p mark ≡ []
unended (opening bytes) e h = refl
unended fresh e h = refl
unended (inside bytes) e h = unread_mark (message_of bytes) e h

unsaid_end : (last : Bool) (p : Phase) (e : SessionFault) → run p (end_of last) ≡ Err e → said p (end_of last) ≡ []
unfolding said
unsaid_end true p e h = said_mark p ∙ unended p e (sym (run_mark p) ∙ h)
unsaid_end false p e h = refl

unsaid_behind : (last : Bool) (r : Result Phase SessionFault) (e : SessionFault) → (r then λ q. run q (end_of last)) ≡ Err e → onwards r (λ q. said q (end_of last)) ≡ []
unsaid_behind last (Ok p) e h = unsaid_end last p e h
unsaid_behind last (Err d) e h = refl

unsaid_by : (ours : Bool) (x : Item) (p : Phase) (e : SessionFault) → run p (if ours then map byte x.body ++ end_of x.last else foreign x.stream ∷ []) ≡ Err e → said p (if ours then map byte x.body ++ end_of x.last else foreign x.stream ∷ []) ≡ []
unsaid_by true x p e h =
    said_append p (map byte x.body) (end_of x.last)
    ∙ ap (λ (ms : List Message). ms ++ onwards (run p (map byte x.body)) (λ q. said q (end_of x.last))) (said_bytes p x.body)
    ∙ unsaid_behind x.last (run p (map byte x.body)) e (sym (run_append p (map byte x.body) (end_of x.last)) ∙ h)
unsaid_by false x p e h = said_stream p x.stream

pub unsaid : (x : Item) (p : Phase) (e : SessionFault) → run p (signs x) ≡ Err e → said p (signs x) ≡ []
unsaid x p e h = unsaid_by (x.stream == 0) x p e h

-- ---- a caller that makes one more call

pub items_more : (k : ℕ) (cs : List RawCall) (c : RawCall) → call_items k (cs ++ c ∷ []) ≡ call_items k cs ++ cut (call_message (transaction_of (k + length cs)) c)
unfolding call_items
items_more k [] c = append-nil (cut (call_message (transaction_of k) c)) ∙ ap (λ (n : ℕ). cut (call_message (transaction_of n) c)) (let e : k ≡ k + 0 = omega arith in e)
items_more k (d ∷ cs) c =
    let first : List Item = cut (call_message (transaction_of k) d) in
    let e : k + 1 + length cs ≡ k + length (d ∷ cs) = omega arith in
    ap (λ (xs : List Item). first ++ xs) (items_more (k + 1) cs c ∙ ap (λ (n : ℕ). call_items (k + 1) cs ++ cut (call_message (transaction_of n) c)) e)
    ∙ sym (append_assoc first (call_items (k + 1) cs) (cut (call_message (transaction_of (k + length (d ∷ cs))) c)))

items_begin : (k : ℕ) (cs more : List RawCall) → Begins (call_items k cs) (call_items k (cs ++ more))
unfolding call_items
items_begin k [] more = (call_items k more, refl)
items_begin k (c ∷ cs) more =
    let first : List Item = cut (call_message (transaction_of k) c) in
    let b = items_begin (k + 1) cs more in
    (b.0, append_assoc first (call_items (k + 1) cs) b.0 ∙ ap (λ (xs : List Item). first ++ xs) b.1)

pub made_begin : (cs ds : List RawCall) → Begins cs ds → Begins (caller_items cs) (caller_items ds)
made_begin cs ds p =
    let b = items_begin 1 cs p.0 in
    (b.0, ap (λ (xs : List Item). versions_item ∷ xs) b.1 ∙ ap (λ (es : List RawCall). caller_items es) p.1)
