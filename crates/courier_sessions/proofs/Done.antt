-- What a session has done with one step more. Each proof names what the step changes, and takes the rest from what held before.
use Rattle.std.proofs.Common.{◌≡◌, ◌∙◌, ap, sym, refl, subst, ℕ, ◌+◌, ◌%◌, ◌≤◌, List, [], ◌∷◌, ◌++◌, length, append_assoc, append-nil}
use Rattle.std.proofs.Common.{length-append, Bool, true, false, arith, inl, inr, Ok, Err}
use Rattle.std.specs.Prelude.{Result, Option, Some, None, ◌==◌, ◌&&◌, ◌||◌, nat_lt, if◌then◌else◌}
use Rattle.std.specs.Option.{is_some, option_to_list}
use Rattle.xns_spp.specs.Fronts.{all_append}
use Rattle.xns_spp.specs.declared.item.Item.{Item}
use Rattle.courier_messages.specs.declared.fault.SessionFault.{SessionFault}
use Rattle.courier_messages.specs.declared.message.Message.{Message}
use Rattle.courier_messages.specs.declared.message.Message.TheVariants.{Call, Reject, Return, Abort}
use Rattle.courier_messages.specs.RawCalls.{RawCall, IsShortCall, most_call_words, caller_items, call_items, call_message}
use Rattle.courier_messages.specs.Conversation.{Phase, conversation, conversation_fault, ending}
use Rattle.courier_messages.specs.Cutting.{cut, versions_item}
use Rattle.courier_messages.specs.Phases.{run, said, onwards, ◌then◌}
use Rattle.courier_messages.specs.Text.{signs}
use Rattle.courier_messages.specs.Laws.{MoreCallsGoOut, OneItemMore}
use Rattle.std.proofs.lemmas.Bool.{eqb-true, ltb-false}
use Rattle.courier_sessions.specs.declared.call_refusal.CallRefusal.TheVariants.{Stopped, Busy, TooLong}
use Rattle.courier_sessions.specs.Talk.{Talk, new_talk, next_transaction, called, call_refusal, wrong_unless, reply_fault, answered_unless}
use Rattle.courier_sessions.specs.Talk.{with_ended_messages, after_item}
use Rattle.courier_sessions.specs.Talks.{HasDone, AreAnswers, answered_call, count_if, StopsTalk}

pub start : HasDone [] [] [] [] new_talk
unfolding conversation conversation_fault ending call_items AreAnswers
start = assumption

-- a call

free_by : (f w o : Bool) (n : ℕ) →
    (if f then Some Stopped else if w || o then Some Busy else if nat_lt most_call_words n then Some TooLong else None) ≡ None → (w ≡ false)
    × (o ≡ false) × (n ≤ most_call_words)
free_by true w o n h = absurd cc
free_by false true o n h = absurd cc
free_by false false true n h = absurd cc
free_by false false false n h = (refl, refl, few (nat_lt most_call_words n) refl h) where
  few : (b : Bool) → nat_lt most_call_words n ≡ b → (if b then Some TooLong else None) ≡ None → n ≤ most_call_words
  few true e h = absurd cc
  few false e h = ltb-false most_call_words n e

pub none_there : {A : Type 0} (o : Option A) → is_some o ≡ false → o ≡ None
none_there None h = refl
none_there (Some m) h = absurd cc

pub calls : (out : MoreCallsGoOut) (made : List RawCall) (fed given : List Item) (handed : List Message) (t : Talk) (c : RawCall) →
    HasDone made fed given handed t → call_refusal t c ≡ None → HasDone (made ++ c ∷ []) fed given handed (called t c)
calls out made fed given handed t c h free =
    let f = free_by t.failed t.waiting (is_some t.outcome) (length c.words) free in
    let none : t.outcome ≡ None = none_there t.outcome f.1 in
    let last : List Item = cut (call_message (next_transaction t) c) in
    let next : next_transaction t ≡ (1 + length made) % 65536 = omega (arith, h.transaction) in
    let more : length (made ++ c ∷ []) ≡ length made + 1 = length-append made (c ∷ []) in
    let idle : length made ≡ length (conversation fed) + 0 = h.count ∙ ap (λ (w : Bool). length (conversation fed) + count_if w) f.0 in
    let items : given ++ (t.out ++ last) ≡ caller_items (made ++ c ∷ []) = sym (append_assoc given t.out last)
    ∙ ap (λ (xs : List Item). xs ++ last) h.items ∙ ap (λ (n : ℕ). caller_items made ++ cut (call_message n c)) next
    ∙ ap (λ (xs : List Item). versions_item ∷ xs) (sym (out.one 1 made c)) in
    let short = all_append IsShortCall made (c ∷ []) h.short (f.2, tt) in
    let same : 1 + length made ≡ length (made ++ c ∷ []) = omega (arith, more) in
    let transaction : next_transaction t ≡ length (made ++ c ∷ []) % 65536 = next ∙ ap (λ (n : ℕ). n % 65536) same in
    let count : length (made ++ c ∷ []) ≡ length (conversation fed) + 1 = omega (arith, more, idle) in
    assumption (items, short, transaction, count, none, h)

-- an item that is given, and an answer that is handed

pub gives : (made : List RawCall) (fed given : List Item) (handed : List Message) (t : Talk) (x : Item) (xs : List Item) →
    HasDone made fed given handed t → t.out ≡ x ∷ xs → HasDone made fed (given ++ x ∷ []) handed (record t { out = xs })
gives made fed given handed t x xs h e =
    let items : (given ++ x ∷ []) ++ xs ≡ caller_items made = append_assoc given (x ∷ []) xs
    ∙ ap (λ (ys : List Item). given ++ ys) (sym e) ∙ h.items in
    assumption (items, h)

pub hands : (made : List RawCall) (fed given : List Item) (handed : List Message) (t : Talk) (m : Message) →
    HasDone made fed given handed t → t.outcome ≡ Some m → HasDone made fed given (handed ++ m ∷ []) (record t { outcome = None })
hands made fed given handed t m h e =
    let messages : (handed ++ m ∷ []) ++ [] ≡ conversation fed = append-nil (handed ++ m ∷ [])
    ∙ ap (λ (o : Option Message). handed ++ option_to_list o) (sym e) ∙ h.messages in
    assumption (messages, h)

-- an item that is fed

conversation_by : (law : OneItemMore) (made : List RawCall) (fed given : List Item) (handed : List Message) (t : Talk) (x : Item) →
    HasDone made fed given handed t → conversation (fed ++ x ∷ []) ≡ conversation fed ++ said t.phase (signs x)
conversation_by law made fed given handed t x h = law.messages fed x ∙ ap
    (λ (r : Result Phase SessionFault). conversation fed ++ onwards r (λ p. said p (signs x))) h.ending

ending_by : (law : OneItemMore) (made : List RawCall) (fed given : List Item) (handed : List Message) (t : Talk) (x : Item) →
    HasDone made fed given handed t → ending (fed ++ x ∷ []) ≡ run t.phase (signs x)
ending_by law made fed given handed t x h = law.kept fed x ∙ ap (λ (r : Result Phase SessionFault). r then λ p. run p (signs x)) h.ending

answers_more : (k : ℕ) (ms : List Message) (m : Message) → AreAnswers k ms → answered_call m ≡ Some ((k + length ms) % 65536) →
    AreAnswers k (ms ++ m ∷ [])
unfolding AreAnswers
answers_more k [] m h e = (e ∙ ap (λ (n : ℕ). Some (n % 65536)) (let z : k + 0 ≡ k = omega arith in z), tt)
answers_more k (x ∷ ms) m h e = (
  h.0,
  answers_more (k + 1) ms m h.1 (e
      ∙ ap (λ (n : ℕ). Some (n % 65536)) (let z : k + length (x ∷ ms) ≡ k + 1 + length ms = omega arith in z)),
)

right : (w b : Bool) → wrong_unless (w && b) ≡ None → (w ≡ true) × (b ≡ true)
right true true h = (refl, refl)
right true false h = absurd cc
right false b h = absurd cc

number_is : (a b : ℕ) → (a == b) ≡ true → Some a ≡ Some b
number_is a b h = ap (λ (n : ℕ). Some n) (eqb-true a b h)

reply_is : (w : Bool) (k : ℕ) (m : Message) → reply_fault w k m ≡ None → (w ≡ true) × (answered_call m ≡ Some k)
reply_is w k (Call transaction program version procedure words) h = absurd cc
reply_is w k (Reject transaction reason words) h = let r = right w (transaction == k) h in (r.0, number_is transaction k r.1)
reply_is w k (Return transaction words) h = let r = right w (transaction == k) h in (r.0, number_is transaction k r.1)
reply_is w k (Abort transaction error words) h = let r = right w (transaction == k) h in (r.0, number_is transaction k r.1)

silent : (law : OneItemMore) (made : List RawCall) (fed given : List Item) (handed : List Message) (t : Talk) (x : Item) (p : Phase) →
    HasDone made fed given handed t → run t.phase (signs x) ≡ Ok p → said t.phase (signs x) ≡ [] →
    HasDone made (fed ++ x ∷ []) given handed (record t { phase = p })
silent law made fed given handed t x p h hq hm =
    let same : conversation (fed ++ x ∷ []) ≡ conversation fed = conversation_by law made fed given handed t x h
    ∙ ap (λ (ms : List Message). conversation fed ++ ms) hm ∙ append-nil (conversation fed) in
    let messages = h.messages ∙ sym same in
    let answers = subst (AreAnswers 1) (sym same) h.answers in
    let count = h.count ∙ ap (λ (ms : List Message). length ms + count_if t.waiting) (sym same) in
    let ending = ending_by law made fed given handed t x h ∙ hq in
    assumption (messages, answers, count, ending, h)

replied : (law : OneItemMore) (made : List RawCall) (fed given : List Item) (handed : List Message) (t : Talk) (x : Item) (p : Phase)
    (m : Message) → HasDone made fed given handed t → run t.phase (signs x) ≡ Ok p → said t.phase (signs x) ≡ m ∷ [] →
    reply_fault t.waiting t.transaction m ≡ None → HasDone made (fed ++ x ∷ []) given handed
    (record t { phase = p; waiting = false; outcome = Some m })
replied law made fed given handed t x p m h hq hm good =
    let is = reply_is t.waiting t.transaction m good in
    let more : conversation (fed ++ x ∷ []) ≡ conversation fed ++ m ∷ [] = conversation_by law made fed given handed t x h
    ∙ ap (λ (ms : List Message). conversation fed ++ ms) hm in
    let none : t.outcome ≡ None = h.single is.0 in
    let all : handed ≡ conversation fed = sym (append-nil handed) ∙ ap (λ (o : Option Message). handed ++ option_to_list o) (sym none)
    ∙ h.messages in
    let waited : length made ≡ length (conversation fed) + 1 = h.count ∙ ap (λ (w : Bool). length (conversation fed) + count_if w) is.0 in
    let number : t.transaction ≡ (1 + length (conversation fed)) % 65536 = h.transaction
    ∙ ap (λ (n : ℕ). n % 65536) (let e : length made ≡ 1 + length (conversation fed) = omega (arith, waited) in e) in
    let longer : length (conversation fed ++ m ∷ []) ≡ length (conversation fed) + 1 = length-append (conversation fed) (m ∷ []) in
    let counted : length made ≡ length (conversation fed ++ m ∷ []) + 0 = omega (arith, waited, longer) in
    let messages = ap (λ (ms : List Message). ms ++ m ∷ []) all ∙ sym more in
    let answers = subst (AreAnswers 1) (sym more) (answers_more 1 (conversation fed) m h.answers (is.1 ∙ ap (λ (n : ℕ). Some n) number)) in
    let count = counted ∙ ap (λ (ms : List Message). length ms + 0) (sym more) in
    let single : false ≡ true → Some m ≡ None = λ w. absurd cc in
    let ending = ending_by law made fed given handed t x h ∙ hq in
    assumption (messages, answers, count, single, ending, h)

pub two_are_no_one : (ms : List Message) (m n : Message) (more : List Message) → ms ≡ m ∷ n ∷ more → length ms ≤ 1 → ⊥
two_are_no_one ms m n more e few = let l : length ms ≡ length (m ∷ n ∷ more) = ap (length {A = Message}) e in omega (arith, l, few)

feeds_by : (law : OneItemMore) (made : List RawCall) (fed given : List Item) (handed : List Message) (t n : Talk) (x : Item)
    (q : Result Phase SessionFault) (ms : List Message) → HasDone made fed given handed t → run t.phase (signs x) ≡ q →
    said t.phase (signs x) ≡ ms → (q then λ p. with_ended_messages (record t { phase = p }) ms) ≡ Ok n → HasDone made (fed ++ x ∷ []) given handed n
feeds_by law made fed given handed t n x (Err e) ms h hq hm is = absurd cc
feeds_by law made fed given handed t n x (Ok p) [] h hq hm is =
    let e : record t { phase = p } ≡ n = cc in
    subst (HasDone made (fed ++ x ∷ []) given handed) e (silent law made fed given handed t x p h hq hm)
feeds_by law made fed given handed t n x (Ok p) (m ∷ []) h hq hm is = by_fault (reply_fault t.waiting t.transaction m) refl is where
  by_fault : (o : Option SessionFault) → reply_fault t.waiting t.transaction m ≡ o → answered_unless o (record t { phase = p }) m ≡ Ok n →
      HasDone made (fed ++ x ∷ []) given handed n
  by_fault (Some e) r is = absurd cc
  by_fault None r is =
      let e : record t { phase = p; waiting = false; outcome = Some m } ≡ n = cc in
      subst (HasDone made (fed ++ x ∷ []) given handed) e (replied law made fed given handed t x p m h hq hm r)
feeds_by law made fed given handed t n x (Ok p) (m ∷ m' ∷ ms) h hq hm is =
    absurd (two_are_no_one (said t.phase (signs x)) m m' ms hm (law.single x t.phase))

pub feeds : (law : OneItemMore) (made : List RawCall) (fed given : List Item) (handed : List Message) (t n : Talk) (x : Item) →
    HasDone made fed given handed t → after_item t x ≡ Ok n → HasDone made (fed ++ x ∷ []) given handed n
feeds law made fed given handed t n x h is = feeds_by law made fed given handed t n x (run t.phase (signs x))
    (said t.phase (signs x)) h refl refl is

-- a fault

refuses_by : (law : OneItemMore) (made : List RawCall) (fed given : List Item) (handed : List Message) (t : Talk) (x : Item)
    (e : SessionFault) (q : Result Phase SessionFault) (ms : List Message) → HasDone made fed given handed t → run t.phase (signs x) ≡ q →
    said t.phase (signs x) ≡ ms → (q then λ p. with_ended_messages (record t { phase = p }) ms) ≡ Err e → StopsTalk fed t x e
refuses_by law made fed given handed t x e (Err d) ms h hq hm is =
    let s : d ≡ e = cc in inl (subst (λ (f : SessionFault). ending (fed ++ x ∷ []) ≡ Err f) s
    (ending_by law made fed given handed t x h ∙ hq))
refuses_by law made fed given handed t x e (Ok p) [] h hq hm is = absurd cc
refuses_by law made fed given handed t x e (Ok p) (m ∷ []) h hq hm is =
    inr (
      m,
      conversation_by law made fed given handed t x h ∙ ap (λ (ms : List Message). conversation fed ++ ms) hm,
      by_fault (reply_fault t.waiting t.transaction m) is,
    ) where
      by_fault : (o : Option SessionFault) → answered_unless o (record t { phase = p }) m ≡ Err e → o ≡ Some e
      by_fault (Some d) is = let s : d ≡ e = cc in ap (λ (f : SessionFault). Some f) s
      by_fault None is = absurd cc
refuses_by law made fed given handed t x e (Ok p) (m ∷ m' ∷ ms) h hq hm is =
    absurd (two_are_no_one (said t.phase (signs x)) m m' ms hm (law.single x t.phase))

pub refuses : (law : OneItemMore) (made : List RawCall) (fed given : List Item) (handed : List Message) (t : Talk) (x : Item)
    (e : SessionFault) → HasDone made fed given handed t → after_item t x ≡ Err e → StopsTalk fed t x e
refuses law made fed given handed t x e h is = refuses_by law made fed given handed t x e (run t.phase (signs x))
    (said t.phase (signs x)) h refl refl is
