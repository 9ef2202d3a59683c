-- What sides put out has the form that the other side reads: no attention item, and no more bytes than a message.
use Rattle.std.proofs.Common.{◌≡◌, ◌∙◌, ap, sym, refl, subst, ℕ, zero, suc, ◌+◌, ◌≤◌, List, [], ◌∷◌, ◌++◌, append_assoc, length, length-append, drop, Bool, true, false, Result, Ok, Err, arith}
use Rattle.std.specs.Prelude.{nat_lt, if◌then◌else◌}
use Rattle.std.specs.List.{AllByRecursion, flat_map}
use Rattle.std.proofs.lemmas.Bool.{le-ltb}
use Rattle.courier_messages.specs.Bounds.{bytes_in}
use Rattle.courier_messages.specs.Cutting.{cut, cut_items, cut_bytes, versions_item}
use Rattle.courier_messages.specs.Laws.{IsShort, items_of, MessageItemsCanBeSent}
use Rattle.courier_messages.specs.Message.{message_bytes, most_bytes}
use Rattle.courier_messages.specs.RawCalls.{RawCall, IsShortCall, call_items, call_message, caller_items, transaction_of}
use Rattle.courier_messages.specs.declared.fault.SessionFault.{SessionFault}
use Rattle.courier_messages.specs.declared.message.Message.{Message}
use Rattle.courier_sessions.specs.Answering as answering
use Rattle.courier_sessions.specs.Answering.{Answering, is_busy}
use Rattle.courier_sessions.specs.Answerings.{IsAnswer}
use Rattle.courier_sessions.specs.Feeding.{feed_result, most_item}
use Rattle.courier_sessions.specs.Talk as talk
use Rattle.courier_sessions.specs.Talk.{Talk}
use Rattle.courier_sessions.specs.declared.feed_refusal.FeedRefusal.{FeedRefusal}
use Rattle.courier_sessions.specs.declared.feed_refusal.FeedRefusal.TheVariants.{Stopped, Busy, TooLong, Attention}
use Rattle.xns_spp.specs.Growth.{Begins}
use Rattle.xns_spp.specs.Packet.{most_body}
use Rattle.xns_spp.specs.declared.item.Item.{Item}

pub record IsReadable (x : Item) : Type 0 where
  pub plain : x.attention ≡ false
  pub short : length x.body ≤ most_bytes

all_behind : {X : Type 0} (P : X → Type 0) (xs ys : List X) → AllByRecursion P xs → AllByRecursion P ys → AllByRecursion P (xs ++ ys)
all_behind P [] ys h k = k
all_behind P (x ∷ xs) ys h k = (h.0, all_behind P xs ys h.1 k)

last_is : {X : Type 0} (P : X → Type 0) (xs : List X) (x : X) (more : List X) → AllByRecursion P ((xs ++ x ∷ []) ++ more) → P x
last_is P [] x more h = h.0
last_is P (y ∷ xs) x more h = last_is P xs x more h.1

-- ---- the items of a message

plain_parts : (n : ℕ) (bytes : List ℕ) → AllByRecursion (λ (x : Item). x.attention ≡ false) (cut_items n bytes)
unfolding cut_items
plain_parts zero bytes = (refl, tt)
plain_parts (suc n) bytes = (refl, plain_parts n (drop most_body bytes))

plain_cut : (bytes : List ℕ) → AllByRecursion (λ (x : Item). x.attention ≡ false) (cut_bytes bytes)
unfolding cut_bytes
plain_cut bytes = plain_parts _ bytes

-- items without attention that have so few bytes together
readable : (xs : List Item) → AllByRecursion (λ (x : Item). x.attention ≡ false) xs → length (bytes_in xs) ≤ most_bytes → AllByRecursion IsReadable xs
readable [] plain few = tt
readable (x ∷ xs) plain few =
    let both = length-append x.body (bytes_in xs) in
    (record { plain = plain.0; short = omega (arith, few, both) }, readable xs plain.1 (omega (arith, few, both)))

readable_cut : MessageItemsCanBeSent → (m : Message) → IsShort m → AllByRecursion IsReadable (cut m)
readable_cut law m short = readable (cut m) (plain_cut (message_bytes m)) (law.size m short)

readable_versions : IsReadable versions_item
readable_versions = record { plain = refl; short = omega arith }

-- ---- what a side puts out

answers_readable : MessageItemsCanBeSent → (ms : List Message) → AllByRecursion IsAnswer ms → AllByRecursion IsReadable (flat_map cut ms)
answers_readable law [] h = tt
answers_readable law (m ∷ ms) h = all_behind IsReadable (cut m) (flat_map cut ms) (readable_cut law m h.0.0) (answers_readable law ms h.1)

calls_readable : MessageItemsCanBeSent → (k : ℕ) (cs : List RawCall) → AllByRecursion IsShortCall cs → AllByRecursion IsReadable (call_items k cs)
unfolding call_items
calls_readable law k [] h = tt
calls_readable law k (c ∷ cs) h =
    let few = h.0 in
    let short : IsShort (call_message (transaction_of k) c) = omega (arith, few) in
    all_behind IsReadable (cut (call_message (transaction_of k) c)) (call_items (k + 1) cs) (readable_cut law (call_message (transaction_of k) c) short) (calls_readable law (k + 1) cs h.1)

next_of : (before out items : List Item) (x : Item) (given : List Item) → AllByRecursion IsReadable items → given ++ out ≡ items → Begins (before ++ x ∷ []) given → IsReadable x
next_of before out items x given all is b =
    let whole : (before ++ x ∷ []) ++ (b.0 ++ out) ≡ items = sym (append_assoc (before ++ x ∷ []) b.0 out) ∙ ap (λ (l : List Item). l ++ out) b.1 ∙ is in
    last_is IsReadable before x (b.0 ++ out) (subst (λ (l : List Item). AllByRecursion IsReadable l) (sym whole) all)

pub answer_readable : MessageItemsCanBeSent → (before given out : List Item) (answers : List Message) (x : Item) → AllByRecursion IsAnswer answers → given ++ out ≡ items_of answers → Begins (before ++ x ∷ []) given → IsReadable x
answer_readable law before given out answers x good is b = next_of before out (items_of answers) x given (readable_versions, answers_readable law answers good) is b

pub call_readable : MessageItemsCanBeSent → (before given out : List Item) (made : List RawCall) (x : Item) → AllByRecursion IsShortCall made → given ++ out ≡ caller_items made → Begins (before ++ x ∷ []) given → IsReadable x
call_readable law before given out made x short is b = next_of before out (caller_items made) x given (readable_versions, calls_readable law 1 made short) is b

-- ---- such an item is read

short_enough : (x : Item) → IsReadable x → nat_lt most_item (length x.body) ≡ false
short_enough x r = let few = r.short in le-ltb most_item (length x.body) (omega (arith, few))

-- what an item is told where these are its reasons
abbrev told : {S : Type 0} (stopped busy attention long : Bool) → Result S SessionFault → Result S FeedRefusal
told stopped busy attention long r = if stopped then Err Stopped else if busy then Err Busy else if attention then Err Attention else if long then Err TooLong else feed_result r

none_told : {S : Type 0} (stopped busy attention long : Bool) (r : Result S SessionFault) (n : S) → stopped ≡ false → busy ≡ false → attention ≡ false → long ≡ false → r ≡ Ok n → told stopped busy attention long r ≡ Ok n
none_told true b c d r n e f g h is = absurd (cc)
none_told false true c d r n e f g h is = absurd (cc)
none_told false false true d r n e f g h is = absurd (cc)
none_told false false false true r n e f g h is = absurd (cc)
none_told false false false false r n e f g h is = ap feed_result is

pub caller_reads : (t n : Talk) (x : Item) → IsReadable x → t.failed ≡ false → talk.after_item t x ≡ Ok n → talk.fed t x ≡ Ok n
caller_reads t n x r going is = none_told t.failed false x.attention (nat_lt most_item (length x.body)) (talk.after_item t x) n going refl r.plain (short_enough x r) is

pub server_reads : (a n : Answering) (x : Item) → IsReadable x → a.failed ≡ false → is_busy a ≡ false → answering.after_item a x ≡ Ok n → answering.fed a x ≡ Ok n
server_reads a n x r going free is = none_told a.failed (is_busy a) x.attention (nat_lt most_item (length x.body)) (answering.after_item a x) n going free r.plain (short_enough x r) is
