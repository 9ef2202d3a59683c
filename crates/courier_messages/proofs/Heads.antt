-- The words behind a message's head.
use Rattle.std.proofs.Common.{◌≡◌, ◌∙◌, ap, sym, subst, refl, ℕ, suc, ◌+◌, ◌-◌, ◌*◌, ◌/◌, ◌%◌, ◌≤◌, inl, inr, Bool, true, false, List, [], ◌∷◌, ◌++◌, length, map, drop, arith, length-append, length-drop, le-ltb, ne_eqb, eq-eqb, Result, Ok, Err}
use Rattle.std.specs.Prelude.{if◌then◌else◌, ◌==◌}
use Rattle.courier_types.specs.Pieces.{words_of}
use Rattle.courier_messages.specs.declared.fault.MessageFault.{MessageFault}
use Rattle.courier_messages.specs.declared.fault.MessageFault.TheVariants.{OddLength, UnknownKind, TooLong}
use Rattle.courier_messages.specs.declared.message.Message.{Message}
use Rattle.courier_messages.specs.declared.message.Message.TheVariants as messages
use Rattle.courier_messages.specs.declared.head.Head.{Head}
use Rattle.courier_messages.specs.declared.head.Head.TheVariants as heads
use Rattle.courier_messages.specs.Message.{message_words, call_in, reject_in, abort_in, message_in, unless_long, message_of}
use Rattle.courier_messages.specs.Head.{with_words, head_in, words_in, head_size, size_of, ReadsHead}
use Rattle.courier_messages.specs.Inside.{IsSkipped}

with_its_words : (m : Message) → m ≡ with_words (head_in m) (words_in m)
with_its_words (messages.Call t p v q words) = refl
with_its_words (messages.Reject t r words) = refl
with_its_words (messages.Return t words) = refl
with_its_words (messages.Abort t e words) = refl

-- the one message that there is has this head
pub headed : (m : Message) (ms : List Message) (head : Head) → map head_in (m ∷ ms) ≡ head ∷ [] → (m ≡ with_words head (words_in m)) × (ms ≡ [])
headed m [] head h = let e : head_in m ≡ head = cc in (with_its_words m ∙ ap (λ (d : Head). with_words d (words_in m)) e, refl)
headed m (n ∷ ms) head h = absurd cc

abbrev pub read_as : Message → Result Message MessageFault
read_as m = Ok m

pub same_message : (m n : Message) → read_as m ≡ read_as n → m ≡ n
same_message m n h = cc

-- how many words stand before a message's own
abbrev pub size_before : Message → ℕ
size_before (messages.Call t p v q words) = 6
size_before (messages.Reject t r words) = 3
size_before (messages.Return t words) = 2
size_before (messages.Abort t e words) = 3

-- a message that these words say
pub record IsBehind (m : Message) (words : List ℕ) : Type 0 where
  pub count : length (message_words m) ≡ length words
  pub tail : words_in m ≡ drop (size_before m) words

call_behind : (t : ℕ) (ws : List ℕ) (m : Message) (k : ℕ) → call_in t ws ≡ Ok m → IsBehind m (k ∷ t ∷ ws)
call_behind t [] m k e = absurd cc
call_behind t (a ∷ []) m k e = absurd cc
call_behind t (a ∷ b ∷ []) m k e = absurd cc
call_behind t (a ∷ b ∷ c ∷ []) m k e = absurd cc
call_behind t (a ∷ b ∷ v ∷ q ∷ ws) m k e = subst (λ (n : Message). IsBehind n (k ∷ t ∷ a ∷ b ∷ v ∷ q ∷ ws)) (same_message (messages.Call t (a * 65536 + b) v q ws) m e) (record { count = omega arith; tail = refl })

reject_behind : (t : ℕ) (ws : List ℕ) (m : Message) (k : ℕ) → reject_in t ws ≡ Ok m → IsBehind m (k ∷ t ∷ ws)
reject_behind t [] m k e = absurd cc
reject_behind t (r ∷ ws) m k e = subst (λ (n : Message). IsBehind n (k ∷ t ∷ r ∷ ws)) (same_message (messages.Reject t r ws) m e) (record { count = omega arith; tail = refl })

abort_behind : (t : ℕ) (ws : List ℕ) (m : Message) (k : ℕ) → abort_in t ws ≡ Ok m → IsBehind m (k ∷ t ∷ ws)
abort_behind t [] m k e = absurd cc
abort_behind t (r ∷ ws) m k e = subst (λ (n : Message). IsBehind n (k ∷ t ∷ r ∷ ws)) (same_message (messages.Abort t r ws) m e) (record { count = omega arith; tail = refl })

by_kind : (k t : ℕ) (ws : List ℕ) (m : Message) (x y z u : Bool) → (if x then call_in t ws else if y then reject_in t ws else if z then Ok (messages.Return t ws) else if u then abort_in t ws else Err (UnknownKind k)) ≡ Ok m → IsBehind m (k ∷ t ∷ ws)
by_kind k t ws m true y z u e = call_behind t ws m k e
by_kind k t ws m false true z u e = reject_behind t ws m k e
by_kind k t ws m false false true u e = subst (λ (n : Message). IsBehind n (k ∷ t ∷ ws)) (same_message (messages.Return t ws) m e) (record { count = omega arith; tail = refl })
by_kind k t ws m false false false true e = abort_behind t ws m k e
by_kind k t ws m false false false false e = absurd cc

pub behind : (words : List ℕ) (m : Message) → message_in words ≡ Ok m → IsBehind m words
behind [] m e = absurd cc
behind (k ∷ []) m e = absurd cc
behind (k ∷ t ∷ ws) m e = by_kind k t ws m (k == 0) (k == 1) (k == 2) (k == 3) e

size_is : (head : Head) (rest : List ℕ) → size_before (with_words head rest) ≡ head_size head
size_is (heads.Call t p v q) rest = refl
size_is (heads.Reject t r) rest = refl
size_is (heads.Return t) rest = refl
size_is (heads.Abort t e) rest = refl

words_are : (head : Head) (rest : List ℕ) → words_in (with_words head rest) ≡ rest
words_are (heads.Call t p v q) rest = refl
words_are (heads.Reject t r) rest = refl
words_are (heads.Return t) rest = refl
words_are (heads.Abort t e) rest = refl

-- behind the version range
pub range_dropped : (bytes : List ℕ) (n : ℕ) → 4 ≤ length bytes → drop n (words_of (drop 4 bytes)) ≡ drop (suc (suc n)) (words_of bytes)
range_dropped [] n h = absurd (omega arith)
range_dropped (a ∷ []) n h = absurd (omega arith)
range_dropped (a ∷ b ∷ []) n h = absurd (omega arith)
range_dropped (a ∷ b ∷ c ∷ []) n h = absurd (omega arith)
range_dropped (a ∷ b ∷ c ∷ d ∷ bytes) n h = refl

words_dropped : (skipped : ℕ) (bytes : List ℕ) (n : ℕ) → IsSkipped skipped bytes → drop n (words_of (drop skipped bytes)) ≡ drop (skipped / 2 + n) (words_of bytes)
words_dropped skipped bytes n (inl e) =
    let k : n ≡ skipped / 2 + n = omega (arith, e) in
    ap (λ (s : ℕ). drop n (words_of (drop s bytes))) e ∙ ap (λ (i : ℕ). drop i (words_of bytes)) k
words_dropped skipped bytes n (inr h) =
    let e = h.0 in
    let k : suc (suc n) ≡ skipped / 2 + n = omega (arith, e) in
    ap (λ (s : ℕ). drop n (words_of (drop s bytes))) e ∙ range_dropped bytes n (omega (arith, h.1)) ∙ ap (λ (i : ℕ). drop i (words_of bytes)) k

pub length_behind : (n : ℕ) (bytes : List ℕ) → n ≤ length bytes → length (drop n bytes) + n ≡ length bytes
length_behind n bytes h = omega (arith, length-drop n bytes)

pub dropped_length : (n : ℕ) (kept more : List ℕ) → n ≤ length kept + length more → length (drop n (kept ++ more)) + n ≡ length kept + length more
dropped_length n kept more h = omega (arith, length-drop n (kept ++ more), length-append kept more)

pub skipped_within : (skipped : ℕ) (bytes : List ℕ) → IsSkipped skipped bytes → skipped ≤ length bytes
skipped_within skipped bytes h = grind arith

pub even_message : (bytes : List ℕ) → (length bytes % 2 ≡ 1 → ⊥) → message_of bytes ≡ unless_long bytes (message_in (words_of bytes))
unfolding message_of
even_message bytes h = ap (λ (b : Bool). if b then Err OddLength else unless_long bytes (message_in (words_of bytes))) (ne_eqb (length bytes % 2) 1 h)

pub short_message : (bytes : List ℕ) (m : Message) → length bytes ≤ 131072 → unless_long bytes (Ok m) ≡ Ok m
short_message bytes m h = ap (λ (b : Bool). if b then Err TooLong else Ok m) (le-ltb 131072 (length bytes) h)

pub head_read : (r : Result Head MessageFault) (skipped : ℕ) (bytes rest : List ℕ) → IsSkipped skipped bytes → ((length bytes - skipped) % 2 ≡ 1 → ⊥) → length bytes ≤ 131072 + skipped
    → ReadsHead r rest (message_in (words_of (drop skipped bytes))) → ReadsHead r (drop (skipped / 2 + size_of r) (words_of bytes)) (message_of (drop skipped bytes))
head_read (Ok head) skipped bytes rest s odd size h =
    let within = skipped_within skipped bytes s in
    let n = length_behind skipped bytes within in
    let b = drop skipped bytes in
    let even : length b % 2 ≡ 1 → ⊥ = λ e. odd (let k : length bytes - skipped ≡ length b = omega (arith, n) in ap (λ (i : ℕ). i % 2) k ∙ e) in
    let tail : rest ≡ drop (skipped / 2 + head_size head) (words_of bytes) =
    sym (words_are head rest) ∙ (behind (words_of b) (with_words head rest) h).tail ∙ ap (λ (i : ℕ). drop i (words_of b)) (size_is head rest) ∙ words_dropped skipped bytes (head_size head) s in
    even_message b even ∙ ap (unless_long b) h ∙ short_message b (with_words head rest) (omega (arith, n)) ∙ ap (λ (ws : List ℕ). read_as (with_words head ws)) tail
head_read (Err e) skipped bytes rest s odd size h =
    let within = skipped_within skipped bytes s in
    let n = length_behind skipped bytes within in
    let b = drop skipped bytes in
    let even : length b % 2 ≡ 1 → ⊥ = λ d. odd (let k : length bytes - skipped ≡ length b = omega (arith, n) in ap (λ (i : ℕ). i % 2) k ∙ d) in
    even_message b even ∙ ap (unless_long b) h

pub odd_message : (skipped : ℕ) (bytes : List ℕ) → IsSkipped skipped bytes → (length bytes - skipped) % 2 ≡ 1 → message_of (drop skipped bytes) ≡ Err OddLength
unfolding message_of
odd_message skipped bytes s odd =
    let n = length_behind skipped bytes (skipped_within skipped bytes s) in
    let b = drop skipped bytes in
    let k : length bytes - skipped ≡ length b = omega (arith, n) in
    let e : length b % 2 ≡ 1 = ap (λ (i : ℕ). i % 2) (sym k) ∙ odd in
    ap (λ (t : Bool). if t then Err OddLength else unless_long b (message_in (words_of b))) (eq-eqb (length b % 2) 1 e)
