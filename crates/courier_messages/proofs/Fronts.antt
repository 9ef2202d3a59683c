-- What a message begins with, of which its first six words tell.
use Rattle.std.proofs.Common.{◌≡◌, ◌∙◌, ap, sym, refl, ℕ, zero, suc, ◌+◌, ◌*◌, ◌-◌, ◌/◌, ◌%◌, ◌<◌, ◌≤◌, Bool, true, false, List, [], ◌∷◌, ◌++◌, length, take, drop, get_or, arith, length-append, Result, Ok, Err}
use Rattle.std.specs.Prelude.{if◌then◌else◌, ◌==◌, slice_get, Option, Some, None}
use Rattle.courier_types.specs.Pieces.{words_of}
use Rattle.courier_messages.specs.declared.fault.MessageFault.{MessageFault}
use Rattle.courier_messages.specs.declared.fault.MessageFault.TheVariants.{UnknownKind}
use Rattle.courier_messages.specs.declared.message.Message.{Message}
use Rattle.courier_messages.specs.declared.message.Message.TheVariants as messages
use Rattle.courier_messages.specs.declared.head.Head.{Head}
use Rattle.courier_messages.specs.declared.head.Head.TheVariants as heads
use Rattle.courier_messages.specs.Head.{ReadsHead, heads_in, with_words}
use Rattle.courier_messages.specs.Inside.{IsSkipped}
use Rattle.courier_messages.specs.Message.{call_in, reject_in, abort_in, message_in, message_of, unless_long}
use Rattle.courier_messages.proofs.Heads.{dropped_length, even_message, short_message, skipped_within}
use Rattle.courier_types.proofs.Joined.{words_length}

-- one word

nth_drop : (n : ℕ) (xs : List ℕ) (k : ℕ) → slice_get (drop n xs) k ≡ slice_get xs (n + k)
nth_drop zero xs k = let e : k ≡ 0 + k = omega arith in ap (slice_get xs) e
nth_drop (suc n) [] k = refl
nth_drop (suc n) (x ∷ xs) k = let e : suc (n + k) ≡ suc n + k = omega arith in nth_drop n xs k ∙ ap (slice_get (x ∷ xs)) e

-- the word of a low and a high byte, 0 where there is none
abbrev word_of : Option ℕ → Option ℕ → ℕ
word_of None high = 0
word_of (Some low) None = 0
word_of (Some low) (Some high) = high * 256 + low

no_word_of : (low : Option ℕ) → word_of low None ≡ 0
no_word_of None = refl
no_word_of (Some low) = refl

word_in : (bytes : List ℕ) (i : ℕ) → get_or (words_of bytes) i 0 ≡ word_of (slice_get bytes (suc (2 * i))) (slice_get bytes (2 * i))
word_in [] i = refl
word_in (a ∷ []) i = refl
word_in (a ∷ b ∷ bytes) zero = refl
word_in (a ∷ b ∷ bytes) (suc i) =
    let e : suc (suc (2 * i)) ≡ 2 * suc i = omega arith in
    word_in bytes i ∙ ap (λ (p : ℕ). word_of (slice_get (a ∷ b ∷ bytes) (suc p)) (slice_get (a ∷ b ∷ bytes) p)) e

low_in : (bytes : List ℕ) (n i q : ℕ) → q ≡ n + 2 * i + 1 → slice_get (drop n bytes) (suc (2 * i)) ≡ slice_get bytes q
low_in bytes n i q f = let u : n + suc (2 * i) ≡ q = omega (arith, f) in nth_drop n bytes (suc (2 * i)) ∙ ap (slice_get bytes) u

high_in : (bytes : List ℕ) (n i p : ℕ) → p ≡ n + 2 * i → slice_get (drop n bytes) (2 * i) ≡ slice_get bytes p
high_in bytes n i p e = nth_drop n bytes (2 * i) ∙ ap (slice_get bytes) (sym e)

pub word_is : (bytes : List ℕ) (n i p q h l : ℕ) → p ≡ n + 2 * i → q ≡ n + 2 * i + 1 → slice_get bytes p ≡ Some h → slice_get bytes q ≡ Some l → get_or (words_of (drop n bytes)) i 0 ≡ h * 256 + l
word_is bytes n i p q h l e f x y = word_in (drop n bytes) i ∙ (λ j. word_of ((low_in bytes n i q f ∙ y) j) ((high_in bytes n i p e ∙ x) j))

pub no_word : (bytes : List ℕ) (n i q : ℕ) → q ≡ n + 2 * i + 1 → slice_get bytes q ≡ None → get_or (words_of (drop n bytes)) i 0 ≡ 0
no_word bytes n i q f y = word_in (drop n bytes) i ∙ ap (λ (low : Option ℕ). word_of low (slice_get (drop n bytes) (2 * i))) (low_in bytes n i q f ∙ y)

pub no_high : (bytes : List ℕ) (n i p : ℕ) → p ≡ n + 2 * i → slice_get bytes p ≡ None → get_or (words_of (drop n bytes)) i 0 ≡ 0
no_high bytes n i p e x =
    let low = slice_get (drop n bytes) (suc (2 * i)) in
    word_in (drop n bytes) i ∙ ap (λ (high : Option ℕ). word_of low high) (high_in bytes n i p e ∙ x) ∙ no_word_of low

-- the first six

pub front_taken : (ws : List ℕ) (n : ℕ) → n ≡ length ws → n < 6 → take n (get_or ws 0 0 ∷ get_or ws 1 0 ∷ get_or ws 2 0 ∷ get_or ws 3 0 ∷ get_or ws 4 0 ∷ get_or ws 5 0 ∷ []) ≡ ws
front_taken [] n e h = rw e refl
front_taken (a ∷ []) n e h = rw e refl
front_taken (a ∷ b ∷ []) n e h = rw e refl
front_taken (a ∷ b ∷ c ∷ []) n e h = rw e refl
front_taken (a ∷ b ∷ c ∷ d ∷ []) n e h = rw e refl
front_taken (a ∷ b ∷ c ∷ d ∷ f ∷ []) n e h = rw e refl
front_taken (a ∷ b ∷ c ∷ d ∷ f ∷ g ∷ ws) n e h = absurd (omega (arith, e))

by_kind : (k t a b c d : ℕ) (ws : List ℕ) (x y z u : Bool) → heads_in (if x then call_in t (a ∷ b ∷ c ∷ d ∷ []) else if y then reject_in t (a ∷ b ∷ c ∷ d ∷ []) else if z then Ok (messages.Return t (a ∷ b ∷ c ∷ d ∷ [])) else if u then abort_in t (a ∷ b ∷ c ∷ d ∷ []) else Err (UnknownKind k))
    ≡ heads_in (if x then call_in t (a ∷ b ∷ c ∷ d ∷ ws) else if y then reject_in t (a ∷ b ∷ c ∷ d ∷ ws) else if z then Ok (messages.Return t (a ∷ b ∷ c ∷ d ∷ ws)) else if u then abort_in t (a ∷ b ∷ c ∷ d ∷ ws) else Err (UnknownKind k))
by_kind k t a b c d ws true y z u = refl
by_kind k t a b c d ws false true z u = refl
by_kind k t a b c d ws false false true u = refl
by_kind k t a b c d ws false false false true = refl
by_kind k t a b c d ws false false false false = refl

pub front_head : (ws : List ℕ) → 6 ≤ length ws → heads_in (message_in (get_or ws 0 0 ∷ get_or ws 1 0 ∷ get_or ws 2 0 ∷ get_or ws 3 0 ∷ get_or ws 4 0 ∷ get_or ws 5 0 ∷ [])) ≡ heads_in (message_in ws)
front_head [] h = absurd (omega arith)
front_head (a ∷ []) h = absurd (omega arith)
front_head (a ∷ b ∷ []) h = absurd (omega arith)
front_head (a ∷ b ∷ c ∷ []) h = absurd (omega arith)
front_head (a ∷ b ∷ c ∷ d ∷ []) h = absurd (omega arith)
front_head (a ∷ b ∷ c ∷ d ∷ f ∷ []) h = absurd (omega arith)
front_head (k ∷ t ∷ a ∷ b ∷ c ∷ d ∷ ws) h = by_kind k t a b c d ws (k == 0) (k == 1) (k == 2) (k == 3)

-- the head of the whole message

short_head : (bytes : List ℕ) (r : Result Message MessageFault) → length bytes ≤ 131072 → heads_in (unless_long bytes r) ≡ heads_in r
short_head bytes (Ok m) h = ap heads_in (short_message bytes m h)
short_head bytes (Err e) h = refl

pub even_head : (bytes : List ℕ) → (length bytes % 2 ≡ 1 → ⊥) → length bytes ≤ 131072 → heads_in (message_of bytes) ≡ heads_in (message_in (words_of bytes))
even_head bytes odd size = ap heads_in (even_message bytes odd) ∙ short_head bytes (message_in (words_of bytes)) size

pub short_front : (skipped n : ℕ) (kept more : List ℕ) (a b c d e f : ℕ) → IsSkipped skipped (kept ++ more) → n ≡ length kept + length more - skipped → (n % 2 ≡ 1 → ⊥) → length kept + length more ≤ 131072 + skipped → n / 2 < 6
    → a ≡ get_or (words_of (drop skipped (kept ++ more))) 0 0 → b ≡ get_or (words_of (drop skipped (kept ++ more))) 1 0 → c ≡ get_or (words_of (drop skipped (kept ++ more))) 2 0
    → d ≡ get_or (words_of (drop skipped (kept ++ more))) 3 0 → e ≡ get_or (words_of (drop skipped (kept ++ more))) 4 0 → f ≡ get_or (words_of (drop skipped (kept ++ more))) 5 0
    → heads_in (message_in (take (n / 2) (a ∷ b ∷ c ∷ d ∷ e ∷ f ∷ []))) ≡ heads_in (message_of (drop skipped (kept ++ more)))
short_front skipped n kept more a b c d e f skips is odd size few ha hb hc hd he hf =
    let bytes = drop skipped (kept ++ more) in
    let ws = words_of bytes in
    let all = length-append kept more in
    let within = skipped_within skipped (kept ++ more) skips in
    let count = dropped_length skipped kept more (omega (arith, all, within)) in
    let same : n ≡ length bytes = omega (arith, is, count) in
    let words : n / 2 ≡ length ws = ap (λ (i : ℕ). i / 2) same ∙ sym (words_length bytes) in
    ap (λ (l : List ℕ). heads_in (message_in l)) ((λ i. take (n / 2) (ha i ∷ hb i ∷ hc i ∷ hd i ∷ he i ∷ hf i ∷ [])) ∙ front_taken ws (n / 2) words few)
    ∙ sym (even_head bytes (λ o. odd (ap (λ (i : ℕ). i % 2) same ∙ o)) (omega (arith, count)))

-- read where the bytes lie

head_is : (head : Head) (rest : List ℕ) → heads_in (Ok (with_words head rest)) ≡ Ok head
head_is (heads.Call t p v q) rest = refl
head_is (heads.Reject t r) rest = refl
head_is (heads.Return t) rest = refl
head_is (heads.Abort t e) rest = refl

pub head_at : (r : Result Head MessageFault) (bytes rest : List ℕ) → (length bytes % 2 ≡ 1 → ⊥) → length bytes ≤ 131072 → ReadsHead r rest (message_in (words_of bytes)) → r ≡ heads_in (message_of bytes)
head_at (Ok head) bytes rest odd size h = sym (even_head bytes odd size ∙ ap heads_in h ∙ head_is head rest)
head_at (Err e) bytes rest odd size h = sym (even_head bytes odd size ∙ ap heads_in h)

pub alone : (kept more : List ℕ) → length kept ≡ 0 → kept ++ more ≡ more
alone [] more h = refl
alone (x ∷ kept) more h = absurd (omega (arith, h))
