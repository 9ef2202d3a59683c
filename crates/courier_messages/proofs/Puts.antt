-- Words put behind bytes, two bytes each.
use Rattle.std.proofs.Common.{◌≡◌, ◌∙◌, ap, sym, refl, ℕ, ◌+◌, ◌-◌, ◌*◌, ◌<◌, ◌≤◌, List, [], ◌∷◌, ◌++◌, length, take, drop, append_assoc, length-append, true, false, arith}
use Rattle.xns_spp.specs.declared.item.Item.{Item}
use Rattle.courier_messages.specs.declared.head.Head.{Head}
use Rattle.courier_messages.specs.declared.head.Head.TheVariants as heads
use Rattle.courier_types.specs.Source.{bytes_of}
use Rattle.courier_messages.specs.Message.{message_bytes}
use Rattle.courier_messages.specs.Head.{with_words, head_words, head_size}
use Rattle.courier_messages.specs.Cutting.{message_item, cut_bytes}
use Rattle.courier_messages.proofs.Cuts.{bytes_length, one_more_item, the_last}

pub word_put : (old : List ℕ) (high low : ℕ) (more : List ℕ) → ((old ++ high ∷ []) ++ low ∷ []) ++ more ≡ old ++ (high ∷ low ∷ more)
word_put old high low more = append_assoc (old ++ high ∷ []) (low ∷ []) more ∙ append_assoc old (high ∷ []) (low ∷ more)

-- a message's bytes are those of its head, then those of its words
pub message_is_its_parts : (head : Head) (words : List ℕ) → message_bytes (with_words head words) ≡ bytes_of (head_words head) ++ bytes_of words
message_is_its_parts (heads.Call t p v q) words = refl
message_is_its_parts (heads.Reject t r) words = refl
message_is_its_parts (heads.Return t) words = refl
message_is_its_parts (heads.Abort t e) words = refl

pub head_bytes : (head : Head) → length (bytes_of (head_words head)) ≡ 2 * head_size head
head_bytes (heads.Call t p v q) = refl
head_bytes (heads.Reject t r) = refl
head_bytes (heads.Return t) = refl
head_bytes (heads.Abort t e) = refl

-- a message that one item holds
pub whole_cut : (head : Head) (words : List ℕ) → 2 * (head_size head + length words) ≤ 534 → cut_bytes (message_bytes (with_words head words)) ≡ message_item true (message_bytes (with_words head words)) ∷ []
whole_cut head words h =
    let front = bytes_of (head_words head) in
    let count = ap (length {A = ℕ}) (message_is_its_parts head words) ∙ length-append front (bytes_of words) in
    the_last (message_bytes (with_words head words)) (omega (arith, count, head_bytes head, bytes_length words, h))

-- a message that one item does not hold
pub long_cut : (head : Head) (words : List ℕ) → 534 < 2 * (head_size head + length words) → cut_bytes (message_bytes (with_words head words)) ≡ message_item false (message_bytes (with_words head (take (267 - head_size head) words))) ∷ cut_bytes (bytes_of (drop (267 - head_size head) words))
long_cut (heads.Call t p v q) words h = one_more_item (head_words (heads.Call t p v q) ++ words) (omega arith)
long_cut (heads.Reject t r) words h = one_more_item (head_words (heads.Reject t r) ++ words) (omega arith)
long_cut (heads.Return t) words h = one_more_item (head_words (heads.Return t) ++ words) (omega arith)
long_cut (heads.Abort t e) words h = one_more_item (head_words (heads.Abort t e) ++ words) (omega arith)

pub long_put : (head : Head) (words front rest : List ℕ) (before after all : List Item) (x : Item) → 534 < 2 * (head_size head + length words) → front ≡ take (267 - head_size head) words → rest ≡ drop (267 - head_size head) words → x ≡ message_item false (message_bytes (with_words head front)) → after ≡ before ++ x ∷ [] → all ≡ after ++ cut_bytes (bytes_of rest) → all ≡ before ++ cut_bytes (message_bytes (with_words head words))
long_put head words front rest before after all x h ef er ex ea el =
    let first : x ≡ message_item false (message_bytes (with_words head (take (267 - head_size head) words))) =
    ex ∙ ap (λ (l : List ℕ). message_item false (message_bytes (with_words head l))) ef in
    let e : x ∷ cut_bytes (bytes_of rest) ≡ cut_bytes (message_bytes (with_words head words)) =
    ap (λ (y : Item). y ∷ cut_bytes (bytes_of rest)) first
    ∙ (ap (λ (l : List ℕ). message_item false (message_bytes (with_words head (take (267 - head_size head) words))) ∷ cut_bytes (bytes_of l)) er ∙ sym (long_cut head words h)) in
    el ∙ (ap (λ (ys : List Item). ys ++ cut_bytes (bytes_of rest)) ea ∙ (append_assoc before (x ∷ []) (cut_bytes (bytes_of rest)) ∙ ap (λ (ys : List Item). before ++ ys) e))
