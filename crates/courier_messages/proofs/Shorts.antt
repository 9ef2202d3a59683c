-- The items that a session puts out.
use Rattle.std.proofs.Common.{ℕ, zero, suc, ◌+◌, ◌*◌, ◌-◌, ◌/◌, ◌%◌, ◌^◌, ◌<◌, ◌≤◌, Bool, true, false, List, [], ◌∷◌, length, take, drop, arith, refl, length-drop}
use Rattle.std.specs.List.{AllByRecursion}
use Rattle.std.proofs.lemmas.List.{length-take}
use Rattle.std.proofs.lemmas.List.Elements.{All-drop, All-take}
use Rattle.courier_types.specs.Spelling.{AreBytes, AreWords}
use Rattle.courier_messages.specs.declared.message.Message.{Message}
use Rattle.courier_messages.specs.declared.message.Message.TheVariants.{Call, Reject, Return, Abort}
use Rattle.courier_types.specs.Source.{bytes_of}
use Rattle.courier_messages.specs.Message.{message_words, message_bytes, IsMessage}
use Rattle.courier_messages.specs.Cutting.{message_item, cut_items, cut_bytes, cut, versions_item}
use Rattle.courier_messages.specs.Laws.{IsSendableItem}
use Rattle.courier_types.proofs.Words.{head_below, tail_below, none_below, cons_below}

words_bytes : (ws : List ℕ) → AreWords ws → AreBytes (bytes_of ws)
words_bytes [] h = none_below (2 ^ 8)
words_bytes (w ∷ ws) h = let lt = head_below (2 ^ 16) w ws h in cons_below (2 ^ 8) (w / 256) (w % 256 ∷ bytes_of ws) (omega arith) (cons_below (2 ^ 8) (w % 256) (bytes_of ws) (omega arith) (words_bytes ws (tail_below (2 ^ 16) w ws h)))

part_short : (last : Bool) (body : List ℕ) → AreBytes body → length body ≤ 534 → IsSendableItem (message_item last body)
part_short last body h k = record { short = record { fits = record { stream = omega arith; body = h }; size = k }; plain = refl; stream = refl }

parts_short : (n : ℕ) (bytes : List ℕ) → AreBytes bytes → length bytes ≤ 534 * n + 534 → AllByRecursion IsSendableItem (cut_items n bytes)
unfolding cut_items
parts_short zero bytes h k = (part_short true bytes h (omega arith), tt)
parts_short (suc n) bytes h k =
    let less = length-drop 534 bytes in
    (part_short false (take 534 bytes) (All-take (λ b. b < 2 ^ 8) 534 bytes h) (omega (arith, length-take 534 bytes)), parts_short n (drop 534 bytes) (All-drop (λ b. b < 2 ^ 8) 534 bytes h) (omega (arith, less)))

cut_bytes_short : (bytes : List ℕ) → AreBytes bytes → AllByRecursion IsSendableItem (cut_bytes bytes)
unfolding cut_bytes
cut_bytes_short bytes h = parts_short ((length bytes - 1) / 534) bytes h (omega arith)

message_in_words : (m : Message) → IsMessage m → AreWords (message_words m)
message_in_words (Call t p v q ws) h =
    let lt = h.1 in
    cons_below (2 ^ 16) 0 (t ∷ p / 65536 ∷ p % 65536 ∷ v ∷ q ∷ ws) (omega arith)
    (cons_below (2 ^ 16) t (p / 65536 ∷ p % 65536 ∷ v ∷ q ∷ ws) h.0
    (cons_below (2 ^ 16) (p / 65536) (p % 65536 ∷ v ∷ q ∷ ws) (omega (arith, lt))
    (cons_below (2 ^ 16) (p % 65536) (v ∷ q ∷ ws) (omega arith)
    (cons_below (2 ^ 16) v (q ∷ ws) h.2 (cons_below (2 ^ 16) q ws h.3 h.4)))))
message_in_words (Reject t r ws) h = cons_below (2 ^ 16) 1 (t ∷ r ∷ ws) (omega arith) (cons_below (2 ^ 16) t (r ∷ ws) h.0 (cons_below (2 ^ 16) r ws h.1 h.2))
message_in_words (Return t ws) h = cons_below (2 ^ 16) 2 (t ∷ ws) (omega arith) (cons_below (2 ^ 16) t ws h.0 h.1)
message_in_words (Abort t e ws) h = cons_below (2 ^ 16) 3 (t ∷ e ∷ ws) (omega arith) (cons_below (2 ^ 16) t (e ∷ ws) h.0 (cons_below (2 ^ 16) e ws h.1 h.2))

pub cut_short : (m : Message) → IsMessage m → AllByRecursion IsSendableItem (cut m)
cut_short m h = cut_bytes_short (message_bytes m) (words_bytes (message_words m) (message_in_words m h))

pub versions_short : IsSendableItem versions_item
versions_short = part_short true (0 ∷ 3 ∷ 0 ∷ 3 ∷ []) (cons_below (2 ^ 8) 0 (3 ∷ 0 ∷ 3 ∷ []) (omega arith) (cons_below (2 ^ 8) 3 (0 ∷ 3 ∷ []) (omega arith) (cons_below (2 ^ 8) 0 (3 ∷ []) (omega arith) (cons_below (2 ^ 8) 3 [] (omega arith) (none_below (2 ^ 8)))))) (omega arith)
