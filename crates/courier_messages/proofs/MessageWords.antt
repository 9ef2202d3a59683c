-- Messages and the words that say them.
use Rattle.std.proofs.Common.{◌≡◌, ◌∙◌, ap, sym, subst, refl, ℕ, ◌+◌, ◌*◌, ◌/◌, ◌%◌, ◌^◌, ◌<◌, ◌≤◌, Bool, true, false, List, [], ◌∷◌, length, arith, ltb-false, Result, Ok, Err}
use Rattle.std.specs.Prelude.{IfOk, if◌then◌else◌, ◌==◌, nat_lt}
use Rattle.std.proofs.lemmas.Bool.{eqb-true}
use Rattle.courier_types.specs.Pieces.{words_of}
use Rattle.courier_types.specs.Spelling.{AreBytes, AreWords}
use Rattle.courier_messages.specs.declared.fault.MessageFault.{MessageFault}
use Rattle.courier_messages.specs.declared.fault.MessageFault.TheVariants.{OddLength, UnknownKind, TooLong}
use Rattle.courier_messages.specs.declared.fault.MessageRefusal.{MessageRefusal}
use Rattle.courier_messages.specs.Refusal.{Reads}
use Rattle.courier_messages.specs.declared.message.Message.{Message}
use Rattle.courier_messages.specs.declared.message.Message.TheVariants.{Call, Reject, Return, Abort}
use Rattle.courier_messages.specs.Message.{message_words, call_in, reject_in, abort_in, message_in, unless_long, message_of, IsMessage, SpellsMessage}
use Rattle.courier_messages.proofs.Heads.{behind, read_as, same_message}
use Rattle.courier_types.proofs.Joined.{bytes_words, words_length}
use Rattle.courier_types.proofs.Words.{head_below, tail_below}

-- words that are read as a message are the words that say it

record IsWritten (m : Message) (words : List ℕ) : Type 0 where
  spells : words ≡ message_words m
  numbers : IsMessage m

high_word : (h l : ℕ) → l < 2 ^ 16 → (h * 65536 + l) / 65536 ≡ h
high_word h l lt = omega arith

low_word : (h l : ℕ) → l < 2 ^ 16 → (h * 65536 + l) % 65536 ≡ l
low_word h l lt = omega arith

call_written : (t : ℕ) (ws : List ℕ) (m : Message) → t < 2 ^ 16 → AreWords ws → call_in t ws ≡ Ok m → IsWritten m (0 ∷ t ∷ ws)
call_written t [] m lt h e = absurd cc
call_written t (a ∷ []) m lt h e = absurd cc
call_written t (a ∷ b ∷ []) m lt h e = absurd cc
call_written t (a ∷ b ∷ c ∷ []) m lt h e = absurd cc
call_written t (a ∷ b ∷ v ∷ q ∷ ws) m lt h e =
    let h1 = tail_below (2 ^ 16) a (b ∷ v ∷ q ∷ ws) h in
    let h2 = tail_below (2 ^ 16) b (v ∷ q ∷ ws) h1 in
    let h3 = tail_below (2 ^ 16) v (q ∷ ws) h2 in
    let ha = head_below (2 ^ 16) a (b ∷ v ∷ q ∷ ws) h in
    let hb = head_below (2 ^ 16) b (v ∷ q ∷ ws) h1 in
    subst (λ (n : Message). IsWritten n (0 ∷ t ∷ a ∷ b ∷ v ∷ q ∷ ws)) (same_message (Call t (a * 65536 + b) v q ws) m e)
    (record {
      spells = sym (ap (λ (x : ℕ). 0 ∷ t ∷ x ∷ (a * 65536 + b) % 65536 ∷ v ∷ q ∷ ws) (high_word a b hb) ∙ ap (λ (x : ℕ). 0 ∷ t ∷ a ∷ x ∷ v ∷ q ∷ ws) (low_word a b hb));
      numbers = (lt, omega arith, head_below (2 ^ 16) v (q ∷ ws) h2, head_below (2 ^ 16) q ws h3, tail_below (2 ^ 16) q ws h3);
    })

reject_written : (t : ℕ) (ws : List ℕ) (m : Message) → t < 2 ^ 16 → AreWords ws → reject_in t ws ≡ Ok m → IsWritten m (1 ∷ t ∷ ws)
reject_written t [] m lt h e = absurd cc
reject_written t (r ∷ ws) m lt h e =
    subst (λ (n : Message). IsWritten n (1 ∷ t ∷ r ∷ ws)) (same_message (Reject t r ws) m e) (record { spells = refl; numbers = (lt, head_below (2 ^ 16) r ws h, tail_below (2 ^ 16) r ws h) })

abort_written : (t : ℕ) (ws : List ℕ) (m : Message) → t < 2 ^ 16 → AreWords ws → abort_in t ws ≡ Ok m → IsWritten m (3 ∷ t ∷ ws)
abort_written t [] m lt h e = absurd cc
abort_written t (r ∷ ws) m lt h e =
    subst (λ (n : Message). IsWritten n (3 ∷ t ∷ r ∷ ws)) (same_message (Abort t r ws) m e) (record { spells = refl; numbers = (lt, head_below (2 ^ 16) r ws h, tail_below (2 ^ 16) r ws h) })

by_kind : (k t : ℕ) (ws : List ℕ) (m : Message) → t < 2 ^ 16 → AreWords ws → (x y z u : Bool) → (k == 0) ≡ x → (k == 1) ≡ y → (k == 2) ≡ z → (k == 3) ≡ u
    → (if x then call_in t ws else if y then reject_in t ws else if z then Ok (Return t ws) else if u then abort_in t ws else Err (UnknownKind k)) ≡ Ok m → IsWritten m (k ∷ t ∷ ws)
by_kind k t ws m lt h true y z u ex ey ez eu e = subst (λ (n : ℕ). IsWritten m (n ∷ t ∷ ws)) (sym (eqb-true k 0 ex)) (call_written t ws m lt h e)
by_kind k t ws m lt h false true z u ex ey ez eu e = subst (λ (n : ℕ). IsWritten m (n ∷ t ∷ ws)) (sym (eqb-true k 1 ey)) (reject_written t ws m lt h e)
by_kind k t ws m lt h false false true u ex ey ez eu e =
    subst (λ (n : ℕ). IsWritten m (n ∷ t ∷ ws)) (sym (eqb-true k 2 ez))
    (subst (λ (n : Message). IsWritten n (2 ∷ t ∷ ws)) (same_message (Return t ws) m e) (record { spells = refl; numbers = (lt, h) }))
by_kind k t ws m lt h false false false true ex ey ez eu e = subst (λ (n : ℕ). IsWritten m (n ∷ t ∷ ws)) (sym (eqb-true k 3 eu)) (abort_written t ws m lt h e)
by_kind k t ws m lt h false false false false ex ey ez eu e = absurd cc

written_in : (words : List ℕ) (m : Message) → AreWords words → message_in words ≡ Ok m → IsWritten m words
written_in [] m h e = absurd cc
written_in (k ∷ []) m h e = absurd cc
written_in (k ∷ t ∷ ws) m h e =
    let h1 = tail_below (2 ^ 16) k (t ∷ ws) h in
    by_kind k t ws m (head_below (2 ^ 16) t ws h1) (tail_below (2 ^ 16) t ws h1) (k == 0) (k == 1) (k == 2) (k == 3) refl refl refl refl e

-- what is read of bytes is read of their words, and they are not too many
read_is_in : (bytes : List ℕ) (m : Message) → message_of bytes ≡ Ok m → (message_in (words_of bytes) ≡ Ok m) × (length bytes ≤ 131072)
unfolding message_of
read_is_in bytes m e = kept (length bytes % 2 == 1) (message_in (words_of bytes)) e where
  kept_by : (long : Bool) (n : Message) → nat_lt 131072 (length bytes) ≡ long → (if long then Err TooLong else Ok n) ≡ Ok m → (read_as n ≡ Ok m) × (length bytes ≤ 131072)
  kept_by true n size k = absurd cc
  kept_by false n size k = (k, ltb-false 131072 (length bytes) size)

  kept : (odd : Bool) (o : Result Message MessageFault) → (if odd then Err OddLength else unless_long bytes o) ≡ Ok m → (o ≡ Ok m) × (length bytes ≤ 131072)
  kept true o k = absurd cc
  kept false (Err f) k = absurd cc
  kept false (Ok n) k = kept_by (nat_lt 131072 (length bytes)) n refl k

pub read_is_short : (bytes : List ℕ) (m : Message) → message_of bytes ≡ Ok m → length (message_words m) ≤ 65536
read_is_short bytes m e = let k = read_is_in bytes m e in omega (arith, k.1, words_length bytes, (behind (words_of bytes) m k.0).count)

-- what is read of bytes is what their words say
pub read_is_spelled : (bytes : List ℕ) (m : Message) → AreWords (words_of bytes) → message_of bytes ≡ Ok m → SpellsMessage m (words_of bytes)
read_is_spelled bytes m h e =
    let k = read_is_in bytes m e in
    let w = written_in (words_of bytes) m h k.0 in
    record { spells = w.spells; numbers = w.numbers; size = omega (arith, k.1, words_length bytes) }

pub reads_spelled : (r : Result Message MessageRefusal) (bytes : List ℕ) → AreBytes bytes → Reads r (message_of bytes) → IfOk r (λ m. SpellsMessage m (words_of bytes))
reads_spelled (Ok m) bytes h e = read_is_spelled bytes m (bytes_words bytes h) e
reads_spelled (Err e) bytes h k = tt
