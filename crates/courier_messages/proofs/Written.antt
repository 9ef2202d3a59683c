-- What is cut from messages is heard as those messages.
use Rattle.std.proofs.Common.{◌≡◌, ℕ, zero, suc, ◌+◌, ◌-◌, ◌*◌, ◌≤◌, Bool, false, cond, List, [], ◌∷◌, ◌++◌, length, take, drop, Result, Ok, Err, refl, sym, ◌∙◌, ap, subst, arith, append_assoc, take-append-drop}
use Rattle.std.specs.Prelude.{map, nat_lt, ◌/◌, ◌%◌, ◌==◌}
use Rattle.std.specs.List.{flat_map, AllByRecursion}
use Rattle.std.proofs.lemmas.Bool.{ne_eqb, le-ltb}
use Rattle.std.proofs.lemmas.List.{append-nil, map-append}
use Rattle.std.proofs.lemmas.List.Concat.{flat_map-append}
use Rattle.courier_messages.specs.declared.fault.MessageFault.{MessageFault}
use Rattle.courier_messages.specs.declared.fault.MessageFault.TheVariants.{OddLength, TooLong}
use Rattle.courier_messages.specs.declared.fault.SessionFault.{SessionFault}
use Rattle.courier_messages.specs.declared.message.Message.{Message}
use Rattle.courier_messages.specs.declared.message.Message.TheVariants.{Call, Reject, Return, Abort}
use Rattle.courier_types.specs.Pieces.{words_of}
use Rattle.courier_messages.proofs.Heads.{even_message, short_message}
use Rattle.courier_types.specs.Source.{bytes_of}
use Rattle.courier_messages.specs.Message.{SpellsMessage, message_words, message_bytes, message_in, unless_long, message_of}
use Rattle.courier_messages.specs.Text.{marked, Sign, byte, mark, signs, written}
use Rattle.courier_messages.specs.Conversation.{Phase, opening, inside, conversation, ending}
use Rattle.courier_messages.specs.Phases.{closed, good, ◌then◌, run, onwards, said}
use Rattle.courier_messages.specs.Cutting.{cut_items, cut_bytes, cut}
use Rattle.courier_messages.specs.Laws.{IsShort, items_of}
use Rattle.courier_messages.proofs.Ranges.{inside_bytes}
use Rattle.courier_messages.proofs.Runs.{run_append, said_append, said_bytes}
use Rattle.courier_messages.proofs.Signs.{conversation_is, ending_is}
use Rattle.courier_messages.proofs.Cuts.{bytes_length}
use Rattle.courier_types.proofs.Joined.{words_length}

two_bytes : (w : ℕ) → (w / 256) * 256 + w % 256 ≡ w
two_bytes w = omega arith

pub words_back : (ws : List ℕ) → words_of (bytes_of ws) ≡ ws
words_back [] = refl
words_back (w ∷ ws) = ap (λ (l : List ℕ). ((w / 256) * 256 + w % 256) ∷ l) (words_back ws) ∙ ap (λ (n : ℕ). n ∷ ws) (two_bytes w)

two_words : (n : ℕ) → (n / 65536) * 65536 + n % 65536 ≡ n
two_words n = omega arith

pub message_back : (m : Message) → message_in (message_words m) ≡ Ok m
message_back (Call t p v q ws) = ap (λ (n : ℕ). Ok (Call t n v q ws)) (two_words p)
message_back (Reject t r ws) = refl
message_back (Return t ws) = refl
message_back (Abort t e ws) = refl

pub read_back : (m : Message) → IsShort m → message_of (message_bytes m) ≡ Ok m
unfolding message_of
read_back m h =
    let size = bytes_length (message_words m) in
    let even : ((length (message_bytes m)) % 2 == 1) ≡ false = ne_eqb ((length (message_bytes m)) % 2) 1 (λ e. omega (arith, e, size)) in
    let short : nat_lt 131072 (length (message_bytes m)) ≡ false = le-ltb 131072 (length (message_bytes m)) (omega (arith, size)) in
    ap (λ (b : Bool). cond b (Err OddLength) (unless_long (message_bytes m) (message_in (words_of (message_bytes m))))) even
    ∙ ap (λ (l : List ℕ). unless_long (message_bytes m) (message_in l)) (words_back (message_words m))
    ∙ ap (unless_long (message_bytes m)) (message_back m)
    ∙ ap (λ (b : Bool). cond b (Err TooLong) (Ok m)) short

pub written_pieces : (n : ℕ) (bytes : List ℕ) → written (cut_items n bytes) ≡ marked bytes
unfolding cut_items
written_pieces zero bytes = append-nil (marked bytes)
written_pieces (suc n) bytes =
    ap (λ (l : List Sign). (map byte (take 534 bytes) ++ []) ++ l) (written_pieces n (drop 534 bytes))
    ∙ ap (λ (l : List Sign). l ++ marked (drop 534 bytes)) (append-nil (map byte (take 534 bytes)))
    ∙ sym (append_assoc (map byte (take 534 bytes)) (map byte (drop 534 bytes)) (mark ∷ []))
    ∙ ap (λ (l : List Sign). l ++ mark ∷ []) (sym (map-append byte (take 534 bytes) (drop 534 bytes)) ∙ ap (map byte) (take-append-drop 534 bytes))

pub written_cut : (m : Message) → written (cut m) ≡ marked (message_bytes m)
unfolding cut_bytes
written_cut m = written_pieces ((length (message_bytes m) - 1) / 534) (message_bytes m)

-- the signs lead from p to q, and end the messages ms
pub record Leads (p : Phase) (xs : List Sign) (q : Phase) (ms : List Message) : Type 0 where
  pub run : run p xs ≡ Ok q
  pub said : said p xs ≡ ms

pub leads_then : (p q r : Phase) (xs ys : List Sign) (ms ns : List Message) → Leads p xs q ms → Leads q ys r ns → Leads p (xs ++ ys) r (ms ++ ns)
leads_then p q r xs ys ms ns g h = record {
  run = run_append p xs ys ∙ ap (λ (o : Result Phase SessionFault). o then (λ q. run q ys)) g.run ∙ h.run;
  said = said_append p xs ys ∙ ap (λ (o : Result Phase SessionFault). said p xs ++ onwards o (λ q. said q ys)) g.run
      ∙ ap (λ (l : List Message). l ++ said q ys) g.said ∙ ap (λ (l : List Message). ms ++ l) h.said;
}

-- bytes within a message
pub leads_bytes : (bytes more : List ℕ) → length bytes + length more ≤ 131072 → Leads (inside bytes) (map byte more) (inside (bytes ++ more)) []
leads_bytes bytes more h = record { run = inside_bytes bytes more h; said = said_bytes (inside bytes) more }

leads_mark : (m : Message) (bytes : List ℕ) → message_of bytes ≡ Ok m → Leads (inside bytes) (mark ∷ []) (inside []) (m ∷ [])
unfolding run said
leads_mark m bytes h = record {
  run = ap (λ (r : Result Message MessageFault). closed r then (λ q. run q [])) h;
  said = ap (λ (r : Result Message MessageFault). good r ++ onwards (closed r) (λ q. said q [])) h;
}

pub leads_message : (m : Message) → IsShort m → Leads (inside []) (written (cut m)) (inside []) (m ∷ [])
leads_message m h =
    subst (λ (l : List Sign). Leads (inside []) l (inside []) (m ∷ [])) (sym (written_cut m))
    (leads_then (inside []) (inside (message_bytes m)) (inside []) (map byte (message_bytes m)) (mark ∷ []) [] (m ∷ [])
    (leads_bytes [] (message_bytes m) (omega (arith, bytes_length (message_words m))))
    (leads_mark m (message_bytes m) (read_back m h)))

pub leads_messages : (ms : List Message) → AllByRecursion IsShort ms → Leads (inside []) (written (flat_map cut ms)) (inside []) ms
unfolding run said
leads_messages [] h = record { run = refl; said = refl }
leads_messages (m ∷ ms) h =
    subst (λ (l : List Sign). Leads (inside []) l (inside []) (m ∷ ms)) (sym (flat_map-append signs (cut m) (flat_map cut ms)))
    (leads_then (inside []) (inside []) (inside []) (written (cut m)) (written (flat_map cut ms)) (m ∷ []) ms (leads_message m h.0) (leads_messages ms h.1))

-- the versions and messages that are cut are heard as these messages
leads_all : (ms : List Message) → AllByRecursion IsShort ms → Leads (opening []) (written (items_of ms)) (inside []) ms
unfolding run said
leads_all ms h = let g = leads_messages ms h in record { run = g.run; said = g.said }

pub record AreHeard (ms : List Message) : Type 0 where
  pub said : conversation (items_of ms) ≡ ms
  pub run : ending (items_of ms) ≡ Ok (inside [])

pub leads_items : (ms : List Message) → AllByRecursion IsShort ms → AreHeard ms
leads_items ms h = let g = leads_all ms h in record { said = conversation_is (items_of ms) ∙ g.said; run = ending_is (items_of ms) ∙ g.run }

-- bytes whose words say a message are read as it
pub spelled_is_read : (bytes : List ℕ) (m : Message) → length bytes % 2 ≡ 0 → SpellsMessage m (words_of bytes) → message_of bytes ≡ Ok m
spelled_is_read bytes m even h =
    let size = h.size in
    even_message bytes (λ odd. omega (arith, even, odd))
    ∙ ap (λ (ws : List ℕ). unless_long bytes (message_in ws)) h.spells
    ∙ ap (unless_long bytes) (message_back m)
    ∙ short_message bytes m (omega (arith, size, even, words_length bytes))
