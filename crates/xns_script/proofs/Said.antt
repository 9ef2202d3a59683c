-- Calls that a line can make.
use Rattle.std.proofs.Common.{◌≡◌, ◌∙◌, ap, refl, arith, ℕ, suc, ◌≤◌, ◌==◌, Bool, true, false, cond, List, [], ◌∷◌, ◌++◌, length, map, Option, Some, None, codes}
use Rattle.std.specs.Prelude.{◌&&◌, nat_le, IfSome, option_map}
use Rattle.std.specs.Str.{bytes_eq}
use Rattle.std.proofs.lemmas.Bool.{le-leb, leb-true, lt-ltb}
use Rattle.std.proofs.lemmas.List.Folds.{list_all-append}
use Rattle.std.proofs.lemmas.List.{map-append}
use Rattle.courier_messages.specs.RawCalls.{most_call_words}
use Rattle.courier_calls.specs.declared.call.Call.{Call}
use Rattle.courier_calls.specs.Calls.{call_model}
use Rattle.item_world.specs.declared.event.Event.{Event}
use Rattle.item_world.specs.declared.side.Side.{Side}
use Rattle.xns_script.specs.Command.{CommandModel, add_call, calls, command_in, command_of, foreign_of, happens, raw_call_of, skips}
use Rattle.xns_script.specs.Saying.{are_said, can_be_said}
use Rattle.xns_script.specs.Word.{all_hex_words, and_more, digits_from, hex_word_of, is_dash, number_of, put_byte, raw_words_of, words_of_line}

abbrev pub is_said_command : Option CommandModel → Bool
is_said_command (Some (calls c)) = can_be_said c
is_said_command (Some (happens e)) = true
is_said_command (Some skips) = true
is_said_command None = true

either : (b : Bool) (x y : Option CommandModel) → is_said_command x ≡ true → is_said_command y ≡ true → is_said_command (cond b x y) ≡ true
either true x y p q = p
either false x y p q = q

-- ---- numbers and words

tested_small : (p q : Bool) (n most : ℕ) → (p ≡ true → n ≤ most) → IfSome (cond p (cond q (Some n) None) None) (λ m. m ≤ most)
tested_small true true n most h = h refl
tested_small true false n most h = tt
tested_small false q n most h = tt

number_small : (most : ℕ) (word : List ℕ) → IfSome (number_of most word) (λ n. n ≤ most)
unfolding number_of
number_small most word = tested_small (nat_le (digits_from 0 word) most) _ (digits_from 0 word) most (leb-true (digits_from 0 word) most)

put_count : (b : Bool) (byte n : ℕ) (words : List (List ℕ)) → length words ≤ n → length (cond b ([] ∷ words) (put_byte byte words)) ≤ suc n
put_count true byte n words h = omega arith
put_count false byte n [] h = omega arith
put_count false byte n (word ∷ words) h = omega arith

words_count : (line : List ℕ) → length (words_of_line line) ≤ suc (length line)
unfolding words_of_line
words_count [] = omega arith
words_count (x ∷ line) = put_count (x == 32) x (suc (length line)) (words_of_line line) (words_count line)

more_count : (o : Option ℕ) (r : Option (List ℕ)) (n : ℕ) → IfSome r (λ ws. length ws ≤ n) → IfSome (and_more o r) (λ ws. length ws ≤ suc n)
more_count None r n h = tt
more_count (Some w) None n h = tt
more_count (Some w) (Some ws) n h = omega arith

hex_count : (words : List (List ℕ)) → IfSome (all_hex_words words) (λ ws. length ws ≤ length words)
hex_count [] = omega arith
hex_count (word ∷ words) = more_count (hex_word_of word) (all_hex_words words) (length words) (hex_count words)

if_count : (b : Bool) (r : Option (List ℕ)) (n : ℕ) → IfSome r (λ ws. length ws ≤ n) → IfSome (cond b (Some []) r) (λ ws. length ws ≤ n)
if_count true r n h = omega arith
if_count false r n h = h

raw_count : (words : List (List ℕ)) → IfSome (raw_words_of words) (λ ws. length ws ≤ length words)
raw_count [] = tt
raw_count (word ∷ words) = if_count (is_dash (word ∷ words)) (all_hex_words (word ∷ words)) (length (word ∷ words)) (hex_count (word ∷ words))

-- ---- commands

happens_said : (f : ℕ → Event) (o : Option ℕ) → is_said_command (option_map (λ k. happens (f k)) o) ≡ true
happens_said f None = refl
happens_said f (Some k) = refl

side_said : (f : Side → Event) (o : Option Side) → is_said_command (option_map (λ k. happens (f k)) o) ≡ true
side_said f None = refl
side_said f (Some k) = refl

add_said : (o : Option ℕ) → IfSome o (λ n. n ≤ 65535) → is_said_command (option_map (λ n. calls (add_call n)) o) ≡ true
add_said None h = refl
add_said (Some n) h = lt-ltb n 65536 (omega arith)

foreign_said : (s : Option Side) (bs : Option (List ℕ)) → is_said_command (foreign_of s bs) ≡ true
foreign_said None bs = refl
foreign_said (Some s) None = refl
foreign_said (Some s) (Some bs) = refl

raw_said : (p v q : Option ℕ) (ws : Option (List ℕ)) → IfSome ws (λ xs. length xs ≤ most_call_words) → is_said_command (raw_call_of p v q ws) ≡ true
raw_said None v q ws h = refl
raw_said (Some p) None q ws h = refl
raw_said (Some p) (Some v) None ws h = refl
raw_said (Some p) (Some v) (Some q) None h = refl
raw_said (Some p) (Some v) (Some q) (Some ws) h = le-leb (length ws) most_call_words h

weaker : (o : Option (List ℕ)) (m n : ℕ) → m ≤ n → IfSome o (λ ws. length ws ≤ m) → IfSome o (λ ws. length ws ≤ n)
weaker None m n le h = tt
weaker (Some ws) m n le h = omega arith

words_said : (words : List (List ℕ)) → length words ≤ most_call_words → is_said_command (command_in words) ≡ true
words_said [] le = refl
words_said (a ∷ []) le = either (bytes_eq a (codes "rest")) _ _ refl refl
words_said (a ∷ b ∷ []) le =
    either (bytes_eq a (codes "deliver")) _ _ (happens_said _ _)
    (either (bytes_eq a (codes "tick")) _ _ (side_said _ _) (either (bytes_eq a (codes "call") && bytes_eq b (codes "total")) _ _ refl refl))
words_said (a ∷ b ∷ c ∷ []) le =
    either (bytes_eq a (codes "call") && bytes_eq b (codes "add")) _ _ (add_said (number_of 65535 c) (number_small 65535 c))
    (either (bytes_eq a (codes "foreign")) _ _ (foreign_said _ _) refl)
words_said (a ∷ b ∷ c ∷ d ∷ []) le = refl
words_said (a ∷ b ∷ p ∷ v ∷ q ∷ words) le =
    either (bytes_eq a (codes "call") && bytes_eq b (codes "raw")) _ _
    (raw_said (number_of 4294967295 p) (number_of 65535 v) (number_of 65535 q) (raw_words_of words) (weaker (raw_words_of words) (length words) most_call_words (omega arith) (raw_count words))) refl

pub line_said : (line : List ℕ) → length line ≤ 4096 → is_said_command (command_of line) ≡ true
unfolding command_of
line_said [] short = refl
line_said (x ∷ line) short = either (x == 35) _ _ refl (words_said (words_of_line (x ∷ line)) (omega (arith, words_count (x ∷ line))))

-- ---- a script with one more call

pub pushed_said : (b : Bool) (old new : List Call) (x : Call) → new ≡ cond b (old ++ x ∷ []) old → are_said (map call_model old) ≡ true → can_be_said (call_model x) ≡ true → are_said (map call_model new) ≡ true
pushed_said true old new x e before here =
    ap (λ cs. are_said (map call_model cs)) e ∙ ap are_said (map-append call_model old (x ∷ [])) ∙ list_all-append can_be_said (map call_model old) (call_model x ∷ [])
    ∙ ap (λ p. p && (can_be_said (call_model x) && true)) before ∙ ap (λ p. p && true) here
pushed_said false old new x e before here = ap (λ cs. are_said (map call_model cs)) e ∙ before
