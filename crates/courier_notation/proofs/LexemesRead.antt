-- Lexemes that are written with a blank behind each are read again.
use Rattle.std.proofs.Common.{◌≡◌, ℕ, zero, suc, ◌+◌, ◌-◌, ◌^◌, ◌<◌, ◌≤◌, ◌==◌, Bool, true, false, cond, List, [], ◌∷◌, ◌++◌, length, Option, Some, None, Result, Ok, Err, refl, sym, ap, ◌∙◌, append_assoc, arith, rules}
use Rattle.std.specs.Fmt.{decimal}
use Rattle.std.specs.List.{AllByRecursion, list_all}
use Rattle.std.proofs.lemmas.Bool.{and_parts, lt-ltb, le-leb}
use Rattle.std.proofs.lemmas.Bool.Decides.{nat_tests}
use Rattle.std.proofs.lemmas.Fmt.{decimal_nonempty, digits_decimal, digits_value-decimal}
use Rattle.std.proofs.lemmas.Str.Parse.{IsNumeralModel, numerals_by_fold}
use Rattle.courier_notation.specs.declared.reason.Reason.TheVariants as reasons
use Rattle.courier_notation.specs.declared.token.Token.{Token}
use Rattle.courier_notation.specs.declared.token.Token.TheVariants as tokens
use Rattle.courier_notation.specs.Reading.{Fault}
use Rattle.courier_notation.specs.Lexing.{is_blank, is_letter, is_digit, is_name_byte, is_no_quote, skipped, passing_front, behind_front, digits_number, long_of, token_spelling, keyword_of, most_name, LexemeModel, LexemeRead, keyword_or_name, word_lexeme, number_or_fault, number_at, quoted_ended, quoted_at, lexeme_at, lexeme_in, Lexing, nothing_read, with_lexeme, lexed_at, lexed_from, most_tokens, most_text, lexing_of}
use Rattle.courier_notation.specs.LexemeSpelling.{lexeme_spelling, IsPlain, IsWord, IsLexeme, lexemes_spelling, lexing_with}
use Rattle.courier_notation.specs.Laws.{SpelledLexemesAreRead}

-- bytes that pass a test, up to one that fails it
front_up : (test : ℕ → Bool) (bytes : List ℕ) (q : ℕ) (text : List ℕ) → list_all test bytes ≡ true → test q ≡ false → passing_front test (bytes ++ q ∷ text) ≡ bytes
front_up test [] q text h f = ap (λ (t : Bool). cond t (q ∷ passing_front test text) []) f
front_up test (b ∷ bytes) q text h f =
    let p = and_parts (test b) (list_all test bytes) h in
    ap (λ (t : Bool). cond t (b ∷ passing_front test (bytes ++ q ∷ text)) []) p.0 ∙ ap (λ (l : List ℕ). b ∷ l) (front_up test bytes q text p.1 f)

behind_up : (test : ℕ → Bool) (bytes : List ℕ) (q : ℕ) (text : List ℕ) → list_all test bytes ≡ true → test q ≡ false → behind_front test (bytes ++ q ∷ text) ≡ q ∷ text
behind_up test [] q text h f = ap (λ (t : Bool). cond t (behind_front test text) (q ∷ text)) f
behind_up test (b ∷ bytes) q text h f =
    let p = and_parts (test b) (list_all test bytes) h in
    ap (λ (t : Bool). cond t (behind_front test (bytes ++ q ∷ text)) (b ∷ bytes ++ q ∷ text)) p.0 ∙ behind_up test bytes q text p.1 f

-- ---- blanks

skip_blank : (text : List ℕ) → skipped false (32 ∷ text) ≡ skipped false text
unfolding skipped
skip_blank [] = refl
skip_blank (b ∷ text) = refl

first_clean : (b c : ℕ) (text : List ℕ) → (b == 45) ≡ false → is_blank b ≡ false → skipped false (b ∷ c ∷ text) ≡ b ∷ c ∷ text
unfolding skipped
first_clean b c text e f = rw (e, f) refl

-- one byte or more, and a blank
word_clean : (b : ℕ) (bytes text : List ℕ) → (b == 45) ≡ false → is_blank b ≡ false → skipped false ((b ∷ bytes) ++ 32 ∷ text) ≡ (b ∷ bytes) ++ 32 ∷ text
word_clean b [] text e f = first_clean b 32 text e f
word_clean b (c ∷ bytes) text e f = first_clean b c (bytes ++ 32 ∷ text) e f

letter_dash : (b : ℕ) → is_letter b ≡ true → (b == 45) ≡ false
letter_dash b h = grind (arith, nat_tests)

letter_blank : (b : ℕ) → is_letter b ≡ true → is_blank b ≡ false
letter_blank b h = grind (arith, nat_tests)

digit_dash : (b : ℕ) → is_digit b ≡ true → (b == 45) ≡ false
digit_dash b h = grind (arith, nat_tests)

digit_blank : (b : ℕ) → is_digit b ≡ true → is_blank b ≡ false
digit_blank b h = grind (arith, nat_tests)

digit_letter : (b : ℕ) → is_digit b ≡ true → is_letter b ≡ false
digit_letter b h = grind (arith, nat_tests)

-- ---- names

named : (k : Option Token) (word behind : List ℕ) (whole : ℕ) → k ≡ None → length word ≤ most_name → keyword_or_name k word behind whole ≡ Ok (LexemeModel.name word, behind)
named (Some t) word behind whole e h = absurd (cc)
named None word behind whole e h =
    ap (λ (t : Bool). cond {A = LexemeRead} t (Ok (LexemeModel.name word, behind)) (Err (whole, reasons.LongName))) (le-leb (length word) most_name h)

word_read : (word text : List ℕ) → list_all is_name_byte word ≡ true → keyword_of word ≡ None → length word ≤ most_name → word_lexeme (word ++ 32 ∷ text) ≡ Ok (LexemeModel.name word, 32 ∷ text)
word_read word text h k few =
    let whole = length (word ++ 32 ∷ text) in
    ap (λ (w : List ℕ). keyword_or_name (keyword_of w) w (behind_front is_name_byte (word ++ 32 ∷ text)) whole) (front_up is_name_byte word 32 text h refl)
    ∙ ap (λ (l : List ℕ). keyword_or_name (keyword_of word) word l whole) (behind_up is_name_byte word 32 text h refl)
    ∙ named (keyword_of word) word (32 ∷ text) whole k few

by_letter : (b : ℕ) (bytes : List ℕ) → is_letter b ≡ true → lexeme_at b bytes ≡ word_lexeme (b ∷ bytes)
unfolding lexeme_at
by_letter b bytes h = rw h refl

name_read : (word text : List ℕ) → IsWord word → lexeme_in (word ++ 32 ∷ text) ≡ Ok (LexemeModel.name word, 32 ∷ text)
name_read [] text h = absurd h
name_read (b ∷ bytes) text h = by_letter b (bytes ++ 32 ∷ text) h.0 ∙ word_read (b ∷ bytes) text h.1 h.2 h.3

name_clean : (word text : List ℕ) → IsWord word → skipped false (word ++ 32 ∷ text) ≡ word ++ 32 ∷ text
name_clean [] text h = absurd h
name_clean (b ∷ bytes) text h = word_clean b bytes text (letter_dash b h.0) (letter_blank b h.0)

-- ---- numbers

own : IsNumeralModel (λ ds. list_all is_digit ds ≡ true) (digits_number 0)
own = numerals_by_fold _ (search rules) digits_number (search rules)

number_is : (o : Option ℕ) (n : ℕ) (behind : List ℕ) (whole : ℕ) → o ≡ Some n → number_or_fault o behind whole ≡ Ok (LexemeModel.plain (tokens.Number n), behind)
number_is (Some m) n behind whole e = let same : m ≡ n = cc in ap (λ (k : ℕ). Ok (LexemeModel.plain (tokens.Number k), behind)) same
number_is None n behind whole e = absurd (cc)

fits_long : (n : ℕ) → n < 4294967296 → long_of n ≡ Some n
fits_long n h = ap (λ (t : Bool). cond {A = Option ℕ} t (Some n) None) (lt-ltb n 4294967296 h)

digits_read : (ds text : List ℕ) (n : ℕ) → list_all is_digit ds ≡ true → digits_number 0 ds ≡ n → n < 4294967296 → number_at (ds ++ 32 ∷ text) ≡ Ok (LexemeModel.plain (tokens.Number n), 32 ∷ text)
digits_read ds text n h e lt =
    let whole = length (ds ++ 32 ∷ text) in
    ap (λ (l : List ℕ). number_or_fault (long_of (digits_number 0 (passing_front is_digit (ds ++ 32 ∷ text)))) l whole) (behind_up is_digit ds 32 text h refl)
    ∙ number_is (long_of (digits_number 0 (passing_front is_digit (ds ++ 32 ∷ text)))) n (32 ∷ text) whole
    (ap (λ (l : List ℕ). long_of (digits_number 0 l)) (front_up is_digit ds 32 text h refl) ∙ ap long_of e ∙ fits_long n lt)

by_digit : (b : ℕ) (bytes : List ℕ) → is_digit b ≡ true → lexeme_at b bytes ≡ number_at (b ∷ bytes)
unfolding lexeme_at
by_digit b bytes h = rw (digit_letter b h, h) refl

number_read : (ds text : List ℕ) (n : ℕ) → 0 < length ds → list_all is_digit ds ≡ true → digits_number 0 ds ≡ n → n < 4294967296 → lexeme_in (ds ++ 32 ∷ text) ≡ Ok (LexemeModel.plain (tokens.Number n), 32 ∷ text)
number_read [] text n some h e lt = absurd (omega arith)
number_read (d ∷ ds) text n some h e lt = by_digit d (ds ++ 32 ∷ text) (and_parts (is_digit d) (list_all is_digit ds) h).0 ∙ digits_read (d ∷ ds) text n h e lt

number_clean : (ds text : List ℕ) → 0 < length ds → list_all is_digit ds ≡ true → skipped false (ds ++ 32 ∷ text) ≡ ds ++ 32 ∷ text
number_clean [] text some h = absurd (omega arith)
number_clean (d ∷ ds) text some h =
    let digit = (and_parts (is_digit d) (list_all is_digit ds) h).0 in
    word_clean d ds text (digit_dash d digit) (digit_blank d digit)

wide : (n : ℕ) → n < 4294967296 → n < 2 ^ 64
wide n h = omega arith

-- ---- all lexemes

string_read : (string text : List ℕ) → list_all is_no_quote string ≡ true → quoted_at (string ++ 34 ∷ (32 ∷ text)) ≡ Ok (LexemeModel.quoted string, 32 ∷ text)
string_read string text h =
    let whole = length (string ++ 34 ∷ (32 ∷ text)) + 1 in
    ap (λ (l : List ℕ). quoted_ended l (behind_front is_no_quote (string ++ 34 ∷ (32 ∷ text))) whole) (front_up is_no_quote string 34 (32 ∷ text) h refl)
    ∙ ap (λ (l : List ℕ). quoted_ended string l whole) (behind_up is_no_quote string 34 (32 ∷ text) h refl)

plain_read : (t : Token) (text : List ℕ) → IsPlain t → lexeme_in (token_spelling t ++ 32 ∷ text) ≡ Ok (LexemeModel.plain t, 32 ∷ text)
unfolding lexeme_at
plain_read (tokens.Name n) text h = absurd h
plain_read (tokens.Quoted n) text h = absurd h
plain_read (tokens.Number n) text h = number_read (decimal n) text n (decimal_nonempty n (wide n h)) (digits_decimal own n (wide n h)) (digits_value-decimal own n (wide n h)) h
plain_read t text h = refl

plain_clean : (t : Token) (text : List ℕ) → IsPlain t → skipped false (token_spelling t ++ 32 ∷ text) ≡ token_spelling t ++ 32 ∷ text
unfolding skipped
plain_clean (tokens.Name n) text h = absurd h
plain_clean (tokens.Quoted n) text h = absurd h
plain_clean (tokens.Number n) text h = number_clean (decimal n) text (decimal_nonempty n (wide n h)) (digits_decimal own n (wide n h))
plain_clean t text h = refl

by_quote : (bytes : List ℕ) → lexeme_at 34 bytes ≡ quoted_at bytes
unfolding lexeme_at
by_quote bytes = refl

lexeme_read : (x : LexemeModel) (text : List ℕ) → IsLexeme x → lexeme_in (lexeme_spelling x ++ 32 ∷ text) ≡ Ok (x, 32 ∷ text)
lexeme_read (LexemeModel.plain t) text h = plain_read t text h
lexeme_read (LexemeModel.name word) text h = name_read word text h
lexeme_read (LexemeModel.quoted string) text h =
    by_quote ((string ++ 34 ∷ []) ++ 32 ∷ text) ∙ ap quoted_at (append_assoc string (34 ∷ []) (32 ∷ text)) ∙ string_read string text h

lexeme_clean : (x : LexemeModel) (text : List ℕ) → IsLexeme x → skipped false (lexeme_spelling x ++ 32 ∷ text) ≡ lexeme_spelling x ++ 32 ∷ text
lexeme_clean (LexemeModel.plain t) text h = plain_clean t text h
lexeme_clean (LexemeModel.name word) text h = name_clean word text h
lexeme_clean (LexemeModel.quoted string) text h = word_clean 34 (string ++ 34 ∷ []) text refl refl

-- ---- texts

at_some : (more : Lexing → List ℕ → Result Lexing Fault) (lexing : Lexing) (text : List ℕ) (x : LexemeModel × List ℕ) → lexeme_in text ≡ Ok x → lexed_at more lexing text ≡ more (with_lexeme x.0 (length text) lexing) x.1
unfolding lexed_at
at_some more lexing [] x e = absurd (cc)
at_some more lexing (b ∷ bytes) x e = rw e refl

at_none : (more : Lexing → List ℕ → Result Lexing Fault) (lexing : Lexing) → lexed_at more lexing [] ≡ Ok lexing
unfolding lexed_at
at_none more lexing = refl

step : (n : ℕ) (lexing : Lexing) (text : List ℕ) → lexed_from (suc n) lexing text ≡ lexed_at (lexed_from n) lexing (skipped false text)
unfolding lexed_from
step n lexing text = refl

none_skipped : skipped false [] ≡ []
unfolding skipped
none_skipped = refl

lexemes_read : (n : ℕ) (xs : List LexemeModel) (lexing : Lexing) → length xs ≤ n → AllByRecursion IsLexeme xs → lexed_from (suc n) lexing (lexemes_spelling xs) ≡ Ok (lexing_with lexing xs)
lexemes_read n [] lexing few h = step n lexing [] ∙ ap (lexed_at (lexed_from n) lexing) none_skipped ∙ at_none (lexed_from n) lexing
lexemes_read zero (x ∷ xs) lexing few h = absurd (omega arith)
lexemes_read (suc n) (x ∷ xs) lexing few h =
    let rest = lexemes_spelling xs in
    let text = lexeme_spelling x ++ 32 ∷ rest in
    let next = with_lexeme x (length text) lexing in
    step (suc n) lexing text ∙ ap (lexed_at (lexed_from (suc n)) lexing) (lexeme_clean x rest h.0)
    ∙ at_some (lexed_from (suc n)) lexing text (x, 32 ∷ rest) (lexeme_read x rest h.0)
    ∙ step n next (32 ∷ rest) ∙ ap (lexed_at (lexed_from n) next) (skip_blank rest) ∙ sym (step n next rest)
    ∙ lexemes_read n xs next (omega arith) h.1

short : (text : List ℕ) → length text ≤ most_text → lexing_of text ≡ lexed_from most_tokens nothing_read text
unfolding lexing_of
short text h = ap (λ (t : Bool). cond {A = Result Lexing Fault} t (lexed_from most_tokens nothing_read text) (Err (length text - most_text, reasons.TooLong))) (le-leb (length text) most_text h)

pub spelled_read : SpelledLexemesAreRead
spelled_read xs h few fits = short (lexemes_spelling xs) fits ∙ lexemes_read 65535 xs nothing_read (omega arith) h
