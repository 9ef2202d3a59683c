-- The names that are lexed are plain, and so the types of a program that is read are named.
use Rattle.std.proofs.Common.{◌≡◌, ℕ, zero, suc, ◌==◌, ◌||◌, Bool, true, false, cond, List, [], ◌∷◌, ◌++◌, length, Option, Some, None, Result, Ok, Err, refl, ap, subst, nat_le, arith}
use Rattle.std.proofs.lemmas.Bool.{and_from, and_parts}
use Rattle.std.proofs.lemmas.Bool.Decides.{nat_tests}
use Rattle.std.specs.List.{list_all}
use Rattle.std.specs.Str.{bytes_eq}
use Rattle.courier_notation.specs.declared.token.Token.{Token}
use Rattle.courier_notation.specs.declared.token.Token.TheVariants as tokens
use Rattle.courier_notation.specs.Lexing.{LexemeModel, LexemeRead, Lexing, behind_front, digits_number, equal_at, passing_front, is_digit, is_letter, is_name_byte, is_no_quote, keyword_of, keyword_or_name, keywords, lexed_at, lexed_from, lexeme_at, lexeme_in, lexing_of, long_of, mark_at, mark_of, most_name, most_text, most_tokens, nothing_read, number_or_fault, quoted_ended, skipped, token_among, token_spelling, with_lexeme}
use Rattle.courier_notation.specs.ProgramModels.{ProgramModel}
use Rattle.courier_notation.specs.Programs.{program_of}
use Rattle.courier_notation.specs.Reading.{Fault}
use Rattle.courier_notation.proofs.ProgramSound.{program_spelled}
use Rattle.courier_notation.proofs.Failing.{bind_ok, ok_is}
use Rattle.courier_texts.specs.Laws.{is_plain, is_plain_name}
use Rattle.courier_programs.specs.declared.program.Program.{Program}
use Rattle.courier_programs.specs.Laws.{AreTypesNamed, ReadTypesAreNamed}
use Rattle.courier_programs.specs.Meanings.{ResolvedModel}
use Rattle.courier_programs.specs.Faults.{NameFault}
use Rattle.courier_programs.specs.Resolving.{resolved}
use Rattle.courier_programs.specs.Texts.{lexed_told, name_told, text_meant, written_told}
use Rattle.courier_programs.proofs.ProgramsNamed.{AreBefore, resolved_named}
use Rattle.courier_programs.proofs.TypesNamed.{IsPlainIn, all_more}
use Rattle.courier_programs.proofs.WrittenNamed.{AreKnown, IsKnown, program_in}

-- ---- lexemes

abbrev is_no_name : Token → Bool
is_no_name (tokens.Name n) = false
is_no_name _ = true

abbrev NoName : Token → Type 0
NoName t = is_no_name t ≡ true

abbrev IfNoName : Option Token → Type 0
IfNoName None = Unit {0}
IfNoName (Some t) = NoName t

-- a lexeme is a plain name, or no name
abbrev IsFine : LexemeModel → Type 0
IsFine (LexemeModel.plain t) = NoName t
IsFine (LexemeModel.name word) = is_plain_name word ≡ true
IsFine (LexemeModel.quoted string) = Unit {0}

abbrev ReadsFine : LexemeRead → Type 0
ReadsFine r = (x : LexemeModel × List ℕ) → r ≡ Ok x → IsFine x.0

either : (b : Bool) (t : Token) (o : Option Token) → NoName t → IfNoName o → IfNoName (cond b (Some t) o)
either true t o here other = here
either false t o here other = other

-- the token of the first test that holds
first_of : List (Bool × Token) → Option Token
first_of [] = None
first_of (x ∷ xs) = cond x.0 (Some x.1) (first_of xs)

first_is_no_name : (xs : List (Bool × Token)) → list_all (λ x. is_no_name x.1) xs ≡ true → IfNoName (first_of xs)
unfolding first_of
first_is_no_name [] h = tt
first_is_no_name (x ∷ xs) h =
    let p = and_parts (is_no_name x.1) (list_all (λ y. is_no_name y.1) xs) h in
    either x.0 x.1 (first_of xs) p.0 (first_is_no_name xs p.1)

among_is_no_name : (ts : List Token) (word : List ℕ) → list_all is_no_name ts ≡ true → IfNoName (token_among ts word)
among_is_no_name [] word h = tt
among_is_no_name (t ∷ ts) word h =
    let p = and_parts (is_no_name t) (list_all is_no_name ts) h in
    either (bytes_eq word (token_spelling t)) t (token_among ts word) p.0 (among_is_no_name ts word p.1)

keyword_is_no_name : (word : List ℕ) → IfNoName (keyword_of word)
keyword_is_no_name word = among_is_no_name keywords word refl

mark_is_no_name : (byte : ℕ) → IfNoName (mark_of byte)
unfolding first_of
mark_is_no_name byte =
    first_is_no_name
    ((byte == 58, tokens.Colon) ∷ (byte == 59, tokens.Semicolon) ∷ (byte == 44, tokens.Comma) ∷ (byte == 46, tokens.Dot) ∷ (byte == 45, tokens.Minus) ∷ (byte == 40, tokens.OpenParenthesis) ∷ (byte == 41, tokens.CloseParenthesis) ∷ (byte == 91, tokens.OpenBracket) ∷ (byte == 93, tokens.CloseBracket) ∷ (byte == 123, tokens.OpenBrace) ∷ (byte == 125, tokens.CloseBrace) ∷ [])
    refl

fine : (m : LexemeModel) (rest : List ℕ) → IsFine m → ReadsFine (Ok (m, rest))
fine m rest good x is = subst (λ (y : LexemeModel × List ℕ). IsFine y.0) (ok_is (m, rest) x is) good

refused : (e : Fault) → ReadsFine (Err e)
refused e x is = absurd (cc)

by_test : (b : Bool) (r s : LexemeRead) → (b ≡ true → ReadsFine r) → ReadsFine s → ReadsFine (cond b r s)
by_test true r s here other = here refl
by_test false r s here other = other

name_byte_is_plain : (b : ℕ) → is_name_byte b ≡ true → is_plain b ≡ true
name_byte_is_plain b h = grind (arith, nat_tests)

letter_is_name_byte : (b : ℕ) → is_letter b ≡ true → is_name_byte b ≡ true
letter_is_name_byte b h = ap (λ (t : Bool). t || is_digit b) h

front_step : (t : Bool) (b : ℕ) (rest : List ℕ) → (t ≡ true → is_plain b ≡ true) → list_all is_plain rest ≡ true → list_all is_plain (cond t (b ∷ rest) []) ≡ true
front_step true b rest plain more = and_from (is_plain b) (list_all is_plain rest) (plain refl) more
front_step false b rest plain more = refl

front_is_plain : (bytes : List ℕ) → list_all is_plain (passing_front is_name_byte bytes) ≡ true
front_is_plain [] = refl
front_is_plain (b ∷ bytes) = front_step (is_name_byte b) b (passing_front is_name_byte bytes) (name_byte_is_plain b) (front_is_plain bytes)

word_step : (t : Bool) (b : ℕ) (rest : List ℕ) → t ≡ true → is_plain b ≡ true → list_all is_plain rest ≡ true → is_plain_name (cond t (b ∷ rest) []) ≡ true
word_step true b rest test plain more = and_from (is_plain b) (list_all is_plain rest) plain more
word_step false b rest test plain more = absurd (cc)

word_is_plain : (b : ℕ) (bytes : List ℕ) → is_letter b ≡ true → is_plain_name (passing_front is_name_byte (b ∷ bytes)) ≡ true
word_is_plain b bytes letter =
    let test = letter_is_name_byte b letter in
    word_step (is_name_byte b) b (passing_front is_name_byte bytes) test (name_byte_is_plain b test) (front_is_plain bytes)

keyword_fine : (o : Option Token) (word behind : List ℕ) (whole : ℕ) → IfNoName o → is_plain_name word ≡ true → ReadsFine (keyword_or_name o word behind whole)
keyword_fine (Some t) word behind whole none plain = fine (LexemeModel.plain t) behind none
keyword_fine None word behind whole none plain = by_test (nat_le (length word) most_name) _ _ (λ _. fine (LexemeModel.name word) behind plain) (refused _)

number_fine : (o : Option ℕ) (behind : List ℕ) (whole : ℕ) → ReadsFine (number_or_fault o behind whole)
number_fine (Some n) behind whole = fine (LexemeModel.plain (tokens.Number n)) behind refl
number_fine None behind whole = refused _

quoted_fine : (string rest : List ℕ) (whole : ℕ) → ReadsFine (quoted_ended string rest whole)
quoted_fine string [] whole = refused _
quoted_fine string (q ∷ rest) whole = fine (LexemeModel.quoted string) rest tt

equal_fine : (bytes : List ℕ) → ReadsFine (equal_at bytes)
equal_fine [] = fine (LexemeModel.plain tokens.Equal) [] refl
equal_fine (b ∷ bytes) = by_test (b == 62) _ _ (λ _. fine (LexemeModel.plain tokens.Arrow) bytes refl) (fine (LexemeModel.plain tokens.Equal) (b ∷ bytes) refl)

mark_fine : (o : Option Token) (bytes : List ℕ) → IfNoName o → ReadsFine (mark_at o bytes)
mark_fine (Some t) bytes none = fine (LexemeModel.plain t) bytes none
mark_fine None bytes none = refused _

lexeme_fine : (bytes : List ℕ) → ReadsFine (lexeme_in bytes)
unfolding lexeme_at
lexeme_fine [] = refused _
lexeme_fine (b ∷ bytes) =
    by_test (is_letter b) _ _ (λ letter. keyword_fine (keyword_of (passing_front is_name_byte (b ∷ bytes))) (passing_front is_name_byte (b ∷ bytes)) _ _ (keyword_is_no_name (passing_front is_name_byte (b ∷ bytes))) (word_is_plain b bytes letter))
    (by_test (is_digit b) _ _ (λ _. number_fine (long_of (digits_number 0 (passing_front is_digit (b ∷ bytes)))) _ _)
    (by_test (b == 34) _ _ (λ _. quoted_fine (passing_front is_no_quote bytes) (behind_front is_no_quote bytes) _)
    (by_test (b == 61) _ _ (λ _. equal_fine bytes) (mark_fine (mark_of b) bytes (mark_is_no_name b)))))

-- ---- tokens

name_more : (names : List (List ℕ)) (word : List ℕ) (n : ℕ) → IsPlainIn names n → IsPlainIn (names ++ word ∷ []) n
name_more [] word n plain = absurd (cc)
name_more (x ∷ names) word zero plain = plain
name_more (x ∷ names) word (suc n) plain = name_more names word n plain

token_more : (names : List (List ℕ)) (word : List ℕ) (t : Token) → IsKnown names t → IsKnown (names ++ word ∷ []) t
token_more names word (tokens.Name n) known = name_more names word n known
token_more names word t known = tt

tokens_more : (names : List (List ℕ)) (word : List ℕ) (ts : List Token) → AreKnown names ts → AreKnown (names ++ word ∷ []) ts
tokens_more names word [] known = tt
tokens_more names word (t ∷ ts) known = (token_more names word t known.0, tokens_more names word ts known.1)

last_name : (names : List (List ℕ)) (word : List ℕ) → is_plain_name word ≡ true → IsPlainIn (names ++ word ∷ []) (length names)
last_name [] word plain = plain
last_name (x ∷ names) word plain = last_name names word plain

no_name_known : (names : List (List ℕ)) (t : Token) → NoName t → IsKnown names t
no_name_known names (tokens.Name n) none = absurd (cc)
no_name_known names t none = tt

-- the names in the tokens that were read are plain
abbrev IsRead : Lexing → Type 0
IsRead l = AreKnown l.names l.tokens

lexeme_read : (m : LexemeModel) (left : ℕ) (l : Lexing) → IsFine m → IsRead l → IsRead (with_lexeme m left l)
lexeme_read (LexemeModel.plain t) left l good read = all_more (IsKnown l.names) l.tokens t read (no_name_known l.names t good)
lexeme_read (LexemeModel.name word) left l good read =
    all_more (IsKnown (l.names ++ word ∷ [])) l.tokens (tokens.Name (length l.names)) (tokens_more l.names word l.tokens read) (last_name l.names word good)
lexeme_read (LexemeModel.quoted string) left l good read = all_more (IsKnown l.names) l.tokens (tokens.Quoted (length l.strings)) read tt

read_at : (more : Lexing → List ℕ → Result Lexing Fault) → ((l : Lexing) (bytes : List ℕ) (end : Lexing) → more l bytes ≡ Ok end → IsRead l → IsRead end)
    → (l : Lexing) (bytes : List ℕ) (end : Lexing) → lexed_at more l bytes ≡ Ok end → IsRead l → IsRead end
unfolding lexed_at
read_at more goes l [] end is read = subst IsRead (ok_is l end is) read
read_at more goes l (b ∷ bytes) end is read =
    let x = bind_ok (lexeme_in (b ∷ bytes)) (λ x. more (with_lexeme x.0 (length (b ∷ bytes)) l) x.1) end is in
    goes (with_lexeme x.0.0 (length (b ∷ bytes)) l) x.0.1 end x.2 (lexeme_read x.0.0 (length (b ∷ bytes)) l (lexeme_fine (b ∷ bytes) x.0 x.1) read)

read_from : (most : ℕ) (l : Lexing) (bytes : List ℕ) (end : Lexing) → lexed_from most l bytes ≡ Ok end → IsRead l → IsRead end
unfolding lexed_from
read_from zero l bytes end is read = absurd (cc)
read_from (suc n) l bytes end is read = read_at (lexed_from n) (read_from n) l (skipped false bytes) end is read

within : (fits : Bool) (r : Result Lexing Fault) (fault : Fault) (end : Lexing) → cond fits r (Err fault) ≡ Ok end → r ≡ Ok end
within true r fault end is = is
within false r fault end is = absurd (cc)

text_read : (text : List ℕ) (end : Lexing) → lexing_of text ≡ Ok end → IsRead end
unfolding lexing_of
text_read text end is = read_from most_tokens nothing_read text end (within (nat_le (length text) most_text) (lexed_from most_tokens nothing_read text) _ end is) tt

-- ---- programs

by_names : (text : List ℕ) (lexing : Lexing) (r : Result ResolvedModel NameFault) (p : ResolvedModel) → name_told text lexing r ≡ Ok p → r ≡ Ok p
by_names text lexing (Ok q) p is = cc
by_names text lexing (Err (name, reason)) p is = absurd (cc)

by_program : (text : List ℕ) (before : List Program) (lexing : Lexing) (r : Result ProgramModel Fault) (p : ResolvedModel) → program_of lexing.tokens ≡ r → IsRead lexing → AreBefore before
    → written_told text before lexing r ≡ Ok p → AreTypesNamed p
by_program text before lexing (Ok w) p spelled read all is =
    resolved_named lexing.names before w p (by_names text lexing (resolved lexing.names before w) p is) all (program_in lexing.names lexing.tokens w (program_spelled lexing.tokens w spelled) read)
by_program text before lexing (Err (left, reason)) p spelled read all is = absurd (cc)

by_lexing : (text : List ℕ) (before : List Program) (r : Result Lexing Fault) (p : ResolvedModel) → lexing_of text ≡ r → AreBefore before → lexed_told text before r ≡ Ok p → AreTypesNamed p
by_lexing text before (Ok lexing) p lexed all is = by_program text before lexing (program_of lexing.tokens) p refl (text_read text lexing lexed) all is
by_lexing text before (Err (left, reason)) p lexed all is = absurd (cc)

pub types_are_named : ReadTypesAreNamed
unfolding text_meant
types_are_named text before p all is = by_lexing text before (lexing_of text) p refl all is
