-- The spelling of a type is read as that type.
use Rattle.std.proofs.Common.{◌≡◌, ℕ, zero, suc, ◌+◌, ◌<◌, ◌≤◌, Bool, true, cond, List, [], ◌∷◌, ◌++◌, length, Option, Some, None, Result, Ok, Err, refl, ap, subst, ◌∙◌, append_assoc, arith}
use Rattle.std.specs.List.{AllByRecursion}
use Rattle.courier_types.specs.declared.predefined.Predefined.{Predefined}
use Rattle.courier_types.specs.declared.predefined.Predefined.TheVariants as predefined_types
use Rattle.std.proofs.lemmas.Bool.{lt-ltb}
use Rattle.courier_notation.specs.declared.reason.Reason.{Reason}
use Rattle.courier_notation.specs.declared.reason.Reason.TheVariants as reasons
use Rattle.courier_notation.specs.declared.token.Token.{Token}
use Rattle.courier_notation.specs.declared.token.Token.TheVariants as tokens
use Rattle.courier_notation.specs.declared.written.Numeric.{Numeric}
use Rattle.courier_notation.specs.declared.written.Numeric.TheVariants as numerics
use Rattle.courier_notation.specs.declared.written.Reference.{Reference}
use Rattle.courier_notation.specs.declared.written.Reference.TheVariants as references
use Rattle.courier_notation.specs.Written.{TypeModel, FieldModels, no_fields, field_and, CandidateModels, no_candidates, candidate_and, Designator, fields_from, candidates_from}
use Rattle.courier_notation.specs.Failing.{◌>>=◌, over}
use Rattle.courier_notation.specs.Reading.{Fault, Reader, behind_comma, listed, most_parts, name_at, reference_behind, small_or_fault, numeric_at, token_at}
use Rattle.courier_notation.specs.Reading.{by_name, nested, in_parentheses, member_at, designator_behind, designator_at, group_at, field_at, fields_behind, fields_at, candidate_at, tag_at, maximum_at, enumeration_behind, array_behind, sequence_behind, choice_behind, type_behind, type_at}
use Rattle.courier_notation.specs.Spelling.{name_spelling, numeric_spelling, maximum_spelling, tag_spelling, member_spelling, designator_spelling, more_spelling, parts_spelling}
use Rattle.courier_notation.specs.Spelling.{type_spelling, fields_spelling, candidates_spelling, IsNumeric, IsNumberIfAny, AreParts, field_count, IsType, AreFields, is_apart}
use Rattle.courier_notation.proofs.Takes.{Any, GoodDesignator, GoodMember}
use Rattle.courier_notation.proofs.Groups.{GoodGroup, group_spelling, field_spelling, candidate_spelling, fields_kept, candidates_kept}

abbrev pub got : {A : Type 0} → A → List Token → Result (A × List Token) Fault
got x rest = Ok (x, rest)

-- ---- references and numbers

pub own_read : (n : ℕ) (ts : List Token) → is_apart ts ≡ true → reference_behind n ts ≡ got (references.Own n) ts
own_read n (tokens.Dot ∷ ts) h = absurd cc
own_read n ts h = refl

pub small_word : (n : ℕ) (ts : List Token) → n < 65536 → small_or_fault n ts ≡ got n ts
small_word n ts lt = ap (λ (b : Bool). cond b (got n ts) (Err (length ts + 1, reasons.LargeNumber))) (lt-ltb n 65536 lt)

numeric_read : (x : Numeric) (ts : List Token) → IsNumeric x → is_apart ts ≡ true → numeric_at (numeric_spelling x ++ ts) ≡ got x ts
unfolding numeric_at
numeric_read (numerics.Number n) ts good apart = ap (over numerics.Number) (small_word n ts good)
numeric_read (numerics.Constant (references.Own n)) ts good apart = ap (over numerics.Constant) (own_read n ts apart)
numeric_read (numerics.Constant (references.Other p n)) ts good apart = refl

tag_read : (x : Option Reference) (ts : List Token) → tag_at (tag_spelling x ++ tokens.Of ∷ ts) ≡ got x (tokens.Of ∷ ts)
tag_read None ts = refl
tag_read (Some (references.Own n)) ts = refl
tag_read (Some (references.Other p n)) ts = refl

maximum_read : (x : Option Numeric) (ts : List Token) → IsNumberIfAny x → maximum_at (maximum_spelling x ++ tokens.Of ∷ ts) ≡ got x (tokens.Of ∷ ts)
unfolding maximum_at
maximum_read None ts good = refl
maximum_read (Some (numerics.Number n)) ts good = ap (over Some) (numeric_read (numerics.Number n) (tokens.Of ∷ ts) good refl)
maximum_read (Some (numerics.Constant (references.Own n))) ts good = ap (over Some) (numeric_read (numerics.Constant (references.Own n)) (tokens.Of ∷ ts) good refl)
maximum_read (Some (numerics.Constant (references.Other p n))) ts good = ap (over Some) (numeric_read (numerics.Constant (references.Other p n)) (tokens.Of ∷ ts) good refl)

-- a number in parentheses
inside_read : (x : Numeric) (ts : List Token) → IsNumeric x → in_parentheses numeric_at (tokens.OpenParenthesis ∷ ((numeric_spelling x ++ tokens.CloseParenthesis ∷ []) ++ ts)) ≡ got x ts
unfolding in_parentheses
inside_read x ts good = rw (append_assoc (numeric_spelling x) (tokens.CloseParenthesis ∷ []) ts, numeric_read x (tokens.CloseParenthesis ∷ ts) good refl) refl

-- ---- lists

-- a spelling is read as what it spells, whatever follows that it could not go on with
abbrev pub IsComplete : {A : Type 0} → (A → List Token) → (A → Type 0) → Reader A → Type 0
IsComplete {A} spell Good one = (x : A) (rest : List Token) → Good x → is_apart rest ≡ true → one (spell x ++ rest) ≡ got x rest

-- the last part of a list
pub last_read : {A : Type 0} (one : Reader A) (most : ℕ) (ts : List Token) (x : A) (rest : List Token) → one ts ≡ got x rest → behind_comma rest ≡ None → listed one (suc most) ts ≡ got (x ∷ []) rest
unfolding listed
last_read one most ts x rest h comma = rw (h, comma) refl

-- a part behind which there are more
pub more_read : {A : Type 0} (one : Reader A) (most : ℕ) (ts : List Token) (x : A) (next : List Token) (xs : List A) (rest : List Token) → one ts ≡ got x (tokens.Comma ∷ next) → listed one most next ≡ got xs rest → listed one (suc most) ts ≡ got (x ∷ xs) rest
unfolding listed
more_read one most ts x next xs rest h g = rw (h, g) refl

listed_read : {A : Type 0} (spell : A → List Token) (Good : A → Type 0) (one : Reader A) → IsComplete spell Good one → (most : ℕ) (x : A) (xs : List A) (rest : List Token) → length (x ∷ xs) ≤ most → AllByRecursion Good (x ∷ xs) → is_apart rest ≡ true → behind_comma rest ≡ None
    → listed one most (parts_spelling spell (x ∷ xs) ++ rest) ≡ got (x ∷ xs) rest
listed_read spell Good one complete zero x xs rest few good apart comma = absurd (omega arith)
listed_read spell Good one complete (suc most) x [] rest few good apart comma =
    rw (append_assoc (spell x) [] rest) (last_read one most (spell x ++ rest) x rest (complete x rest good.0 apart) comma)
listed_read spell Good one complete (suc most) x (y ∷ ys) rest few good apart comma =
    let others = parts_spelling spell (y ∷ ys) ++ rest in
    let regrouped : parts_spelling spell (x ∷ y ∷ ys) ++ rest ≡ spell x ++ tokens.Comma ∷ others = append_assoc (spell x) (more_spelling spell (y ∷ ys)) rest in
    ap (λ (t : List Token). listed one (suc most) t) regrouped
    ∙ more_read one most (spell x ++ tokens.Comma ∷ others) x others (y ∷ ys) rest (complete x (tokens.Comma ∷ others) good.0 refl) (listed_read spell Good one complete most y ys rest (omega arith) good.1 apart comma)

pub some_read : {A : Type 0} (spell : A → List Token) (Good : A → Type 0) (one : Reader A) → IsComplete spell Good one → (xs : List A) (rest : List Token) → AreParts xs → AllByRecursion Good xs → is_apart rest ≡ true → behind_comma rest ≡ None
    → listed one most_parts (parts_spelling spell xs ++ rest) ≡ got xs rest
some_read spell Good one complete [] rest parts good apart comma = absurd (omega arith)
some_read spell Good one complete (x ∷ xs) rest parts good apart comma = listed_read spell Good one complete most_parts x xs rest parts.1 good apart comma

-- ---- parts of types

name_read : IsComplete name_spelling Any name_at
name_read x rest good apart = refl

member_read : IsComplete member_spelling GoodMember member_at
unfolding member_at
member_read x rest good apart = rw (inside_read x.1 rest good) refl

bare_read : (n : ℕ) (ts : List Token) → is_apart ts ≡ true → designator_behind n ts ≡ got (n, None) ts
unfolding designator_behind
bare_read n (tokens.OpenParenthesis ∷ ts) h = absurd cc
bare_read n ts h = refl

designator_read : IsComplete designator_spelling GoodDesignator designator_at
unfolding by_name designator_behind
designator_read (n, None) rest good apart = bare_read n rest apart
designator_read (n, Some x) rest good apart = rw (inside_read x rest good) refl

-- ---- types, where the types that stand in them are read

enumeration_read : (members : List (ℕ × Numeric)) (rest : List Token) → AreParts members → AllByRecursion GoodMember members → enumeration_behind ((parts_spelling member_spelling members ++ tokens.CloseBrace ∷ []) ++ rest) ≡ got (TypeModel.enumeration members) rest
unfolding enumeration_behind
enumeration_read members rest parts good =
    rw (append_assoc (parts_spelling member_spelling members) (tokens.CloseBrace ∷ []) rest, some_read member_spelling GoodMember member_at member_read members (tokens.CloseBrace ∷ rest) parts good refl refl) refl

-- types are read as they are spelled, where they stand so deep
abbrev IsTypeComplete : ℕ → Type 0
IsTypeComplete depth = IsComplete type_spelling (IsType depth) (type_at depth)

-- a front, and the type behind a mark
typed_read : {A B : Type 0} (one : Reader A) (mark : Token) (missing : Reason) → ((ts : List Token) → token_at mark missing (mark ∷ ts) ≡ Ok ts) → (depth : ℕ) (make : A → TypeModel → B) (front : List Token) (x : A) (type : TypeModel) (rest : List Token)
    → one (front ++ mark ∷ (type_spelling type ++ rest)) ≡ got x (mark ∷ (type_spelling type ++ rest)) → type_at depth (type_spelling type ++ rest) ≡ got type rest
    → (one ((front ++ mark ∷ type_spelling type) ++ rest) >>= λ front. token_at mark missing front.1 >>= λ rest. over (make front.0) (type_at depth rest)) ≡ got (make x type) rest
typed_read one mark missing is_mark depth make front x type rest first second =
    rw (append_assoc front (mark ∷ type_spelling type) rest, first, is_mark (type_spelling type ++ rest), second) refl

array_read : (depth : ℕ) → IsTypeComplete depth → (n : Numeric) (element : TypeModel) (rest : List Token) → IsNumeric n → IsType depth element → is_apart rest ≡ true → array_behind (type_at depth) ((numeric_spelling n ++ tokens.Of ∷ type_spelling element) ++ rest) ≡ got (TypeModel.array n element) rest
unfolding array_behind
array_read depth complete n element rest good typed apart =
    typed_read numeric_at tokens.Of reasons.NoOf (λ ts. refl) depth TypeModel.array (numeric_spelling n) n element rest (numeric_read n (tokens.Of ∷ (type_spelling element ++ rest)) good refl) (complete element rest typed apart)

sequence_read : (depth : ℕ) → IsTypeComplete depth → (most : Option Numeric) (element : TypeModel) (rest : List Token) → IsNumberIfAny most → IsType depth element → is_apart rest ≡ true → sequence_behind (type_at depth) ((maximum_spelling most ++ tokens.Of ∷ type_spelling element) ++ rest) ≡ got (TypeModel.sequence most element) rest
unfolding sequence_behind
sequence_read depth complete most element rest good typed apart =
    typed_read maximum_at tokens.Of reasons.NoOf (λ ts. refl) depth TypeModel.sequence (maximum_spelling most) most element rest (maximum_read most (type_spelling element ++ rest) good) (complete element rest typed apart)

-- ---- components and candidates

-- parts that are written together, and their type; the mark goes on with no part
group_read : {A : Type 0} (spell : A → List Token) (Good : A → Type 0) (one : Reader A) → IsComplete spell Good one → (mark : Token) (missing : Reason) → ((ts : List Token) → token_at mark missing (mark ∷ ts) ≡ Ok ts)
    → ((ts : List Token) → is_apart (mark ∷ ts) ≡ true) → ((ts : List Token) → behind_comma (mark ∷ ts) ≡ None) → (depth : ℕ) → IsTypeComplete depth → IsComplete (group_spelling spell mark) (GoodGroup Good depth) (group_at one (mark, missing) (type_at depth))
unfolding group_at
group_read spell Good one complete mark missing is_mark apart comma depth types g rest good behind =
    let type = type_spelling g.1 ++ rest in
    typed_read (listed one most_parts) mark missing is_mark depth (λ parts type. (parts, type)) (parts_spelling spell g.0) g.0 g.1 rest (some_read spell Good one complete g.0 (mark ∷ type) good.0 good.1 (apart type) (comma type)) (types g.1 rest good.2 behind)

-- every model of components is that of a list
fields_of : (fields : FieldModels) → (fs : List (List ℕ × TypeModel)) × (fields_from fs ≡ fields)
fields_of no_fields = ([], refl)
fields_of (field_and names type fields) = let others = fields_of fields in ((names, type) ∷ others.0, ap (field_and names type) others.1)

-- every model of candidates is that of a list
candidates_of : (candidates : CandidateModels) → (cs : List (List Designator × TypeModel)) × (candidates_from cs ≡ candidates)
candidates_of no_candidates = ([], refl)
candidates_of (candidate_and designators type candidates) = let others = candidates_of candidates in ((designators, type) ∷ others.0, ap (candidate_and designators type) others.1)

-- the first component is none: its first token is a name
inside_some : (one : Reader TypeModel) (names : List ℕ) (ts text : List Token) → AreParts names → ts ≡ parts_spelling name_spelling names ++ text → fields_behind one ts ≡ (listed (field_at one) most_parts ts >>= λ fields. token_at tokens.CloseBracket reasons.NoCloseBracket fields.1 >>= λ rest. got fields.0 rest)
unfolding fields_behind
inside_some one [] ts text parts e = absurd (omega arith)
inside_some one (n ∷ names) ts text parts e = rw e refl

-- components in brackets
pub fields_read : (depth : ℕ) → IsTypeComplete depth → (fs : List (List ℕ × TypeModel)) (rest : List Token) → field_count (fields_from fs) ≤ most_parts → AreFields depth (fields_from fs)
    → fields_at (type_at depth) (tokens.OpenBracket ∷ ((fields_spelling (fields_from fs) ++ tokens.CloseBracket ∷ []) ++ rest)) ≡ got fs rest
unfolding fields_at fields_behind
fields_read depth complete [] rest few good = refl
fields_read depth complete (f ∷ fs) rest few good =
    let kept = fields_kept depth in
    let text = fields_spelling (fields_from (f ∷ fs)) in
    let after = tokens.CloseBracket ∷ rest in
    let inside = parts_spelling field_spelling (f ∷ fs) ++ after in
    let regrouped : (text ++ tokens.CloseBracket ∷ []) ++ rest ≡ inside = append_assoc text (tokens.CloseBracket ∷ []) rest ∙ ap (λ (t : List Token). t ++ after) (kept.spelled (f ∷ fs)) in
    let begun : inside ≡ parts_spelling name_spelling f.0 ++ ((tokens.Colon ∷ type_spelling f.1) ++ (more_spelling field_spelling fs ++ after)) = simp append_assoc in
    let read = some_read field_spelling (GoodGroup Any depth) (field_at (type_at depth)) (group_read name_spelling Any name_at name_read tokens.Colon reasons.NoColon (λ ts. refl) (λ ts. refl) (λ ts. refl) depth complete) (f ∷ fs) after (omega arith, omega (arith, few, kept.counted (f ∷ fs))) ((kept.good (f ∷ fs)).1 good) refl refl in
    ap (λ (t : List Token). fields_behind (type_at depth) t) regrouped ∙ inside_some (type_at depth) f.0 inside _ good.0 begun ∙ rw read refl

-- a type is read as it is spelled, where types stand so deep
abbrev IsRead : ℕ → TypeModel → Type 0
IsRead depth type = (rest : List Token) → IsType depth type → is_apart rest ≡ true → type_at depth (type_spelling type ++ rest) ≡ got type rest

record_read : (depth : ℕ) → IsTypeComplete depth → (fs : List (List ℕ × TypeModel)) → IsRead (suc depth) (TypeModel.fields (fields_from fs))
unfolding nested type_behind
record_read depth complete fs rest good apart = ap (over (λ fields. TypeModel.fields (fields_from fields))) (fields_read depth complete fs rest good.0 good.1)

choice_read : (depth : ℕ) → IsTypeComplete depth → (tag : Option Reference) (cs : List (List Designator × TypeModel)) → IsRead (suc depth) (TypeModel.choice tag (candidates_from cs))
unfolding nested type_behind choice_behind
choice_read depth complete tag cs rest good apart =
    let kept = candidates_kept depth in
    let text = candidates_spelling (candidates_from cs) in
    let after = tokens.CloseBrace ∷ rest in
    let inside = parts_spelling candidate_spelling cs ++ after in
    let regrouped : ((tag_spelling tag ++ tokens.Of ∷ tokens.OpenBrace ∷ text) ++ tokens.CloseBrace ∷ []) ++ rest ≡ tag_spelling tag ++ tokens.Of ∷ tokens.OpenBrace ∷ (text ++ after) = simp append_assoc in
    let spelled : tag_spelling tag ++ tokens.Of ∷ tokens.OpenBrace ∷ (text ++ after) ≡ tag_spelling tag ++ tokens.Of ∷ tokens.OpenBrace ∷ inside = ap (λ (t : List Token). tag_spelling tag ++ tokens.Of ∷ tokens.OpenBrace ∷ (t ++ after)) (kept.spelled cs) in
    let read = some_read candidate_spelling (GoodGroup GoodDesignator depth) (candidate_at (type_at depth)) (group_read designator_spelling GoodDesignator designator_at designator_read tokens.Arrow reasons.NoArrow (λ ts. refl) (λ ts. refl) (λ ts. refl) depth complete) cs after (omega (arith, good.0, kept.counted cs), omega (arith, good.1, kept.counted cs)) ((kept.good cs).1 good.2) refl refl in
    rw (regrouped ∙ spelled, tag_read tag (tokens.OpenBrace ∷ inside), read) refl

-- ---- all types

predefined_read : (depth : ℕ) (type : Predefined) → IsRead (suc depth) (TypeModel.predefined type)
unfolding nested type_behind
predefined_read depth predefined_types.Boolean rest good apart = refl
predefined_read depth predefined_types.Cardinal rest good apart = refl
predefined_read depth predefined_types.LongCardinal rest good apart = refl
predefined_read depth predefined_types.Integer rest good apart = refl
predefined_read depth predefined_types.LongInteger rest good apart = refl
predefined_read depth predefined_types.Unspecified rest good apart = refl
predefined_read depth predefined_types.Text rest good apart = refl

pub type_read : (depth : ℕ) (type : TypeModel) → IsRead depth type
unfolding nested type_behind
type_read zero type rest good apart = absurd good
type_read (suc depth) (TypeModel.predefined type) rest good apart = predefined_read depth type rest good apart
type_read (suc depth) (TypeModel.enumeration members) rest good apart = enumeration_read members rest good.0 good.1
type_read (suc depth) (TypeModel.array n element) rest good apart = array_read depth (type_read depth) n element rest good.0 good.1 apart
type_read (suc depth) (TypeModel.sequence most element) rest good apart = sequence_read depth (type_read depth) most element rest good.0 good.1 apart
type_read (suc depth) (TypeModel.fields fields) rest good apart =
    let f = fields_of fields in
    subst (λ (fields : FieldModels). IsRead (suc depth) (TypeModel.fields fields)) f.1 (record_read depth (type_read depth) f.0) rest good apart
type_read (suc depth) (TypeModel.choice tag candidates) rest good apart =
    let c = candidates_of candidates in
    subst (λ (candidates : CandidateModels). IsRead (suc depth) (TypeModel.choice tag candidates)) c.1 (choice_read depth (type_read depth) tag c.0) rest good apart
type_read (suc depth) (TypeModel.named (references.Own n)) rest good apart = ap (over TypeModel.named) (own_read n rest apart)
type_read (suc depth) (TypeModel.named (references.Other p n)) rest good apart = refl
