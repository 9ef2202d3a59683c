-- Tokens that are read as a type are its spelling.
use Rattle.std.proofs.Common.{◌≡◌, ℕ, zero, suc, ◌≤◌, List, [], ◌∷◌, ◌++◌, Option, Some, None, Result, Ok, refl, sym, ap, subst, append_assoc, arith}
use Rattle.std.specs.List.{AllByRecursion}
use Rattle.courier_types.specs.declared.predefined.Predefined.{Predefined}
use Rattle.courier_types.specs.declared.predefined.Predefined.TheVariants as predefined_types
use Rattle.courier_notation.specs.declared.reason.Reason.{Reason}
use Rattle.courier_notation.specs.declared.reason.Reason.TheVariants as reasons
use Rattle.courier_notation.specs.declared.token.Token.{Token}
use Rattle.courier_notation.specs.declared.token.Token.TheVariants as tokens
use Rattle.courier_notation.specs.declared.written.Numeric.{Numeric}
use Rattle.courier_notation.specs.declared.written.Reference.{Reference}
use Rattle.courier_notation.specs.Written.{TypeModel, Designator, fields_from, candidates_from}
use Rattle.courier_notation.specs.Failing.{◌>>=◌, over}
use Rattle.courier_notation.specs.Reading.{Fault, Reader, listed, most_parts, name_at, reference_behind, numeric_at, token_at}
use Rattle.courier_notation.specs.Reading.{nested, in_parentheses, member_at, designator_behind, designator_at, group_at, field_at, fields_behind, fields_at, candidate_at, tag_at, maximum_at, enumeration_behind, long_behind, array_behind, sequence_behind, choice_behind, record_behind, type_behind, type_at}
use Rattle.courier_notation.specs.Spelling.{name_spelling, numeric_spelling, maximum_spelling, tag_spelling, member_spelling, designator_spelling, parts_spelling}
use Rattle.courier_notation.specs.Spelling.{predefined_spelling, type_spelling, fields_spelling, candidates_spelling, IsNumeric, IsNumberIfAny, AreParts, field_count, IsType, AreFields}
use Rattle.courier_notation.proofs.Failing.{ok_is, bind_ok, over_ok}
use Rattle.courier_notation.proofs.Takes.{Takes, Takes-then, Takes-behind, Takes-one, TakesOnly, IsSound, Any, GoodDesignator, GoodMember, listed_takes, name_takes, by_name_takes, reference_takes, numeric_takes}
use Rattle.courier_notation.proofs.Groups.{GoodGroup, group_spelling, field_spelling, candidate_spelling, fields_kept, candidates_kept}
use Rattle.courier_notation.proofs.Takes.{of_is, arrow_is, colon_is, open_brace_is, close_brace_is, open_bracket_is, close_bracket_is, open_parenthesis_is, close_parenthesis_is}

-- ---- parts of types

-- what stands in parentheses
pub inside_takes : {A : Type 0} (spell : A → List Token) (Good : A → Type 0) (one : Reader A) → IsSound spell Good one → IsSound (λ x. tokens.OpenParenthesis ∷ (spell x ++ tokens.CloseParenthesis ∷ [])) Good (in_parentheses one)
unfolding in_parentheses
inside_takes {A} spell Good one sound ts x rest e =
    let a = bind_ok (token_at tokens.OpenParenthesis reasons.NoOpenParenthesis ts) _ (x, rest) e in
    let b = bind_ok (one a.0) _ (x, rest) a.2 in
    let c = bind_ok (token_at tokens.CloseParenthesis reasons.NoCloseParenthesis b.0.1) _ (x, rest) b.2 in
    let t = sound a.0 b.0.0 b.0.1 b.1 in
    let inside = Takes-then t.0 (Takes-one tokens.CloseParenthesis (close_parenthesis_is b.0.1 c.0 c.1)) in
    let whole = Takes-behind tokens.OpenParenthesis (open_parenthesis_is ts a.0 a.1) inside in
    subst (λ (p : A × List Token). Takes ts (tokens.OpenParenthesis ∷ (spell p.0 ++ tokens.CloseParenthesis ∷ [])) p.1 × Good p.0) (ok_is (b.0.0, c.0) (x, rest) c.2) (whole, t.1)

member_takes : IsSound member_spelling GoodMember member_at
unfolding member_at
member_takes ts x rest e =
    let a = bind_ok (name_at ts) _ (x, rest) e in
    let b = bind_ok (in_parentheses numeric_at a.0.1) _ (x, rest) a.2 in
    let t0 = name_takes ts a.0.0 a.0.1 a.1 in
    let t1 = inside_takes numeric_spelling IsNumeric numeric_at numeric_takes a.0.1 b.0.0 b.0.1 b.1 in
    let made : (ℕ × Numeric) × List Token = ((a.0.0, b.0.0), b.0.1) in
    subst (λ (p : (ℕ × Numeric) × List Token). Takes ts (member_spelling p.0) p.1 × IsNumeric p.0.1) (ok_is made (x, rest) b.2) (Takes-then t0.0 t1.0, t1.1)

designator_number_takes : (n : ℕ) (ts : List Token) (x : Designator) (rest : List Token) → designator_behind n ts ≡ Ok (x, rest) → Takes (tokens.Name n ∷ ts) (designator_spelling x) rest × GoodDesignator x
unfolding designator_behind
designator_number_takes n [] x rest e = subst (λ (p : Designator × List Token). Takes (tokens.Name n ∷ []) (designator_spelling p.0) p.1 × GoodDesignator p.0) (ok_is ((n, None), []) (x, rest) e) (record { parts = refl }, tt)
designator_number_takes n (tokens.OpenParenthesis ∷ ts) x rest e =
    let a = bind_ok (in_parentheses numeric_at (tokens.OpenParenthesis ∷ ts)) _ (x, rest) e in
    let t = inside_takes numeric_spelling IsNumeric numeric_at numeric_takes (tokens.OpenParenthesis ∷ ts) a.0.0 a.0.1 a.1 in
    let made : Designator × List Token = ((n, Some a.0.0), a.0.1) in
    subst (λ (p : Designator × List Token). Takes (tokens.Name n ∷ tokens.OpenParenthesis ∷ ts) (designator_spelling p.0) p.1 × GoodDesignator p.0) (ok_is made (x, rest) a.2) (record { parts = ap (λ (t : List Token). tokens.Name n ∷ t) t.0.parts }, t.1)
designator_number_takes n (t ∷ ts) x rest e = subst (λ (p : Designator × List Token). Takes (tokens.Name n ∷ t ∷ ts) (designator_spelling p.0) p.1 × GoodDesignator p.0) (ok_is ((n, None), t ∷ ts) (x, rest) e) (record { parts = refl }, tt)

designator_takes : IsSound designator_spelling GoodDesignator designator_at
designator_takes = by_name_takes designator_spelling GoodDesignator designator_behind designator_number_takes

maximum_takes : IsSound maximum_spelling IsNumberIfAny maximum_at
unfolding maximum_at
maximum_takes [] x rest e =
    let o = over_ok Some (numeric_at []) (x, rest) e in
    let n = numeric_takes [] o.0.0 o.0.1 o.1 in
    subst (λ (p : Option Numeric × List Token). Takes [] (maximum_spelling p.0) p.1 × IsNumberIfAny p.0) o.2 n
maximum_takes (tokens.Of ∷ ts) x rest e = subst (λ (p : Option Numeric × List Token). Takes (tokens.Of ∷ ts) (maximum_spelling p.0) p.1 × IsNumberIfAny p.0) (ok_is (None, tokens.Of ∷ ts) (x, rest) e) (record { parts = refl }, tt)
maximum_takes (t ∷ ts) x rest e =
    let o = over_ok Some (numeric_at (t ∷ ts)) (x, rest) e in
    let n = numeric_takes (t ∷ ts) o.0.0 o.0.1 o.1 in
    subst (λ (p : Option Numeric × List Token). Takes (t ∷ ts) (maximum_spelling p.0) p.1 × IsNumberIfAny p.0) o.2 n

tag_takes : (ts : List Token) (x : Option Reference) (rest : List Token) → tag_at ts ≡ Ok (x, rest) → Takes ts (tag_spelling x) rest
tag_takes [] x rest e = subst (λ (p : Option Reference × List Token). Takes [] (tag_spelling p.0) p.1) (ok_is (None, []) (x, rest) e) (record { parts = refl })
tag_takes (tokens.Name n ∷ ts) x rest e =
    let o = over_ok Some (reference_behind n ts) (x, rest) e in
    subst (λ (p : Option Reference × List Token). Takes (tokens.Name n ∷ ts) (tag_spelling p.0) p.1) o.2 (reference_takes n ts o.0.0 o.0.1 o.1)
tag_takes (t ∷ ts) x rest e = subst (λ (p : Option Reference × List Token). Takes (t ∷ ts) (tag_spelling p.0) p.1) (ok_is (None, t ∷ ts) (x, rest) e) (record { parts = refl })

-- ---- components and candidates

-- a type is read as it is written, where types stand so deep
abbrev pub IsTypeSound : ℕ → Type 0
IsTypeSound depth = IsSound type_spelling (IsType depth) (type_at depth)

-- parts with commas between, at least one and not too many
abbrev AreGood : {A : Type 0} → (A → Type 0) → List A → Type 0
AreGood Good xs = AreParts xs × AllByRecursion Good xs

parts_take : {A : Type 0} (spell : A → List Token) (Good : A → Type 0) (one : Reader A) → IsSound spell Good one → IsSound (parts_spelling spell) (AreGood Good) (listed one most_parts)
parts_take spell Good one sound ts xs rest e =
    let l = listed_takes spell Good one sound most_parts ts xs rest e in
    (l.takes, ((l.some, l.few), l.good))

-- something that was made of a front and of the type behind a mark
record IsTyped {A B : Type 0} (spell : A → List Token) (Good : A → Type 0) (mark : Token) (depth : ℕ) (make : A → TypeModel → B) (ts : List Token) (x : B × List Token) : Type 0 where
  front : A
  type : TypeModel
  made : make front type ≡ x.0
  takes : Takes ts (spell front ++ mark ∷ type_spelling type) x.1
  good : Good front
  typed : IsType depth type

typed_takes : {A B : Type 0} (spell : A → List Token) (Good : A → Type 0) (one : Reader A) → IsSound spell Good one → (mark : Token) (missing : Reason) → TakesOnly mark missing
    → (depth : ℕ) → IsTypeSound depth → (make : A → TypeModel → B) (ts : List Token) (x : B × List Token) → (one ts >>= λ front. token_at mark missing front.1 >>= λ rest. over (make front.0) (type_at depth rest)) ≡ Ok x → IsTyped spell Good mark depth make ts x
typed_takes {B} spell Good one sound mark missing is_mark depth types make ts x e =
    let a = bind_ok (one ts) _ x e in
    let b = bind_ok (token_at mark missing a.0.1) _ x a.2 in
    let o = over_ok (make a.0.0) (type_at depth b.0) x b.2 in
    let front = sound ts a.0.0 a.0.1 a.1 in
    let type = types b.0 o.0.0 o.0.1 o.1 in
    let behind = Takes-behind mark (is_mark a.0.1 b.0 b.1) type.0 in
    let both = Takes-then front.0 behind in
    record {
      front = a.0.0;
      type = o.0.0;
      made = ap (λ (p : B × List Token). p.0) o.2;
      takes = subst (λ (p : B × List Token). Takes ts (spell a.0.0 ++ mark ∷ type_spelling o.0.0) p.1) o.2 both;
      good = front.1;
      typed = type.1;
    }

-- parts that are written together, and their type
group_takes : {A : Type 0} (spell : A → List Token) (Good : A → Type 0) (one : Reader A) → IsSound spell Good one → (mark : Token) (missing : Reason) → TakesOnly mark missing
    → (depth : ℕ) → IsTypeSound depth → IsSound (group_spelling spell mark) (GoodGroup Good depth) (group_at one (mark, missing) (type_at depth))
unfolding group_at
group_takes {A} spell Good one sound mark missing is_mark depth types ts x rest e =
    let Group : Type 0 = List A × TypeModel in
    let t = typed_takes {B = Group} (parts_spelling spell) (AreGood Good) (listed one most_parts) (parts_take spell Good one sound) mark missing is_mark depth types (λ parts type. (parts, type)) ts (x, rest) e in
    subst (λ (g : Group). Takes ts (group_spelling spell mark g) rest × GoodGroup Good depth g) t.made (t.takes, (t.good.0, t.good.1, t.typed))

-- ---- components

-- components that were read
pub record AreFieldsRead (depth : ℕ) (ts : List Token) (fs : List (List ℕ × TypeModel)) (rest : List Token) : Type 0 where
  pub takes : Takes ts (fields_spelling (fields_from fs) ++ tokens.CloseBracket ∷ []) rest
  pub few : field_count (fields_from fs) ≤ most_parts
  pub good : AreFields depth (fields_from fs)

-- components, of which there are some
abbrev fields_inside : ℕ → List Token → Result (List (List ℕ × TypeModel) × List Token) Fault
fields_inside depth ts = do
  fields ← listed (field_at (type_at depth)) most_parts ts
  rest ← token_at tokens.CloseBracket reasons.NoCloseBracket fields.1
  Ok (fields.0, rest)

some_fields_take : (depth : ℕ) → IsTypeSound depth → (ts : List Token) (fs : List (List ℕ × TypeModel)) (rest : List Token) → fields_inside depth ts ≡ Ok (fs, rest) → AreFieldsRead depth ts fs rest
some_fields_take depth sound ts fs rest e =
    let a = bind_ok (listed (field_at (type_at depth)) most_parts ts) _ (fs, rest) e in
    let b = bind_ok (token_at tokens.CloseBracket reasons.NoCloseBracket a.0.1) _ (fs, rest) a.2 in
    let l = listed_takes field_spelling (GoodGroup Any depth) (field_at (type_at depth)) (group_takes name_spelling Any name_at name_takes tokens.Colon reasons.NoColon colon_is depth sound) most_parts ts a.0.0 a.0.1 a.1 in
    let kept = fields_kept depth in
    let takes : Takes ts (fields_spelling (fields_from a.0.0)) a.0.1 = subst (λ (t : List Token). Takes ts t a.0.1) (sym (kept.spelled a.0.0)) l.takes in
    let whole = Takes-then takes (Takes-one tokens.CloseBracket (close_bracket_is a.0.1 b.0 b.1)) in
    subst (λ (p : List (List ℕ × TypeModel) × List Token). AreFieldsRead depth ts p.0 p.1) (ok_is (a.0.0, b.0) (fs, rest) b.2)
    (record { takes = whole; few = omega (arith, l.few, kept.counted a.0.0); good = (kept.good a.0.0).0 l.good })

pub fields_behind_take : (depth : ℕ) → IsTypeSound depth → (ts : List Token) (fs : List (List ℕ × TypeModel)) (rest : List Token) → fields_behind (type_at depth) ts ≡ Ok (fs, rest) → AreFieldsRead depth ts fs rest
unfolding fields_behind
fields_behind_take depth sound [] fs rest e = some_fields_take depth sound [] fs rest e
fields_behind_take depth sound (tokens.CloseBracket ∷ ts) fs rest e =
    let made : List (List ℕ × TypeModel) × List Token = ([], ts) in
    subst (λ (p : List (List ℕ × TypeModel) × List Token). AreFieldsRead depth (tokens.CloseBracket ∷ ts) p.0 p.1) (ok_is made (fs, rest) e) (record { takes = record { parts = refl }; few = omega arith; good = tt })
fields_behind_take depth sound (t ∷ ts) fs rest e = some_fields_take depth sound (t ∷ ts) fs rest e

-- ---- types

-- a type that was read of tokens
abbrev Read : ℕ → List Token → TypeModel × List Token → Type 0
Read depth ts x = Takes ts (type_spelling x.0) x.1 × IsType depth x.0

enumeration_takes : (depth : ℕ) (ts : List Token) (x : TypeModel × List Token) → enumeration_behind ts ≡ Ok x → Read (suc depth) (tokens.OpenBrace ∷ ts) x
unfolding enumeration_behind
enumeration_takes depth ts x e =
    let a = bind_ok (listed member_at most_parts ts) _ x e in
    let b = bind_ok (token_at tokens.CloseBrace reasons.NoCloseBrace a.0.1) _ x a.2 in
    let l = listed_takes member_spelling GoodMember member_at member_takes most_parts ts a.0.0 a.0.1 a.1 in
    let inner = Takes-then l.takes (Takes-one tokens.CloseBrace (close_brace_is a.0.1 b.0 b.1)) in
    let whole = Takes-behind tokens.OpenBrace refl inner in
    subst (λ (p : TypeModel × List Token). Read (suc depth) (tokens.OpenBrace ∷ ts) p) (ok_is (TypeModel.enumeration a.0.0, b.0) x b.2) (whole, ((l.some, l.few), l.good))

-- a predefined type, with the first of its keywords
predefined_takes : (depth : ℕ) (type : Predefined) (ts : List Token) (x : TypeModel × List Token) → (TypeModel.predefined type, ts) ≡ x → Read (suc depth) (predefined_spelling type ++ ts) x
predefined_takes depth type ts x e = subst (λ (p : TypeModel × List Token). Read (suc depth) (predefined_spelling type ++ ts) p) e (record { parts = refl }, tt)

long_takes : (depth : ℕ) (ts : List Token) (x : TypeModel × List Token) → long_behind ts ≡ Ok x → Read (suc depth) (tokens.Long ∷ ts) x
long_takes depth [] x e = absurd cc
long_takes depth (tokens.Cardinal ∷ ts) x e = predefined_takes depth predefined_types.LongCardinal ts x (ok_is _ x e)
long_takes depth (tokens.Integer ∷ ts) x e = predefined_takes depth predefined_types.LongInteger ts x (ok_is _ x e)
long_takes depth (t ∷ ts) x e = absurd cc

array_takes : (depth : ℕ) → IsTypeSound depth → (ts : List Token) (x : TypeModel × List Token) → array_behind (type_at depth) ts ≡ Ok x → Read (suc depth) (tokens.Array ∷ ts) x
unfolding array_behind
array_takes depth sound ts x e =
    let t = typed_takes numeric_spelling IsNumeric numeric_at numeric_takes tokens.Of reasons.NoOf of_is depth sound TypeModel.array ts x e in
    subst (λ (p : TypeModel). Read (suc depth) (tokens.Array ∷ ts) (p, x.1)) t.made (Takes-behind tokens.Array refl t.takes, (t.good, t.typed))

sequence_takes : (depth : ℕ) → IsTypeSound depth → (ts : List Token) (x : TypeModel × List Token) → sequence_behind (type_at depth) ts ≡ Ok x → Read (suc depth) (tokens.Sequence ∷ ts) x
unfolding sequence_behind
sequence_takes depth sound ts x e =
    let t = typed_takes maximum_spelling IsNumberIfAny maximum_at maximum_takes tokens.Of reasons.NoOf of_is depth sound TypeModel.sequence ts x e in
    subst (λ (p : TypeModel). Read (suc depth) (tokens.Sequence ∷ ts) (p, x.1)) t.made (Takes-behind tokens.Sequence refl t.takes, (t.good, t.typed))

record_takes : (depth : ℕ) → IsTypeSound depth → (ts : List Token) (x : TypeModel × List Token) → record_behind (type_at depth) ts ≡ Ok x → Read (suc depth) (tokens.Record ∷ ts) x
unfolding fields_at
record_takes depth sound ts x e =
    let o = over_ok (λ fields. TypeModel.fields (fields_from fields)) (fields_at (type_at depth) ts) x e in
    let a = bind_ok (token_at tokens.OpenBracket reasons.NoOpenBracket ts) (fields_behind (type_at depth)) o.0 o.1 in
    let f = fields_behind_take depth sound a.0 o.0.0 o.0.1 a.2 in
    let text = fields_spelling (fields_from o.0.0) ++ tokens.CloseBracket ∷ [] in
    let inner = Takes-behind tokens.OpenBracket (open_bracket_is ts a.0 a.1) f.takes in
    let whole = Takes-behind tokens.Record refl inner in
    subst (λ (p : TypeModel × List Token). Read (suc depth) (tokens.Record ∷ ts) p) o.2 (whole, (f.few, f.good))

choice_takes : (depth : ℕ) → IsTypeSound depth → (ts : List Token) (x : TypeModel × List Token) → choice_behind (type_at depth) ts ≡ Ok x → Read (suc depth) (tokens.Choice ∷ ts) x
unfolding choice_behind
choice_takes depth sound ts x e =
    let a = bind_ok (tag_at ts) _ x e in
    let b = bind_ok (token_at tokens.Of reasons.NoOf a.0.1) _ x a.2 in
    let c = bind_ok (token_at tokens.OpenBrace reasons.NoOpenBrace b.0) _ x b.2 in
    let d = bind_ok (listed (candidate_at (type_at depth)) most_parts c.0) _ x c.2 in
    let f = bind_ok (token_at tokens.CloseBrace reasons.NoCloseBrace d.0.1) _ x d.2 in
    let tag = tag_takes ts a.0.0 a.0.1 a.1 in
    let l = listed_takes candidate_spelling (GoodGroup GoodDesignator depth) (candidate_at (type_at depth)) (group_takes designator_spelling GoodDesignator designator_at designator_takes tokens.Arrow reasons.NoArrow arrow_is depth sound) most_parts c.0 d.0.0 d.0.1 d.1 in
    let kept = candidates_kept depth in
    let takes : Takes c.0 (candidates_spelling (candidates_from d.0.0)) d.0.1 = subst (λ (t : List Token). Takes c.0 t d.0.1) (sym (kept.spelled d.0.0)) l.takes in
    let text = candidates_spelling (candidates_from d.0.0) ++ tokens.CloseBrace ∷ [] in
    let inner = Takes-then takes (Takes-one tokens.CloseBrace (close_brace_is d.0.1 f.0 f.1)) in
    let braced = Takes-behind tokens.OpenBrace (open_brace_is b.0 c.0 c.1) inner in
    let behind : Takes a.0.1 (tokens.Of ∷ tokens.OpenBrace ∷ text) f.0 = Takes-behind tokens.Of (of_is a.0.1 b.0 b.1) braced in
    let both = Takes-then tag behind in
    let regrouped : tag_spelling a.0.0 ++ (tokens.Of ∷ tokens.OpenBrace ∷ text) ≡ (tag_spelling a.0.0 ++ tokens.Of ∷ tokens.OpenBrace ∷ candidates_spelling (candidates_from d.0.0)) ++ tokens.CloseBrace ∷ [] = sym (append_assoc (tag_spelling a.0.0) (tokens.Of ∷ tokens.OpenBrace ∷ candidates_spelling (candidates_from d.0.0)) (tokens.CloseBrace ∷ [])) in
    let spelled = subst (λ (t : List Token). Takes ts t f.0) regrouped both in
    let whole = Takes-behind tokens.Choice refl spelled in
    let counted = kept.counted d.0.0 in
    subst (λ (p : TypeModel × List Token). Read (suc depth) (tokens.Choice ∷ ts) p) (ok_is (TypeModel.choice a.0.0 (candidates_from d.0.0), f.0) x f.2) (whole, (omega (arith, l.some), omega (arith, l.few), (kept.good d.0.0).0 l.good))

behind_takes : (depth : ℕ) → IsTypeSound depth → (t : Token) (ts : List Token) (x : TypeModel × List Token) → type_behind (type_at depth) t ts ≡ Ok x → Read (suc depth) (t ∷ ts) x
unfolding type_behind
behind_takes depth sound tokens.Boolean ts x e = predefined_takes depth predefined_types.Boolean ts x (ok_is _ x e)
behind_takes depth sound tokens.Cardinal ts x e = predefined_takes depth predefined_types.Cardinal ts x (ok_is _ x e)
behind_takes depth sound tokens.Integer ts x e = predefined_takes depth predefined_types.Integer ts x (ok_is _ x e)
behind_takes depth sound tokens.Unspecified ts x e = predefined_takes depth predefined_types.Unspecified ts x (ok_is _ x e)
behind_takes depth sound tokens.String ts x e = predefined_takes depth predefined_types.Text ts x (ok_is _ x e)
behind_takes depth sound tokens.Long ts x e = long_takes depth ts x e
behind_takes depth sound tokens.OpenBrace ts x e = enumeration_takes depth ts x e
behind_takes depth sound tokens.Array ts x e = array_takes depth sound ts x e
behind_takes depth sound tokens.Sequence ts x e = sequence_takes depth sound ts x e
behind_takes depth sound tokens.Record ts x e = record_takes depth sound ts x e
behind_takes depth sound tokens.Choice ts x e = choice_takes depth sound ts x e
behind_takes depth sound (tokens.Name n) ts x e =
    let o = over_ok TypeModel.named (reference_behind n ts) x e in
    subst (λ (p : TypeModel × List Token). Read (suc depth) (tokens.Name n ∷ ts) p) o.2 (reference_takes n ts o.0.0 o.0.1 o.1, tt)
behind_takes depth sound t ts x e = absurd cc

pub type_takes : (depth : ℕ) → IsTypeSound depth
unfolding nested
type_takes zero ts x rest e = absurd cc
type_takes (suc depth) [] x rest e = absurd cc
type_takes (suc depth) (t ∷ ts) x rest e = behind_takes depth (type_takes depth) t ts (x, rest) e
