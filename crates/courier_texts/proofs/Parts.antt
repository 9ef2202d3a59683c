-- Values with parts: equal texts are of equal values, if those of the parts are.
use Rattle.std.proofs.Common.{◌≡◌, ℕ, zero, suc, ◌==◌, Bool, true, false, cond, List, [], ◌∷◌, ◌++◌, map, codes, refl, sym, ap, ◌∙◌, append_assoc, arith}
use Rattle.std.specs.Prelude.{◌||◌, ◌≢◌}
use Rattle.std.specs.List.{list_all}
use Rattle.std.proofs.lemmas.Bool.{and_parts, eqb-true}
use Rattle.std.proofs.lemmas.List.{append_cancel_left}
use Rattle.courier_types.specs.Value.{ValueModel, ValueModels, no_values, value_and}
use Rattle.courier_types.specs.Spelling.{SpellsValue, SpellsTimes, is_listed}
use Rattle.courier_texts.specs.Named.{NamedModel, shape_of}
use Rattle.courier_texts.specs.Printing.{member_text, elements_text, value_text}
use Rattle.courier_texts.specs.Laws.{is_plain, is_plain_name, NamesNoMember, HaveNames}
use Rattle.courier_texts.proofs.Apart.{IsApart, Starts, IsPlain, heads, clash, split}
use Rattle.courier_texts.proofs.Alike.{Tells, known, told}

-- ---- names

pub plain_name : (name : List ℕ) → is_plain_name name ≡ true → IsPlain name
plain_name [] h = refl
plain_name (b ∷ bytes) h = h

pub name_starts : (name more : List ℕ) → is_plain_name name ≡ true → Starts (name ++ more)
name_starts [] more h = absurd (cc)
name_starts (b ∷ bytes) more h = (and_parts (is_plain b) (list_all is_plain bytes) h).0

-- ---- enumerations

abbrev Members : Type 0
Members = List (List ℕ × ℕ)

abbrev Lists : Members → ℕ → Type 0
Lists ms n = is_listed (map (λ m. m.1) ms) n ≡ true

-- what is known of the name of a listed member behind a member of this name
abbrev IsOther : List ℕ → List ℕ → Type 0
IsOther name text = (is_plain_name text ≡ true) × (name ≢ text)

other_step : (m : List ℕ × ℕ) (ms : Members) (n : ℕ) (name : List ℕ) (t : Bool) → is_plain_name m.0 ≡ true → name ≢ m.0 → (Lists ms n → IsOther name (member_text ms n))
    → (t || is_listed (map (λ m. m.1) ms) n) ≡ true → IsOther name (cond t m.0 (member_text ms n))
other_step m ms n name true plain differs more l = (plain, differs)
other_step m ms n name false plain differs more l = more l

other_member : (ms : Members) (n : ℕ) (name : List ℕ) → HaveNames ms → NamesNoMember name ms → Lists ms n → IsOther name (member_text ms n)
other_member [] n name h differs l = absurd (cc)
other_member (m ∷ ms) n name h differs l = other_step m ms n name (m.1 == n) h.0 differs.0 (λ q. other_member ms n name h.2 differs.1 q) l

-- the words of two listed members are told apart by their names
abbrev TellsMembers : Members → Type 0
TellsMembers ms = (n k : ℕ) (x y : List ℕ) → Lists ms n → Lists ms k → IsApart x → IsApart y → member_text ms n ++ x ≡ member_text ms k ++ y → (n ≡ k) × (x ≡ y)

member_step : (m : List ℕ × ℕ) (ms : Members) (n k : ℕ) (x y : List ℕ) (t u : Bool) → (m.1 == n) ≡ t → (m.1 == k) ≡ u → HaveNames (m ∷ ms) → TellsMembers ms
    → (t || is_listed (map (λ m. m.1) ms) n) ≡ true → (u || is_listed (map (λ m. m.1) ms) k) ≡ true → IsApart x → IsApart y
    → cond t m.0 (member_text ms n) ++ x ≡ cond u m.0 (member_text ms k) ++ y → (n ≡ k) × (x ≡ y)
member_step m ms n k x y true true p q h more l r ax ay e =
    (sym (eqb-true m.1 n p) ∙ eqb-true m.1 k q, append_cancel_left m.0 x y e)
member_step m ms n k x y true false p q h more l r ax ay e =
    let o = other_member ms k m.0 h.2 h.1 r in
    absurd (o.1 (split m.0 (member_text ms k) x y (plain_name m.0 h.0) (plain_name (member_text ms k) o.0) ax ay e).0)
member_step m ms n k x y false true p q h more l r ax ay e =
    let o = other_member ms n m.0 h.2 h.1 l in
    absurd (o.1 (sym (split (member_text ms n) m.0 x y (plain_name (member_text ms n) o.0) (plain_name m.0 h.0) ax ay e).0))
member_step m ms n k x y false false p q h more l r ax ay e = more n k x y l r ax ay e

tells_members : (ms : Members) → HaveNames ms → TellsMembers ms
tells_members [] h n k x y l r ax ay e = absurd (cc)
tells_members (m ∷ ms) h n k x y l r ax ay e =
    member_step m ms n k x y (m.1 == n) (m.1 == k) refl refl h (tells_members ms h.2) l r ax ay e

pub tells_enumeration : (ms : Members) → HaveNames ms → Tells (NamedModel.enumeration ms)
unfolding value_text
tells_enumeration ms h v w a b x y s t ax ay e =
    told ValueModel.enumeration s.0 t.0 s.3 t.3 (tells_members ms h s.0 t.0 x y s.2 t.2 ax ay (known (NamedModel.enumeration ms) v w _ _ x y s.3 t.3 e))

listed_step : (m : List ℕ × ℕ) (ms : Members) (n : ℕ) (more : List ℕ) (t : Bool) → is_plain_name m.0 ≡ true → (Lists ms n → Starts (member_text ms n ++ more))
    → (t || is_listed (map (λ m. m.1) ms) n) ≡ true → Starts (cond t m.0 (member_text ms n) ++ more)
listed_step m ms n more true plain others l = name_starts m.0 more plain
listed_step m ms n more false plain others l = others l

pub listed_starts : (ms : Members) (n : ℕ) (more : List ℕ) → HaveNames ms → Lists ms n → Starts (member_text ms n ++ more)
listed_starts [] n more h l = absurd (cc)
listed_starts (m ∷ ms) n more h l = listed_step m ms n more (m.1 == n) h.0 (λ q. listed_starts ms n more h.2 q) l

-- ---- elements

-- a value of the type starts with a plain byte
abbrev pub StartsPlain : NamedModel → Type 0
StartsPlain type = (v : ValueModel) (a more : List ℕ) → SpellsValue (shape_of type) v a → Starts (value_text type v ++ more)

abbrev Times : NamedModel → ℕ → ValueModels → List ℕ → Type 0
Times type n vs a = SpellsTimes (SpellsValue (shape_of type)) n vs a

-- the texts of elements behind others, up to the bracket
abbrev behind : NamedModel → ValueModels → List ℕ → List ℕ
behind type vs x = elements_text (codes ", ") (value_text type) vs ++ 93 ∷ x

behind_apart : (type : NamedModel) (vs : ValueModels) (x : List ℕ) → IsApart (behind type vs x)
behind_apart type no_values x = refl
behind_apart type (value_and v vs) x = refl

behind_and : (type : NamedModel) (v : ValueModel) (vs : ValueModels) (x : List ℕ) → behind type (value_and v vs) x ≡ 44 ∷ 32 ∷ (value_text type v ++ behind type vs x)
behind_and type v vs x = ap (λ (l : List ℕ). 44 ∷ 32 ∷ l) (append_assoc (value_text type v) (elements_text (codes ", ") (value_text type) vs) (93 ∷ x))

none_and_some : (type : NamedModel) (x y : List ℕ) (v : ValueModel) (vs : ValueModels) → 93 ∷ x ≡ behind type (value_and v vs) y → ⊥
none_and_some type x y v vs e = omega (arith, (heads 93 44 x (32 ∷ (value_text type v ++ behind type vs y)) (e ∙ behind_and type v vs y)).0)

behind_known : (type : NamedModel) (vs ws vs' ws' : ValueModels) (x y : List ℕ) → vs ≡ vs' → ws ≡ ws' → behind type vs x ≡ behind type ws y → behind type vs' x ≡ behind type ws' y
behind_known type vs ws vs' ws' x y p q e = sym (ap (λ us. behind type us x) p) ∙ e ∙ ap (λ us. behind type us y) q

more_elements : (type : NamedModel) → Tells type → (n k : ℕ) (vs ws : ValueModels) (a b x y : List ℕ) → Times type n vs a → Times type k ws b → behind type vs x ≡ behind type ws y → (vs ≡ ws) × (x ≡ y)
more_elements type one zero zero vs ws a b x y s t e =
    let h = behind_known type vs ws no_values no_values x y s.0 t.0 e in (s.0 ∙ sym t.0, (heads 93 93 x y h).1)
more_elements type one zero (suc k) vs ws a b x y s t e =
    absurd (none_and_some type x y t.0 t.1 (behind_known type vs ws no_values (value_and t.0 t.1) x y s.0 t.4 e))
more_elements type one (suc n) zero vs ws a b x y s t e =
    absurd (none_and_some type y x s.0 s.1 (sym (behind_known type vs ws (value_and s.0 s.1) no_values x y s.4 t.0 e)))
more_elements type one (suc n) (suc k) vs ws a b x y s t e =
    let h = behind_known type vs ws (value_and s.0 s.1) (value_and t.0 t.1) x y s.4 t.4 e in
    let both = sym (behind_and type s.0 s.1 x) ∙ h ∙ behind_and type t.0 t.1 y in
    let text = append_cancel_left (44 ∷ 32 ∷ []) (value_text type s.0 ++ behind type s.1 x) (value_text type t.0 ++ behind type t.1 y) both in
    let p = one s.0 t.0 s.2 t.2 (behind type s.1 x) (behind type t.1 y) s.6 t.6 (behind_apart type s.1 x) (behind_apart type t.1 y) text in
    let q = more_elements type one n k s.1 t.1 s.3 t.3 x y s.7 t.7 p.1 in
    (s.4 ∙ ap (λ u. value_and u s.1) p.0 ∙ ap (value_and t.0) q.0 ∙ sym t.4, q.1)

-- the texts of all elements, and the bracket
abbrev all_of : NamedModel → ValueModels → List ℕ → List ℕ
all_of type vs x = elements_text [] (value_text type) vs ++ 93 ∷ x

all_and : (type : NamedModel) (v : ValueModel) (vs : ValueModels) (x : List ℕ) → all_of type (value_and v vs) x ≡ value_text type v ++ behind type vs x
all_and type v vs x = append_assoc (value_text type v) (elements_text (codes ", ") (value_text type) vs) (93 ∷ x)

all_known : (type : NamedModel) (vs ws vs' ws' : ValueModels) (x y : List ℕ) → vs ≡ vs' → ws ≡ ws' → all_of type vs x ≡ all_of type ws y → all_of type vs' x ≡ all_of type ws' y
all_known type vs ws vs' ws' x y p q e = sym (ap (λ us. all_of type us x) p) ∙ e ∙ ap (λ us. all_of type us y) q

not_bracket : (x text : List ℕ) → Starts text → 93 ∷ x ≡ text → ⊥
not_bracket x [] h e = h
not_bracket x (b ∷ text) h e = clash b 93 h refl (sym (heads 93 b x text e).0)

pub elements : (type : NamedModel) → Tells type → StartsPlain type → (n k : ℕ) (vs ws : ValueModels) (a b x y : List ℕ) → Times type n vs a → Times type k ws b → all_of type vs x ≡ all_of type ws y → (vs ≡ ws) × (x ≡ y)
elements type one starts zero zero vs ws a b x y s t e =
    let h = all_known type vs ws no_values no_values x y s.0 t.0 e in (s.0 ∙ sym t.0, (heads 93 93 x y h).1)
elements type one starts zero (suc k) vs ws a b x y s t e =
    let h = all_known type vs ws no_values (value_and t.0 t.1) x y s.0 t.4 e ∙ all_and type t.0 t.1 y in
    absurd (not_bracket x (value_text type t.0 ++ behind type t.1 y) (starts t.0 t.2 (behind type t.1 y) t.6) h)
elements type one starts (suc n) zero vs ws a b x y s t e =
    let h = sym (all_known type vs ws (value_and s.0 s.1) no_values x y s.4 t.0 e) ∙ all_and type s.0 s.1 x in
    absurd (not_bracket y (value_text type s.0 ++ behind type s.1 x) (starts s.0 s.2 (behind type s.1 x) s.6) h)
elements type one starts (suc n) (suc k) vs ws a b x y s t e =
    let h = all_known type vs ws (value_and s.0 s.1) (value_and t.0 t.1) x y s.4 t.4 e in
    let text = sym (all_and type s.0 s.1 x) ∙ h ∙ all_and type t.0 t.1 y in
    let p = one s.0 t.0 s.2 t.2 (behind type s.1 x) (behind type t.1 y) s.6 t.6 (behind_apart type s.1 x) (behind_apart type t.1 y) text in
    let q = more_elements type one n k s.1 t.1 s.3 t.3 x y s.7 t.7 p.1 in
    (s.4 ∙ ap (λ u. value_and u s.1) p.0 ∙ ap (value_and t.0) q.0 ∙ sym t.4, q.1)

-- what stands in brackets
bracketed : (text x : List ℕ) → (codes "[" ++ text ++ codes "]") ++ x ≡ 91 ∷ (text ++ 93 ∷ x)
bracketed text x = ap (λ (l : List ℕ). 91 ∷ l) (append_assoc text (93 ∷ []) x)

pub in_brackets : (text other x y : List ℕ) → (codes "[" ++ text ++ codes "]") ++ x ≡ (codes "[" ++ other ++ codes "]") ++ y → text ++ 93 ∷ x ≡ other ++ 93 ∷ y
in_brackets text other x y e = (heads 91 91 (text ++ 93 ∷ x) (other ++ 93 ∷ y) (sym (bracketed text x) ∙ e ∙ bracketed other y)).1

pub tells_array : (n : ℕ) (element : NamedModel) → Tells element → StartsPlain element → Tells (NamedModel.array n element)
unfolding value_text
tells_array n element one starts v w a b x y s t ax ay e =
    let both = in_brackets (elements_text [] (value_text element) s.0) (elements_text [] (value_text element) t.0) x y (known (NamedModel.array n element) v w _ _ x y s.1 t.1 e) in
    told ValueModel.array s.0 t.0 s.1 t.1 (elements element one starts n n s.0 t.0 a b x y s.2 t.2 both)

pub tells_sequence : (most : ℕ) (element : NamedModel) → Tells element → StartsPlain element → Tells (NamedModel.sequence most element)
unfolding value_text
tells_sequence most element one starts v w a b x y s t ax ay e =
    let both = in_brackets (elements_text [] (value_text element) s.1) (elements_text [] (value_text element) t.1) x y (known (NamedModel.sequence most element) v w _ _ x y s.5 t.5 e) in
    told ValueModel.sequence s.1 t.1 s.5 t.5 (elements element one starts s.0 t.0 s.1 t.1 s.2 t.2 x y s.7 t.7 both)
