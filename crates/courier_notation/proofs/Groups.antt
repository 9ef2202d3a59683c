-- Components and candidates as groups in a list: parts that are written together, and their type behind a mark.
use Rattle.std.proofs.Common.{◌≡◌, ◌↔◌, ℕ, suc, List, [], ◌∷◌, ◌++◌, length, map, refl, ap, ◌∙◌}
use Rattle.std.specs.List.{AllByRecursion}
use Rattle.courier_notation.specs.declared.token.Token.{Token}
use Rattle.courier_notation.specs.declared.token.Token.TheVariants as tokens
use Rattle.courier_notation.specs.Written.{TypeModel, Designator, fields_from, candidates_from}
use Rattle.courier_notation.specs.Spelling.{name_spelling, designator_spelling, more_spelling, parts_spelling, joined, type_spelling, field_texts, candidate_texts}
use Rattle.courier_notation.specs.Spelling.{AreParts, field_count, candidate_count, IsType, AreFields, AreCandidates}
use Rattle.courier_notation.proofs.Takes.{Any, GoodDesignator}

abbrev pub group_spelling : {A : Type 0} → (A → List Token) → Token → List A × TypeModel → List Token
group_spelling spell mark g = parts_spelling spell g.0 ++ mark ∷ type_spelling g.1

abbrev pub field_spelling : List ℕ × TypeModel → List Token
field_spelling = group_spelling name_spelling tokens.Colon

abbrev pub candidate_spelling : List Designator × TypeModel → List Token
candidate_spelling = group_spelling designator_spelling tokens.Arrow

abbrev pub GoodGroup : {A : Type 0} → (A → Type 0) → ℕ → List A × TypeModel → Type 0
GoodGroup Good depth g = AreParts g.0 × AllByRecursion Good g.0 × IsType depth g.1

pub any_all : {A : Type 0} (xs : List A) → AllByRecursion Any xs
any_all [] = tt
any_all (x ∷ xs) = (tt, any_all xs)

-- ---- lists of groups that are kept otherwise than in a list

-- the texts of such groups, the number of these, and what is good about them
pub record IsKept {A M : Type 0} (from : List A → M) (texts : M → List (List Token)) (count : M → ℕ) (Are : M → Type 0) (spell : A → List Token) (Good : A → Type 0) : Type 0 where
  pub spelled : (xs : List A) → joined (texts (from xs)) ≡ parts_spelling spell xs
  pub counted : (xs : List A) → count (from xs) ≡ length xs
  pub good : (xs : List A) → AllByRecursion Good xs ↔ Are (from xs)

more_are : {A : Type 0} (spell : A → List Token) (xs : List A) → more_spelling (λ text. text) (map spell xs) ≡ more_spelling spell xs
more_are spell [] = refl
more_are spell (x ∷ xs) = ap (λ (t : List Token). tokens.Comma ∷ spell x ++ t) (more_are spell xs)

parts_are : {A : Type 0} (spell : A → List Token) (xs : List A) → joined (map spell xs) ≡ parts_spelling spell xs
parts_are spell [] = refl
parts_are spell (x ∷ xs) = ap (λ (t : List Token). spell x ++ t) (more_are spell xs)

texts_are : {A M : Type 0} (from : List A → M) (texts : M → List (List Token)) (spell : A → List Token) → texts (from []) ≡ [] → ((x : A) (xs : List A) → texts (from (x ∷ xs)) ≡ spell x ∷ texts (from xs)) → (xs : List A) → texts (from xs) ≡ map spell xs
texts_are from texts spell none some [] = none
texts_are from texts spell none some (x ∷ xs) = some x xs ∙ ap (λ (ts : List (List Token)). spell x ∷ ts) (texts_are from texts spell none some xs)

count_is : {A M : Type 0} (from : List A → M) (count : M → ℕ) → count (from []) ≡ 0 → ((x : A) (xs : List A) → count (from (x ∷ xs)) ≡ suc (count (from xs))) → (xs : List A) → count (from xs) ≡ length xs
count_is from count none some [] = none
count_is from count none some (x ∷ xs) = some x xs ∙ ap suc (count_is from count none some xs)

good_is : {A M : Type 0} (from : List A → M) (Are : M → Type 0) (Good : A → Type 0) → Are (from []) → ((x : A) (xs : List A) → (Good x × Are (from xs)) ↔ Are (from (x ∷ xs))) → (xs : List A) → AllByRecursion Good xs ↔ Are (from xs)
good_is from Are Good none some [] = ((λ h. none), (λ h. tt))
good_is from Are Good none some (x ∷ xs) =
    let others = good_is from Are Good none some xs in
    ((λ h. (some x xs).0 (h.0, others.0 h.1)), (λ h. let g = (some x xs).1 h in (g.0, others.1 g.1)))

pub fields_kept : (depth : ℕ) → IsKept fields_from field_texts field_count (AreFields depth) field_spelling (GoodGroup Any depth)
fields_kept depth = record {
  spelled = λ fs. ap joined (texts_are fields_from field_texts field_spelling refl (λ f fs. refl) fs) ∙ parts_are field_spelling fs;
  counted = count_is fields_from field_count refl (λ f fs. refl);
  good = good_is fields_from (AreFields depth) (GoodGroup Any depth) tt (λ f fs. ((λ h. (h.0.0, h.0.2, h.1)), (λ h. ((h.0, any_all f.0, h.1), h.2))));
}

pub candidates_kept : (depth : ℕ) → IsKept candidates_from candidate_texts candidate_count (AreCandidates depth) candidate_spelling (GoodGroup GoodDesignator depth)
candidates_kept depth = record {
  spelled = λ cs. ap joined (texts_are candidates_from candidate_texts candidate_spelling refl (λ c cs. refl) cs) ∙ parts_are candidate_spelling cs;
  counted = count_is candidates_from candidate_count refl (λ c cs. refl);
  good = good_is candidates_from (AreCandidates depth) (GoodGroup GoodDesignator depth) tt (λ c cs. ((λ h. (h.0.0, h.0.1, h.0.2, h.1)), (λ h. ((h.0, h.1, h.2), h.3))));
}
