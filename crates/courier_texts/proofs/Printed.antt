-- What was printed so far, and what is still printed.
use Rattle.std.proofs.Common.{◌≡◌, ℕ, ◌+◌, ◌≤◌, ◌<◌, ◌==◌, Bool, cond, List, [], ◌∷◌, ◌++◌, length, drop, get_or, codes, Vec, Global, map, refl, ap, ◌∙◌, append_assoc, arith, rules}
use Rattle.std.proofs.lemmas.List.{drop_all, drop_more}
use Rattle.courier_types.proofs.Loops.{item_here}
use Rattle.courier_types.specs.declared.value.Value.{Value, Fields as VFields, the_lemmas as value_lemmas}
use Rattle.courier_types.specs.Value.{ValueModel, no_values, value_model, value_models}
use Rattle.courier_texts.specs.declared.named.Named.{Named, Record, Choice, the_lemmas}
use Rattle.courier_texts.specs.Named.{NamedModel, ComponentModels, component_and, variant_and, named_model, members_seen, components_seen, variants_seen, component_models, variant_models}
use Rattle.courier_texts.specs.Appending.{IsAppended}
use Rattle.courier_texts.specs.Printing.{member_text, components_text, variant_text, value_text}
use Rattle.courier_texts.proofs.Appends.{SoFar, goes_on, left_is}

pub some_left : {A : Type 0} (xs : List A) (i : ℕ) → i < length xs → (x : A) × (drop i xs ≡ x ∷ drop (i + 1) xs)
some_left [] i lt = absurd (omega arith)
some_left (x ∷ xs) i lt = (get_or (x ∷ xs) i x, drop_more (x ∷ xs) i x lt)

-- ---- members

-- a member has the text's word or not, and else the text is that of those behind it
pub next_member : (member : Vec ℕ Global × ℕ) (members : List (Vec ℕ Global × ℕ)) (word : ℕ) {is_it : Bool} → (member.1 == word) ≡ is_it
    → member_text (members_seen (member ∷ members)) word ≡ cond is_it member.0.items (member_text (members_seen members) word)
next_member member members word known = ap (λ (b : Bool). cond b member.0.items (member_text (members_seen members) word)) known

-- ---- components

-- the text of a component, and what stands behind that component
abbrev pub part_text : Vec ℕ Global × Named → Value → List ℕ
part_text part v = part.0.items ++ codes ": " ++ value_text (named_model part.1) (value_model v)

abbrev pub more_text : List (Vec ℕ Global × Named) → List Value → ℕ → List ℕ
more_text parts values i = components_text (codes ", ") (component_models (drop (i + 1) parts)) (value_models (drop (i + 1) values))

pub components_here : (front : List ℕ) (parts : List (Vec ℕ Global × Named)) (values : List Value) (i : ℕ) (part : Vec ℕ Global × Named) (v : Value) → drop i parts ≡ part ∷ drop (i + 1) parts → drop i values ≡ v ∷ drop (i + 1) values
    → components_text front (component_models (drop i parts)) (value_models (drop i values)) ≡ front ++ (part_text part v ++ more_text parts values i)
unfolding components_text
components_here front parts values i part v here there =
    ap (λ ps. components_text front (component_models ps) (value_models (drop i values))) here
    ∙ ap (λ vs. components_text front (component_models (part ∷ drop (i + 1) parts)) (value_models vs)) there
    ∙ append_assoc front (part_text part v) (more_text parts values i)

-- the front of a component was printed
pub front_printed : {old now next : Vec ℕ Global} {whole : List ℕ} (front : List ℕ) (parts : List (Vec ℕ Global × Named)) (values : List Value) (i : ℕ) (part : Vec ℕ Global × Named) (v : Value) → i < length parts → part ≡ get_or parts i part → i < length values → v ≡ get_or values i v
    → SoFar old now (components_text front (component_models (drop i parts)) (value_models (drop i values))) whole → IsAppended front now next → SoFar old next (part_text part v ++ more_text parts values i) whole
front_printed {old} {now} {next} {whole} front parts values i part v in_parts is_part in_values is_value s put =
    let here = item_here parts i part in_parts is_part in
    let there = item_here values i v in_values is_value in
    goes_on old now next front (part_text part v ++ more_text parts values i) whole (left_is old now _ _ whole s (components_here front parts values i part v here there)) put

pub front_first : (front : List ℕ) (parts : List (Vec ℕ Global × Named)) (values : List Value) (i : ℕ) (part : Vec ℕ Global × Named) → drop i parts ≡ part ∷ drop (i + 1) parts → i < length values
    → (left : List ℕ) × (components_text front (component_models (drop i parts)) (value_models (drop i values)) ≡ front ++ left)
front_first front parts values i part here lt =
    let some = some_left values i lt in
    (part_text part some.0 ++ more_text parts values i, components_here front parts values i part some.0 here some.1)

none_left : (front : List ℕ) (parts : ComponentModels) → components_text front parts no_values ≡ []
unfolding components_text
none_left front ComponentModels.no_components = refl
none_left front (component_and name part parts) = refl

pub no_value_text : (front : List ℕ) (parts : List (Vec ℕ Global × Named)) (values : List Value) (i : ℕ) → length values ≤ i → components_text front (component_models (drop i parts)) (value_models (drop i values)) ≡ []
no_value_text front parts values i le =
    ap (λ vs. components_text front (component_models (drop i parts)) (value_models vs)) (drop_all i values le) ∙ none_left front (component_models (drop i parts))

no_part_left : (front : List ℕ) (vs : List Value) → components_text front ComponentModels.no_components (value_models vs) ≡ []
unfolding components_text
no_part_left front [] = refl
no_part_left front (v ∷ vs) = refl

pub no_part_text : (front : List ℕ) (parts : List (Vec ℕ Global × Named)) (values : List Value) (i : ℕ) → length parts ≤ i → components_text front (component_models (drop i parts)) (value_models (drop i values)) ≡ []
no_part_text front parts values i le =
    ap (λ ps. components_text front (component_models ps) (value_models (drop i values))) (drop_all i parts le) ∙ no_part_left front (drop i values)

-- ---- candidates

-- a candidate has the text's designator or not, and else the text is that of those behind it
pub next_variant : (part : Vec ℕ Global × (ℕ × Named)) (parts : List (Vec ℕ Global × (ℕ × Named))) (d : ℕ) (v : ValueModel) {is_it : Bool} → (part.1.0 == d) ≡ is_it
    → variant_text (variant_models (part ∷ parts)) d v ≡ cond is_it (part.0.items ++ codes " " ++ value_text (named_model part.1.1) v) (variant_text (variant_models parts) d v)
unfolding variant_text value_text
next_variant part parts d v known = ap (λ (b : Bool). cond b (part.0.items ++ codes " " ++ value_text (named_model part.1.1) v) (variant_text (variant_models parts) d v)) known

-- ---- what a type and a value are seen as

components_are : (xs : List (Vec ℕ Global × Named)) → components_seen (map (λ c. (c.0, named_model c.1)) xs) ≡ component_models xs
components_are [] = refl
components_are (x ∷ xs) = ap (component_and x.0.items (named_model x.1)) (components_are xs)

record_level : (v : Vec (Vec ℕ Global × Named) Global) → named_model (Record v) ≡ NamedModel.components (components_seen (map (λ c. (c.0, named_model c.1)) v.items))
record_level v = search (rules, the_lemmas)

pub named_record : (v : Vec (Vec ℕ Global × Named) Global) → named_model (Record v) ≡ NamedModel.components (component_models v.items)
named_record v = record_level v ∙ ap NamedModel.components (components_are v.items)

variants_are : (xs : List (Vec ℕ Global × (ℕ × Named))) → variants_seen (map (λ m. (m.0, (m.1.0, named_model m.1.1))) xs) ≡ variant_models xs
variants_are [] = refl
variants_are (x ∷ xs) = ap (variant_and x.0.items x.1.0 (named_model x.1.1)) (variants_are xs)

choice_level : (v : Vec (Vec ℕ Global × (ℕ × Named)) Global) → named_model (Choice v) ≡ NamedModel.choice (variants_seen (map (λ m. (m.0, (m.1.0, named_model m.1.1))) v.items))
choice_level v = search (rules, the_lemmas)

pub named_choice : (v : Vec (Vec ℕ Global × (ℕ × Named)) Global) → named_model (Choice v) ≡ NamedModel.choice (variant_models v.items)
named_choice v = choice_level v ∙ ap NamedModel.choice (variants_are v.items)

pub value_fields : (v : Vec Value Global) → value_model (VFields v) ≡ ValueModel.fields (value_models v.items)
value_fields v = search (rules, value_lemmas)
