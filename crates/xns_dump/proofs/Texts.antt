-- The text of lines, and the data packets among them.
use Rattle.std.proofs.Common.{◌≡◌, ◌∙◌, ap, sym, refl, arith, ℕ, ◌+◌, List, [], ◌∷◌, ◌++◌, length, length-append, ◌≤◌, add-zero, append_assoc, append-nil, Option, Some, None}
use Rattle.std.specs.Option.{option_to_list}
use Rattle.std.proofs.lemmas.Grind.{flat_map-append}
use Rattle.xns_lines.specs.Faults.{Begins}
use Rattle.xns_dump.specs.Dump.{items_in, items_of_line, text_from, text_of}
use Rattle.xns_dump.specs.Dump.Line.{item_of_line, text_of_line}
use Rattle.xns_dump.specs.Flows.{DataPacket, item_number}

pub items_in-append : (xs ys : List (List ℕ)) → items_in (xs ++ ys) ≡ items_in xs ++ items_in ys
items_in-append xs ys = flat_map-append items_of_line xs ys

pub items_in-last : (xs : List (List ℕ)) (line : List ℕ) → items_in (xs ++ line ∷ []) ≡ items_in xs ++ items_of_line line
items_in-last xs line = items_in-append xs (line ∷ []) ∙ ap (λ t. items_in xs ++ t) (append-nil (items_of_line line))

pub at_most_one : (o : Option DataPacket) → length (option_to_list o) ≤ 1
at_most_one None = omega arith
at_most_one (Some x) = omega arith

-- a line spells one data packet at most
pub few_items : (xs : List (List ℕ)) → length (items_in xs) ≤ length xs
few_items [] = omega arith
few_items (x ∷ xs) = omega (arith, length-append (items_of_line x) (items_in xs), at_most_one (item_of_line x), few_items xs)

pub text_from-append : (n : ℕ) (earlier : List DataPacket) (xs ys : List (List ℕ)) → text_from n earlier (xs ++ ys) ≡ text_from n earlier xs ++ text_from (n + length xs) (earlier ++ items_in xs) ys
text_from-append n earlier [] ys = rw (add-zero, append-nil) refl
text_from-append n earlier (x ∷ xs) ys =
    let e : (n + 1) + length xs ≡ n + length (x ∷ xs) = omega arith in
    let same : (earlier ++ items_of_line x) ++ items_in xs ≡ earlier ++ items_in (x ∷ xs) = append_assoc earlier (items_of_line x) (items_in xs) in
    let said = text_of_line n (item_number earlier) x in
    let first = text_from (n + 1) (earlier ++ items_of_line x) xs in
    ap (λ t. said ++ t) (text_from-append (n + 1) (earlier ++ items_of_line x) xs ys ∙ ap (λ k. first ++ text_from k ((earlier ++ items_of_line x) ++ items_in xs) ys) e
    ∙ ap (λ s. first ++ text_from (n + length (x ∷ xs)) s ys) same)
    ∙ sym (append_assoc said first (text_from (n + length (x ∷ xs)) (earlier ++ items_in (x ∷ xs)) ys))

pub text-last : (xs : List (List ℕ)) (line : List ℕ) → text_of (xs ++ line ∷ []) ≡ text_of xs ++ text_of_line (length xs + 1) (item_number (items_in xs)) line
text-last xs line =
    let e : 1 + length xs ≡ length xs + 1 = omega arith in
    text_from-append 1 [] xs (line ∷ []) ∙ ap (λ k. text_of xs ++ (text_of_line k (item_number (items_in xs)) line ++ [])) e ∙ ap (λ t. text_of xs ++ t) (append-nil (text_of_line (length xs + 1) (item_number (items_in xs)) line))

-- the text of the first lines begins the text
pub text_behind : (lines more : List (List ℕ)) → Begins (text_of lines) (text_of (lines ++ more))
text_behind lines more = (text_from (1 + length lines) (items_in lines) more, sym (text_from-append 1 [] lines more))
