use Rattle.std.proofs.Common.{◌≡◌, ◌∙◌, ◌++◌, ap, ℕ, List, refl, append_assoc}
use Rattle.std.specs.Prelude.{codes}
use Rattle.std.specs.Fmt.{decimal}
use Rattle.xns_dump.specs.Layers.Courier.{callee_text}
use Rattle.xns_calls.proofs.plain_lines.write_callee.Goals as goal

-- three names, each with its number, before the rest
in_parts : (name number second other third last rest : List ℕ)
    → (name ++ number) ++ ((second ++ other) ++ ((third ++ last) ++ rest))
    ≡ (name ++ number ++ (second ++ other) ++ (third ++ last)) ++ rest
in_parts name number second other third last rest = simp append_assoc refl

joined : (program version procedure : ℕ) (rest : List ℕ)
    → (codes " program " ++ decimal program) ++ ((codes " version " ++ decimal version) ++ ((codes " procedure " ++ decimal procedure) ++ rest))
    ≡ callee_text program version procedure ++ rest
unfolding callee_text
joined program version procedure rest =
    in_parts (codes " program ") (decimal program) (codes " version ") (decimal version) (codes " procedure ") (decimal procedure) rest

-- what three writes leave, each before what the last one left
chain : (program version procedure p v q : ℕ) (rest one two three : List ℕ) → p ≡ program → v ≡ version → q ≡ procedure
    → one ≡ (codes " procedure " ++ decimal q) ++ rest → two ≡ (codes " version " ++ decimal v) ++ one
    → three ≡ (codes " program " ++ decimal p) ++ two → three ≡ callee_text program version procedure ++ rest
chain program version procedure p v q rest one two three pe ve qe e1 e2 e3 =
    let under : two ≡ (codes " version " ++ decimal v) ++ ((codes " procedure " ++ decimal q) ++ rest) = e2 ∙ ap (λ (t : List ℕ). (codes " version " ++ decimal v) ++ t) e1 in
    ((((e3 ∙ ap (λ (t : List ℕ). (codes " program " ++ decimal p) ++ t) under) ∙ joined p v q rest) ∙ ap (λ (n : ℕ). callee_text n v q ++ rest) pe)
    ∙ ap (λ (n : ℕ). callee_text program n q ++ rest) ve) ∙ ap (λ (n : ℕ). callee_text program version n ++ rest) qe

pub returns-clause-text : goal.returns-clause-text
returns-clause-text c = chain _ _ _ _ _ _ _ _ _ _ c.from-3.ensures c.from-2.ensures c.from.ensures c.write_field.ensures.text
    c.write_field-2.ensures.text c.write_field-3.ensures.text
