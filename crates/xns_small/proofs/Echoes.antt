-- What is read of an Echo is what is spelled.
use Rattle.std.proofs.Common.{◌≡◌, ℕ, ◌+◌, ◌*◌, ◌<◌, Bool, true, false, eqb, ltb, List, [], ◌∷◌, ◌++◌, length, get_or, Result, Ok, Err, IfOk, refl, sym, ap, ◌∙◌, subst, inl, inr, arith}
use Rattle.std.proofs.lemmas.Bool.{eqb-true, cases_Bool, le-ltb}
use Rattle.xns_small.specs.Echo.{EchoModel, SpellsEcho, echo_model, echo_of, echo_spelling}
use Rattle.xns_small.specs.Reading.{answer_model}
use Rattle.xns_small.specs.declared.echo.Echo.{Echo}
use Rattle.xns_small.specs.declared.fault.SmallFault.{SmallFault}
use Rattle.xns_small.specs.declared.fault.SmallFault.TheVariants.{EchoOperation}
use Rattle.std.specs.Int.{w16, to_be_bytes}
use Rattle.xns_idp.proofs.Numbers.{two_bytes}

-- what is spelled of an operation and bytes is read
again : (reply : Bool) (body : List ℕ) → echo_of (echo_spelling (record { reply = reply; body = body })) ≡ Ok (record { reply = reply; body = body })
unfolding echo_of
again true body = let whole : ltb (length (0 ∷ 2 ∷ body)) 2 ≡ false = le-ltb _ _ (omega arith) in rw whole refl
again false body = let whole : ltb (length (0 ∷ 1 ∷ body)) 2 ≡ false = le-ltb _ _ (omega arith) in rw whole refl

-- what is spelled is read
pub echo_again : (v : EchoModel) → echo_of (echo_spelling v) ≡ Ok v
echo_again v = again v.reply v.body

read_as : EchoModel → Result EchoModel SmallFault
read_as v = Ok v

spells_as : (bytes : List ℕ) (u v : EchoModel) → SpellsEcho u bytes → read_as u ≡ read_as v → SpellsEcho v bytes
unfolding read_as
spells_as bytes u v spells e = let same : u ≡ v = cc in subst (λ (w : EchoModel). SpellsEcho w bytes) same spells

no_fault : (f : SmallFault) (v : EchoModel) → Err f ≡ read_as v → ⊥
unfolding read_as
no_fault f v e = cc

-- what is read is spelled
pub echo_spelled : (bytes : List ℕ) (v : EchoModel) → ((i : ℕ) → get_or bytes i 0 < 256) → echo_of bytes ≡ Ok v → SpellsEcho v bytes
unfolding echo_of read_as
echo_spelled [] v fits e = absurd cc
echo_spelled (a ∷ []) v fits e = absurd cc
echo_spelled (a ∷ b ∷ rest) v fits e =
    let whole : ltb (length (a ∷ b ∷ rest)) 2 ≡ false = le-ltb _ _ (omega arith) in
    elim (cases_Bool (eqb (256 * a + b) 1)) [
      | inl one ↦
          let number = eqb-true (256 * a + b) 1 one in
          spells_as (a ∷ b ∷ rest) (record { reply = false; body = rest }) v
          (ap (λ (xs : List ℕ). xs ++ rest) (sym (ap (to_be_bytes w16) (sym number) ∙ two_bytes a b (fits 0) (fits 1)))) (rw (whole, one) at e)
      | inr other ↦ elim (cases_Bool (eqb (256 * a + b) 2)) [
        | inl two ↦
            let number = eqb-true (256 * a + b) 2 two in
            spells_as (a ∷ b ∷ rest) (record { reply = true; body = rest }) v
            (ap (λ (xs : List ℕ). xs ++ rest) (sym (ap (to_be_bytes w16) (sym number) ∙ two_bytes a b (fits 0) (fits 1)))) (rw (whole, other, two) at e)
        | inr neither ↦ absurd (no_fault (EchoOperation (256 * a + b)) v (rw (whole, other, neither) at e))
      ]
    ]

pub echo_found : (bytes : List ℕ) (r : Result Echo SmallFault) → ((i : ℕ) → get_or bytes i 0 < 256) → answer_model echo_model r ≡ echo_of bytes → IfOk r (λ v. SpellsEcho (echo_model v) bytes)
echo_found bytes (Ok v) fits e = echo_spelled bytes (echo_model v) fits (sym e)
echo_found bytes (Err f) fits e = tt
