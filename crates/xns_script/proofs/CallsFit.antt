-- Calls that a line can make may be made of the tally.
use Rattle.std.proofs.Common.{◌≡◌, sym, refl, subst, rules, arith, ℕ, ◌<◌, ◌==◌, Bool, true, false, cond, List, get_or, length}
use Rattle.std.specs.Prelude.{◌&&◌}
use Rattle.std.specs.List.{All}
use Rattle.std.proofs.lemmas.Bool.{and_parts, eqb-true, leb-true, ltb-true}
use Rattle.std.proofs.lemmas.List.Sums.{AllPass-from_list_all}
use Rattle.courier_messages.specs.RawCalls.{most_call_words}
use Rattle.courier_types.specs.Fits.{has_shape}
use Rattle.courier_types.specs.Value.{ValueModel, no_values}
use Rattle.courier_calls.specs.Calls.{ArgumentsModel, CallFits, CallModel, found, raw_words, typed}
use Rattle.courier_calls.specs.Tally.{tally}
use Rattle.xns_script.specs.Saying.{are_said, is_cardinal, is_no_fields, can_be_said}

cardinal_fits : (x : ValueModel) → is_cardinal x ≡ true → CallFits tally.table (record { program = 7; version = 2; procedure = 1; arguments = typed x })
unfolding found has_shape
cardinal_fits (ValueModel.cardinal n) e =
    let small : n < 65536 = ltb-true n 65536 e in
    record { arguments = record { variants = search rules; numbers = omega arith }; size = omega arith }
cardinal_fits _ e = cc

fields_fit : (x : ValueModel) → is_no_fields x ≡ true → CallFits tally.table (record { program = 7; version = 2; procedure = 2; arguments = typed x })
unfolding found has_shape
fields_fit (ValueModel.fields no_values) e = record { arguments = record { variants = search rules; numbers = tt }; size = omega arith }
fields_fit _ e = cc

abbrev Fitting : ℕ → ℕ → ℕ → ArgumentsModel → Type 0
Fitting p v q arguments = CallFits tally.table (record { program = p; version = v; procedure = q; arguments = arguments })

by_procedure : (b : Bool) (q : ℕ) (x : ValueModel) → (q == 1) ≡ b → cond b (is_cardinal x) (q == 2 && is_no_fields x) ≡ true → Fitting 7 2 q (typed x)
by_procedure true q x e h = subst (λ n. Fitting 7 2 n (typed x)) (sym (eqb-true q 1 e)) (cardinal_fits x h)
by_procedure false q x e h =
    let second = and_parts (q == 2) (is_no_fields x) h in
    subst (λ n. Fitting 7 2 n (typed x)) (sym (eqb-true q 2 second.0)) (fields_fit x second.1)

typed_fits : (p v q : ℕ) (x : ValueModel) → (p == 7 && (v == 2 && cond (q == 1) (is_cardinal x) (q == 2 && is_no_fields x))) ≡ true → Fitting p v q (typed x)
typed_fits p v q x h =
    let program = and_parts (p == 7) _ h in
    let version = and_parts (v == 2) _ program.1 in
    subst (λ n. Fitting n v q (typed x)) (sym (eqb-true p 7 program.0))
    (subst (λ n. Fitting 7 n q (typed x)) (sym (eqb-true v 2 version.0)) (by_procedure (q == 1) q x refl version.1))

fits : (p v q : ℕ) (arguments : ArgumentsModel) → can_be_said (record { program = p; version = v; procedure = q; arguments = arguments }) ≡ true → Fitting p v q arguments
fits p v q (typed x) h = typed_fits p v q x h
fits p v q (raw_words words) h = record { arguments = tt; size = leb-true (length words) most_call_words h }

pub all_fit : (calls : List CallModel) → are_said calls ≡ true → All (CallFits tally.table) calls
all_fit calls e = λ k d lt.
    let c = get_or calls k d in fits c.program c.version c.procedure c.arguments (AllPass-from_list_all can_be_said calls e k d lt)
