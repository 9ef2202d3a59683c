-- What a name refers to was declared.
use Rattle.std.proofs.Common.{◌≡◌, ℕ, Bool, true, false, cond, List, [], ◌∷◌, Option, Some, None, Result, Ok, Err, option_map, refl, ap, ◌∙◌}
use Rattle.std.proofs.lemmas.Slice.Eq.{bytes_eq-Decides}
use Rattle.std.specs.List.{find}
use Rattle.std.specs.Str.{bytes_eq}
use Rattle.courier_notation.specs.Failing.{◌>>=◌}
use Rattle.courier_notation.specs.declared.written.Reference.{Reference}
use Rattle.courier_notation.specs.declared.written.Reference.TheVariants as references
use Rattle.courier_texts.specs.Named.{NamedModel}
use Rattle.courier_programs.specs.declared.program.Program.{Program}
use Rattle.courier_programs.specs.Laws.{IsDeclared, IsDeclaredAs, ReferredTypeIsDeclared}
use Rattle.courier_programs.specs.Meanings.{MeaningList, MeaningModel, meaning_of, meanings_seen}
use Rattle.courier_programs.specs.Faults.{NameFault}
use Rattle.courier_programs.specs.Scopes.{Env, look_up, program_named, name_text, type_by, type_named}

pub same_bytes : (xs ys : List ℕ) → bytes_eq xs ys ≡ true → xs ≡ ys
same_bytes xs ys h = (bytes_eq-Decides xs ys).0 h

by_test : (b : Bool) (x : List ℕ × MeaningModel) (xs : MeaningList) (name : List ℕ) (m : MeaningModel) → bytes_eq x.0 name ≡ b
    → option_map (λ (y : List ℕ × MeaningModel). y.1) (cond b (Some x) (find (λ (y : List ℕ × MeaningModel). bytes_eq y.0 name) xs)) ≡ Some m
    → (meaning_of xs name ≡ Some m → IsDeclared xs name m) → IsDeclared (x ∷ xs) name m
by_test true x xs name m test h more =
    let same : x.0 ≡ name = same_bytes x.0 name test in
    let meant : x.1 ≡ m = cc in
    record { front = []; back = xs; parts = ap (λ (n : List ℕ). (n, x.1) ∷ xs) same ∙ ap (λ (k : MeaningModel). (name, k) ∷ xs) meant; first = refl }
by_test false x xs name m test h more =
    let d : IsDeclared xs name m = more h in
    record {
      front = x ∷ d.front;
      back = d.back;
      parts = ap (λ (ys : MeaningList). x ∷ ys) d.parts;
      first = ap (λ (b : Bool). option_map (λ (y : List ℕ × MeaningModel). y.1) (cond b (Some x) (find (λ (y : List ℕ × MeaningModel). bytes_eq y.0 name) d.front))) test ∙ d.first;
    }

found_is_declared : (ms : MeaningList) (name : List ℕ) (m : MeaningModel) → meaning_of ms name ≡ Some m → IsDeclared ms name m
found_is_declared [] name m h = absurd (cc)
found_is_declared (x ∷ xs) name m h = by_test (bytes_eq x.0 name) x xs name m refl h (found_is_declared xs name m)

meant_type : (e : Env) (r : Reference) (found : Option MeaningModel) (t : NamedModel × ℕ) → type_by e r found ≡ Ok t → found ≡ Some (MeaningModel.type t.0 t.1)
meant_type e r (Some (MeaningModel.type named size)) t h = cc
meant_type e r (Some MeaningModel.recursive) t h = absurd (cc)
meant_type e r (Some (MeaningModel.constant value)) t h = absurd (cc)
meant_type e r (Some MeaningModel.procedure) t h = absurd (cc)
meant_type e r (Some MeaningModel.error) t h = absurd (cc)
meant_type e r None t h = absurd (cc)

of_program : (e : Env) (program name : ℕ) (found : Result Program NameFault) (t : NamedModel × ℕ) → program_named e program ≡ found
    → ((found >>= λ p. Ok (meaning_of (meanings_seen p.meanings.items) (name_text e.names name))) >>= λ m. type_by e (references.Other program name) m) ≡ Ok t
    → IsDeclaredAs e (references.Other program name) (MeaningModel.type t.0 t.1)
of_program e program name (Ok p) t is h =
    (p, is, found_is_declared (meanings_seen p.meanings.items) (name_text e.names name) (MeaningModel.type t.0 t.1) (meant_type e (references.Other program name) (meaning_of (meanings_seen p.meanings.items) (name_text e.names name)) t h))
of_program e program name (Err f) t is h = absurd (cc)

pub type_is_declared : ReferredTypeIsDeclared
unfolding type_named look_up
type_is_declared e (references.Own name) t h =
    found_is_declared e.meanings (name_text e.names name) (MeaningModel.type t.0 t.1) (meant_type e (references.Own name) (meaning_of e.meanings (name_text e.names name)) t h)
type_is_declared e (references.Other program name) t h = of_program e program name (program_named e program) t refl h
