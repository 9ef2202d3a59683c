-- What is written and read.
use Rattle.std.proofs.Common.{◌≡◌, ◌∙◌, ap, sym, refl, ℕ, ◌-◌, List, [], ◌++◌, length, append_assoc, append-nil, take, drop, subst, Option, Some, None, Result, Ok, Err}
use Rattle.std.specs.Prelude.{OnOk}
use Rattle.std.specs.Io.KnownBytes.{Appends, Consumes, Keeps}
use Rattle.std.proofs.lemmas.List.{take-append-drop, take_rest}
use Rattle.xns_lines.specs.Faults.{AppendsPart, Begins}

pub begins_trans : (a b c : List ℕ) → Begins a b → Begins b c → Begins a c
begins_trans a b c x y = (x.0 ++ y.0, sym (append_assoc a x.0 y.0) ∙ ap (λ t. t ++ y.0) x.1 ∙ y.1)

pub appends_nothing : (known : Option (List ℕ)) → Appends known known []
appends_nothing None = tt
appends_nothing (Some xs) = sym (append-nil xs)

pub appends_trans : (a b c : Option (List ℕ)) (x y : List ℕ) → Appends a b x → Appends b c y → Appends a c (x ++ y)
appends_trans None b c x y h k = tt
appends_trans (Some u) None c x y h k = absurd h
appends_trans (Some u) (Some v) None x y h k = absurd k
appends_trans (Some u) (Some v) (Some w) x y h k = k ∙ ap (λ t. t ++ y) h ∙ append_assoc u x y

-- a part of what follows what is written
pub part_written : (before mid after : Option (List ℕ)) (out pending text : List ℕ) → Appends before mid out → out ++ pending ≡ text → AppendsPart mid after pending → AppendsPart before after text
part_written before mid after out pending text w e part = (
  out ++ part.0,
  appends_trans before mid after _ _ w part.1,
  (part.2.0, part.2.1, append_assoc out part.0 part.2.0 ∙ ap (λ t. out ++ t) part.2.2 ∙ e),
)

pub consumes_nothing : (known : Option (List ℕ)) → Consumes known known []
consumes_nothing None = tt
consumes_nothing (Some xs) = refl

pub consumes_trans : (a b c : Option (List ℕ)) (x y : List ℕ) → Consumes a b x → Consumes b c y → Consumes a c (x ++ y)
consumes_trans None b c x y h k = tt
consumes_trans (Some u) None c x y h k = absurd h
consumes_trans (Some u) (Some v) None x y h k = absurd k
consumes_trans (Some u) (Some v) (Some w) x y h k = h ∙ ap (λ t. x ++ t) k ∙ sym (append_assoc x y w)

pub consumes_kept : (a b c : Option (List ℕ)) (x : List ℕ) → Consumes a b x → Keeps b c → Consumes a c x
consumes_kept None b c x h k = tt
consumes_kept (Some u) None c x h k = absurd h
consumes_kept (Some u) (Some v) None x h k = absurd k
consumes_kept (Some u) (Some v) (Some w) x h k = h ∙ ap (λ t. x ++ t) (sym k)

pub rest_written : (front rest text : List ℕ) (n : ℕ) → front ++ rest ≡ text → (front ++ take n rest) ++ take (length rest - n) (drop n rest) ≡ text
rest_written front rest text n e =
    append_assoc front (take n rest) (take (length rest - n) (drop n rest))
    ∙ ap (λ t. front ++ (take n rest ++ t)) (take_rest rest n)
    ∙ ap (λ t. front ++ t) (take-append-drop n rest) ∙ e

pub on_ok_2 : {T E : Type 0} (A B X : Type 0) (r : Result T E) → OnOk r A → OnOk r B → (A → B → X) → OnOk r X
on_ok_2 A B X (Ok x) a b f = f a b
on_ok_2 A B X (Err e) a b f = tt

pub consumes_none : (a b c : Option (List ℕ)) (x y : List ℕ) → y ≡ [] → Consumes a b x → Consumes b c y → Consumes a c x
consumes_none a b c x y e h k = subst (Consumes a c) (ap (λ t. x ++ t) e ∙ append-nil x) (consumes_trans a b c x y h k)
