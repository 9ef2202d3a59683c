-- Fields as single bytes.
use Rattle.std.proofs.Common.{◌≡◌, ℕ, zero, suc, ◌+◌, Bool, true, false, nat_eq, List, [], ◌∷◌, ◌++◌, length, get_or, drop, refl, sym, ap, ◌∙◌, arith}
use Rattle.std.proofs.Math.Seq.{drop-cons}
use Rattle.std.proofs.lemmas.List.{drop_all}
use Rattle.std.specs.Int.{w16, w32, to_be_bytes}
use Rattle.std.specs.Prelude.{◌&&◌}
use Rattle.std.specs.Str.{bytes_eq}
use Rattle.xns_idp.specs.Packet.{address_bytes}
use Rattle.xns_idp.specs.declared.address.Address.{Address}

-- the n bytes from a place on, one by one
abbrev cells_from : ℕ → ℕ → List ℕ → List ℕ
cells_from zero i h = []
cells_from (suc n) i h = get_or h i 0 ∷ cells_from n (suc i) h

all_cells : (n i : ℕ) (h : List ℕ) → length h ≡ i + n → cells_from n i h ≡ drop i h
all_cells zero i h is = sym (drop_all i h (omega (arith, is)))
all_cells (suc n) i h is = ap (λ (xs : List ℕ). get_or h i 0 ∷ xs) (all_cells n (suc i) h (omega (arith, is))) ∙ sym (drop-cons h i 0 (omega (arith, is)))

pub six_cells : (h : List ℕ) → length h ≡ 6 → h ≡ get_or h 0 0 ∷ get_or h 1 0 ∷ get_or h 2 0 ∷ get_or h 3 0 ∷ get_or h 4 0 ∷ get_or h 5 0 ∷ []
six_cells h six = sym (all_cells 6 0 h six)

pub address_cells : (a : Address) (n s : List ℕ) → length a.host ≡ 6 → n ≡ to_be_bytes w32 a.network → s ≡ to_be_bytes w16 a.socket
    → get_or n 0 0 ∷ get_or n 1 0 ∷ get_or n 2 0 ∷ get_or n 3 0 ∷ get_or a.host 0 0 ∷ get_or a.host 1 0 ∷ get_or a.host 2 0 ∷ get_or a.host 3 0 ∷ get_or a.host 4 0 ∷ get_or a.host 5 0 ∷ get_or s 0 0 ∷ get_or s 1 0 ∷ [] ≡ address_bytes a
address_cells a n s six en es =
    ap (λ (m : List ℕ). get_or m 0 0 ∷ get_or m 1 0 ∷ get_or m 2 0 ∷ get_or m 3 0 ∷ get_or a.host 0 0 ∷ get_or a.host 1 0 ∷ get_or a.host 2 0 ∷ get_or a.host 3 0 ∷ get_or a.host 4 0 ∷ get_or a.host 5 0 ∷ get_or s 0 0 ∷ get_or s 1 0 ∷ []) en
    ∙ ap (λ (m : List ℕ). to_be_bytes w32 a.network ++ (get_or a.host 0 0 ∷ get_or a.host 1 0 ∷ get_or a.host 2 0 ∷ get_or a.host 3 0 ∷ get_or a.host 4 0 ∷ get_or a.host 5 0 ∷ get_or m 0 0 ∷ get_or m 1 0 ∷ [])) es
    ∙ ap (λ (h : List ℕ). to_be_bytes w32 a.network ++ h ++ to_be_bytes w16 a.socket) (sym (six_cells a.host six))

abbrev twelve_of : List ℕ → List ℕ
twelve_of h = cells_from 12 0 h

-- a header: the length field, the control and the type, and two addresses
pub header_cells : (n t s front target source : List ℕ) (control kind : ℕ) → n ≡ front → length t ≡ 12 → length s ≡ 12 → t ≡ target → s ≡ source
    → 0 ∷ 0 ∷ get_or n 0 0 ∷ get_or n 1 0 ∷ control ∷ kind ∷ twelve_of t ++ twelve_of s ≡ 0 ∷ 0 ∷ get_or front 0 0 ∷ get_or front 1 0 ∷ control ∷ kind ∷ target ++ source
header_cells n t s front target source control kind en tl sl et es =
    ap (λ (m : List ℕ). 0 ∷ 0 ∷ get_or m 0 0 ∷ get_or m 1 0 ∷ control ∷ kind ∷ twelve_of t ++ twelve_of s) en
    ∙ (ap (λ (x : List ℕ). 0 ∷ 0 ∷ get_or front 0 0 ∷ get_or front 1 0 ∷ control ∷ kind ∷ x ++ twelve_of s) (all_cells 12 0 t tl ∙ et)
    ∙ ap (λ (x : List ℕ). 0 ∷ 0 ∷ get_or front 0 0 ∷ get_or front 1 0 ∷ control ∷ kind ∷ target ++ x) (all_cells 12 0 s sl ∙ es))

together : (p q r s t u : Bool) → (((((p && q) && r) && s) && t) && u) ≡ (p && (q && (r && (s && (t && (u && true))))))
together false q r s t u = refl
together true false r s t u = refl
together true true false s t u = refl
together true true true false t u = refl
together true true true true false u = refl
together true true true true true false = refl
together true true true true true true = refl

-- six bytes are compared one by one
pub same_six : (a b : List ℕ) → length a ≡ 6 → length b ≡ 6 → ((((nat_eq (get_or a 0 0) (get_or b 0 0) && nat_eq (get_or a 1 0) (get_or b 1 0)) && nat_eq (get_or a 2 0) (get_or b 2 0)) && nat_eq (get_or a 3 0) (get_or b 3 0)) && nat_eq (get_or a 4 0) (get_or b 4 0)) && nat_eq (get_or a 5 0) (get_or b 5 0) ≡ bytes_eq a b
same_six a b al bl =
    together (nat_eq (get_or a 0 0) (get_or b 0 0)) (nat_eq (get_or a 1 0) (get_or b 1 0)) (nat_eq (get_or a 2 0) (get_or b 2 0)) (nat_eq (get_or a 3 0) (get_or b 3 0)) (nat_eq (get_or a 4 0) (get_or b 4 0)) (nat_eq (get_or a 5 0) (get_or b 5 0))
    ∙ sym (ap (λ (x : List ℕ). bytes_eq x b) (six_cells a al) ∙ ap (λ (y : List ℕ). bytes_eq (get_or a 0 0 ∷ get_or a 1 0 ∷ get_or a 2 0 ∷ get_or a 3 0 ∷ get_or a 4 0 ∷ get_or a 5 0 ∷ []) y) (six_cells b bl))
