-- Two numbers order places as their fields do.
use Rattle.std.proofs.Common.{◌≡◌, ◌∙◌, ap, sym, refl, arith, ℕ, suc, ◌+◌, ◌*◌, ◌<◌, List, [], ◌∷◌, length}
use Rattle.std.specs.Prelude.{All}
use Rattle.std.proofs.lemmas.Nat.{row_fits}
use Rattle.std.specs.Cmp.{nat_cmp_is, ranked}
use Rattle.std.specs.Cmp.Lexicographic.{slice_cmp}
use Rattle.std.specs.Ordering.{MatchOrdering, nat_cmp, ordering_then}
use Rattle.std.specs.declared.cmp.Ordering.{Ordering}
use Rattle.std.specs.declared.cmp.Ordering.TheVariants.{Less, Equal, Greater}
use Rattle.xns_dump.specs.Flows.Places.{IsPlace, host_and_socket, number_behind, place_cmp}
use Rattle.xns_dump.specs.declared.flows.place.Place.{Place}

then_assoc : (x y z : Ordering) → ordering_then (ordering_then x y) z ≡ ordering_then x (ordering_then y z)
then_assoc Less y z = refl
then_assoc Equal y z = refl
then_assoc Greater y z = refl

pub then_equal : (x : Ordering) → ordering_then x Equal ≡ x
then_equal Less = refl
then_equal Equal = refl
then_equal Greater = refl

-- a high digit decides, to whatever base
high_less : (base p q x y : ℕ) → p < q → x < base → p * base + x < q * base + y
high_less base p q x y high small = omega (arith, row_fits p base q base high (omega arith), small)

-- a low digit decides where what is above it is equal
low_less : (base p q x y : ℕ) → p ≡ q → x < y → p * base + x < q * base + y
low_less base p q x y high low = omega (arith, ap (λ n. n * base) high, low)

digits_rank : (base p q x y : ℕ) (r s : Ordering) → MatchOrdering r (p < q) (p ≡ q) (q < p) → MatchOrdering s (x < y) (x ≡ y) (y < x) → x < base → y < base
    → ordering_then r s ≡ nat_cmp (p * base + x) (q * base + y)
digits_rank base p q x y Less s high low small small_too = nat_cmp_is (p * base + x) (q * base + y) Less (high_less base p q x y high small)
digits_rank base p q x y Equal Less high low small small_too = nat_cmp_is (p * base + x) (q * base + y) Less (low_less base p q x y high low)
digits_rank base p q x y Equal Equal high low small small_too = nat_cmp_is (p * base + x) (q * base + y) Equal (omega (arith, ap (λ n. n * base) high, low))
digits_rank base p q x y Equal Greater high low small small_too = nat_cmp_is (p * base + x) (q * base + y) Greater (low_less base q p y x (sym high) low)
digits_rank base p q x y Greater s high low small small_too = nat_cmp_is (p * base + x) (q * base + y) Greater (high_less base q p y x high small_too)

digit_more : (base p q x y : ℕ) → x < base → y < base → ordering_then (nat_cmp p q) (nat_cmp x y) ≡ nat_cmp (p * base + x) (q * base + y)
digit_more base p q x y = digits_rank base p q x y (nat_cmp p q) (nat_cmp x y) (ranked p q (nat_cmp p q) refl) (ranked x y (nat_cmp x y) refl)

-- as many bytes are ordered as the numbers that they spell
bytes_behind : (p q : ℕ) (xs ys : List ℕ) → length xs ≡ length ys → All (λ byte. byte < 256) xs → All (λ byte. byte < 256) ys
    → ordering_then (nat_cmp p q) (slice_cmp nat_cmp xs ys) ≡ nat_cmp (number_behind p xs) (number_behind q ys)
bytes_behind p q [] [] same small small_too = then_equal (nat_cmp p q)
bytes_behind p q [] (y ∷ ys) same small small_too = absurd (omega (arith, same))
bytes_behind p q (x ∷ xs) [] same small small_too = absurd (omega (arith, same))
bytes_behind p q (x ∷ xs) (y ∷ ys) same small small_too =
    sym (then_assoc (nat_cmp p q) (nat_cmp x y) (slice_cmp nat_cmp xs ys))
    ∙ ap (λ r. ordering_then r (slice_cmp nat_cmp xs ys)) (digit_more 256 p q x y (small 0 0 (omega arith)) (small_too 0 0 (omega arith)))
    ∙ bytes_behind (p * 256 + x) (q * 256 + y) xs ys (omega (arith, same)) (λ k d lt. small (suc k) d (omega (arith, lt))) (λ k d lt. small_too (suc k) d (omega (arith, lt)))

-- host and socket, and then the identifier, order places as their fields do
pub two_numbers : (a b : Place) → IsPlace a → IsPlace b → ordering_then (nat_cmp (host_and_socket a) (host_and_socket b)) (nat_cmp a.identifier b.identifier) ≡ place_cmp a b
two_numbers a b formed formed_too =
    let front : ordering_then (slice_cmp nat_cmp a.host b.host) (nat_cmp a.socket b.socket) ≡ nat_cmp (host_and_socket a) (host_and_socket b) =
    ap (λ r. ordering_then r (nat_cmp a.socket b.socket)) (bytes_behind 0 0 a.host b.host (formed.host ∙ sym formed_too.host) formed.bytes formed_too.bytes)
    ∙ digit_more 65536 (number_behind 0 a.host) (number_behind 0 b.host) a.socket b.socket formed.socket formed_too.socket in
    ap (λ r. ordering_then r (nat_cmp a.identifier b.identifier)) (sym front) ∙ then_assoc (slice_cmp nat_cmp a.host b.host) (nat_cmp a.socket b.socket) (nat_cmp a.identifier b.identifier)
