-- An identifier comes again behind all others.
use Rattle.std.proofs.Common.{◌≡◌, ◌≢◌, ◌∙◌, ◌⊎◌, inl, inr, ⊎_elim, sym, ap, refl, subst, subst₂, ℕ, suc, ◌+◌, ◌-◌, ◌<◌, ◌≤◌, List, [], ◌∷◌, ◌++◌, length, take, drop, get_or, arith}
use Rattle.std.proofs.Common.{Some, AllPairs, Any, Contains, IsPermutation, position, slice_get, length-drop, take-append-drop, get_or-drop, get_or-take, get_or-append-add}
use Rattle.std.proofs.Math.ListN.{get_or-append}
use Rattle.std.proofs.lemmas.Grind.{get_or_default_zero}
use Rattle.std.proofs.lemmas.List.Quantifiers.{position-Some}
use Rattle.std.proofs.lemmas.List.Sorted.{IsPermutation-append_comm, length_permutation}
use Rattle.std.proofs.lemmas.Option.{get_or_from_slice_get}
use Rattle.xns_host.specs.Identifiers.{Ids, IsOrder, IdentifierTurn, Given, none, gives, keeps, HadTurn, is_free, most_id}
use Rattle.xns_host.proofs.Ordered.{permuted}

-- ---- the order after a turn

abbrev turned : ℕ → List ℕ → List ℕ
turned n ids = drop n ids ++ take n ids

turns_over : (n : ℕ) (ids : List ℕ) → IsPermutation ids (turned n ids)
turns_over n ids = subst (λ (l : List ℕ). IsPermutation l (turned n ids)) (take-append-drop n ids) (IsPermutation-append_comm (take n ids) (drop n ids))

as_many : (n : ℕ) (ids : List ℕ) → length (turned n ids) ≡ length ids
as_many n ids = length_permutation ids (turned n ids) (turns_over n ids)

in_front : (n k : ℕ) (ids : List ℕ) → n + k < length ids → get_or (turned n ids) k 0 ≡ get_or ids (n + k) 0
in_front n k ids within = let left = length-drop n ids in get_or-append (drop n ids) (take n ids) 0 k (omega (arith, left, within)) ∙ get_or-drop n ids k 0

behind : (n k : ℕ) (ids : List ℕ) → k < n → get_or (turned n ids) (length ids - n + k) 0 ≡ get_or ids k 0
behind n k ids less =
    ap (λ (i : ℕ). get_or (turned n ids) (i + k) 0) (sym (length-drop n ids)) ∙ get_or-append-add (drop n ids) (take n ids) k 0 ∙ get_or-take n ids k 0 less

-- ---- one stands ahead of another, wherever that stands

record Leads (ids : List ℕ) (y x : ℕ) : Type 0 where
  pub at : ℕ
  pub within : at < length ids
  pub there : get_or ids at 0 ≡ y
  pub others : (k : ℕ) → k < at → get_or ids k 0 ≢ x

sides : (i j : ℕ) → (i < j) ⊎ ((i ≡ j) ⊎ (j < i))
sides i j = grind arith

-- a turn that takes one before it changes nothing of that
still : (ids : List ℕ) (place y x : ℕ) (l : Leads ids y x) → place < l.at → Leads (turned (place + 1) ids) y x
still ids place y x l past =
    let bound = l.within in
    record {
      at = l.at - (place + 1);
      within = let many = as_many (place + 1) ids in omega (arith, many, bound, past);
      there = in_front (place + 1) (l.at - (place + 1)) ids (omega (arith, bound, past)) ∙ ap (λ (i : ℕ). get_or ids i 0) (omega (arith, past)) ∙ l.there;
      others = λ k less is. l.others (place + 1 + k) (omega (arith, less)) (sym (in_front (place + 1) k ids (omega (arith, less, bound))) ∙ is);
    }

-- the one that is given stands behind all others
module _ (ids : List ℕ) (place x y : ℕ) (distinct : AllPairs (λ a b. a ≢ b) ids) (within : place < length ids) (given : get_or ids place 0 ≡ x) where
  abbrev rest : ℕ
  rest = length ids - (place + 1)

  not_in_front : (k : ℕ) → k < rest → get_or (turned (place + 1) ids) k 0 ≢ x
  not_in_front k less is =
      distinct place (place + 1 + k) 0 (omega arith) (omega (arith, less)) (given ∙ sym is ∙ in_front (place + 1) k ids (omega (arith, less)))

  later : (q : ℕ) → q < length ids → get_or ids q 0 ≡ y → place < q → Leads (turned (place + 1) ids) y x
  later q bound is past =
      record {
        at = q - (place + 1);
        within = let many = as_many (place + 1) ids in omega (arith, many, bound, past);
        there = in_front (place + 1) (q - (place + 1)) ids (omega (arith, bound, past)) ∙ ap (λ (i : ℕ). get_or ids i 0) (omega (arith, past)) ∙ is;
        others = λ k less. not_in_front k (omega (arith, less, bound));
      }

  not_before : (q k : ℕ) → q < place → k < rest + q → (k < rest) ⊎ (rest ≤ k) → get_or (turned (place + 1) ids) k 0 ≢ x
  not_before q k past less (inl low) is = not_in_front k low is
  not_before q k past less (inr high) is =
      distinct (k - rest) place 0 (omega (arith, less, high, past)) within
      (sym (behind (place + 1) (k - rest) ids (omega (arith, less, high, past))) ∙ ap (λ (i : ℕ). get_or (turned (place + 1) ids) i 0) (omega (arith, high)) ∙ is ∙ sym given)

  earlier : (q : ℕ) → get_or ids q 0 ≡ y → q < place → Leads (turned (place + 1) ids) y x
  earlier q is past =
      record {
        at = rest + q;
        within = let many = as_many (place + 1) ids in omega (arith, many, within, past);
        there = behind (place + 1) q ids (omega (arith, past)) ∙ is;
        others = λ k less. not_before q k past less (below k);
      } where
        below : (k : ℕ) → (k < rest) ⊎ (rest ≤ k)
        below k = grind arith

  behind_all : Contains ids y → y ≢ x → Leads (turned (place + 1) ids) y x
  behind_all (q, bound, is) other = by (sides q place) where
    here : get_or ids q 0 ≡ y
    here = sym (get_or_default_zero ids q y bound) ∙ is

    by : (q < place) ⊎ ((q ≡ place) ⊎ (place < q)) → Leads (turned (place + 1) ids) y x
    by (inl past) = earlier q here past
    by (inr (inl e)) = absurd (other (sym here ∙ ap (λ (i : ℕ). get_or ids i 0) e ∙ given))
    by (inr (inr past)) = later q bound here past

-- ---- at each turn

first_any : {X : Type 0} (P : X → Type 0) (x : X) (xs : List X) → P x → Any P (x ∷ xs)
first_any P x xs p = (0, x, omega arith, refl, p)

next_any : {X : Type 0} (P : X → Type 0) (x : X) (xs : List X) → Any P xs → Any P (x ∷ xs)
next_any P x xs (k, y, within, is, p) = (suc k, y, omega (arith, within), is, p)

-- what the next turn did
record Next (ids : List ℕ) (turn : IdentifierTurn) (after : List IdentifierTurn) (end : Ids) : Type 0 where
  pub place : ℕ
  pub first : position (is_free turn.owners) ids ≡ Some place
  pub there : slice_get ids place ≡ Some turn.given
  pub now : Ids
  pub order : now.ahead ≡ turned (place + 1) ids
  pub goes_on : Given now after end

next_turn : {a c : Ids} {turns : List IdentifierTurn} (turn : IdentifierTurn) (after : List IdentifierTurn) → Given a turns c → turns ≡ turn ∷ after → Next a.ahead turn after c
next_turn turn after none e = absurd (cc)
next_turn {a} turn after (keeps {b = b} same more) e =
    let n = next_turn turn after more e in
    record {
      place = n.place;
      first = subst (λ (ids : List ℕ). position (is_free turn.owners) ids ≡ Some n.place) same n.first;
      there = subst (λ (ids : List ℕ). slice_get ids n.place ≡ Some turn.given) same n.there;
      now = n.now;
      order = n.order ∙ ap (λ (ids : List ℕ). turned (n.place + 1) ids) same;
      goes_on = n.goes_on;
    }
next_turn {a} {c} turn after (gives {b = b} {turns = turns} id t more) e =
    let same : record { given = id; owners = a.owners } ≡ turn = ap (λ (l : List IdentifierTurn). get_or l 0 turn) e in
    record {
      place = t.place;
      first = subst (λ (u : IdentifierTurn). position (is_free u.owners) a.ahead ≡ Some t.place) same t.first;
      there = subst (λ (u : IdentifierTurn). slice_get a.ahead t.place ≡ Some u.given) same t.there;
      now = b;
      order = t.turned;
      goes_on = subst (λ (l : List IdentifierTurn). Given b l c) (ap (λ (l : List IdentifierTurn). drop 1 l) e) more;
    }

-- an identifier that stands ahead has its turn, or still stands ahead
at_turn : (ids : List ℕ) (turn : IdentifierTurn) (place y x : ℕ) → position (is_free turn.owners) ids ≡ Some place → slice_get ids place ≡ Some turn.given
    → Leads ids y x → HadTurn y turn ⊎ ((turn.given ≢ x) × Leads (turned (place + 1) ids) y x)
at_turn ids turn place y x first there l = by (sides l.at place) where
  given : get_or ids place 0 ≡ turn.given
  given = get_or_from_slice_get ids place turn.given 0 there

  by : (l.at < place) ⊎ ((l.at ≡ place) ⊎ (place < l.at)) → HadTurn y turn ⊎ ((turn.given ≢ x) × Leads (turned (place + 1) ids) y x)
  by (inl past) = inl (inr (ap (is_free turn.owners) (sym l.there) ∙ (position-Some (is_free turn.owners) ids place 0 first).2 l.at past))
  by (inr (inl e)) = inl (inl (sym given ∙ ap (λ (i : ℕ). get_or ids i 0) (sym e) ∙ l.there))
  by (inr (inr past)) = inr ((λ is. l.others place past (given ∙ is)), still ids place y x l past)

has_turn : {c : Ids} (since after : List IdentifierTurn) (again : IdentifierTurn) (a : Ids) (y : ℕ) → Given a (since ++ again ∷ after) c → Leads a.ahead y again.given
    → Any (HadTurn y) (since ++ again ∷ [])
has_turn {c} [] after again a y g l = by (at_turn a.ahead again n.place y again.given n.first n.there l) where
  n : Next a.ahead again after c
  n = next_turn again after g refl

  by : HadTurn y again ⊎ ((again.given ≢ again.given) × Leads (turned (n.place + 1) a.ahead) y again.given) → Any (HadTurn y) (again ∷ [])
  by (inl had) = first_any (HadTurn y) again [] had
  by (inr more) = absurd (more.0 refl)
has_turn {c} (turn ∷ since) after again a y g l =
    let n : Next a.ahead turn (since ++ again ∷ after) c = next_turn turn (since ++ again ∷ after) g refl in
    ⊎_elim
    (λ had. first_any (HadTurn y) turn (since ++ again ∷ []) had)
    (λ more. next_any (HadTurn y) turn (since ++ again ∷ [])
    (has_turn since after again n.now y n.goes_on (subst (λ (ids : List ℕ). Leads ids y again.given) (sym n.order) more.1)))
    (at_turn a.ahead turn n.place y again.given n.first n.there l)

pub comes_again : {c : Ids} (before since after : List IdentifierTurn) (once again : IdentifierTurn) (a : Ids) (y : ℕ) → IsOrder a.ahead
    → Given a (before ++ once ∷ since ++ again ∷ after) c → again.given ≡ once.given → 1 ≤ y → y ≤ most_id → y ≢ once.given → Any (HadTurn y) (since ++ again ∷ [])
comes_again {c} [] since after once again a y order g same least most other =
    let n : Next a.ahead once (since ++ again ∷ after) c = next_turn once (since ++ again ∷ after) g refl in
    let within = (position-Some (is_free once.owners) a.ahead n.place 0 n.first).0 in
    let given = get_or_from_slice_get a.ahead n.place once.given 0 n.there in
    let last = behind_all a.ahead n.place once.given y order.distinct within given (order.each y least most) other in
    has_turn since after again n.now y n.goes_on (subst₂ (λ (ids : List ℕ) (x : ℕ). Leads ids y x) (sym n.order) (sym same) last)
comes_again {c} (turn ∷ before) since after once again a y order g same least most other =
    let n : Next a.ahead turn (before ++ once ∷ since ++ again ∷ after) c = next_turn turn (before ++ once ∷ since ++ again ∷ after) g refl in
    let kept = permuted a.ahead (turned (n.place + 1) a.ahead) (turns_over (n.place + 1) a.ahead) order in
    comes_again before since after once again n.now y (subst IsOrder (sym n.order) kept) n.goes_on same least most other
