-- When a packet comes in a rest.
use Rattle.std.proofs.Common.{◌≡◌, ℕ, zero, suc, ◌+◌, ◌<◌, ◌≤◌, Bool, true, false, List, [], ◌∷◌, ◌++◌, length, set, fold, Option, Some, None, refl, sym, ◌∙◌, ap, subst, arith}
use Rattle.std.specs.Prelude.{slice_get, All, if◌then◌else◌}
use Rattle.std.proofs.lemmas.Grind.{fold-append}
use Rattle.std.proofs.lemmas.List.Elements.{All-nil, All-cons, All-head, All-tail, All-weaker}
use Rattle.item_world.proofs.Fronts.{front_get}
use Rattle.item_world.proofs.Going.{Both, Ahead, deliver_ahead, fold_ahead}
use Rattle.item_world.proofs.Kept.{flushed, delivers_lands}
use Rattle.item_world.proofs.Onward.{Kept}
use Rattle.item_world.proofs.Sides.{has_landed}
use Rattle.item_world.specs.Events.{delivers, undelivered}
use Rattle.item_world.specs.Landing.{with_arrival, landing}
use Rattle.item_world.specs.World.{World, marked_delivered}
use Rattle.item_world.specs.declared.emitted.Emitted.{Emitted}
use Rattle.item_world.specs.declared.side.Side.{Side}

-- ---- a packet stays as it is while those before it are delivered

get_set : (xs : List Emitted) (k j : ℕ) (y x : Emitted) → k < j → slice_get xs j ≡ Some x → slice_get (set xs k y) j ≡ Some x
get_set [] k j y x lt h = absurd (cc)
get_set (z ∷ xs) zero zero y x lt h = absurd (omega (arith, lt))
get_set (z ∷ xs) zero (suc j) y x lt h = h
get_set (z ∷ xs) (suc k) zero y x lt h = absurd (omega (arith, lt))
get_set (z ∷ xs) (suc k) (suc j) y x lt h = get_set xs k j y x (omega (arith, lt)) h

lands_kept : (w : World) (k j : ℕ) (x : Emitted) (o : Option (Side × World)) → landing w k ≡ o → k < j
    → slice_get w.bag j ≡ Some x
    → slice_get (flushed w o).bag j ≡ Some x
lands_kept w k j x None e lt h = h
lands_kept w k j x (Some l) e lt h =
    let i = has_landed w k l e in
    let marks : World = marked_delivered w k i.packet in
    let there : slice_get (with_arrival w k i.packet).bag j ≡ Some x = front_get marks.bag _ j x (get_set w.bag k j _ x lt h) in
    front_get l.1.bag _ j x (subst (λ (m : Side × World). slice_get m.1.bag j ≡ Some x) i.leads there)

fold_kept : (w : World) (ks : List ℕ) (j : ℕ) (x : Emitted) → All (λ n. n < j) ks → slice_get w.bag j ≡ Some x
    → slice_get (fold delivers w ks).bag j ≡ Some x
fold_kept w [] j x below h = h
fold_kept w (k ∷ ks) j x below h =
    let now : slice_get (delivers w k).bag j ≡ Some x =
    subst (λ (v : World). slice_get v.bag j ≡ Some x) (sym (delivers_lands w k))
    (lands_kept w k j x (landing w k) refl (All-head (λ n. n < j) k ks below) h) in
    fold_kept (delivers w k) ks j x (All-tail (λ n. n < j) k ks below) now

-- ---- a rest comes to a packet that was never delivered

abbrev pub rested : World → World
rested w = fold delivers w (undelivered 0 w.bag)

below_by : (i n : ℕ) (xs : List ℕ) (b : Bool) → i < n → All (λ k. k < n) xs → All (λ k. k < n) (if b then xs else i ∷ xs)
below_by i n xs true lt h = h
below_by i n xs false lt h = All-cons (λ k. k < n) i xs lt h

undelivered_below : (i : ℕ) (bag : List Emitted) → All (λ k. k < i + length bag) (undelivered i bag)
undelivered_below i [] = All-nil (λ k. k < i + 0)
undelivered_below i (y ∷ ys) =
    below_by i (i + length (y ∷ ys)) (undelivered (i + 1) ys) y.delivered (omega arith)
    (All-weaker (λ k. k < i + 1 + length ys) (λ k. k < i + length (y ∷ ys)) (λ k h. omega (arith, h)) (undelivered (i + 1) ys) (undelivered_below (i + 1) ys))

record Split (i k : ℕ) (bag : List Emitted) : Type 0 where
  pre : List ℕ
  post : List ℕ
  is : undelivered i bag ≡ pre ++ k ∷ post
  before : All (λ n. n < k) pre
  behind : All (λ n. n < i + length bag) post

split_on : (i k : ℕ) (y : Emitted) (ys : List Emitted) (b : Bool) → y.delivered ≡ b → i < k → Split (i + 1) k ys
    → Split i k (y ∷ ys)
split_on i k y ys true e lt s = record {
  pre = s.pre;
  post = s.post;
  is = ap (λ (c : Bool). if c then undelivered (i + 1) ys else i ∷ undelivered (i + 1) ys) e ∙ s.is;
  before = s.before;
  behind = All-weaker (λ n. n < i + 1 + length ys) (λ n. n < i + length (y ∷ ys)) (λ n h. omega (arith, h)) s.post s.behind;
}
split_on i k y ys false e lt s = record {
  pre = i ∷ s.pre;
  post = s.post;
  is = ap (λ (c : Bool). if c then undelivered (i + 1) ys else i ∷ undelivered (i + 1) ys) e ∙ ap (λ (l : List ℕ). i ∷ l) s.is;
  before = All-cons (λ n. n < k) i s.pre lt s.before;
  behind = All-weaker (λ n. n < i + 1 + length ys) (λ n. n < i + length (y ∷ ys)) (λ n h. omega (arith, h)) s.post s.behind;
}

split : (i k j : ℕ) (bag : List Emitted) (x : Emitted) → k ≡ i + j → slice_get bag j ≡ Some x → x.delivered ≡ false
    → Split i k bag
split i k j [] x e h d = absurd (cc)
split i k zero (y ∷ ys) x e h d =
    let same : y ≡ x = cc in
    let number : i ≡ k = omega (arith, e) in
    record {
      pre = [];
      post = undelivered (i + 1) ys;
      is = ap (λ (c : Bool). if c then undelivered (i + 1) ys else i ∷ undelivered (i + 1) ys) (ap (λ (z : Emitted). z.delivered) same ∙ d)
          ∙ ap (λ (n : ℕ). n ∷ undelivered (i + 1) ys) number;
      before = All-nil (λ n. n < k);
      behind = All-weaker (λ n. n < i + 1 + length ys) (λ n. n < i + length (y ∷ ys)) (λ n g. omega (arith, g)) (undelivered (i + 1) ys) (undelivered_below (i + 1) ys);
    }
split i k (suc j) (y ∷ ys) x e h d = split_on i k y ys y.delivered refl (omega (arith, e)) (split (i + 1) k j ys x (omega (arith, e)) h d)

-- the world that packet k comes in, in which it still is as it was; what is sent from then on is there after the rest
pub record Visit (w v : World) (k : ℕ) (x : Emitted) : Type 0 where
  pub at : World
  pub before : Ahead 0 w at
  pub still : slice_get at.bag k ≡ Some x
  pub after : Ahead 0 (delivers at k) v
  pub keeps : (j : ℕ) (y : Emitted) → length w.bag ≤ j → slice_get (delivers at k).bag j ≡ Some y → slice_get v.bag j ≡ Some y

pub visit : Kept → (w : World) (k : ℕ) (x : Emitted) → Both w → slice_get w.bag k ≡ Some x → x.delivered ≡ false
    → Visit w (rested w) k x
visit kept w k x b is d =
    let s : Split 0 k w.bag = split 0 k k w.bag x (omega arith) is d in
    let u : World = fold delivers w s.pre in
    let before : Ahead 0 w u = fold_ahead kept w s.pre b in
    let come : Ahead 0 u (delivers u k) = deliver_ahead kept u k before.both in
    let end : fold delivers w (undelivered 0 w.bag) ≡ fold delivers (delivers u k) s.post =
    ap (λ (l : List ℕ). fold delivers w l) s.is ∙ fold-append delivers w s.pre (k ∷ s.post) in
    record {
      at = u;
      before = before;
      still = fold_kept w s.pre k x s.before is;
      after = subst (λ (v : World). Ahead 0 (delivers u k) v) (sym end) (fold_ahead kept (delivers u k) s.post come.both);
      keeps = λ j y le h. subst (λ (v : World). slice_get v.bag j ≡ Some y) (sym end)
          (fold_kept (delivers u k) s.post j y (All-weaker (λ n. n < 0 + length w.bag) (λ n. n < j) (λ n g. omega (arith, g, le)) s.post s.behind) h);
    }
