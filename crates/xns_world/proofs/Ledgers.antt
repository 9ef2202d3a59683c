-- In every history of a ledger all is in order, by induction over its entries.
use Rattle.std.proofs.Common.{ℕ, zero, suc, List, [], ◌∷◌, ◌++◌, refl, sym, ◌∙◌, ap, subst}
use Rattle.std.proofs.lemmas.List.Sums.{fold-append}
use Rattle.xns_spp.specs.Growth.{Begins}
use Rattle.xns_spp.specs.Fronts.{begins_then, begins_more}
use Rattle.xns_world.specs.Ledger.{Ledger, Entry, quiet, makes, carries, sees, IsHistory, decided_then, IsInOrder}

-- what begins a list begins the longer one too
longer : {X : Type 0} (xs ys : List X) (y : X) → Begins xs ys → Begins xs (ys ++ y ∷ [])
longer {X} xs ys y b = begins_then xs ys (ys ++ y ∷ []) b (y ∷ [], refl)

entry_keeps : {S C O : Type 0} (decide : S → C → S × O) (s : S) (l m : Ledger S C O) → Entry decide l m → IsInOrder decide s l → IsInOrder decide s m
entry_keeps decide s l m (quiet is) h = subst (IsInOrder decide s) (sym is) h
entry_keeps decide s l m (makes c is) h = subst (IsInOrder decide s) (sym is) (record { carried = longer l.carried l.made c h.carried; answered = h.answered; seen = h.seen })
entry_keeps {S} {C} {O} decide s l m (carries c next is) h = subst (IsInOrder decide s) (sym is) (record {
  carried = begins_more l.carried l.made c h.carried next;
  answered = ap (λ (x : S × List O). decided_then decide x c) h.answered ∙ sym (fold-append (decided_then decide) (s, []) l.carried (c ∷ []));
  seen = longer l.seen l.answered (decide l.state c).1 h.seen;
})
entry_keeps decide s l m (sees o next is) h = subst (IsInOrder decide s) (sym is) (record { carried = h.carried; answered = h.answered; seen = begins_more l.seen l.answered o h.seen next })

pub in_order : {S C O : Type 0} (decide : S → C → S × O) (s : S) (l : ℕ → Ledger S C O) → IsHistory decide s l → (n : ℕ) → IsInOrder decide s (l n)
in_order decide s l h zero = subst (IsInOrder decide s) (sym h.first) (record { carried = ([], refl); answered = refl; seen = ([], refl) })
in_order decide s l h (suc n) = entry_keeps decide s (l n) (l (suc n)) (h.entries n) (in_order decide s l h n)
