-- What is seen of calls, and nothing more, whatever decides them: the calls that the caller made and those that were carried out, the
-- outcomes that were answered and those that the caller saw, and the state that they left.
use Rattle.std.specs.Prelude.{◌≡◌, ℕ, suc, List, [], ◌∷◌, ◌++◌, length, slice_get, fold, Some}
use Rattle.xns_spp.specs.Growth.{Begins}

pub record Ledger (S C O : Type 0) : Type 0 where
  pub made : List C
  pub carried : List C
  pub answered : List O
  pub seen : List O
  pub state : S

-- the ledger once the next call is carried out: the call is decided in the state, which changes
abbrev pub carried_out : {S C O : Type 0} → (S → C → S × O) → Ledger S C O → C → Ledger S C O
carried_out decide l c = record l {
  carried = l.carried ++ c ∷ [];
  answered = l.answered ++ (decide l.state c).1 ∷ [];
  state = (decide l.state c).0;
}

-- one small step: nothing; the caller makes a call; the next of the calls that were made is carried out; the caller sees the next of the
-- outcomes that were answered
pub data Entry {S C O : Type 0} (decide : S → C → S × O) (l m : Ledger S C O) : Type 0 where
  quiet : m ≡ l → Entry decide l m
  makes : (c : C) → m ≡ record l { made = l.made ++ c ∷ [] } → Entry decide l m
  carries : (c : C) → slice_get l.made (length l.carried) ≡ Some c → m ≡ carried_out decide l c → Entry decide l m
  sees : (o : O) → slice_get l.answered (length l.seen) ≡ Some o → m ≡ record l { seen = l.seen ++ o ∷ [] } → Entry decide l m

-- at first there is nothing but the state, and then there is one entry after another
pub record IsHistory {S C O : Type 0} (decide : S → C → S × O) (s : S) (l : ℕ → Ledger S C O) : Type 0 where
  pub first : l 0 ≡ record { made = []; carried = []; answered = []; seen = []; state = s }
  pub entries : (n : ℕ) → Entry decide (l n) (l (suc n))

-- the state and the outcomes after one call more
abbrev pub decided_then : {S C O : Type 0} → (S → C → S × O) → S × List O → C → S × List O
decided_then decide x c = ((decide x.0 c).0, x.1 ++ (decide x.0 c).1 ∷ [])

-- each call is carried out at most once and in order, and the k-th outcome that is seen is the one that was answered to the k-th call
pub record IsInOrder {S C O : Type 0} (decide : S → C → S × O) (s : S) (l : Ledger S C O) : Type 0 where
  pub carried : Begins l.carried l.made
  pub answered : (l.state, l.answered) ≡ fold (decided_then decide) (s, []) l.carried
  pub seen : Begins l.seen l.answered
