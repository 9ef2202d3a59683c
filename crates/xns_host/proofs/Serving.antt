-- The sockets of a host.
use Rattle.std.proofs.Common.{◌≡◌, ◌≢◌, ◌∙◌, ap, refl, sym, rules, ℕ, suc, zero, ◌==◌, Bool, false, List, Some, replicate}
use Rattle.std.specs.Prelude.{get_or, option_map}
use Rattle.std.specs.BTreeMap.{BTreeMap, Updates}
use Rattle.std.specs.Ordering.{is_eq, nat_cmp}
use Rattle.std.specs.declared.vec.Vec.{Vec}
use Rattle.std.specs.Global.{Global}
use Rattle.std.proofs.lemmas.Bool.{ne_eqb}
use Rattle.courier_sessions.specs.declared.program.Program.{Program}
use Rattle.xns_host.specs.Services.{Serves, has_called}

differs : (a b : ℕ) → b ≢ a → is_eq (nat_cmp a b) ≡ false
differs a b apart = let same : is_eq (nat_cmp a b) ≡ (a == b) = search rules in same ∙ ne_eqb a b (λ e. apart (sym e))

pub serves : (m n : BTreeMap ℕ (Vec Program Global)) (socket : ℕ) (v : Vec Program Global) → Updates nat_cmp m n socket (Some v) → Serves m n socket v.items
serves m n socket v u = record {
  here = ap (option_map (λ w. w.items)) u.1;
  others = λ other apart. ap (option_map (λ w. w.items)) (u.2 other (differs socket other apart));
}

not_called : (n k : ℕ) → get_or (replicate n false) k false ≡ false
not_called zero k = refl
not_called (suc n) zero = refl
not_called (suc n) (suc k) = not_called n k

pub none_called : (callers : List Bool) (n k : ℕ) → callers ≡ replicate n false → has_called callers k ≡ false
none_called callers n k is = ap (λ (xs : List Bool). has_called xs k) is ∙ not_called n k
