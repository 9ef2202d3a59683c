-- What an end leaves that sends packets of its own accord.
use Rattle.std.proofs.Common.{◌≡◌, ◌<◌, inr, ℕ, List, Result, length, subst}
use Rattle.std.proofs.lemmas.Result.{on_err_weaker}
use Rattle.std.specs.Prelude.{OnOk, OnErr}
use Rattle.std.specs.declared.alloc.AllocError.{AllocError}
use Rattle.xns_spp.proofs.Steps.{on_err}
use Rattle.xns_spp.specs.Held.{Held, StandsFor}
use Rattle.xns_spp.specs.State.{State}
use Rattle.item_world.proofs.Networks.{end_sends}
use Rattle.item_world.proofs.Quiet.{ok_then, ok_always}
use Rattle.item_world.specs.declared.network.Network.{Network}
use Rattle.item_world.specs.declared.side.Side.{Side}
use Rattle.item_world.specs.EndLaws.{EndLaws}
use Rattle.item_world.specs.GoingOut.{GoesOut}
use Rattle.item_world.specs.Network.{IsNetwork}
use Rattle.item_world.specs.World.{World, end_at, moved}

-- an endpoint gave the packets of `answer`, and the network was to send them
pub goes_out : (after : State → State) (answer : State → List (List ℕ)) (side : Side) (r : Result (Unit {0}) AllocError) (e f : Held) (n m : Network) (ps : List (List ℕ))
    → (EndLaws → (s : State) → (after s).taken ≡ s.taken) → ((s : State) → StandsFor e s → StandsFor f (after s))
    → ((s : State) → StandsFor e s → ps ≡ answer s) → OnErr r (m ≡ n) → OnErr r (0 < length ps)
    → OnOk r ((w : World) (s : State) → IsNetwork n w → length s.taken ≡ length (end_at w side).taken → IsNetwork m (moved w side s ps))
    → GoesOut after answer side r e f n m
goes_out after answer side r e f n m ps hears stands answers unchanged memory sends = record {
  stands = ok_then r sends (λ emits laws w h.
      let s = end_at w side in
      end_sends w side (after s) (answer s) ps f n m (hears laws s) (stands s h.stands) (answers s h.stands) h.network emits);
  endpoint = ok_always r stands;
  unchanged = unchanged;
  refused = on_err r _ (λ s h. inr (stands s h));
  memory = on_err_weaker r (λ some s h. subst (λ (l : List (List ℕ)). 0 < length l) (answers s h) some) memory;
}
