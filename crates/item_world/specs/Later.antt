-- What a later state of an end, and a later world, keep.
use Rattle.std.specs.Prelude.{◌≡◌, ◌≤◌, ℕ, Bool, false, length, map, slice_get, is_some, Some, None}
use Rattle.std.specs.Option.{option_to_list}
use Rattle.xns_spp.specs.Growth.{Begins}
use Rattle.xns_spp.specs.Receiving.{receive_answer, after_receive}
use Rattle.xns_spp.specs.State.{State}
use Rattle.item_world.specs.declared.emitted.Emitted.{Emitted}
use Rattle.item_world.specs.declared.side.Side.{Side}
use Rattle.item_world.specs.Landing.{landing}
use Rattle.item_world.specs.World.{World, end_at, moved, marked_delivered}

-- s goes on as t with the same items accepted and handed up
pub record Continues (s t : State) : Type 0 where
  pub accepted : t.accepted ≡ s.accepted
  pub handed : t.handed ≡ s.handed
  pub taken : Begins s.taken t.taken

-- a packet without whether it was delivered
abbrev pub as_sent : Emitted → Emitted
as_sent x = record x { delivered = false }

-- w goes on as v: neither end has taken less, and the packets that were sent stay in the bag
pub record Later (w v : World) : Type 0 where
  pub taken : (side : Side) → length (end_at w side).taken ≤ length (end_at v side).taken
  pub bag : Begins (map as_sent w.bag) (map as_sent v.bag)

-- packet k of w comes to the end at this side, which replies where a reply is owed, and v is the world then
pub record Lands (w : World) (k : ℕ) (side : Side) (v : World) : Type 0 where
  pub packet : Emitted
  pub is : slice_get w.bag k ≡ Some packet
  pub world : moved (marked_delivered w k packet) side (after_receive (end_at w side) packet.bytes)
      (option_to_list (receive_answer (end_at w side) packet.bytes).reply) ≡ v

-- whether packet k lands
abbrev pub does_land : World → ℕ → Bool
does_land w k = is_some (landing w k)

-- where packet k lands nowhere in w, it lands nowhere in any world that w goes on as
abbrev pub StaysAway : World → ℕ → Type 0
StaysAway w k = landing w k ≡ None → (v : World) → Later w v → landing v k ≡ None
