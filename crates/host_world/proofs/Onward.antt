-- Whatever steps led there, the world that a meeting goes through is not stuck.
use Rattle.std.proofs.Common.{◌≡◌, ◌∙◌, ap, sym, refl, subst, ℕ, Bool, false, List, [], Option, Some, None, inl, inr}
use Rattle.std.specs.Prelude.{slice_get, if◌then◌else◌}
use Rattle.std.specs.Option.{option_to_list}
use Rattle.std.proofs.lemmas.List.Elements.{All-nil}
use Rattle.courier_sessions.specs.declared.program.Program.{Program}
use Rattle.xns_spp.specs.Peers.{IsLinked}
use Rattle.xns_spp.specs.Receiving.{receive_answer, after_receive}
use Rattle.xns_spp.specs.State.{State}
use Rattle.item_world.specs.Events.{SmallStep, IsStep, stepped, arrival}
use Rattle.item_world.specs.Invariant.{Holds}
use Rattle.item_world.specs.Landing.{with_arrival, landed, landing, world_reached}
use Rattle.item_world.specs.Progress.{IsFrom, Linked}
use Rattle.item_world.specs.Side.{other}
use Rattle.item_world.specs.World.{World, end_at, marked_delivered, has_passed}
use Rattle.item_world.specs.declared.emitted.Emitted.{Emitted}
use Rattle.item_world.specs.declared.side.Side.{Side}
use Rattle.item_world.specs.declared.side.Side.TheVariants.{A, B}
use Rattle.xns_connection.specs.Story.{Story}
use Rattle.host_world.specs.Going.{CanFinish}
use Rattle.host_world.specs.Meeting.{Meeting, at, led, Next}
use Rattle.host_world.specs.MeetingLaws.{MeetingLaws}
use Rattle.host_world.specs.Meets.{Meets, MeetingStep, acts, arrives, gives, moves, opens, strays}
use Rattle.host_world.specs.Station.{IsStation, calling_end, called_end}
use Rattle.host_world.specs.declared.station.Station.{Station}
use Rattle.host_world.proofs.Kept.{Keeps, kept, acts_end, new_holds}
use Rattle.item_world.proofs.Sides.{same_end, same_marked}
use Rattle.host_world.proofs.Led.{are_items, led_keeps}

-- the two invariants of the world of items
abbrev pub IsSound : World → Type 0
IsSound w = Holds w × Linked w

stepped_sound : MeetingLaws → (w : World) (s : SmallStep) → IsStep s → IsSound w → IsSound (stepped w s)
stepped_sound laws w s fits k = (laws.order.each w s fits k.0, laws.onward.each w s fits k.0 k.1)

led_sound : MeetingLaws → (u : World) (side : Side) {base : Story} (n : Next base) → end_at u side ≡ base.state → IsSound u → IsSound (led u side n.on.path)
led_sound laws u side n here k = led_keeps laws.ends IsSound (stepped_sound laws) u side n.on.path here (are_items n.story.state n.tells.stands.fits) k

-- each end knows the other's address, and the one that is called knows the caller's identifier
new_linked : (a b : Station) → Linked (record { a = calling_end a b; b = called_end b a; bag = [] })
new_linked a b =
    let w : World = record { a = calling_end a b; b = called_end b a; bag = [] } in
    record {
      ends = λ side. elim side as (λ s. IsLinked (end_at w s).ends (end_at w (other s)).ends) [
        | A ↦ record { peer = refl; peer_id = inl refl; one = inr refl }
        | B ↦ record { peer = refl; peer_id = inr refl; one = inl refl }
      ];
      bag = All-nil (λ (x : Emitted). IsFrom (end_at w x.side).ends x.bytes);
    }

arrived_sound : MeetingLaws → (w : World) (j : ℕ) (x : Emitted) → slice_get w.bag j ≡ Some x → has_passed w x ≡ false → IsSound w → IsSound (with_arrival w j x)
arrived_sound laws w j x is lives k =
    let lands : landing w j ≡ Some (other x.side, with_arrival w j x) = ap (landed w j) is ∙ ap (λ (b : Bool). if b then None else Some (other x.side, with_arrival w j x)) lives in
    subst (λ (o : Option (Side × World)). IsSound (world_reached w o)) lands (stepped_sound laws w (arrival j) tt k)

-- the end that a packet came to goes on from what it was in the connection's story
arrived_end : (w : World) (j : ℕ) (x : Emitted) (s : State) → end_at w (other x.side) ≡ s → end_at (with_arrival w j x) (other x.side) ≡ after_receive s x.bytes
arrived_end w j x s e =
    let side : Side = other x.side in
    let marks : World = marked_delivered w j x in
    same_end marks side (after_receive (end_at marks side) x.bytes) (option_to_list (receive_answer (end_at marks side) x.bytes).reply)
    ∙ ap (λ (t : State). after_receive t x.bytes) (same_marked w j x side ∙ e)

moves_soundly : MeetingLaws → {a b : Station} {programs : List Program} {m n : Meeting} → Keeps a b programs m → IsSound m.world → MeetingStep m n → IsSound n.world
moves_soundly laws {m = m} k s (acts side act n same) = led_sound laws m.world side n (k.ends side ∙ sym (acts_end act)) s
moves_soundly laws {m = m} k s (gives side packet n out) = led_sound laws m.world side n (k.ends side) s
moves_soundly laws {m = m} k s (arrives j x is lives n same) =
    led_sound laws (with_arrival m.world j x) (other x.side) n (arrived_end m.world j x (at m (other x.side)).story.state (k.ends (other x.side))) (arrived_sound laws m.world j x is lives s)
moves_soundly laws {m = m} k s (strays side bytes foreign n same) =
    led_sound laws m.world side n (k.ends side ∙ sym (laws.ends.foreign.after (at m side).story.state bytes foreign)) s

pub sound : MeetingLaws → (a b : Station) (programs : List Program) → IsStation a → IsStation b → {m : Meeting} → Meets a b programs m → IsSound m.world
sound laws a b programs here there (opens c d calls answers none empty) = (new_holds laws.ends a b here there, new_linked a b)
sound laws a b programs here there (moves before step) =
    moves_soundly laws (kept laws.ends laws.order laws.stories a b programs here there before) (sound laws a b programs here there before) step

pub can_finish : MeetingLaws → (a b : Station) (programs : List Program) (m : Meeting) → IsStation a → IsStation b → Meets a b programs m → CanFinish m
can_finish laws a b programs m here there meets =
    let k = sound laws a b programs here there meets in
    record { ends = (kept laws.ends laws.order laws.stories a b programs here there meets).ends; finishes = laws.onward.world m.world k.0 k.1 }
