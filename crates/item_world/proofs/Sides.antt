-- What a move of one end leaves of both, which packet lands, and that bytes from elsewhere change nothing.
use Rattle.std.proofs.Common.{◌≡◌, ℕ, Bool, true, false, List, [], Option, Some, None, refl, sym, ◌∙◌, ap, append-nil}
use Rattle.std.specs.Option.{option_to_list}
use Rattle.std.specs.Prelude.{slice_get, if◌then◌else◌}
use Rattle.xns_spp.specs.Receiving.{receive_answer, after_receive, is_ours}
use Rattle.xns_spp.specs.State.{State}
use Rattle.item_world.specs.EndLaws.{EndLaws}
use Rattle.item_world.specs.Events.{noise, stepped, happens}
use Rattle.item_world.specs.Later.{Lands}
use Rattle.item_world.specs.Landing.{with_arrival, landed, landing}
use Rattle.item_world.specs.declared.emitted.Emitted.{Emitted}
use Rattle.item_world.specs.declared.event.Event.TheVariants.{Foreign}
use Rattle.item_world.specs.declared.side.Side.{Side}
use Rattle.item_world.specs.declared.side.Side.TheVariants.{A, B}
use Rattle.item_world.specs.Side.{other}
use Rattle.item_world.specs.World.{World, end_at, moved, marked_delivered, has_passed, receives}

-- the end that moves, and the other one
pub same_end : (w : World) (side : Side) (s : State) (bs : List (List ℕ)) → end_at (moved w side s bs) side ≡ s
same_end w A s bs = refl
same_end w B s bs = refl

pub same_other : (w : World) (side : Side) (s : State) (bs : List (List ℕ)) → end_at (moved w side s bs) (other side) ≡ end_at w (other side)
same_other w A s bs = refl
same_other w B s bs = refl

pub same_marked : (w : World) (k : ℕ) (x : Emitted) (side : Side) → end_at (marked_delivered w k x) side ≡ end_at w side
same_marked w k x A = refl
same_marked w k x B = refl

pub other_other : (side : Side) → other (other side) ≡ side
other_other A = refl
other_other B = refl

-- what holds of an end beside its peer is kept at each side, where the move keeps it of the end that moves and of its peer
pub each_side : (w : World) (side : Side) (s : State) (bs : List (List ℕ)) (R : State → State → Type 0)
    → (R (end_at w side) (end_at w (other side)) → R s (end_at w (other side))) → (R (end_at w (other side)) (end_at w side) → R (end_at w (other side)) s)
    → (t : Side) → R (end_at w t) (end_at w (other t)) → R (end_at (moved w side s bs) t) (end_at (moved w side s bs) (other t))
each_side w A s bs R own theirs A = own
each_side w A s bs R own theirs B = theirs
each_side w B s bs R own theirs A = theirs
each_side w B s bs R own theirs B = own

-- what holds of each end alone, where one end moved
pub each_end : (w : World) (side : Side) (s : State) (bs : List (List ℕ)) (P : Side → State → Type 0) → P side s → (t : Side) → P t (end_at w t) → P t (end_at (moved w side s bs) t)
each_end w A s bs P here A = λ h. here
each_end w A s bs P here B = λ h. h
each_end w B s bs P here A = λ h. h
each_end w B s bs P here B = λ h. here

-- what holds of the end that moved beside its peer
pub placed : (w : World) (side : Side) (s : State) (bs : List (List ℕ)) (R : State → State → Type 0) → R s (end_at w (other side)) → R (end_at (moved w side s bs) side) (end_at (moved w side s bs) (other side))
placed w A s bs R h = h
placed w B s bs R h = h

-- ---- a packet lands

-- packet k lives, and comes to the other end, which replies where a reply is owed
pub record Landed (w : World) (k : ℕ) (l : Side × World) : Type 0 where
  pub packet : Emitted
  pub is : slice_get w.bag k ≡ Some packet
  pub alive : has_passed w packet ≡ false
  pub leads : (other packet.side, with_arrival w k packet) ≡ l

landed_by : (w : World) (k : ℕ) (l : Side × World) (o : Option Emitted) → slice_get w.bag k ≡ o → landed w k o ≡ Some l → Landed w k l
landed_by w k l None is e = absurd (cc)
landed_by w k l (Some x) is e =
    elim (has_passed w x) as (λ b. has_passed w x ≡ b → (if b then None else Some (other x.side, with_arrival w k x)) ≡ Some l → Landed w k l) [
      | true ↦ λ past f. absurd (cc)
      | false ↦ λ alive f. record { packet = x; is = is; alive = alive; leads = cc }
    ] refl e

pub has_landed : (w : World) (k : ℕ) (l : Side × World) → landing w k ≡ Some l → Landed w k l
has_landed w k l e = landed_by w k l (slice_get w.bag k) refl e

-- the end at this side receives packet k, which is x, and replies where a reply is owed
pub comes_as : (w : World) (k : ℕ) (side : Side) (x : Emitted)
    → moved (marked_delivered w k x) side (after_receive (end_at w side) x.bytes) (option_to_list (receive_answer (end_at w side) x.bytes).reply) ≡ receives (marked_delivered w k x) side x.bytes
comes_as w k side x = ap (λ (s : State). moved (marked_delivered w k x) side (after_receive s x.bytes) (option_to_list (receive_answer s x.bytes).reply)) (sym (same_marked w k x side))

pub lands_as : (w : World) (k : ℕ) (side : Side) (v : World) → landing w k ≡ Some (side, v) → Lands w k side v
lands_as w k side v e =
    let i = has_landed w k (side, v) e in
    let x : Emitted = i.packet in
    let marks : World = marked_delivered w k x in
    record {
      packet = x;
      is = i.is;
      world = comes_as w k side x
          ∙ (ap (λ (l : Side × World). receives marks l.0 x.bytes) (sym i.leads) ∙ ap (λ (l : Side × World). l.1) i.leads);
    }

-- where a packet lands, the end that sent it stays
pub land_there : (w : World) (k : ℕ) (l : Side × World) → landing w k ≡ Some l → end_at l.1 (other l.0) ≡ end_at w (other l.0)
land_there w k l e =
    let i = has_landed w k l e in
    let x : Emitted = i.packet in
    let side : Side = other x.side in
    let v : World = marked_delivered w k x in
    ap (λ (m : Side × World). end_at m.1 (other m.0)) (sym i.leads)
    ∙ (same_other v side (after_receive (end_at v side) x.bytes) (option_to_list (receive_answer (end_at v side) x.bytes).reply) ∙ same_marked w k x (other side)
    ∙ ap (λ (m : Side × World). end_at w (other m.0)) i.leads)

-- ---- bytes from elsewhere

-- an end that stays and sends nothing
pub moved_nowhere : (w : World) (side : Side) → moved w side (end_at w side) [] ≡ w
moved_nowhere w A = ap (λ (l : List Emitted). record w { bag = l }) (append-nil w.bag)
moved_nowhere w B = ap (λ (l : List Emitted). record w { bag = l }) (append-nil w.bag)

foreign_is_dropped : EndLaws → (w : World) (side : Side) (bytes : List ℕ) → is_ours (end_at w side) bytes ≡ false → receives w side bytes ≡ w
foreign_is_dropped laws w side bytes h =
    let s : State = end_at w side in
    ap (λ (t : State). moved w side t (option_to_list (receive_answer s bytes).reply)) (laws.foreign.after s bytes h)
    ∙ (ap (λ (o : Option (List ℕ)). moved w side s (option_to_list o)) (laws.foreign.answer s bytes h).1
    ∙ moved_nowhere w side)

pub noise_changes_nothing : EndLaws → (w : World) (side : Side) (bytes : List ℕ) → stepped w (noise side bytes) ≡ w
noise_changes_nothing laws w side bytes =
    let ours : Bool = is_ours (end_at w side) bytes in
    elim ours as (λ v. ours ≡ v → (if v then w else receives w side bytes) ≡ w) [
      | true ↦ λ h. refl
      | false ↦ λ h. foreign_is_dropped laws w side bytes h
    ] refl

pub foreign_changes_nothing : EndLaws → (w : World) (side : Side) (bytes : List ℕ) → happens w (Foreign side bytes) ≡ w
foreign_changes_nothing laws w side bytes = noise_changes_nothing laws w side bytes
