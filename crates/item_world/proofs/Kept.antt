-- What each small step of the world keeps, and what is true at every moment.
use Rattle.std.proofs.Common.{append-nil, ◌≡◌, ℕ, ◌≤◌, Bool, true, List, [], length, map, take, Some, None, Ok, refl, sym, ◌∙◌, ap, subst, arith, ◌∷◌, fold, Option}
use Rattle.item_world.specs.World.{World, end_at, start, moment, emitted, moved, is_past, has_passed, receives, marked_delivered, sent_at, handed_at, flushes}
use Rattle.item_world.specs.Landing.{with_arrival, landing, world_reached}
use Rattle.xns_spp.specs.Growth.{Begins, IsFresh, Grows}
use Rattle.item_world.proofs.Sides.{each_side, placed, has_landed, noise_changes_nothing}
use Rattle.item_world.proofs.Moves.{IsProper, Sends, stays_sound, flush_sends, tick_sends, take_sends, send_sends, resend_sends, told_sends}
use Rattle.xns_spp.specs.Fronts.{begins_then, front_begins, begins_length}
use Rattle.item_world.proofs.Fronts.{begins_get}
use Rattle.std.specs.Option.{option_to_list}
use Rattle.std.specs.Prelude.{slice_get, All, false}
use Rattle.std.proofs.lemmas.List.Elements.{All-nil, All-append, All-map, All-set, All-weaker, All-cons, All-take, All-head, All-tail}
use Rattle.std.proofs.lemmas.Option.{get_or_from_slice_get, slice_get_within}
use Rattle.xns_spp.specs.Meant.{as_meant}
use Rattle.xns_spp.specs.Packet.{SppPacketModel, IsSppPacket, spp_packet_spelling, spp_packet_of}
use Rattle.xns_spp.specs.Receiving.{numbers_in, receive_answer, after_receive}
use Rattle.xns_spp.specs.State.{State, IsState}
use Rattle.xns_spp.specs.declared.item.Item.{Item}
use Rattle.item_world.proofs.Arrivals.{read_as_meant, receive_sends}
use Rattle.item_world.specs.EndLaws.{EndLaws}
use Rattle.item_world.specs.declared.emitted.Emitted.{Emitted}
use Rattle.item_world.specs.declared.setup.Setup.{Setup}
use Rattle.item_world.specs.declared.side.Side.{Side}
use Rattle.item_world.specs.declared.side.Side.TheVariants.{A, B}
use Rattle.item_world.specs.Invariant.{IsSoundPacket, IsSoundSpelling, WentOut, StandsBesidePeer, Holds}
use Rattle.item_world.specs.Setup.{IsSetup, IsGood}
use Rattle.item_world.specs.Side.{other}
use Rattle.std.proofs.lemmas.List.Sums.{fold-append}
use Rattle.item_world.specs.declared.event.Event.{Event}
use Rattle.item_world.specs.declared.event.Event.TheVariants.{Deliver, Rest, Tick, Foreign, Send, Take}
use Rattle.item_world.specs.Events.{SmallStep, IsStep, arrival, noise, sending, taking, flushing, ticking, resending, telling, stepped, all_stepped, arrival_steps, delivery_steps, delivers, delivery_steps_of, undelivered, steps_of, happens, world_after, IsEvent}
use Rattle.item_world.specs.Laws.{EachStepKeepsTheOrder}

-- a packet of the bag
abbrev IsKeptIn : World → Emitted → Type 0
IsKeptIn w x = IsSoundSpelling (end_at w x.side) (end_at w (other x.side)) x

-- ---- an end goes on

-- what went out at an end is still what went out once the end has grown
still_out : (s t : State) (k : ℕ) (x : Item) → Grows s t → WentOut s k x → WentOut t k x
still_out s t k x g was = record { is = begins_get s.accepted t.accepted k x g.accepted was.is; sent = omega (arith, was.sent, g.sent) }

-- as an end grows, its peer stands as before
peer_stands : (s t peer : State) → Grows s t → StandsBesidePeer t peer → StandsBesidePeer peer s → StandsBesidePeer peer t
peer_stands s t peer g now k = record {
  fits = k.fits;
  taken = begins_then peer.taken s.accepted t.accepted k.taken g.accepted;
  went_out = omega (arith, k.went_out, g.sent);
  early = λ j x e. still_out s t j x g (k.early j x e);
  acknowledged = omega (arith, k.acknowledged, begins_length s.taken t.taken g.taken);
  reached = now.went_out;
}

-- a packet of the bag stays sound as both ends go on, delivered or not
spelled_on : (s t p q : State) (x : Emitted) (d : Bool) (i : IsSoundSpelling s p x) → IsSoundPacket t i.says.packet i.says.meant → length s.taken ≤ length t.taken → length p.taken ≤ length q.taken → IsSoundSpelling t q (record x { delivered = d })
spelled_on s t p q x d i sound sender receiver = record {
  says = i.says;
  sound = sound;
  sender = omega (arith, i.sender, sender);
  receiver = omega (arith, i.receiver, receiver);
}

-- as an end grows, its own packets stay sound
stays_spelled : (s t peer : State) (x : Emitted) → Grows s t → IsSoundSpelling s peer x → IsSoundSpelling t peer x
stays_spelled s t peer x g i = spelled_on s t peer peer x x.delivered i (stays_sound s t i.says.packet i.says.meant g i.sound) (begins_length s.taken t.taken g.taken) (omega arith)

-- as an end grows, its peer's packets stay sound
peer_spelled : (s t peer : State) (x : Emitted) → Grows s t → IsSoundSpelling peer s x → IsSoundSpelling peer t x
peer_spelled s t peer x g i = spelled_on peer peer s t x x.delivered i i.sound (omega arith) (begins_length s.taken t.taken g.taken)

-- a packet that an end sends now is sound
abbrev IsNew : (t peer : State) (side : Side) → List ℕ → Type 0
IsNew t peer side b = IsSoundSpelling t peer (emitted side (moment t peer) b)

proper_spelled : (t peer : State) (side : Side) (ps : List SppPacketModel) → All (IsProper (moment t peer) t) ps → All (IsNew t peer side) (map spp_packet_spelling ps)
proper_spelled t peer side ps h =
    All-map (IsNew t peer side) spp_packet_spelling ps
    (All-weaker (IsProper (moment t peer) t) (λ p. IsNew t peer side (spp_packet_spelling p)) (λ p i. record {
      says = record { packet = p; meant = i.meant; fits = i.fits; spells = refl; reduced = i.reduced; close = i.close };
      sound = i.sound;
      sender = omega arith;
      receiver = omega arith;
    }) ps h)

new_spelled : (s t peer : State) (side : Side) (bytes : List (List ℕ)) → Sends s t peer bytes → All (IsNew t peer side) bytes
new_spelled s t peer side bytes m = subst (λ (l : List (List ℕ)). All (IsNew t peer side) l) (sym m.spells) (proper_spelled t peer side m.packets m.proper)

-- an end moves
pub moved_kept : (w : World) (side : Side) (t : State) (bs : List (List ℕ)) → Holds w → Sends (end_at w side) t (end_at w (other side)) bs → Holds (moved w side t bs)
moved_kept w side t bs k m =
    let v : World = moved w side t bs in
    let s : State = end_at w side in
    let peer : State = end_at w (other side) in
    let g : Grows s t = m.grows in
    let new : List ℕ → Emitted = emitted side (moment t peer) in
    let sent : All (λ b. IsKeptIn v (new b)) bs =
    All-weaker (IsNew t peer side) (λ b. IsKeptIn v (new b)) (λ b i. placed w side t bs (λ x y. IsSoundSpelling x y (new b)) i) bs (new_spelled s t peer side bs m) in
    record {
      ends = λ u. each_side w side t bs StandsBesidePeer (λ h. m.stands) (peer_stands s t peer g m.stands) u (k.ends u);
      bag = All-append (IsKeptIn v) w.bag (map new bs)
          (All-weaker (IsKeptIn w) (IsKeptIn v) (λ x i. each_side w side t bs (λ y z. IsSoundSpelling y z x) (stays_spelled s t peer x g) (peer_spelled s t peer x g) x.side i) w.bag k.bag)
          (All-map (IsKeptIn v) new bs sent);
    }

-- ---- a packet is delivered

in_bag : (w : World) (k : ℕ) (x : Emitted) → slice_get w.bag k ≡ Some x → Holds w → IsKeptIn w x
in_bag w k x is h = subst (IsKeptIn w) (get_or_from_slice_get w.bag k x x is) (h.bag k x (slice_get_within w.bag k x is))

marked_kept : (w : World) (k : ℕ) (x : Emitted) → IsKeptIn w x → Holds w → Holds (marked_delivered w k x)
marked_kept w k x i h =
    let v : World = marked_delivered w k x in
    let y : Emitted = record x { delivered = true } in
    let s = end_at w x.side in
    let peer = end_at w (other x.side) in
    let there : IsKeptIn w y = spelled_on s s peer peer x true i i.sound (omega arith) (omega arith) in
    record {
      ends = λ side. elim side as (λ s. StandsBesidePeer (end_at v s) (end_at v (other s))) [ A ↦ h.ends A | B ↦ h.ends B ];
      bag = All-set (IsKeptIn w) w.bag k y there h.bag;
    }

read_back : EndLaws → (bytes : List ℕ) (p : SppPacketModel) → IsSppPacket p → bytes ≡ spp_packet_spelling p → spp_packet_of bytes ≡ Ok p
read_back laws bytes p fits is = ap spp_packet_of (is ∙ sym (append-nil (spp_packet_spelling p))) ∙ laws.written.again p [] fits

received_kept : EndLaws → (w : World) (side : Side) (x : Emitted) → IsSoundSpelling (end_at w (other side)) (end_at w side) x → is_past x.at (length (end_at w (other side)).taken) (length (end_at w side).taken) ≡ false
    → Holds w → Holds (receives w side x.bytes)
received_kept laws w side x i alive k =
    let s : State = end_at w side in
    let peer : State = end_at w (other side) in
    let read : spp_packet_of x.bytes ≡ Ok i.says.packet = read_back laws x.bytes i.says.packet i.says.fits i.says.spells in
    moved_kept w side (after_receive s x.bytes) (option_to_list (receive_answer s x.bytes).reply) k
    (receive_sends laws s peer x.bytes (record { packet = i.says.packet; meant = i.says.meant; read = read; sound = i.sound; numbers = read_as_meant laws s peer x i (k.ends side) alive })
    (laws.bounds.packet s x.bytes i.says.packet (k.ends side).fits read i.says.fits) (k.ends side))

-- a packet is sound from one side to the other, and still lives: both are kept where the packet is marked
abbrev GoesTo : World → Emitted → Side → Side → Type 0
GoesTo v x from to = (IsSoundSpelling (end_at v from) (end_at v to) x) × (is_past x.at (length (end_at v from).taken) (length (end_at v to).taken) ≡ false)

answered_kept : EndLaws → (w : World) (k : ℕ) (x : Emitted) → slice_get w.bag k ≡ Some x → has_passed w x ≡ false → Holds w → Holds (with_arrival w k x)
answered_kept laws w k x is alive h =
    let v : World = marked_delivered w k x in
    let side : Side = other x.side in
    let there : IsKeptIn w x = in_bag w k x is h in
    let kept : Holds v = marked_kept w k x there h in
    let here : GoesTo v x (other side) side =
    elim (x.side) as (λ s. GoesTo w x s (other s) → GoesTo v x (other (other s)) (other s)) [ A ↦ λ g. g | B ↦ λ g. g ] (there, alive) in
    received_kept laws v side x here.0 here.1 kept

pub land_kept : EndLaws → (w : World) (k : ℕ) (l : Side × World) → Holds w → landing w k ≡ Some l → Holds l.1
land_kept laws w k l h e = let i = has_landed w k l e in subst (λ (m : Side × World). Holds m.1) i.leads (answered_kept laws w k i.packet i.is i.alive h)

-- ---- the start

new_stands : (s peer : State) → IsState s → IsFresh s → IsFresh peer → StandsBesidePeer s peer
new_stands s peer fits new peer_new = record {
  fits = fits;
  taken = subst (λ (l : List Item). Begins l peer.accepted) (sym new.taken) (peer.accepted, refl);
  went_out = omega (arith, ap length new.taken);
  early = λ k x e. let none : s.early k ≡ None = new.early k in absurd (cc);
  acknowledged = omega (arith, new.acknowledged);
  reached = omega (arith, ap length peer_new.taken);
}

pub start_kept : EndLaws → (setup : Setup) → IsSetup setup → IsGood setup → Holds (start setup)
start_kept laws setup fits good =
    let w : World = start setup in
    let a : IsState w.a =
    laws.bounds.initiator setup.a setup.b setup.a_id setup.window setup.backlog fits.a fits.b good.a_id fits.a_id good.window_least good.window_most good.backlog_least good.backlog_most in
    let b : IsState w.b =
    laws.bounds.responder setup.b setup.a setup.b_id setup.a_id setup.window setup.backlog fits.b fits.a good.b_id fits.b_id good.a_id fits.a_id good.window_least good.window_most good.backlog_least good.backlog_most in
    let a_new : IsFresh w.a = laws.fresh.initiator setup.a setup.b setup.a_id setup.window setup.backlog in
    let b_new : IsFresh w.b = laws.fresh.responder setup.b setup.a setup.b_id setup.a_id setup.window setup.backlog in
    record {
      ends = λ side. elim side as (λ s. StandsBesidePeer (end_at w s) (end_at w (other s))) [
        | A ↦ new_stands w.a w.b a a_new b_new
        | B ↦ new_stands w.b w.a b b_new a_new
      ];
      bag = All-nil (IsKeptIn w);
    }

-- ---- what follows of a world that is kept

living : EndLaws → (w : World) (side : Side) (x : Emitted) → Holds w → (i : IsSoundSpelling (end_at w side) (end_at w (other side)) x) → is_past x.at (length (end_at w side).taken) (length (end_at w (other side)).taken) ≡ false
    → numbers_in (end_at w (other side)) i.says.packet ≡ as_meant i.says.meant
living laws w A x k i alive = read_as_meant laws w.b w.a x i (k.ends B) alive
living laws w B x k i alive = read_as_meant laws w.a w.b x i (k.ends A) alive

pub in_order : (w : World) (side : Side) → Holds w → Begins (handed_at w side) (sent_at w (other side))
in_order w side h = let s : State = end_at w side in begins_then (take s.handed s.taken) s.taken (sent_at w (other side)) (front_begins s.handed s.taken) (h.ends side).taken

-- a packet that lives is read as what it was made of
pub read_kept : EndLaws → (w : World) (x : Emitted) → Holds w → has_passed w x ≡ false → (i : IsSoundSpelling (end_at w x.side) (end_at w (other x.side)) x) → numbers_in (end_at w (other x.side)) i.says.packet ≡ as_meant i.says.meant
read_kept laws w x k alive i = living laws w x.side x k i alive

reached_holds : EndLaws → (w : World) (k : ℕ) (o : Option (Side × World)) → landing w k ≡ o → Holds w → Holds (world_reached w o)
reached_holds laws w k None e h = h
reached_holds laws w k (Some l) e h = land_kept laws w k l h e

pub step_holds : EndLaws → (w : World) (s : SmallStep) → IsStep s → Holds w → Holds (stepped w s)
step_holds laws w (arrival k) fits h = reached_holds laws w k (landing w k) refl h
step_holds laws w (noise side bytes) fits h = subst Holds (sym (noise_changes_nothing laws w side bytes)) h
step_holds laws w (sending side x) fits h = moved_kept w side _ [] h (send_sends laws _ _ x fits (h.ends side))
step_holds laws w (taking side) fits h = moved_kept w side _ [] h (take_sends laws _ _ (h.ends side))
step_holds laws w (flushing side) fits h = moved_kept w side _ _ h (flush_sends laws _ _ (h.ends side))
step_holds laws w (ticking side) fits h = moved_kept w side _ _ h (tick_sends laws _ _ (h.ends side))
step_holds laws w (resending side) fits h = moved_kept w side _ _ h (resend_sends laws _ _ (h.ends side))
step_holds laws w (telling side asks) fits h = moved_kept w side _ _ h (told_sends laws _ _ asks (h.ends side))

-- ---- the steps of an event

arrival_fits : (k : ℕ) (o : Option (Side × World)) → All IsStep (arrival_steps k o)
arrival_fits k None = All-nil IsStep
arrival_fits k (Some l) = All-cons IsStep (arrival k) (flushing l.0 ∷ []) tt (All-cons IsStep (flushing l.0) [] tt (All-nil IsStep))

deliveries_fit : (w : World) (ks : List ℕ) → All IsStep (delivery_steps_of w ks)
deliveries_fit w [] = All-nil IsStep
deliveries_fit w (k ∷ ks) = All-append IsStep (delivery_steps w k) (delivery_steps_of (delivers w k) ks) (arrival_fits k (landing w k)) (deliveries_fit (delivers w k) ks)

one_fits : (s : SmallStep) → IsStep s → All IsStep (s ∷ [])
one_fits s h = All-cons IsStep s [] h (All-nil IsStep)

pub steps_fit : (w : World) (e : Event) → IsEvent e → All IsStep (steps_of w e)
steps_fit w (Deliver k) fits = arrival_fits k (landing w k)
steps_fit w Rest fits = deliveries_fit w (undelivered 0 w.bag)
steps_fit w (Tick side) fits = one_fits (ticking side) tt
steps_fit w (Foreign side bytes) fits = one_fits (noise side bytes) tt
steps_fit w (Send side x) fits = All-cons IsStep (sending side x) (flushing side ∷ []) fits (one_fits (flushing side) tt)
steps_fit w (Take side) fits = one_fits (taking side) tt

pub all_hold : EachStepKeepsTheOrder → (w : World) (ss : List SmallStep) → All IsStep ss → Holds w → Holds (all_stepped w ss)
all_hold laws w [] fits h = h
all_hold laws w (s ∷ ss) fits h = all_hold laws (stepped w s) ss (All-tail IsStep s ss fits) (laws.each w s (All-head IsStep s ss fits) h)

run_holds : EachStepKeepsTheOrder → (w : World) (es : List Event) → All IsEvent es → Holds w → Holds (world_after w es)
run_holds laws w [] fits h = h
run_holds laws w (e ∷ es) fits h = run_holds laws (happens w e) es (All-tail IsEvent e es fits) (all_hold laws w (steps_of w e) (steps_fit w e (All-head IsEvent e es fits)) h)

-- ---- at every moment

-- what always holds, holds after these events and the first n small steps of one event more
pub within_holds : EachStepKeepsTheOrder → (setup : Setup) (events : List Event) (e : Event) (n : ℕ) → IsSetup setup → IsGood setup → All IsEvent events → IsEvent e
    → Holds (all_stepped (world_after (start setup) events) (take n (steps_of (world_after (start setup) events) e)))
within_holds laws setup events e n fits good given event =
    let w : World = world_after (start setup) events in
    (all_hold laws w (take n (steps_of w e)) (All-take IsStep n (steps_of w e) (steps_fit w e event)) (run_holds laws (start setup) events given (laws.start setup fits good)))

pub always_holds : EachStepKeepsTheOrder → (setup : Setup) (events : List Event) → IsSetup setup → IsGood setup → All IsEvent events → Holds (world_after (start setup) events)
always_holds laws setup events fits good given = (run_holds laws (start setup) events given (laws.start setup fits good))

pub begins_always : EachStepKeepsTheOrder → (setup : Setup) (events : List Event) (side : Side) → IsSetup setup → IsGood setup → All IsEvent events → Begins (handed_at (world_after (start setup) events) side) (sent_at (world_after (start setup) events) (other side))
begins_always laws setup events side fits good given = laws.order (world_after (start setup) events) side (always_holds laws setup events fits good given)

-- ---- the deliveries of an event

-- the world once the end that a packet came to has received it, replied where a reply is owed, and flushed then
abbrev pub flushed : World → Option (Side × World) → World
flushed w None = w
flushed w (Some l) = flushes l.1 l.0

lands_flushed : (w : World) (k : ℕ) (o : Option (Side × World)) → landing w k ≡ o → all_stepped w (arrival_steps k o) ≡ flushed w o
lands_flushed w k None e = refl
lands_flushed w k (Some l) e = ap (λ (o : Option (Side × World)). flushes (world_reached w o) l.0) e

pub delivers_lands : (w : World) (k : ℕ) → delivers w k ≡ flushed w (landing w k)
delivers_lands w k = lands_flushed w k (landing w k) refl

-- to deliver packets in turn is to take the steps of each in turn
pub deliveries : (w : World) (ks : List ℕ) → all_stepped w (delivery_steps_of w ks) ≡ fold delivers w ks
deliveries w [] = refl
deliveries w (k ∷ ks) = fold-append stepped w (delivery_steps w k) (delivery_steps_of (delivers w k) ks) ∙ deliveries (delivers w k) ks
