-- What comes of a packet at a host, from what its parts say.
use Rattle.std.proofs.Common.{◌≡◌, ◌≢◌, ◌∙◌, ◌⊎◌, ap, refl, subst, sym, ℕ, List, Bool, true, false, Some, None, Ok, slice_get}
use Rattle.xns_idp.specs.Packet.{PacketModel, broadcast}
use Rattle.xns_idp.specs.Reading.{packet_of}
use Rattle.xns_small.specs.Echo.{echo_reply}
use Rattle.xns_small.specs.declared.error_number.TheConstants.{NO_RESOURCES, NO_SUCH_SOCKET}
use Rattle.xns_spp.specs.Packet.{SppPacketModel, opener_of, spp_packet_of}
use Rattle.xns_host.specs.Coming.{Arrives, Comes, Opens, echoes, foreign, full, hears, meant, opens, refuses, starved, unheard, unmeant}
use Rattle.xns_host.specs.Hosting.{HasNoRoom, IsAllInUse, IsThere, address_in, confirms}
use Rattle.xns_host.specs.Identifiers.{StaysInOrder}
use Rattle.xns_host.specs.Ours.{AsksEcho, IsOfGuest, IsOurs, IsToSocket, QuotesOurs}
use Rattle.xns_host.specs.Places.{Places, PlaceTurns}
use Rattle.xns_host.specs.Registered.{named_in}
use Rattle.xns_host.specs.Services.{programs_at}
use Rattle.xns_host.specs.Standing.{IsSameHost, StaysSetUp}
use Rattle.xns_host.specs.Strays.{HasComplained, MayHaveStray, StrayQueue, echo_socket, lost_stray, stray_of}
use Rattle.xns_host.specs.Turn.{places_of, whole_of}
use Rattle.xns_host.specs.Went.{GuestHears, GuestUnserved}
use Rattle.xns_host.specs.Whole.{Whole}
use Rattle.xns_host.specs.declared.guest.Guest.{Guest}
use Rattle.xns_host.specs.declared.host.Host.{Host}
use Rattle.xns_host.specs.declared.register.Register.{Register}
use Rattle.xns_host.specs.declared.services.Services.{Services}
use Rattle.xns_host.specs.declared.settings.Settings.{Settings}
use Rattle.xns_host.proofs.Foreign.{echo_not_ours, error_not_ours}
use Rattle.xns_host.proofs.Hearing.{one_packet}

whole : ℕ → List ℕ → Settings → Services → Register → StrayQueue → Places → Whole
whole n h s v r q p = record { network = n; host = h; settings = s; services = v; register = r; strays = q; places = p }

-- nothing but these parts of a host changed
pub whole_at : (old new : Host) (register : Register) (strays : StrayQueue) (places : Places) → IsSameHost old new → new.services ≡ old.services
    → new.register ≡ register → new.strays ≡ strays → places_of new ≡ places
    → whole_of new ≡ record (whole_of old) { register = register; strays = strays; places = places }
unfolding whole
whole_at old new register strays places host services r q p =
    ap (λ (x : ℕ). whole x new.host new.settings new.services new.register new.strays (places_of new)) host.0
    ∙ (ap (λ (x : List ℕ). whole old.network x new.settings new.services new.register new.strays (places_of new)) host.1
    ∙ (ap (λ (x : Settings). whole old.network old.host x new.services new.register new.strays (places_of new)) host.2
    ∙ (ap (λ (x : Services). whole old.network old.host old.settings x new.register new.strays (places_of new)) services
    ∙ (ap (λ (x : Register). whole old.network old.host old.settings old.services x new.strays (places_of new)) r
    ∙ (ap (λ (x : StrayQueue). whole old.network old.host old.settings old.services register x (places_of new)) q
    ∙ ap (λ (x : Places). whole old.network old.host old.settings old.services register strays x) p)))))

pub whole_by : (old new : Host) (register : Register) (strays : StrayQueue) (places : Places) → StaysSetUp old new → new.register ≡ register
    → new.strays ≡ strays → places_of new ≡ places
    → whole_of new ≡ record (whole_of old) { register = register; strays = strays; places = places }
whole_by old new register strays places set_up r q p = whole_at old new register strays places set_up.0 set_up.1 r q p

with_places : (w : Whole) (r s : Register) (p q : Places) → r ≡ s → p ≡ q
    → whole w.network w.host w.settings w.services r w.strays p ≡ whole w.network w.host w.settings w.services s w.strays q
with_places w r s p q register places =
    ap (λ (x : Register). whole w.network w.host w.settings w.services x w.strays p) register
    ∙ ap (λ (x : Places). whole w.network w.host w.settings w.services s w.strays x) places

pub none_comes : (now way : ℕ) (b : List ℕ) (w v : Whole) → (IsOurs w b → ⊥) → v ≡ w → Comes now way b w false v
none_comes now way b w v never is = subst (λ (x : Whole). Comes now way b w false x) (sym is) (foreign never)

pub comes_echo : (now way : ℕ) (b : List ℕ) (w v : Whole) (r : Bool) (p : PacketModel) (taken : ℕ) → packet_of b ≡ Ok (p, taken) → p.kind ≡ 2
    → (r ≡ true → AsksEcho w p) → (r ≡ false → AsksEcho w p → ⊥)
    → (r ≡ true → MayHaveStray w.strays v.strays (stray_of way (echo_reply (address_in w.network w.host echo_socket) p)))
    → (r ≡ false → v.strays ≡ w.strays) → v ≡ record w { strays = v.strays } → Comes now way b w r v
comes_echo now way b w v true p taken read kind asked never waits rest is =
    subst (λ (x : Whole). Comes now way b w true x) (sym is) (echoes p taken read (asked refl) (waits refl))
comes_echo now way b w v false p taken read kind asked never waits rest is =
    none_comes now way b w v (echo_not_ours w b p taken read kind (never refl))
    (is ∙ ap (λ (q : StrayQueue). let x : Whole = record w { strays = q } in x) (rest refl))

pub comes_refused : (now way : ℕ) (b : List ℕ) (w v : Whole) (r : Bool) (p : PacketModel) (taken : ℕ) → packet_of b ≡ Ok (p, taken) → p.kind ≡ 3
    → (r ≡ true → (q : QuotesOurs w p) × PlaceTurns (λ (g h : Guest). GuestUnserved now q.quote.error g h) q.number w.places v.places) → (r ≡ false → QuotesOurs w p → ⊥)
    → (r ≡ false → v.places ≡ w.places) → v ≡ record w { places = v.places } → Comes now way b w r v
unfolding whole
comes_refused now way b w v true p taken read kind turn never rest is =
    subst (λ (x : Whole). Comes now way b w true x) (sym is) (refuses p taken read (turn refl).0 (turn refl).1)
comes_refused now way b w v false p taken read kind turn never rest is =
    none_comes now way b w v (error_not_ours w b p taken read kind (never refl)) (is ∙ with_places w w.register w.register v.places w.places refl (rest refl))

pub comes_heard : (now way : ℕ) (b : List ℕ) (w v : Whole) (r : Bool) (p : SppPacketModel) (number : ℕ) → spp_packet_of b ≡ Ok p → p.target.host ≡ w.host
    → named_in w.register p ≡ Some number
    → (r ≡ true → IsThere (IsOfGuest p) (slice_get w.places.guests number) × PlaceTurns (λ (g h : Guest). GuestHears now b (confirms p) g h) number w.places v.places)
    → (r ≡ false → IsOurs w b → ⊥) → (r ≡ false → v.places ≡ w.places) → v ≡ record w { places = v.places } → Comes now way b w r v
unfolding whole
comes_heard now way b w v true p number is here named turn never rest eq =
    subst (λ (x : Whole). Comes now way b w true x) (sym eq)
    (hears p is (record { here = here; number = number; named = named; there = (turn refl).0 }) (turn refl).1)
comes_heard now way b w v false p number is here named turn never rest eq =
    none_comes now way b w v (never refl) (eq ∙ with_places w w.register w.register v.places w.places refl (rest refl))

pub comes_opened : (now way : ℕ) (b : List ℕ) (w v : Whole) (r : Bool) (p : SppPacketModel) → spp_packet_of b ≡ Ok p → p.target.host ≡ w.host
    → p.source.host ≢ broadcast → named_in w.register p ≡ None → (r ≡ true → Opens now way b p w v.register v.strays v.places)
    → (r ≡ true → (opener_of p ≢ None) × (programs_at w.services.programs p.target.socket ≢ None)) → (r ≡ false → IsOurs w b → ⊥)
    → (r ≡ false → v ≡ w) → v ≡ record w { register = v.register; strays = v.strays; places = v.places } → Comes now way b w r v
comes_opened now way b w v true p is here one_host named turn opener never rest eq =
    subst (λ (x : Whole). Comes now way b w true x) (sym eq)
    (opens p is (record { here = here; one_host = one_host; unnamed = named; opener = (opener refl).0; served = (opener refl).1 }) (turn refl))
comes_opened now way b w v false p is here one_host named turn opener never rest eq =
    none_comes now way b w v (never refl) (rest refl)

pub full_by : (now way : ℕ) (b : List ℕ) (p : SppPacketModel) (w : Whole) (r : Register) (s : StrayQueue) (q : Places)
    → HasComplained (address_in w.network w.host p.target.socket) NO_RESOURCES way b w.strays s → q ≡ w.places
    → HasNoRoom w.places.guests ⊎ IsAllInUse w.register.identifiers → StaysInOrder w.register.identifiers r.identifiers → Opens now way b p w r s q
full_by now way b p w r s q complaint is why order = subst (λ (x : Places). Opens now way b p w r s x) (sym is) (full why order complaint)

-- of the address of a socket of the host as it was
pub complained_of : (network was : ℕ) (host own : List ℕ) (socket here way : ℕ) (b : List ℕ) (old mid new : StrayQueue) → network ≡ was → host ≡ own
    → socket ≡ here → mid ≡ old → HasComplained (address_in network host socket) NO_RESOURCES way b mid new
    → HasComplained (address_in was own here) NO_RESOURCES way b old new
complained_of network was host own socket here way b old mid new same_network same_host same_socket same is =
    subst (λ (x : ℕ). HasComplained (address_in x own here) NO_RESOURCES way b old new) same_network
    (subst (λ (x : List ℕ). HasComplained (address_in network x here) NO_RESOURCES way b old new) same_host
    (subst (λ (x : ℕ). HasComplained (address_in network host x) NO_RESOURCES way b old new) same_socket
    (subst (λ (x : StrayQueue). HasComplained (address_in network host socket) NO_RESOURCES way b x new) same is)))

pub starved_by : (now way : ℕ) (b : List ℕ) (p : SppPacketModel) (w : Whole) (r : Register) (s : StrayQueue) (q : Places) → s ≡ lost_stray w.strays → q ≡ w.places
    → StaysInOrder w.register.identifiers r.identifiers → Opens now way b p w r s q
starved_by now way b p w r s q queue is order =
    subst (λ (x : StrayQueue). Opens now way b p w r x q) (sym queue) (subst (λ (x : Places). Opens now way b p w r (lost_stray w.strays) x) (sym is) (starved order))

-- ---- a packet that nobody hears

-- what is not the host's changed nothing
left_alone : (now way : ℕ) (b : List ℕ) (w v : Whole) (r : Bool) → r ≡ false → Comes now way b w r v → v ≡ w
left_alone now way b w v r off (foreign never) = refl
left_alone now way b w v r off (echoes p taken read asks waits) = absurd (cc)
left_alone now way b w v r off (refuses p taken read quotes turn) = absurd (cc)
left_alone now way b w v r off (hears p read names turn) = absurd (cc)
left_alone now way b w v r off (opens p read opener made) = absurd (cc)

complained_at : (now way : ℕ) (b : List ℕ) (w v : Whole) (r : Bool) (p : PacketModel) (taken : ℕ) → packet_of b ≡ Ok (p, taken)
    → Comes now way b w false w → (r ≡ true → IsToSocket w p) → (r ≡ false → IsToSocket w p → ⊥)
    → (r ≡ true → HasComplained (address_in w.network w.host p.target.socket) NO_SUCH_SOCKET way b w.strays v.strays)
    → (r ≡ false → v.strays ≡ w.strays) → v ≡ record w { strays = v.strays } → Arrives now way b w r v
complained_at now way b w v true p taken read comes served unserved waits rest is =
    subst (λ (x : Whole). Arrives now way b w true x) (sym is) (unheard p taken comes read (served refl) (waits refl))
complained_at now way b w v false p taken read comes served unserved waits rest is =
    subst (λ (x : Whole). Arrives now way b w false x) (sym (is ∙ ap (λ (q : StrayQueue). let x : Whole = record w { strays = q } in x) (rest refl)))
    (unmeant comes (λ q n at s. unserved refl (subst (λ (x : PacketModel). IsToSocket w x) (one_packet p q taken n (sym read) at) s)))

pub complained : (now way : ℕ) (b : List ℕ) (w m v : Whole) (was r : Bool) (p : PacketModel) (taken : ℕ) → packet_of b ≡ Ok (p, taken)
    → was ≡ false → Comes now way b w was m → (r ≡ true → IsToSocket m p) → (r ≡ false → IsToSocket m p → ⊥)
    → (r ≡ true → HasComplained (address_in m.network m.host p.target.socket) NO_SUCH_SOCKET way b m.strays v.strays)
    → (r ≡ false → v.strays ≡ m.strays) → v ≡ record m { strays = v.strays } → Arrives now way b w r v
complained now way b w m v was r p taken read off comes served unserved waits rest is =
    let same : m ≡ w = left_alone now way b w m was off comes in
    let none : Comes now way b w false w
    = subst (λ (x : Whole). Comes now way b w false x) same (subst (λ (x : Bool). Comes now way b w x m) off comes) in
    subst (λ (x : Whole). (r ≡ true → IsToSocket x p) → (r ≡ false → IsToSocket x p → ⊥)
    → (r ≡ true → HasComplained (address_in x.network x.host p.target.socket) NO_SUCH_SOCKET way b x.strays v.strays)
    → (r ≡ false → v.strays ≡ x.strays) → v ≡ record x { strays = v.strays } → Arrives now way b w r v) (sym same)
    (complained_at now way b w v r p taken read none) served unserved waits rest is

pub arrives_meant : (t u way : ℕ) (b : List ℕ) (w v : Whole) (r : Bool) → t ≡ u → r ≡ true → Comes t way b w r v → Arrives u way b w true v
arrives_meant t u way b w v r eq on comes = meant (subst (λ (x : Bool). Comes u way b w x v) on (subst (λ (x : ℕ). Comes x way b w r v) eq comes))

pub arrives_at : (t u way : ℕ) (b : List ℕ) (w v : Whole) (r : Bool) → t ≡ u → Arrives t way b w r v → Arrives u way b w r v
arrives_at t u way b w v r eq arrives = subst (λ (x : ℕ). Arrives x way b w r v) eq arrives
