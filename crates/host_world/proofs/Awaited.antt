-- How two hosts come to a meeting.
use Rattle.std.proofs.Common.{◌≡◌, ◌≢◌, ◌∙◌, ◌⊎◌, inl, inr, ap, refl, sym, subst, ℕ, Bool, true, false, List, [], Option, Some, None, Result, Ok, Err, arith}
use Rattle.std.specs.Prelude.{not, ◌&&◌, ◌==◌, if◌then◌else◌, slice_get, Contains}
use Rattle.std.proofs.lemmas.List.Elements.{All-contains}
use Rattle.std.proofs.lemmas.Option.{slice_get_within}
use Rattle.courier_sessions.specs.declared.program.Program.{Program}
use Rattle.item_world.specs.Progress.{IsFrom}
use Rattle.item_world.specs.World.{end_at}
use Rattle.item_world.specs.declared.emitted.Emitted.{Emitted}
use Rattle.item_world.specs.declared.side.Side.{Side}
use Rattle.item_world.specs.declared.side.Side.TheVariants.{A, B}
use Rattle.xns_idp.specs.declared.address.Address.{Address}
use Rattle.xns_spp.proofs.Lists.{All-slice_get}
use Rattle.xns_spp.specs.Ends.{IsEnds}
use Rattle.xns_idp.specs.Packet.{PacketModel}
use Rattle.xns_idp.specs.Reading.{packet_of}
use Rattle.xns_idp.specs.declared.packet_type.TheConstants.{ERROR}
use Rattle.xns_spp.specs.Header.{header_of}
use Rattle.xns_spp.specs.Packet.{SppPacketModel, carried_by, carried_in, opener_of, spp_packet_of, with_header}
use Rattle.xns_spp.specs.Peers.{IsLinked}
use Rattle.xns_spp.specs.State.{State, initiator_state, responder_state}
use Rattle.xns_spp.specs.declared.dropped.Dropped.{Dropped}
use Rattle.xns_spp.specs.declared.dropped.Dropped.TheVariants.{NotSpp}
use Rattle.xns_spp.specs.declared.ends.Ends.{Ends}
use Rattle.xns_agenda.specs.Clock.{time_at}
use Rattle.xns_connection.specs.Living.{Deeds}
use Rattle.xns_connection.specs.Step.{AStepKeepsItsPromises}
use Rattle.xns_connection.specs.Story.{new_story}
use Rattle.xns_connection.specs.Telling.{Tells}
use Rattle.xns_connection.specs.declared.conversation.Conversation.{Conversation}
use Rattle.xns_host.specs.Coming.{Arrives, Comes, Opens, Seats}
use Rattle.xns_host.specs.Coming as coming
use Rattle.xns_host.specs.Hosting.{HasNoRoom, IsAllInUse, IsAnswering, address_in}
use Rattle.xns_host.specs.Knowing.{id_of}
use Rattle.xns_host.specs.Ours.{IsOpener}
use Rattle.xns_host.specs.Ours as ours
use Rattle.xns_host.specs.Places.{Places, PlaceTurns}
use Rattle.xns_host.specs.Registered.{named_in}
use Rattle.xns_host.specs.Services.{programs_at}
use Rattle.xns_host.specs.Strays.{StrayQueue, lost_stray}
use Rattle.xns_host.specs.Turn.{ConnectsTo, TakesIn, places_of, whole_of}
use Rattle.xns_host.specs.Went.{GuestHears}
use Rattle.xns_host.specs.Whole.{Whole}
use Rattle.xns_host.specs.declared.guest.Guest.{Guest}
use Rattle.xns_host.specs.declared.host.Host.{Host}
use Rattle.xns_host.specs.declared.register.Register.{Register}
use Rattle.host_world.specs.MeetingLaws.{MeetingLaws}
use Rattle.host_world.specs.Awaiting.{CannotOpen, HasNewConnection, HasOpened, HostAwaits, IsSentFrom}
use Rattle.host_world.specs.Following.{EachFollowed, MayTake, StandsOn}
use Rattle.host_world.specs.Guests.{LeadsTo}
use Rattle.host_world.specs.Meeting.{HasMade, Meeting, Party, at}
use Rattle.host_world.specs.Meets.{opens}
use Rattle.host_world.specs.Pairing.{with_no_more}
use Rattle.host_world.specs.Station.{IsStation, called_end}
use Rattle.host_world.specs.declared.station.Station.{Station}
use Rattle.host_world.proofs.Agreed.{side_on}
use Rattle.host_world.proofs.Followed.{taken_beside}
use Rattle.host_world.proofs.Following.{one_guest}
use Rattle.host_world.proofs.Guests.{hears_it}
use Rattle.host_world.proofs.Kept.{is_met, kept, made_there}
use Rattle.host_world.proofs.Numbers.{at_place, beside, same_or_other}
use Rattle.host_world.proofs.Onward.{sound}

-- ---- the host that connects

pub called : (now way socket here : ℕ) (peer : Address) (h j : Host) → ConnectsTo now way socket peer (Ok here) h j → HasNewConnection j here (address_in h.network h.host socket) peer
called now way socket here peer h j c =
    let n = c.connected in
    let g = n.guest in
    let fits : IsEnds _ = n.tells.stands.fits.ends in
    let a : Station = record {
      address = address_in h.network h.host socket;
      id = id_of g;
      terms = record {
        window = h.settings.window;
        backlog = h.settings.backlog;
        pace = n.made.pace;
        window_fits = (fits.window_least, fits.window_most);
        backlog_fits = (fits.backlog_least, fits.backlog_most);
      };
    } in
    let conversation = g.connection.conversation in
    record {
      station = a;
      is = record { address = fits.own; id_least = fits.id_known; id_most = fits.id };
      address = refl;
      made = conversation;
      there = record { guest = g; there = n.there; same = refl };
      tells = n.tells;
      silent = n.made.made.silent;
      awaits = λ b programs d at_peer just.
          let tells = subst (λ (to : Address). Tells conversation (new_story None (initiator_state a.address a.id to h.settings.window h.settings.backlog))) (sym at_peer) n.tells in
          let theirs : IsEnds _ = just.tells.stands.fits.ends in
          record {
            station = record { address = fits.own; id_least = fits.id_known; id_most = fits.id };
            peer = record { address = theirs.own; id_least = theirs.id_known; id_most = theirs.id };
            meets = opens conversation d tells just.tells n.made.made.silent just.silent;
            calls = record { guest = g; there = n.there; same = refl };
            new = refl;
          };
    }

pub awaits_on : (h j : Host) (here : ℕ) (a b : Station) (programs : List Program) (d : Conversation) (most : ℕ) (m : Meeting) (taken : Option (List ℕ)) (did : ℕ → Deeds → Deeds) (gave : ℕ → List (List ℕ)) (told : ℕ → Bool)
    → HostAwaits h here a b programs d m → EachFollowed most (MayTake taken) did gave told h j → MayTake taken m A
    → StandsOn a b programs most m A (did here) (gave here) (told here) (slice_get h.guests.items here) (slice_get j.guests.items here) (HostAwaits j here a b programs d)
awaits_on h j here a b programs d most m taken did gave told s each may =
    side_on A h j here a b programs most m taken did gave told (HostAwaits j here a b programs d) s.meets s.calls each may (λ n meets has same.
    record { station = s.station; peer = s.peer; meets = meets; calls = has; new = same ∙ s.new })

-- ---- what its packets say

-- the end that calls is where the one that is called takes it to be
said_from : (a b : Station) (e : Ends) (bytes : List ℕ) → IsStation a → IsLinked (called_end b a).ends e → IsFrom e bytes → IsSentFrom a bytes
said_from a b e bytes here linked from p is = by linked.peer_id where
  by : (a.id ≡ 0) ⊎ (a.id ≡ e.id) → (p.source ≡ a.address) × (p.header.source_id ≡ a.id)
  by (inl none) = absurd (omega (arith, none, here.id_least))
  by (inr same) = ((from p is).0 ∙ sym linked.peer, (from p is).1 ∙ sym same)

pub names : MeetingLaws → (h : Host) (here : ℕ) (a b : Station) (programs : List Program) (d : Conversation) (m : Meeting) (bytes : List ℕ) → HostAwaits h here a b programs d m → Contains (at m A).given bytes → IsSentFrom a bytes
names laws h here a b programs d m bytes s given =
    let k = kept laws.ends laws.order laws.stories a b programs s.station s.peer s.meets in
    let met = is_met laws.ends laws.order laws.stories a b programs m s.station s.peer s.meets in
    let linked = (sound laws a b programs s.station s.peer s.meets).1 in
    let x = made_there m.world A bytes (All-contains (HasMade m.world A) (at m A).given bytes (met.given A) given) in
    let from = All-slice_get (λ (y : Emitted). IsFrom (end_at m.world y.side).ends y.bytes) m.world.bag x.0 x.1 linked.bag x.2 in
    let side : x.1.side ≡ A = ap (λ (y : Side × List ℕ). y.0) x.3 in
    let same : x.1.bytes ≡ bytes = ap (λ (y : Side × List ℕ). y.1) x.3 in
    let theirs : end_at m.world B ≡ called_end b a = k.ends B ∙ ap (λ (p : Party). p.story.state) s.new in
    said_from a b (end_at m.world A).ends bytes s.station
    (subst (λ (v : State). IsLinked v.ends (end_at m.world A).ends) theirs (linked.ends B))
    (subst (λ (bs : List ℕ). IsFrom (end_at m.world A).ends bs) same (subst (λ (i : Side). IsFrom (end_at m.world i).ends x.1.bytes) side from))

-- ---- the host that takes the packet in

-- a packet made a connection that is in this place after the packet came to it
record OpensAt (now way : ℕ) (bytes : List ℕ) (w : Whole) (place : Option (Option Guest)) : Type 0 where
  pub packet : SppPacketModel
  pub is : spp_packet_of bytes ≡ Ok packet
  pub peer : Address
  pub id : ℕ
  pub opener : opener_of packet ≡ Some (peer, id)
  pub programs : List Program
  pub served : programs_at w.services.programs packet.target.socket ≡ Some programs
  pub guest : Guest
  pub answering : IsAnswering w.settings w.register.identifiers (address_in w.network w.host packet.target.socket) peer id way now programs guest
  pub next : Guest
  pub hears : GuestHears now bytes false guest next
  pub there : place ≡ Some (Some next)

opened_there : (now way : ℕ) (bytes : List ℕ) (p : SppPacketModel) (w : Whole) {register : Register} {mid q : Places} (number id : ℕ) (peer : Address) (programs : List Program) → spp_packet_of bytes ≡ Ok p → opener_of p ≡ Some (peer, id)
    → programs_at w.services.programs p.target.socket ≡ Some programs → Seats now way w p.target.socket peer id programs number register mid → PlaceTurns (GuestHears now bytes false) number mid q
    → OpensAt now way bytes w (slice_get q.guests number)
opened_there now way bytes p w {mid = mid} number id peer programs is opener served seats turn = record {
  packet = p;
  is = is;
  peer = peer;
  id = id;
  opener = opener;
  programs = programs;
  served = served;
  guest = seats.guest;
  answering = seats.answering;
  next = turn.next;
  hears = subst (λ (f : Guest). GuestHears now bytes false f turn.next) (one_guest turn.guest seats.guest (sym turn.was ∙ seats.there)) turn.turn;
  there = ap (λ (x : Places). slice_get x.guests number) turn.is ∙ at_place mid.guests number (Some turn.next) (slice_get_within mid.guests number (Some turn.guest) turn.was);
}

-- ---- in a place that was free

-- a place that is free has no connection
free_or_not : (place : Option (Option Guest)) (g : Guest) → place ≡ Some None → place ≡ Some (Some g) → ⊥
free_or_not place g free taken = absurd (cc)

turned_free : {P : Guest → Guest → Type 0} (number : ℕ) (p r : Places) (there : ℕ) (g : Guest) → PlaceTurns P number p r → slice_get p.guests there ≡ Some None → slice_get r.guests there ≡ Some (Some g) → ⊥
turned_free number p r there g t free taken = by (same_or_other there number) where
  by : (there ≡ number) ⊎ (there ≢ number) → ⊥
  by (inl same) = free_or_not (slice_get p.guests there) t.guest free (ap (λ (k : ℕ). slice_get p.guests k) same ∙ t.was)
  by (inr apart) = free_or_not (slice_get p.guests there) g free (sym (beside p.guests number there (Some t.next) apart) ∙ (sym (ap (λ (x : Places). slice_get x.guests there) t.is) ∙ taken))

opens_there : (now way : ℕ) (bytes : List ℕ) (p : SppPacketModel) (w : Whole) {register : Register} {strays : StrayQueue} {q : Places} (there : ℕ) (g : Guest) → spp_packet_of bytes ≡ Ok p → Opens now way bytes p w register strays q
    → slice_get w.places.guests there ≡ Some None → slice_get q.guests there ≡ Some (Some g) → OpensAt now way bytes w (slice_get q.guests there)
opens_there now way bytes p w {q = q} there g is (coming.opened {mid = mid} number id peer programs opener served seats turn) free taken = by (same_or_other there number) where
  by : (there ≡ number) ⊎ (there ≢ number) → OpensAt now way bytes w (slice_get q.guests there)
  by (inl same) = subst (λ (k : ℕ). OpensAt now way bytes w (slice_get q.guests k)) (sym same) (opened_there now way bytes p w number id peer programs is opener served seats turn)
  by (inr apart) =
      let after : slice_get q.guests there ≡ slice_get mid.guests there = ap (λ (x : Places). slice_get x.guests there) turn.is ∙ beside mid.guests number there (Some turn.next) apart in
      let before : slice_get mid.guests there ≡ slice_get w.places.guests there = ap (λ (x : Places). slice_get x.guests there) seats.is ∙ taken_beside w.places number there seats.guest apart in
      absurd (free_or_not (slice_get w.places.guests there) g free (sym before ∙ (sym after ∙ taken)))
opens_there now way bytes p w there g is (coming.full why same complaint) free taken = absurd (free_or_not (slice_get w.places.guests there) g free taken)
opens_there now way bytes p w there g is (coming.starved same) free taken = absurd (free_or_not (slice_get w.places.guests there) g free taken)

comes_there : (now way : ℕ) (bytes : List ℕ) (w : Whole) {result : Bool} {v : Whole} (there : ℕ) (g : Guest) → Comes now way bytes w result v
    → slice_get w.places.guests there ≡ Some None → slice_get v.places.guests there ≡ Some (Some g) → OpensAt now way bytes w (slice_get v.places.guests there)
comes_there now way bytes w there g (coming.foreign strange) free taken = absurd (free_or_not (slice_get w.places.guests there) g free taken)
comes_there now way bytes w there g (coming.echoes p size is asks stray) free taken = absurd (free_or_not (slice_get w.places.guests there) g free taken)
comes_there now way bytes w there g (coming.refuses p size {q = q} is quotes turn) free taken = absurd (turned_free quotes.number w.places q there g turn free taken)
comes_there now way bytes w there g (coming.hears p {q = q} is names turn) free taken = absurd (turned_free names.number w.places q there g turn free taken)
comes_there now way bytes w there g (coming.opens p is opener o) free taken = opens_there now way bytes p w there g is o free taken

arrives_there : (now way : ℕ) (bytes : List ℕ) (w : Whole) {result : Bool} {v : Whole} (there : ℕ) (g : Guest) → Arrives now way bytes w result v
    → slice_get w.places.guests there ≡ Some None → slice_get v.places.guests there ≡ Some (Some g) → OpensAt now way bytes w (slice_get v.places.guests there)
arrives_there now way bytes w there g (coming.meant c) free taken = comes_there now way bytes w there g c free taken
arrives_there now way bytes w there g (coming.unheard p size c is served complaint) free taken = absurd (free_or_not (slice_get w.places.guests there) g free taken)
arrives_there now way bytes w there g (coming.unmeant c never) free taken = absurd (free_or_not (slice_get w.places.guests there) g free taken)

-- ---- by a packet that opens a connection

-- a sequenced packet is of no other type
no_other : (other : ℕ) (bytes : List ℕ) (p : SppPacketModel) (q : PacketModel) (taken : ℕ) → (other == 5) ≡ false → spp_packet_of bytes ≡ Ok p → packet_of bytes ≡ Ok (q, taken) → q.kind ≡ other → ⊥
unfolding spp_packet_of
no_other other bytes p q taken apart is read kind =
    let carried : carried_by q ≡ Ok p = ap carried_in (sym read) ∙ is in
    let none : carried_by q ≡ Err NotSpp = ap (λ (n : ℕ). if n == 5 then with_header q (header_of q.body) else Err NotSpp) kind ∙ ap (λ (b : Bool). if b then with_header q (header_of q.body) else Err NotSpp) apart in
    absurd (refused (sym none ∙ carried)) where
      refused : (let r : Result SppPacketModel Dropped = Err NotSpp in r) ≡ Ok p → ⊥
      refused e = absurd (cc)

one_packet : (p q : SppPacketModel) → (let r : Result SppPacketModel Dropped = Ok p in r) ≡ Ok q → p ≡ q
one_packet p q e = cc

named_or_not : (o : Option ℕ) (n : ℕ) → o ≡ None → o ≡ Some n → ⊥
named_or_not o n none some = absurd (cc)

-- the packet made a connection; or the connections stayed, since there was no room, no identifier, or no memory
abbrev MadeOrNot : (now way : ℕ) (bytes : List ℕ) (w v : Whole) → Type 0
MadeOrNot now way bytes w v = ((there : ℕ) × OpensAt now way bytes w (slice_get v.places.guests there))
    ⊎ ((v.places ≡ w.places) × (HasNoRoom w.places.guests ⊎ (IsAllInUse w.register.identifiers ⊎ (v.strays ≡ lost_stray w.strays))))

why_full : (w v : Whole) → HasNoRoom w.places.guests ⊎ IsAllInUse w.register.identifiers → HasNoRoom w.places.guests ⊎ (IsAllInUse w.register.identifiers ⊎ (v.strays ≡ lost_stray w.strays))
why_full w v (inl room) = inl room
why_full w v (inr used) = inr (inl used)

opener_made : (now way : ℕ) (bytes : List ℕ) (p : SppPacketModel) (w : Whole) {register : Register} {strays : StrayQueue} {q : Places} → spp_packet_of bytes ≡ Ok p → Opens now way bytes p w register strays q
    → MadeOrNot now way bytes w (record w { register = register; strays = strays; places = q })
opener_made now way bytes p w is (coming.opened number id peer programs opener served seats turn) = inl (number, opened_there now way bytes p w number id peer programs is opener served seats turn)
opener_made now way bytes p w {register = r} {strays = s} is (coming.full why same complaint) = inr (refl, why_full w (record w { register = r; strays = s }) why)
opener_made now way bytes p w is (coming.starved same) = inr (refl, inr (inr refl))

opener_comes : (now way : ℕ) (bytes : List ℕ) (p : SppPacketModel) (w : Whole) {result : Bool} {v : Whole} → spp_packet_of bytes ≡ Ok p → IsOpener w p → Comes now way bytes w result v → MadeOrNot now way bytes w v
opener_comes now way bytes p w is opener (coming.foreign strange) = absurd (strange (ours.opens p is opener))
opener_comes now way bytes p w is opener (coming.echoes q size read asks stray) = absurd (no_other 2 bytes p q size refl is read asks.request.kind)
opener_comes now way bytes p w is opener (coming.refuses q size read quotes turn) = absurd (no_other ERROR bytes p q size refl is read quotes.kind)
opener_comes now way bytes p w is opener (coming.hears q read names turn) =
    absurd (named_or_not (named_in w.register p) names.number opener.unnamed (ap (named_in w.register) (one_packet p q (sym is ∙ read)) ∙ names.named))
opener_comes now way bytes p w is opener (coming.opens q read opens_it o) = opener_made now way bytes q w read o

-- a packet that opens a connection comes to the host
comes_to : (now way : ℕ) (bytes : List ℕ) (p : SppPacketModel) (w : Whole) (result : Bool) {v : Whole} → spp_packet_of bytes ≡ Ok p → IsOpener w p → Comes now way bytes w result v → result ≡ true
comes_to now way bytes p w result is opener (coming.foreign strange) = absurd (strange (ours.opens p is opener))
comes_to now way bytes p w result is opener (coming.echoes q size read asks stray) = refl
comes_to now way bytes p w result is opener (coming.refuses q size read quotes turn) = refl
comes_to now way bytes p w result is opener (coming.hears q read names turn) = refl
comes_to now way bytes p w result is opener (coming.opens q read opens_it o) = refl

opener_arrives : (now way : ℕ) (bytes : List ℕ) (p : SppPacketModel) (w : Whole) {result : Bool} {v : Whole} → spp_packet_of bytes ≡ Ok p → IsOpener w p → Arrives now way bytes w result v → MadeOrNot now way bytes w v
opener_arrives now way bytes p w is opener (coming.meant c) = opener_comes now way bytes p w is opener c
opener_arrives now way bytes p w is opener (coming.unheard q size c read served complaint) = let yes = comes_to now way bytes p w false is opener c in absurd (cc)
opener_arrives now way bytes p w is opener (coming.unmeant c never) = let yes = comes_to now way bytes p w false is opener c in absurd (cc)

-- ---- the meeting

-- who opens by a packet is its sender
sender_by : (b : Bool) (x y : Address × ℕ) → (if b then Some x else None) ≡ Some y → x ≡ y
sender_by false x y e = absurd (cc)
sender_by true x y e = cc

opened_at : AStepKeepsItsPromises → (now way there : ℕ) (bytes : List ℕ) (k l : Host) (a : Station) → OpensAt now way bytes (whole_of k) (slice_get l.guests.items there) → IsSentFrom a bytes → HasOpened k l there bytes a
opened_at law now way there bytes k l a o from =
    let p = o.packet in
    let says = from p o.is in
    let one : Address × ℕ = (p.source, p.header.source_id) in
    let other : Address × ℕ = (o.peer, o.id) in
    let sender : one ≡ other = sender_by (p.header.target_id == 0 && not (p.header.source_id == 0)) one other o.opener in
    let address : o.peer ≡ a.address = sym (ap (λ (x : Address × ℕ). x.0) sender) ∙ says.0 in
    let id : o.id ≡ a.id = sym (ap (λ (x : Address × ℕ). x.1) sender) ∙ says.1 in
    let own : Address = address_in k.network k.host p.target.socket in
    let g = o.guest in
    let made = g.connection.conversation in
    let fits : IsEnds _ = o.answering.tells.stands.fits.ends in
    let b : Station = record {
      address = own;
      id = id_of g;
      terms = record {
        window = k.settings.window;
        backlog = k.settings.backlog;
        pace = o.answering.made.pace;
        window_fits = (fits.window_least, fits.window_most);
        backlog_fits = (fits.backlog_least, fits.backlog_most);
      };
    } in
    record {
      packet = p;
      is = o.is;
      programs = o.programs;
      served = o.served;
      station = b;
      address = refl;
      made = made;
      new = record {
        tells = subst (λ (n : ℕ). Tells made (new_story (Some o.programs) (responder_state own (id_of g) a.address n k.settings.window k.settings.backlog))) id
            (subst (λ (x : Address). Tells made (new_story (Some o.programs) (responder_state own (id_of g) x o.id k.settings.window k.settings.backlog))) address o.answering.tells);
        silent = o.answering.made.made.silent;
      };
      meets = λ h here m s may.
          let led : LeadsTo a b o.programs 1 m B o.next with_no_more [] = hears_it now bytes false g o.next law o.hears a b o.programs m B s.meets (ap (λ (x : Party). x.conversation) s.new) may in (
            led.next,
            record {
              station = s.station;
              peer = s.peer;
              meets = led.meets;
              calls = record { guest = s.calls.guest; there = s.calls.there; same = ap (λ (x : Party). x.conversation) led.does.other ∙ s.calls.same };
              called = record { guest = o.next; there = o.there; same = led.same };
            },
            led.does,
          );
    }

pub fills : AStepKeepsItsPromises → (now way there : ℕ) (bytes : List ℕ) (result : Bool) (k l : Host) (g : Guest) (a : Station) → TakesIn now way bytes result k l → slice_get k.guests.items there ≡ Some None
    → slice_get l.guests.items there ≡ Some (Some g) → IsSentFrom a bytes → HasOpened k l there bytes a
fills law now way there bytes result k l g a t free taken from =
    opened_at law (time_at k.clock now) way there bytes k l a (arrives_there (time_at k.clock now) way bytes (whole_of k) there g t.comes free taken) from

pub opened : AStepKeepsItsPromises → (now way : ℕ) (bytes : List ℕ) (result : Bool) (k l : Host) (p : SppPacketModel) (a : Station) → TakesIn now way bytes result k l → spp_packet_of bytes ≡ Ok p → IsOpener (whole_of k) p → IsSentFrom a bytes
    → ((there : ℕ) × HasOpened k l there bytes a) ⊎ ((places_of l ≡ places_of k) × CannotOpen k l)
opened law now way bytes result k l p a t is opener from = by (opener_arrives (time_at k.clock now) way bytes p (whole_of k) is opener t.comes) where
  by : MadeOrNot (time_at k.clock now) way bytes (whole_of k) (whole_of l) → ((there : ℕ) × HasOpened k l there bytes a) ⊎ ((places_of l ≡ places_of k) × CannotOpen k l)
  by (inl made) = inl (made.0, opened_at law (time_at k.clock now) way made.0 bytes k l a made.1 from)
  by (inr same) = inr same
