-- What a packet of the peer is read as, and what it leaves.
use Rattle.std.proofs.Common.{◌≡◌, ◌⊎◌, inl, inr, ℕ, zero, suc, ◌+◌, ◌-◌, ◌≤◌, Bool, true, false, nat_lt, List, [], ◌∷◌, ◌++◌, length, Option, Some, None, Ok, refl, sym, ◌∙◌, ap, subst, arith, append-nil, append_assoc, length-append}
use Rattle.std.specs.Option.{option_to_list}
use Rattle.std.specs.Prelude.{slice_get, ◌||◌}
use Rattle.std.proofs.lemmas.List.Elements.{All-nil, All-cons}
use Rattle.std.proofs.lemmas.Bool.{and_parts, not-true, ltb-false}
use Rattle.xns_spp.specs.Growth.{Begins, Brings, HasCome, Acknowledges}
use Rattle.xns_spp.specs.Header.{is_system, brings_item, reply_control}
use Rattle.xns_spp.specs.Item.{item_in}
use Rattle.xns_spp.specs.Meant.{Meant, as_meant}
use Rattle.xns_spp.specs.Packet.{SppPacketModel, spp_packet_of}
use Rattle.xns_spp.specs.Receiving.{numbers_in, receive_answer, after_receive}
use Rattle.xns_spp.specs.Sending.{system_packet}
use Rattle.xns_spp.specs.State.{State, IsState}
use Rattle.xns_spp.specs.declared.field_numbers.FieldNumbers.{FieldNumbers}
use Rattle.xns_spp.specs.declared.item.Item.{Item}
use Rattle.item_world.specs.EndLaws.{EndLaws}
use Rattle.item_world.proofs.Moves.{IsProper, Sends, sent_close, system_proper}
use Rattle.item_world.specs.Invariant.{IsSoundPacket, IsSoundSpelling, WentOut, StandsBesidePeer}
use Rattle.xns_spp.specs.Fronts.{begins_more}
use Rattle.item_world.specs.World.{moment, lifetime, is_past}
use Rattle.item_world.specs.declared.emitted.Emitted.{Emitted}
use Rattle.item_world.specs.declared.moment.Moment.{Moment}

-- ---- a packet that lives is read as the numbers that its fields were made of

neither : (p q : Bool) → (p || q) ≡ false → (p ≡ false) × (q ≡ false)
neither true q h = absurd (cc)
neither false true h = absurd (cc)
neither false false h = (refl, refl)

-- since this moment both ends have taken no more items than a packet lives
record IsYoung (at : Moment) (m n : ℕ) : Type 0 where
  sender : m ≤ at.sender + lifetime
  receiver : n ≤ at.receiver + lifetime

young : (at : Moment) (sender receiver : ℕ) → is_past at sender receiver ≡ false → IsYoung at sender receiver
young at sender receiver h =
    let n = neither (nat_lt lifetime (sender - at.sender)) (nat_lt lifetime (receiver - at.receiver)) h in
    let a : sender - at.sender ≤ lifetime = ltb-false lifetime (sender - at.sender) n.0 in
    let b : receiver - at.receiver ≤ lifetime = ltb-false lifetime (receiver - at.receiver) n.1 in
    record { sender = omega arith; receiver = omega arith }

-- s reads a packet of its peer
pub read_as_meant : EndLaws → (s peer : State) (x : Emitted) (i : IsSoundSpelling peer s x) → StandsBesidePeer s peer → is_past x.at (length peer.taken) (length s.taken) ≡ false
    → numbers_in s i.says.packet ≡ as_meant i.says.meant
read_as_meant laws s peer x i k alive =
    let y = young x.at (length peer.taken) (length s.taken) alive in
    let sent = sent_close s peer k in
    laws.numbers.fields s i.says.packet i.says.meant (record {
      least = omega (arith, y.receiver, i.says.close.sequence.least);
      most = omega (arith, i.receiver, i.says.close.sequence.most);
      remainder = sym i.says.reduced.sequence;
    }) (record {
      least = omega (arith, y.sender, i.says.close.acknowledge.least, sent.most);
      most = omega (arith, i.sound.acknowledges, k.reached);
      remainder = sym i.says.reduced.acknowledge;
    }) (record {
      least = omega (arith, y.sender, i.says.close.allocation.least, sent.most);
      most = omega (arith, i.sender, i.says.close.allocation.most, k.reached);
      remainder = sym i.says.reduced.allocation;
    })

-- ---- items in order

-- the items begin what went out at the peer
pub record IsFront (peer : State) (xs : List Item) : Type 0 where
  pub taken : Begins xs peer.accepted
  pub went_out : length xs ≤ peer.sent

front_more : (peer : State) (xs : List Item) (x : Item) → IsFront peer xs → WentOut peer (length xs) x → IsFront peer (xs ++ x ∷ [])
front_more peer xs x f out = record { taken = begins_more xs peer.accepted x f.taken out.is; went_out = omega (arith, length-append xs (x ∷ []), out.sent) }

-- items that begin what went out at the peer, with more items that went out there next, begin what went out there
front_all : (peer : State) (xs items : List Item) → IsFront peer xs → ((i : ℕ) (x : Item) → slice_get items i ≡ Some x → WentOut peer (length xs + i) x) → IsFront peer (xs ++ items)
front_all peer xs [] f h = subst (IsFront peer) (sym (append-nil xs)) f
front_all peer xs (y ∷ ys) f h =
    let first : WentOut peer (length xs) y = subst (λ (k : ℕ). WentOut peer k y) (omega arith) (h zero y refl) in
    let number : (i : ℕ) → length xs + suc i ≡ length (xs ++ y ∷ []) + i = λ i. omega (arith, length-append xs (y ∷ [])) in
    subst (IsFront peer) (append_assoc xs (y ∷ []) ys)
    (front_all peer (xs ++ y ∷ []) ys (front_more peer xs y f first) (λ i x is. subst (λ (k : ℕ). WentOut peer k x) (number i) (h (suc i) x is)))

-- ---- what has come

-- a packet of the peer, which is read as it was meant
pub record Comes (s peer : State) (bytes : List ℕ) : Type 0 where
  pub packet : SppPacketModel
  pub meant : Meant
  pub read : spp_packet_of bytes ≡ Ok packet
  pub sound : IsSoundPacket peer packet meant
  pub numbers : numbers_in s packet ≡ as_meant meant

same_packet : (p q : SppPacketModel) (b : List ℕ) → spp_packet_of b ≡ Ok p → spp_packet_of b ≡ Ok q → p ≡ q
same_packet p q b h i = cc

same_number : (m n : ℕ) → Some m ≡ Some n → m ≡ n
same_number m n h = cc

-- the item that a packet of the peer brings went out at the peer
brought : (s peer : State) (b : List ℕ) (k : ℕ) (x : Item) → Comes s peer b → Brings s b k x → WentOut peer k x
brought s peer b k x c i =
    let m : Meant = c.meant in
    let same : i.packet ≡ c.packet = same_packet i.packet c.packet b i.read c.read in
    let brings : brings_item c.packet.header ≡ true = sym (ap (λ (p : SppPacketModel). brings_item p.header) same) ∙ i.brings in
    let data_packet : is_system c.packet.header ≡ false = not-true (is_system c.packet.header) (and_parts _ _ brings).0 in
    let number : m.sequence ≡ k =
    same_number m.sequence k (sym (ap (λ (p : SppPacketModel). (numbers_in s p).sequence) same ∙ ap (λ (f : FieldNumbers). f.sequence) c.numbers) ∙ i.number) in
    let item : item_in c.packet ≡ x = sym (ap item_in same) ∙ i.item in
    let out : WentOut peer m.sequence (item_in c.packet) = record { is = c.sound.carries data_packet; sent = c.sound.went_out data_packet } in
    subst (λ (y : Item). WentOut peer k y) item (subst (λ (j : ℕ). WentOut peer j (item_in c.packet)) number out)

come : (s peer : State) (b : List ℕ) (k : ℕ) (x : Item) → Comes s peer b → StandsBesidePeer s peer → HasCome s b k x → WentOut peer k x
come s peer b k x c keeps (inl i) = brought s peer b k x c i
come s peer b k x c keeps (inr e) = keeps.early k x e

heard : (s peer : State) (b : List ℕ) (n : ℕ) → Comes s peer b → StandsBesidePeer s peer → (n ≡ s.acknowledged) ⊎ Acknowledges s b n → n ≤ length peer.taken
heard s peer b n c keeps (inl h) = omega (arith, h, keeps.acknowledged)
heard s peer b n c keeps (inr i) =
    let m : Meant = c.meant in
    let same : i.packet ≡ c.packet = same_packet i.packet c.packet b i.read c.read in
    let number : m.acknowledge ≡ n =
    same_number m.acknowledge n (sym (ap (λ (p : SppPacketModel). (numbers_in s p).acknowledge) same ∙ ap (λ (f : FieldNumbers). f.acknowledge) c.numbers) ∙ i.number) in
    omega (arith, number, c.sound.acknowledges)

received_goes : EndLaws → (s peer : State) (b : List ℕ) → Comes s peer b → StandsBesidePeer s peer → IsState (after_receive s b) → StandsBesidePeer (after_receive s b) peer
received_goes laws s peer b c k fits =
    let t : State = after_receive s b in
    let takes = laws.comes_in.taken s b in
    let front = front_all peer s.taken takes.items (record { taken = k.taken; went_out = k.went_out }) (λ i x is. come s peer b (length s.taken + i) x c k (takes.next i x is)) in
    let now : IsFront peer t.taken = subst (IsFront peer) (sym takes.taken) front in
    record {
      fits = fits;
      taken = now.taken;
      went_out = now.went_out;
      early = λ j x e. come s peer b j x c k (laws.comes_in.early s b j x e);
      acknowledged = heard s peer b t.acknowledged c k (laws.acknowledges s b);
      reached = omega (arith, k.reached, (laws.grows.receive s b).sent);
    }

replies_with : EndLaws → (s peer : State) (b : List ℕ) (o : Option (List ℕ)) → (receive_answer s b).reply ≡ o → StandsBesidePeer (after_receive s b) peer → Sends s (after_receive s b) peer (option_to_list o)
replies_with laws s peer b None h k = record { grows = laws.grows.receive s b; stands = k; packets = []; spells = refl; proper = All-nil (IsProper (moment (after_receive s b) peer) (after_receive s b)) }
replies_with laws s peer b (Some r) h k =
    let t : State = after_receive s b in
    let reply : SppPacketModel = system_packet t reply_control in
    record {
      grows = laws.grows.receive s b;
      stands = k;
      packets = reply ∷ [];
      spells = ap (λ (x : List ℕ). x ∷ []) (laws.goes_out.reply s b r h);
      proper = All-cons (IsProper (moment t peer) t) reply [] (system_proper laws t t peer reply_control k (omega arith) refl (omega arith) refl) (All-nil (IsProper (moment t peer) t));
    }

-- bytes of the peer come to an end
pub receive_sends : EndLaws → (s peer : State) (b : List ℕ) → Comes s peer b → IsState (after_receive s b) → StandsBesidePeer s peer → Sends s (after_receive s b) peer (option_to_list (receive_answer s b).reply)
receive_sends laws s peer b c fits k = replies_with laws s peer b (receive_answer s b).reply refl (received_goes laws s peer b c k fits)
