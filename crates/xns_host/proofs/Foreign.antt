-- Which bytes are not a host's.
use Rattle.std.proofs.Common.{◌≡◌, ◌≢◌, ◌∙◌, ap, arith, refl, subst, sym, ℕ, List, true, false, Some, None, Result, Ok, Err, slice_get}
use Rattle.std.proofs.Math.Logic.{∥∥₁_elim}
use Rattle.std.proofs.Props.{props}
use Rattle.std.proofs.lemmas.Option.{same_Some}
use Rattle.xns_idp.specs.Packet.{PacketModel}
use Rattle.xns_idp.specs.Reading.{decode_model, packet_of}
use Rattle.xns_idp.specs.declared.fault.IdpFault.{IdpFault}
use Rattle.xns_idp.specs.declared.packet.Packet.{Packet}
use Rattle.xns_spp.specs.Ends.{is_ours_at}
use Rattle.xns_spp.specs.Held.{StandsFor}
use Rattle.xns_spp.specs.Packet.{SppPacketModel, spp_packet_of}
use Rattle.xns_spp.specs.State.{State}
use Rattle.xns_host.specs.Ours.{AsksEcho, IsOpener, IsOurs, Names, QuotesOurs, asks, names, opens, quotes}
use Rattle.xns_host.specs.Quotes.{is_sent_by, quoted_packet}
use Rattle.xns_host.specs.Register.{owner_in}
use Rattle.xns_host.specs.Registered.{IsAllRegistered, named_in}
use Rattle.xns_host.specs.Whole.{Whole}
use Rattle.xns_host.specs.declared.guest.Guest.{Guest}
use Rattle.xns_host.specs.declared.quote.Quote.{Quote}
use Rattle.xns_host.proofs.Hearing.{not_read, one_packet, sequenced_kind}

-- ---- by what the packet is

-- a packet that asks for no reply, quotes no packet of a connection, names none and opens none is not the host's
none_ours : (w : Whole) (b : List ℕ) (c : PacketModel) (taken : ℕ) → packet_of b ≡ Ok (c, taken) → (AsksEcho w c → ⊥) → (QuotesOurs w c → ⊥)
    → ((p : SppPacketModel) → spp_packet_of b ≡ Ok p → Names w p → ⊥) → ((p : SppPacketModel) → spp_packet_of b ≡ Ok p → IsOpener w p → ⊥)
    → IsOurs w b → ⊥
none_ours w b c taken read echo quote name opening (asks p n at is) =
    let same : p ≡ c = one_packet c p taken n (sym read) at in echo (subst (λ (x : PacketModel). AsksEcho w x) same is)
none_ours w b c taken read echo quote name opening (quotes p n at is) =
    let same : p ≡ c = one_packet c p taken n (sym read) at in quote (subst (λ (x : PacketModel). QuotesOurs w x) same is)
none_ours w b c taken read echo quote name opening (names p at is) = name p at is
none_ours w b c taken read echo quote name opening (opens p at is) = opening p at is

not_sequenced : (b : List ℕ) (c : PacketModel) (taken : ℕ) (p : SppPacketModel) → packet_of b ≡ Ok (c, taken) → (c.kind ≡ 5 → ⊥)
    → spp_packet_of b ≡ Ok p → ⊥
not_sequenced b c taken p read other is = other (sequenced_kind b c taken p read is)

pub echo_not_ours : (w : Whole) (b : List ℕ) (c : PacketModel) (taken : ℕ) → packet_of b ≡ Ok (c, taken) → c.kind ≡ 2 → (AsksEcho w c → ⊥)
    → IsOurs w b → ⊥
echo_not_ours w b c taken read kind never =
    none_ours w b c taken read never (λ q. let bad : 2 ≡ 3 = sym kind ∙ q.kind in omega (arith, bad))
    (λ p is n. not_sequenced b c taken p read (λ five. let bad : 2 ≡ 5 = sym kind ∙ five in omega (arith, bad)) is)
    (λ p is n. not_sequenced b c taken p read (λ five. let bad : 2 ≡ 5 = sym kind ∙ five in omega (arith, bad)) is)

pub error_not_ours : (w : Whole) (b : List ℕ) (c : PacketModel) (taken : ℕ) → packet_of b ≡ Ok (c, taken) → c.kind ≡ 3 → (QuotesOurs w c → ⊥)
    → IsOurs w b → ⊥
error_not_ours w b c taken read kind never =
    none_ours w b c taken read (λ a. let bad : 3 ≡ 2 = sym kind ∙ a.request.kind in omega (arith, bad)) never
    (λ p is n. not_sequenced b c taken p read (λ five. let bad : 3 ≡ 5 = sym kind ∙ five in omega (arith, bad)) is)
    (λ p is n. not_sequenced b c taken p read (λ five. let bad : 3 ≡ 5 = sym kind ∙ five in omega (arith, bad)) is)

pub sequenced_not_ours : (w : Whole) (b : List ℕ) (c : PacketModel) (taken : ℕ) → packet_of b ≡ Ok (c, taken) → c.kind ≡ 5
    → ((p : SppPacketModel) → spp_packet_of b ≡ Ok p → Names w p → ⊥) → ((p : SppPacketModel) → spp_packet_of b ≡ Ok p → IsOpener w p → ⊥)
    → IsOurs w b → ⊥
sequenced_not_ours w b c taken read kind name opening =
    none_ours w b c taken read (λ a. let bad : 5 ≡ 2 = sym kind ∙ a.request.kind in omega (arith, bad))
    (λ q. let bad : 5 ≡ 3 = sym kind ∙ q.kind in omega (arith, bad)) name opening

pub other_not_ours : (w : Whole) (b : List ℕ) (c : PacketModel) (taken : ℕ) → packet_of b ≡ Ok (c, taken) → (c.kind ≡ 2 → ⊥) → (c.kind ≡ 3 → ⊥)
    → (c.kind ≡ 5 → ⊥) → IsOurs w b → ⊥
other_not_ours w b c taken read echo error sequenced =
    none_ours w b c taken read (λ a. echo a.request.kind) (λ q. error q.kind) (λ p is n. not_sequenced b c taken p read sequenced is)
    (λ p is n. not_sequenced b c taken p read sequenced is)

pub never_read : (b : List ℕ) (r : Result (Packet × ℕ) IdpFault) (p : PacketModel) (n : ℕ) → decode_model r ≡ packet_of b
    → ((x : Packet × ℕ) → r ≢ Ok x) → packet_of b ≡ Ok (p, n) → ⊥
never_read b (Ok x) p n read none is = none x refl
never_read b (Err f) p n read none is = let e = read ∙ is in cc

pub unread_not_ours : (w : Whole) (b : List ℕ) (r : Result (Packet × ℕ) IdpFault) → decode_model r ≡ packet_of b → ((x : Packet × ℕ) → r ≢ Ok x)
    → IsOurs w b → ⊥
unread_not_ours w b r read none (asks p n at is) = never_read b r p n read none at
unread_not_ours w b r read none (quotes p n at is) = never_read b r p n read none at
unread_not_ours w b r read none (names p at is) = not_read b r p read none at
unread_not_ours w b r read none (opens p at is) = not_read b r p read none at

-- ---- by what the connection says

-- a packet that is none of the connection that it names names none
pub named_not_ours : (w : Whole) (p q : SppPacketModel) (number : ℕ) → IsAllRegistered w.register w.places.guests → p ≡ q
    → named_in w.register q ≡ Some number
    → ((g : Guest) (s : State) → slice_get w.places.guests number ≡ Some (Some g) → StandsFor g.connection.conversation.endpoint s
    → is_ours_at s.ends q ≡ false) → Names w p → ⊥
named_not_ours w p q number all same named never n =
    let name : named_in w.register p ≡ Some number = ap (λ (x : SppPacketModel). named_in w.register x) same ∙ named in
    let one : n.number ≡ number = same_Some n.number number (sym n.named ∙ name) in
    let at : slice_get w.places.guests number ≡ Some (Some n.there.guest)
    = subst (λ (m : ℕ). slice_get w.places.guests m ≡ Some (Some n.there.guest)) one n.there.there in
    ∥∥₁_elim (all.each number n.there.guest at).story (Prim.hlevel props) (λ fit.
    let yes : is_ours_at fit.story.state.ends p ≡ true = n.there.is fit.story.state fit.tells.stands in
    let no : is_ours_at fit.story.state.ends q ≡ false = never n.there.guest fit.story.state at fit.tells.stands in
    let bad : true ≡ false = sym yes ∙ (ap (λ (x : SppPacketModel). is_ours_at fit.story.state.ends x) same ∙ no) in
    cc)

-- a packet that names none names none
pub unnamed_not_ours : (w : Whole) (p q : SppPacketModel) → p ≡ q → named_in w.register q ≡ None → Names w p → ⊥
unnamed_not_ours w p q same none n =
    let bad : None ≡ Some n.number = sym none ∙ (ap (λ (x : SppPacketModel). named_in w.register x) (sym same) ∙ n.named) in cc

-- a packet that names a connection opens none
pub named_opens_none : (w : Whole) (p q : SppPacketModel) (number : ℕ) → p ≡ q → named_in w.register q ≡ Some number → IsOpener w p → ⊥
named_opens_none w p q number same named o =
    let bad : None ≡ Some number = sym o.unnamed ∙ (ap (λ (x : SppPacketModel). named_in w.register x) same ∙ named) in cc

-- a quoted packet that is not one of the connection with its identifier is none of ours
pub quoted_not_ours : (w : Whole) (c : PacketModel) (quote : Quote) (number : ℕ) → IsAllRegistered w.register w.places.guests
    → quoted_packet c.body ≡ Some quote → owner_in w.register.identifiers quote.source_id ≡ Some number
    → ((g : Guest) (s : State) → slice_get w.places.guests number ≡ Some (Some g) → StandsFor g.connection.conversation.endpoint s
    → is_sent_by g s quote ≡ false) → QuotesOurs w c → ⊥
quoted_not_ours w c quote number all quoted owner never q =
    let same : q.quote ≡ quote = same_Some q.quote quote (sym q.quoted ∙ quoted) in
    let one : q.number ≡ number
    = same_Some q.number number (sym q.owner ∙ (ap (λ (x : Quote). owner_in w.register.identifiers x.source_id) same ∙ owner)) in
    let at : slice_get w.places.guests number ≡ Some (Some q.there.guest)
    = subst (λ (m : ℕ). slice_get w.places.guests m ≡ Some (Some q.there.guest)) one q.there.there in
    ∥∥₁_elim (all.each number q.there.guest at).story (Prim.hlevel props) (λ fit.
    let yes : is_sent_by q.there.guest fit.story.state q.quote ≡ true = q.there.is fit.story.state fit.tells.stands in
    let no : is_sent_by q.there.guest fit.story.state quote ≡ false = never q.there.guest fit.story.state at fit.tells.stands in
    let bad : true ≡ false = sym yes ∙ (ap (λ (x : Quote). is_sent_by q.there.guest fit.story.state x) same ∙ no) in
    cc)

-- a quoted packet whose identifier no connection has is none of ours, and where none is quoted there is none
pub unowned_not_ours : (w : Whole) (c : PacketModel) (quote : Quote) → quoted_packet c.body ≡ Some quote
    → owner_in w.register.identifiers quote.source_id ≡ None → QuotesOurs w c → ⊥
unowned_not_ours w c quote quoted none q =
    let same : q.quote ≡ quote = same_Some q.quote quote (sym q.quoted ∙ quoted) in
    let bad : None ≡ Some q.number
    = sym none ∙ (ap (λ (x : Quote). owner_in w.register.identifiers x.source_id) (sym same) ∙ q.owner) in
    cc

pub unquoted_not_ours : (w : Whole) (c : PacketModel) → quoted_packet c.body ≡ None → QuotesOurs w c → ⊥
unquoted_not_ours w c none q = let bad : None ≡ Some q.quote = sym none ∙ q.quoted in cc
