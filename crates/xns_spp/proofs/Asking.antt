-- What a tick asks, what goes out changes, and what an end learns of where a packet comes from.
use Rattle.std.proofs.Common.{◌≡◌, ◌⊎◌, inl, inr, ℕ, ◌+◌, ◌<◌, Bool, true, false, nat_lt, List, length, max, Option, Some, None, Result, Ok, Err, refl, ◌∙◌, ap}
use Rattle.std.specs.Prelude.{if◌then◌else◌, ◌||◌, ◌&&◌, ◌==◌}
use Rattle.std.proofs.lemmas.Bool.{lt-ltb, ltb-true}
use Rattle.circular_buffer.proofs.Places.{slice_get-some}
use Rattle.xns_spp.proofs.Deciding.{after_packet, after_bytes}
use Rattle.xns_spp.proofs.Telling.{first_of, resend_first_item}
use Rattle.xns_spp.specs.Ends.{is_open}
use Rattle.xns_spp.specs.Header.{acknowledge_bit, attention_bit, message_end_bit, has_bit, probe_control, wants_reply}
use Rattle.xns_spp.specs.Packet.{SppPacketModel, spp_packet_of}
use Rattle.xns_spp.specs.Peers.{Asks, Learns}
use Rattle.xns_spp.specs.Receiving.{arrival_fault, after_receive}
use Rattle.xns_spp.specs.Sending.{data_packet, system_packet, after_flush, after_tick}
use Rattle.xns_spp.specs.State.{State, send_limit}
use Rattle.xns_spp.specs.Telling.{after_resend}
use Rattle.xns_spp.specs.declared.dropped.Dropped.{Dropped}
use Rattle.xns_spp.specs.declared.ends.Ends.{Ends}
use Rattle.xns_spp.specs.declared.item.Item.{Item}

-- ---- a tick asks for a reply while an item is not acknowledged

item_asks : (a l : Bool)
    → has_bit (acknowledge_bit + (if a then attention_bit else 0) + (if l then message_end_bit else 0)) acknowledge_bit ≡ true
item_asks true true = refl
item_asks true false = refl
item_asks false true = refl
item_asks false false = refl

data_asks : (s : State) (i : ℕ) (x : Item) → wants_reply (data_packet s i x).header ≡ true
data_asks s i x = ap (λ (b : Bool). b || s.ends.peer_id == 0) (item_asks x.attention x.last)

-- a tick asks, by whether the end is open, and whether the item may go out
asks_by : (s : State) (ready some : Bool) → is_open s.ends ≡ ready → nat_lt s.acknowledged (send_limit s) ≡ some
    → s.acknowledged < length s.accepted → Asks s
asks_by s false some is_ready is_some left =
    let may : Bool = nat_lt s.acknowledged (send_limit s) in
    record {
      packet = system_packet s probe_control;
      first = ap (λ (b : Bool). first_of s b may (nat_lt s.acknowledged (length s.accepted))) is_ready;
      asks = refl;
    }
asks_by s true true is_ready is_some left =
    let there = slice_get-some s.accepted s.acknowledged left in
    record {
      packet = data_packet s s.acknowledged there.0;
      first = resend_first_item s there.0 is_ready there.1 (ltb-true s.acknowledged (send_limit s) is_some);
      asks = data_asks s s.acknowledged there.0;
    }
asks_by s true false is_ready is_some left =
    let more : Bool = nat_lt s.acknowledged (length s.accepted) in
    record {
      packet = system_packet s probe_control;
      first = ap (λ (b : Bool). first_of s b (nat_lt s.acknowledged (send_limit s)) more) is_ready
          ∙ (ap (λ (b : Bool). first_of s true b more) is_some
          ∙ ap (λ (b : Bool). first_of s true false b) (lt-ltb s.acknowledged (length s.accepted) left));
      asks = refl;
    }

pub asks : (s : State) → s.acknowledged < length s.accepted → Asks s
asks s = asks_by s (is_open s.ends) (nat_lt s.acknowledged (send_limit s)) refl refl

-- ---- what goes out

pub tick_sent : (s : State) → is_open s.ends ≡ true → s.acknowledged < send_limit s → (after_tick s).sent ≡ send_limit s
tick_sent s ready less =
    let sent : Bool → State = λ b. if b then record s { sent = send_limit s } else s in
    ap (λ (b : Bool). (sent (b && nat_lt s.acknowledged (send_limit s))).sent) ready
    ∙ ap (λ (b : Bool). (sent (true && b)).sent) (lt-ltb s.acknowledged (send_limit s) less)

sent_alone : (s : State) (n : ℕ) (b : Bool)
    → (if b then record s { sent = n } else s) ≡ record s { sent = (if b then record s { sent = n } else s).sent }
sent_alone s n true = refl
sent_alone s n false = refl

pub flush_alone : (s : State) → after_flush s ≡ record s { sent = (after_flush s).sent }
flush_alone s = sent_alone s (send_limit s) (is_open s.ends)

pub tick_alone : (s : State) → after_tick s ≡ record s { sent = (after_tick s).sent }
tick_alone s = sent_alone s (send_limit s) (is_open s.ends && nat_lt s.acknowledged (send_limit s))

pub resend_alone : (s : State) → after_resend s ≡ record s { sent = (after_resend s).sent }
resend_alone s = sent_alone s (max s.sent (s.acknowledged + 1)) (is_open s.ends && nat_lt s.acknowledged (send_limit s))

-- ---- what comes in

abbrev StaysOrLearns : Ends → List ℕ → Ends → Type 0
StaysOrLearns e b f = (f ≡ e) ⊎ Learns e b f

open_or_learns : (e : Ends) (b : List ℕ) (p : SppPacketModel) (is : Bool) → spp_packet_of b ≡ Ok p
    → StaysOrLearns e b (if is then e else record e { peer = p.source; peer_id = p.header.source_id })
open_or_learns e b p true read = inl refl
open_or_learns e b p false read = inr (record { packet = p; read = read; ends = refl })

packet_learned : (s : State) (b : List ℕ) (p : SppPacketModel) (o : Option Dropped) → spp_packet_of b ≡ Ok p
    → StaysOrLearns s.ends b (after_packet o s p).ends
packet_learned s b p (Some d) read = inl refl
packet_learned s b p None read = open_or_learns s.ends b p (is_open s.ends) read

bytes_learned : (s : State) (b : List ℕ) (o : Result SppPacketModel Dropped) → spp_packet_of b ≡ o
    → StaysOrLearns s.ends b (after_bytes s o).ends
bytes_learned s b (Err d) read = inl refl
bytes_learned s b (Ok p) read = packet_learned s b p (arrival_fault s p) read

pub stays_or_learns : (s : State) (b : List ℕ) → StaysOrLearns s.ends b (after_receive s b).ends
stays_or_learns s b = bytes_learned s b (spp_packet_of b) refl
