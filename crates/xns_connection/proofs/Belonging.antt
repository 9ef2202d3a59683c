-- A packet of another connection changes nothing, and one for which memory was refused belongs to the connection.
use Rattle.std.proofs.Common.{◌≡◌, ◌∙◌, ◌⊎◌, ◌∷◌, ap, arith, refl, sym, length, length-append, ℕ, List, Bool, true, false, Option, Some, None, Result, Ok, inl, inr}
use Rattle.std.specs.Prelude.{◌==◌, nat_lt, not, if◌then◌else◌}
use Rattle.std.specs.Option.{is_some}
use Rattle.std.proofs.Math.Logic.{∥∥₁_elim}
use Rattle.std.proofs.Props.{props}
use Rattle.xns_idp.specs.Reading.{unless}
use Rattle.xns_spp.specs.Arrival.{decided_on}
use Rattle.xns_spp.specs.Ends.{is_ours_at}
use Rattle.xns_spp.specs.FieldNumbers.{is_ahead}
use Rattle.xns_spp.specs.Header.{brings_item}
use Rattle.xns_spp.specs.Held.{Held, StandsFor, held}
use Rattle.xns_spp.specs.Laws.{ForeignBytesChangeNothing}
use Rattle.xns_spp.specs.Numbers.{window_top_at}
use Rattle.xns_spp.specs.Packet.{SppPacketModel, spp_packet_of}
use Rattle.xns_spp.specs.Receiving.{KeepsBytes, StoresBytes, TakesBytes, after_receive, answer_to, arrival, input_answer, is_ours, is_ours_in, numbers_in, verdict, without_reply}
use Rattle.xns_spp.specs.State.{State, numbers_of}
use Rattle.xns_spp.specs.Verdict.{reason_of, verdict_read}
use Rattle.xns_spp.specs.declared.dropped.Dropped.{Dropped}
use Rattle.xns_spp.specs.declared.dropped.Dropped.TheVariants.{AheadOfUs, NoRoom, NotOurs, OutOfOrder, Repeat}
use Rattle.xns_spp.specs.declared.input.Input.{Input}
use Rattle.xns_spp.specs.declared.verdict.Verdict.{Verdict}
use Rattle.xns_spp.specs.declared.verdict.Verdict.TheVariants.{Keep, Pass, Refuse, Take}
use Rattle.xns_connection.specs.Connecting.{is_of_another}
use Rattle.xns_connection.specs.Moving.{HasHistory}
use Rattle.xns_connection.specs.declared.conversation.Conversation.{Conversation}

-- ---- what is dropped as a packet of another connection

-- a packet whose item is looked at is not dropped as one of another connection
looked_at : (old far next kept : Bool) (k : ℕ)
    → is_of_another (reason_of (if old then Refuse Repeat else if far then Refuse (if next then NoRoom else OutOfOrder)
    else if next then Take else if kept then Refuse Repeat else Keep k)) ≡ false
looked_at true far next kept k = refl
looked_at false true true kept k = refl
looked_at false true false kept k = refl
looked_at false false true kept k = refl
looked_at false false false true k = refl
looked_at false false false false k = refl

read_so : (taken top : ℕ) (kept : ℕ → Bool) (number : Option ℕ) → is_of_another (reason_of (verdict_read taken top kept number)) ≡ false
read_so taken top kept None = refl
read_so taken top kept (Some k) = looked_at (nat_lt k taken) (nat_lt top k) (k == taken) (kept k) k

brought : (brings : Bool) (v : Verdict) → is_of_another (reason_of v) ≡ false → is_of_another (reason_of (if brings then v else Pass)) ≡ false
brought true v none = none
brought false v none = refl

decided_so : (s : State) (p : SppPacketModel) → is_of_another (reason_of (verdict s p)) ≡ false
decided_so s p =
    brought (brings_item p.header)
    (verdict_read (length s.taken) (window_top_at (numbers_of s) s.ends.window) (λ k. is_some (s.early k)) (numbers_in s p).sequence)
    (read_so (length s.taken) (window_top_at (numbers_of s) s.ends.window) (λ k. is_some (s.early k)) (numbers_in s p).sequence)

by_fault : (s : State) (p : SppPacketModel) (ours ahead : Bool)
    → is_of_another (without_reply (answer_to s (unless (if not ours then Some NotOurs else if ahead then Some AheadOfUs else None) (arrival s p)))).dropped
    ≡ not ours
by_fault s p false ahead = refl
by_fault s p true true = refl
by_fault s p true false = decided_so s p

dropped_so : (s : State) (b : List ℕ) (p : SppPacketModel) → spp_packet_of b ≡ Ok p
    → is_of_another (input_answer s b).dropped ≡ not (is_ours_at s.ends p)
dropped_so s b p read =
    ap (λ (o : Result SppPacketModel Dropped). is_of_another (without_reply (answer_to s (decided_on s.ends (numbers_of s) s.early o))).dropped) read
    ∙ by_fault s p (is_ours_at s.ends p) (is_ahead s.sent (numbers_in s p).acknowledge)

turned : (a b : Bool) → not a ≡ b → a ≡ not b
turned true b is = ap not is
turned false b is = ap not is

-- whether it was dropped so says whether it is ours
pub belongs : (s : State) (b : List ℕ) (p : SppPacketModel) (i : Input) (other : Bool) → spp_packet_of b ≡ Ok p → i ≡ input_answer s b
    → is_of_another i.dropped ≡ other → is_ours_at s.ends p ≡ not other
belongs s b p i other read is drops =
    turned (is_ours_at s.ends p) other (sym (dropped_so s b p read) ∙ sym (ap (λ (x : Input). is_of_another x.dropped) is) ∙ drops)

-- ---- what that changes

ours_of : (s : State) (b : List ℕ) (p : SppPacketModel) → spp_packet_of b ≡ Ok p → is_ours s b ≡ is_ours_at s.ends p
ours_of s b p read = ap (is_ours_in s) read

end_stays : ForeignBytesChangeNothing → (e f : Held) (s : State) (b : List ℕ) (p : SppPacketModel) → spp_packet_of b ≡ Ok p
    → is_ours_at s.ends p ≡ false → StandsFor e s → StandsFor f (after_receive s b) → f ≡ e
end_stays law e f s b p read other before after =
    after.holds ∙ (ap held (law.after s b (ours_of s b p read ∙ other)) ∙ sym before.holds)

-- a conversation to which such a packet came is as it was
pub conversation_stays : ForeignBytesChangeNothing → (t u : Conversation) (b : List ℕ) (p : SppPacketModel) (i : Input) → HasHistory t.endpoint
    → spp_packet_of b ≡ Ok p → ((s : State) → StandsFor t.endpoint s → i ≡ input_answer s b)
    → ((s : State) → StandsFor t.endpoint s → StandsFor u.endpoint (after_receive s b)) → u ≡ record t { endpoint = u.endpoint }
    → is_of_another i.dropped ≡ true → u ≡ t
conversation_stays law t u b p i has read answers stands rest drops =
    let same : u.endpoint ≡ t.endpoint = ∥∥₁_elim has (Prim.hlevel props) (λ x.
    end_stays law t.endpoint u.endpoint x.0 b p read (belongs x.0 b p i true read (answers x.0 x.1) drops) x.1 (stands x.0 x.1)) in
    rest ∙ ap (λ (e : Held). let v : Conversation = record t { endpoint = e } in v) same

-- ---- where memory was refused

stores_none : (s v : State) → v ≡ s → TakesBytes s v ⊎ KeepsBytes s v → ⊥
stores_none s v same (inl t) =
    let more = ap (λ (u : State). length u.taken) (sym same) ∙ (ap length t.2 ∙ length-append s.taken (t.0 ∷ t.1)) in
    omega (arith, more)
stores_none s v same (inr k) = let none = sym k.1 ∙ (ap (λ (u : State). u.early k.0) (sym same) ∙ k.3) in absurd (cc)

-- a packet that brings bytes of an item belongs to the connection
pub stored_is_ours : ForeignBytesChangeNothing → (s : State) (b : List ℕ) (p : SppPacketModel) → spp_packet_of b ≡ Ok p → StoresBytes s b
    → is_ours_at s.ends p ≡ true
stored_is_ours law s b p read stores = by (is_ours_at s.ends p) refl where
  by : (ours : Bool) → is_ours_at s.ends p ≡ ours → ours ≡ true
  by true is = refl
  by false is = absurd (stores_none s (after_receive s b) (law.after s b (ours_of s b p read ∙ is)) stores)
