-- What an end makes of a packet that it hears.
use Rattle.std.proofs.Common.{◌≡◌, ℕ, ◌+◌, ◌<◌, ◌≤◌, Bool, true, false, not, List, ◌∷◌, ◌++◌, length, max, nat_lt, Option, Some, None, refl, sym, ◌∙◌, ap, arith, length-append}
use Rattle.std.specs.Prelude.{if◌then◌else◌, ◌==◌}
use Rattle.std.specs.Option.{is_some}
use Rattle.std.proofs.lemmas.Bool.{le-ltb, eq-eqb, ne_eqb}
use Rattle.xns_spp.proofs.Deciding.{packet_answer, after_packet, bytes_answer, after_bytes}
use Rattle.xns_spp.specs.Ends.{is_open, is_ours_at}
use Rattle.xns_spp.specs.FieldNumbers.{is_ahead, acknowledged_by, allowed_by}
use Rattle.xns_spp.specs.Header.{brings_item, wants_reply, reply_control}
use Rattle.xns_spp.specs.Item.{item_in}
use Rattle.xns_spp.specs.Meant.{Meant}
use Rattle.xns_spp.specs.Packet.{SppPacketModel, spelled, spp_packet_spelling}
use Rattle.xns_spp.specs.Peers.{IsHeard, Counts}
use Rattle.xns_spp.specs.Receiving.{numbers_in, arrival_fault, verdict, run, items_taken, after_arrival, receive_answer, after_receive}
use Rattle.xns_spp.specs.Sending.{system_packet}
use Rattle.xns_spp.specs.State.{State, window_top}
use Rattle.xns_spp.specs.Verdict.{verdict_on, verdict_read}
use Rattle.xns_spp.specs.declared.dropped.Dropped.{Dropped}
use Rattle.xns_spp.specs.declared.dropped.Dropped.TheVariants.{NotOurs, AheadOfUs, OutOfOrder, NoRoom, Repeat}
use Rattle.xns_spp.specs.declared.ends.Ends.{Ends}
use Rattle.xns_spp.specs.declared.field_numbers.FieldNumbers.{FieldNumbers}
use Rattle.xns_spp.specs.declared.verdict.Verdict.{Verdict}
use Rattle.xns_spp.specs.declared.verdict.Verdict.TheVariants.{Take, Keep, Pass, Refuse}

-- ---- a packet that is heard is looked at

no_fault : (b c : Bool) → b ≡ true → c ≡ false → (if not b then Some NotOurs else if c then Some AheadOfUs else None) ≡ None
no_fault true false h i = refl
no_fault true true h i = absurd (cc)
no_fault false c h i = absurd (cc)

looked_at : (s : State) (b : List ℕ) (p : SppPacketModel) (m : Meant) → IsHeard s b p m → arrival_fault s p ≡ None
looked_at s b p m h =
    let acknowledge : (numbers_in s p).acknowledge ≡ Some m.acknowledge = ap (λ (f : FieldNumbers). f.acknowledge) h.numbers in
    no_fault (is_ours_at s.ends p) (is_ahead s.sent (numbers_in s p).acknowledge) h.ours (ap (is_ahead s.sent) acknowledge ∙ le-ltb s.sent m.acknowledge h.behind)

after_heard : (s : State) (b : List ℕ) (p : SppPacketModel) (m : Meant) → IsHeard s b p m → after_receive s b ≡ after_arrival s p
after_heard s b p m h = ap (after_bytes s) h.read ∙ ap (λ (o : Option Dropped). after_packet o s p) (looked_at s b p m h)

-- a packet that is heard gets a reply where it asks
heard_reply : (s : State) (b : List ℕ) (p : SppPacketModel) (m : Meant) → IsHeard s b p m → wants_reply p.header ≡ true
    → (receive_answer s b).reply ≡ Some (spp_packet_spelling (system_packet (after_receive s b) reply_control))
heard_reply s b p m h wants =
    ap (λ (o : _). (bytes_answer s o).reply) h.read
    ∙ (ap (λ (o : Option Dropped). (packet_answer o s p).reply) (looked_at s b p m h)
    ∙ (ap (λ (w : Bool). spelled (if w then Some (system_packet (after_arrival s p) reply_control) else None)) wants
    ∙ ap (λ (t : State). Some (spp_packet_spelling (system_packet t reply_control))) (sym (after_heard s b p m h))))

heard_acknowledged : (s : State) (b : List ℕ) (p : SppPacketModel) (m : Meant) → IsHeard s b p m → m.acknowledge ≤ (after_receive s b).acknowledged
heard_acknowledged s b p m h =
    let now : (after_receive s b).acknowledged ≡ max s.acknowledged m.acknowledge =
    ap (λ (t : State). t.acknowledged) (after_heard s b p m h) ∙ ap (λ (f : FieldNumbers). acknowledged_by s.acknowledged f.acknowledge) h.numbers in
    omega (arith, now)

heard_allowed : (s : State) (b : List ℕ) (p : SppPacketModel) (m : Meant) → IsHeard s b p m → m.allocation < (after_receive s b).allowed
heard_allowed s b p m h =
    let now : (after_receive s b).allowed ≡ max s.allowed (m.allocation + 1) =
    ap (λ (t : State). t.allowed) (after_heard s b p m h) ∙ ap (λ (f : FieldNumbers). allowed_by s.allowed f.allocation) h.numbers in
    omega (arith, now)

-- ---- the next item is taken

verdict_cases : (n : ℕ) (b c d k : Bool) → b ≡ false → c ≡ false → d ≡ true
    → (if b then Refuse Repeat else if c then Refuse (if d then NoRoom else OutOfOrder) else if d then Take else if k then Refuse Repeat else Keep n) ≡ Take
verdict_cases n false false true k h i j = refl
verdict_cases n true c d k h i j = absurd (cc)
verdict_cases n false true d k h i j = absurd (cc)
verdict_cases n false false false k h i j = absurd (cc)

is_next : (taken top sequence : ℕ) (k : Bool) → sequence ≡ taken → taken ≤ top → verdict_on taken top sequence k ≡ Take
is_next taken top sequence k is room =
    verdict_cases sequence (nat_lt sequence taken) (nat_lt top sequence) (sequence == taken) k (le-ltb sequence taken (omega arith)) (le-ltb top sequence (omega arith)) (eq-eqb sequence taken is)

heard_takes : (s : State) (b : List ℕ) (p : SppPacketModel) (m : Meant) → IsHeard s b p m → brings_item p.header ≡ true → m.sequence ≡ length s.taken → length s.taken ≤ window_top s
    → length s.taken < length (after_receive s b).taken
heard_takes s b p m h brings sequence room =
    let kept : ℕ → Bool = λ k. is_some (s.early k) in
    let takes : verdict s p ≡ Take =
    ap (λ (c : Bool). if c then verdict_read (length s.taken) (window_top s) kept (numbers_in s p).sequence else Pass) brings
    ∙ (ap (λ (f : FieldNumbers). verdict_read (length s.taken) (window_top s) kept f.sequence) h.numbers
    ∙ is_next (length s.taken) (window_top s) m.sequence (kept m.sequence) sequence room) in
    let now : (after_receive s b).taken ≡ s.taken ++ item_in p ∷ run s =
    ap (λ (t : State). t.taken) (after_heard s b p m h) ∙ ap (λ (v : Verdict). s.taken ++ items_taken s v p) takes in
    omega (arith, ap length now, length-append s.taken (item_in p ∷ run s))

-- ---- the end is open then

open_by : (e : Ends) (p : SppPacketModel) (b : Bool) → is_open e ≡ b → not (p.header.source_id == 0) ≡ true → is_open (if b then e else record e { peer = p.source; peer_id = p.header.source_id }) ≡ true
open_by e p true is named = is
open_by e p false is named = named

pub not_zero : (n : ℕ) → 0 < n → not (n == 0) ≡ true
not_zero n h = ap not (ne_eqb n 0 (λ e. omega arith))

heard_open : (s : State) (b : List ℕ) (p : SppPacketModel) (m : Meant) → IsHeard s b p m → 0 < p.header.source_id → is_open (after_receive s b).ends ≡ true
heard_open s b p m h named =
    ap (λ (t : State). is_open t.ends) (after_heard s b p m h) ∙ open_by s.ends p (is_open s.ends) refl (not_zero p.header.source_id named)

pub counts : (s : State) (b : List ℕ) (p : SppPacketModel) (m : Meant) → IsHeard s b p m → Counts s b p m
counts s b p m h = record {
  reply = heard_reply s b p m h;
  acknowledged = heard_acknowledged s b p m h;
  allowed = heard_allowed s b p m h;
  takes = heard_takes s b p m h;
  opens = heard_open s b p m h;
}
