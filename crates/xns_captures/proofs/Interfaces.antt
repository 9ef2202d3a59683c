-- A part describes an interface only where a section may have one more.
use Rattle.std.proofs.Common.{◌≡◌, ap, arith, sym, subst, ℕ, ◌<◌, ◌≤◌, ◌+◌, ◌-◌, ◌==◌, ◌&&◌, ◌||◌, nat_lt, not, Bool, true, false, cond, List, [], ◌∷◌, ◌++◌, slice_get, length, length-append, Ok, Err, Option, Some, None}
use Rattle.std.proofs.lemmas.Bool.{cond_both, ltb-true, not-false}
use Rattle.xns_captures.specs.Links.{is_link_read}
use Rattle.xns_captures.specs.Parts.{PartContent, block_in, block_of_type, classic_in, classic_order, enhanced_in, frame_of, has_lengths, header_in, header_link, interface_in, is_counted, is_link_taken, kept_count, most_frame_bytes, most_interfaces, old_in, other_in, part_of, passed_over, rest_in, section_in_order, section_order, section_type, simple_in, time_by, timed_in}
use Rattle.xns_captures.specs.Places.{count_at, long_in_order, word_in_order}
use Rattle.xns_captures.specs.declared.byte_order.ByteOrder.{ByteOrder}
use Rattle.xns_captures.specs.declared.byte_order.ByteOrder.TheVariants.{Big}
use Rattle.xns_captures.specs.declared.fault.CaptureFault.{CaptureFault}
use Rattle.xns_captures.specs.declared.fault.CaptureFault.TheVariants as fault
use Rattle.xns_captures.specs.declared.format.Format.{Format}
use Rattle.xns_captures.specs.declared.format.Format.TheVariants.{Unread, Records, Blocks, Passing}
use Rattle.xns_captures.specs.declared.frame_time.FrameTime.{FrameTime}
use Rattle.xns_captures.specs.declared.interface.Interface.{Interface}
use Rattle.xns_captures.specs.declared.part.Part.TheVariants as part

-- the section may have the interface that the part describes, if it describes one
abbrev MayHave : List Interface → PartContent → Type 0
MayHave is (Ok (part.Interface interface)) = length is < most_interfaces
MayHave is _ = Unit {0}

record HasRoom (is : List Interface) (p : PartContent) : Type 0 where
  room : MayHave is p

or_fault : (is : List Interface) (b : Bool) (why : CaptureFault) (p : PartContent) → HasRoom is p → HasRoom is (cond b (Err why) p)
or_fault is true why p h = record { room = tt }
or_fault is false why p h = h

either : (is : List Interface) (b : Bool) (p q : PartContent) → HasRoom is p → HasRoom is q → HasRoom is (cond b p q)
either is true p q h k = h
either is false p q h k = k

interface_room : (order : ByteOrder) (is : List Interface) (bytes : List ℕ) → HasRoom is (interface_in order is bytes)
interface_room order is bytes =
    or_fault is _ _ _
    (cond_both (not (nat_lt (length is) most_interfaces)) (Err fault.TooManyInterfaces) (Ok (part.Interface _)) (HasRoom is)
    (λ _. record { room = tt }) (λ e. record { room = ltb-true (length is) most_interfaces (not-false _ e) }))

frame_room : (is : List Interface) (interface : Option Interface) (start count : ℕ) (time : Option FrameTime) (total : ℕ)
    → HasRoom is (frame_of is interface start count time total)
frame_room is None start count time total = record { room = tt }
frame_room is (Some interface) start count time total =
    or_fault is (not (is_link_taken interface.link is)) (fault.UnreadLink interface.link) _
    (or_fault is (nat_lt most_frame_bytes count) fault.TooLong _
    (or_fault is (nat_lt total (start + count + 4)) fault.Lengths
    (Ok (part.Frame (record { link = interface.link; start = start; count = count; time = time }))) (record { room = tt })))

passed_room : (is : List Interface) (kind : ℕ) (next : Format) → HasRoom is (Ok (passed_over kind next))
passed_room is kind next =
    cond_both (is_counted kind) (part.Counted next) (part.Continues next) (λ p. HasRoom is (Ok p)) (λ _. record { room = tt }) (λ _. record { room = tt })

other_room : (is : List Interface) (kind : ℕ) (order : ByteOrder) (bytes : List ℕ) → HasRoom is (other_in kind order bytes)
other_room is kind order bytes = either is _ _ _ (passed_room is kind _) (or_fault is _ _ _ (passed_room is kind _))

section_room : (is : List Interface) (order : Option ByteOrder) (bytes : List ℕ) → HasRoom is (section_in_order order bytes)
section_room is None bytes = record { room = tt }
section_room is (Some order) bytes =
    or_fault is (not (has_lengths order 28 bytes)) fault.Lengths _
    (either is (word_in_order order bytes 12 == 1 && (word_in_order order bytes 14 == 0 || word_in_order order bytes 14 == 2)) (Ok (part.Begins (Blocks order))) (Err fault.Version)
    (record { room = tt }) (record { room = tt }))

packet_room : (order : ByteOrder) (least : ℕ) (is : List Interface) (bytes : List ℕ) (interface : Option Interface) (start count : ℕ) (time : Option FrameTime)
    → HasRoom is (cond (not (has_lengths order least bytes)) (Err fault.Lengths) (frame_of is interface start count time (length bytes)))
packet_room order least is bytes interface start count time =
    or_fault is (not (has_lengths order least bytes)) fault.Lengths (frame_of is interface start count time (length bytes))
    (frame_room is interface start count time (length bytes))

timed_room : (number : ℕ) (order : ByteOrder) (is : List Interface) (bytes : List ℕ) → HasRoom is (timed_in number order is bytes)
timed_room number order is bytes =
    packet_room order 32 is bytes (slice_get is number) 28 (long_in_order order bytes 20) (time_by (slice_get is number) (count_at order bytes 12))

simple_room : (order : ByteOrder) (is : List Interface) (bytes : List ℕ) → HasRoom is (simple_in order is bytes)
simple_room order is bytes =
    packet_room order 16 is bytes (slice_get is 0) 12 (kept_count (slice_get is 0) (long_in_order order bytes 8)) None

type_room : (kind : ℕ) (order : ByteOrder) (is : List Interface) (bytes : List ℕ) → HasRoom is (block_of_type kind order is bytes)
unfolding block_of_type
type_room kind order is bytes =
    either is (kind == 1) (interface_in order is bytes)
    (cond (kind == 6) (enhanced_in order is bytes)
    (cond (kind == 2) (old_in order is bytes) (cond (kind == 3) (simple_in order is bytes) (other_in kind order bytes))))
    (interface_room order is bytes)
    (either is _ _ _ (timed_room (long_in_order order bytes 8) order is bytes)
    (either is _ _ _ (timed_room (word_in_order order bytes 8) order is bytes) (either is _ _ _ (simple_room order is bytes) (other_room is kind order bytes))))

block_room : (order : ByteOrder) (is : List Interface) (bytes : List ℕ) → HasRoom is (block_in order is bytes)
unfolding block_in
block_room order is bytes =
    either is (long_in_order order bytes 0 == section_type) (section_in_order (section_order bytes) bytes) (block_of_type (long_in_order order bytes 0) order is bytes)
    (section_room is (section_order bytes) bytes) (type_room (long_in_order order bytes 0) order is bytes)

header_room : (is : List Interface) (order : ByteOrder) (bytes : List ℕ) → HasRoom is (header_in order bytes)
header_room is order bytes =
    or_fault is (nat_lt (length bytes) 24) fault.Cut _
    (or_fault is (not (word_in_order order bytes 4 == 2 && word_in_order order bytes 6 == 4)) fault.Version _
    (or_fault is (not (is_link_read (header_link order bytes))) (fault.UnreadLink (header_link order bytes))
    (Ok (part.Begins (Records order (header_link order bytes) (long_in_order order bytes 0 == 0xa1b23c4d)))) (record { room = tt })))

classic_room : (is : List Interface) (order : Option ByteOrder) (bytes : List ℕ) → HasRoom is (classic_in order bytes)
classic_room is None bytes = record { room = tt }
classic_room is (Some order) bytes = header_room is order bytes

rest_room : (is : List Interface) (order : ByteOrder) (left total : ℕ) (bytes : List ℕ) → HasRoom is (rest_in order left total bytes)
rest_room is order left total bytes =
    either is (nat_lt (length bytes) left) (Ok (part.Continues (Passing order (left - length bytes) total))) _ (record { room = tt })
    (either is (long_in_order order bytes (length bytes - 4) == total) (Ok (part.Continues (Blocks order))) (Err fault.Lengths)
    (record { room = tt }) (record { room = tt }))

part_room : (f : Format) (is : List Interface) (bytes : List ℕ) → HasRoom is (part_of f is bytes)
unfolding part_of
part_room Unread is bytes =
    either is (long_in_order Big bytes 0 == section_type) (block_in Big is bytes) (classic_in (classic_order bytes) bytes)
    (block_room Big is bytes) (classic_room is (classic_order bytes) bytes)
part_room (Records order link is_nano) is bytes = record { room = tt }
part_room (Blocks order) is bytes = block_room order is bytes
part_room (Passing order left total) is bytes = rest_room is order left total bytes

pub has_room : (f : Format) (is : List Interface) (bytes : List ℕ) (interface : Interface) → Ok (part.Interface interface) ≡ part_of f is bytes
    → length is < most_interfaces
has_room f is bytes interface e = subst (MayHave is) (sym e) (part_room f is bytes).room

-- with one more, or as many as before, the section has no more than it may have
pub few_with : (is after : List Interface) (interface : Interface) (b : Bool) → length is < most_interfaces
    → after ≡ cond b (is ++ interface ∷ []) is → length after ≤ most_interfaces
few_with is after interface true few e = omega (arith, few, ap length e, length-append is (interface ∷ []))
few_with is after interface false few e = omega (arith, few, ap length e)
