-- The parts of a capture: how many bytes the next one has, by its head, and what it holds.
use Rattle.std.specs.Prelude.{ℕ, ◌+◌, ◌-◌, ◌*◌, ◌%◌, ◌≤◌, ◌==◌, ◌||◌, ◌&&◌, min, max, nat_lt, Bool, true, false, not, if◌then◌else◌, List, length, slice_get, take, drop}
use Rattle.std.specs.Prelude.{Option, Some, None, is_some, option_map, Result, Ok, Err}
use Rattle.std.specs.List.{list_any}
use Rattle.xns_captures.specs.Links.{is_link_read}
use Rattle.xns_captures.specs.Places.{count_at, long_in_order, word_in_order}
use Rattle.xns_captures.specs.Times.{resolution_of}
use Rattle.xns_captures.specs.declared.byte_order.ByteOrder.{ByteOrder}
use Rattle.xns_captures.specs.declared.byte_order.ByteOrder.TheVariants.{Big, Little}
use Rattle.xns_captures.specs.declared.fault.CaptureFault.{CaptureFault}
use Rattle.xns_captures.specs.declared.fault.CaptureFault.TheVariants as fault
use Rattle.xns_captures.specs.declared.format.Format.{Format}
use Rattle.xns_captures.specs.declared.frame_time.FrameTime.{FrameTime}
use Rattle.xns_captures.specs.declared.format.Format.TheVariants.{Unread, Records, Blocks, Passing}
use Rattle.xns_captures.specs.declared.interface.Interface.{Interface}
use Rattle.xns_captures.specs.declared.part.Part.{Part}
use Rattle.xns_captures.specs.declared.part.Part.TheVariants as part

-- how many bytes a part has, or why it can't be read
abbrev pub Size : Type 0
Size = Result ℕ CaptureFault

-- what a part holds, or why it can't be read
abbrev pub PartContent : Type 0
PartContent = Result Part CaptureFault

-- a frame has at most so many captured bytes, and a block that is read whole so many in all
abbrev pub most_frame_bytes : ℕ
most_frame_bytes = 262144

abbrev pub most_block_bytes : ℕ
most_block_bytes = 16777216

-- a longer block is passed over in parts of at most so many bytes
abbrev pub most_passed_bytes : ℕ
most_passed_bytes = 65536

-- a section describes at most so many interfaces
abbrev pub most_interfaces : ℕ
most_interfaces = 65536

-- ---- classic pcap

-- the magic number of a classic capture, with times in microseconds or in nanoseconds
abbrev pub is_classic : ℕ → Bool
is_classic magic = magic == 0xa1b2c3d4 || magic == 0xa1b23c4d

-- the order of bytes by the magic number of a classic capture
abbrev pub classic_order : List ℕ → Option ByteOrder
classic_order bytes =
    if is_classic (long_in_order Big bytes 0) then Some Big
    else if is_classic (long_in_order Little bytes 0) then Some Little
    else None

-- the link type in the header of a file: the low half of the last number, below the bits on check sequences
abbrev pub header_link : ByteOrder → List ℕ → ℕ
header_link order bytes = long_in_order order bytes 20 % 65536

-- the header of a file: its magic number, version 2.4, and the link type, which has to be one that is read
abbrev pub header_in : ByteOrder → List ℕ → PartContent
header_in order bytes =
    if nat_lt (length bytes) 24 then Err fault.Cut
    else if not (word_in_order order bytes 4 == 2 && word_in_order order bytes 6 == 4) then Err fault.Version
    else if not (is_link_read (header_link order bytes)) then Err (fault.UnreadLink (header_link order bytes))
    else Ok (part.Begins (Records order (header_link order bytes) (long_in_order order bytes 0 == 0xa1b23c4d)))

-- a record: a head of 16 bytes, with the seconds since 1970 and a part of one, the captured length at 8, and the frame
abbrev pub record_size : ByteOrder → List ℕ → Size
record_size order head =
    if nat_lt most_frame_bytes (long_in_order order head 8) then Err fault.TooLong else Ok (16 + long_in_order order head 8)

-- the part of a second has nine digits or six
abbrev pub record_time : ByteOrder → Bool → List ℕ → FrameTime
record_time order true bytes = record { count = long_in_order order bytes 0 * 1000000000 + long_in_order order bytes 4; resolution = 9 }
record_time order false bytes = record { count = long_in_order order bytes 0 * 1000000 + long_in_order order bytes 4; resolution = 6 }

abbrev pub record_in : ByteOrder → ℕ → Bool → List ℕ → PartContent
record_in order link is_nano bytes =
    Ok (part.Frame (record { link = link; start = 16; count = length bytes - 16; time = Some (record_time order is_nano bytes) }))

-- ---- pcapng

-- the block type of a section header, which reads the same in both orders
abbrev pub section_type : ℕ
section_type = 0x0a0d0d0a

-- the order of bytes by the magic number of a section header
abbrev pub section_order : List ℕ → Option ByteOrder
section_order bytes =
    if long_in_order Big bytes 8 == 0x1a2b3c4d then Some Big
    else if long_in_order Little bytes 8 == 0x1a2b3c4d then Some Little
    else None

-- the blocks that are read: section headers, interface descriptions, and the three kinds of packets
abbrev pub is_read : ℕ → Bool
is_read kind = kind == section_type || kind == 1 || kind == 2 || kind == 3 || kind == 6

-- of a block that is too long to be read whole the head is a part, and what stands behind it is passed over
abbrev pub long_size : ℕ → Size
long_size kind = if is_read kind then Err fault.TooLong else Ok 12

-- a block: its type, its length, which is a multiple of four, what it holds, and its length again
abbrev pub block_size_in : ByteOrder → List ℕ → Size
block_size_in order head =
    if nat_lt (long_in_order order head 4) 12 || not (long_in_order order head 4 % 4 == 0) then Err fault.Lengths
    else if nat_lt most_block_bytes (long_in_order order head 4) then long_size (long_in_order order head 0)
    else Ok (long_in_order order head 4)

abbrev pub size_in_order : Option ByteOrder → List ℕ → Size
size_in_order None head = Err fault.Order
size_in_order (Some order) head = block_size_in order head

-- a section header says the order of its own bytes
abbrev pub block_size : ByteOrder → List ℕ → Size
block_size order head =
    if long_in_order order head 0 == section_type then size_in_order (section_order head) head else block_size_in order head

-- the length at the end of a block is that of the block, which is at least so many bytes long
abbrev pub has_lengths : ByteOrder → ℕ → List ℕ → Bool
has_lengths order least bytes = not (nat_lt (length bytes) least) && long_in_order order bytes (length bytes - 4) == length bytes

-- a section header: the version is 1.0, or 1.2, which says the same
abbrev pub section_in_order : Option ByteOrder → List ℕ → PartContent
section_in_order None bytes = Err fault.Order
section_in_order (Some order) bytes =
    if not (has_lengths order 28 bytes) then Err fault.Lengths
    else if word_in_order order bytes 12 == 1 && (word_in_order order bytes 14 == 0 || word_in_order order bytes 14 == 2)
    then Ok (part.Begins (Blocks order))
    else Err fault.Version

-- an interface description: the link type at 8, the most bytes that are kept of a frame at 12, and options up to the length at the end
abbrev pub interface_in : ByteOrder → List Interface → List ℕ → PartContent
interface_in order interfaces bytes =
    if not (has_lengths order 20 bytes) then Err fault.Lengths
    else if not (nat_lt (length interfaces) most_interfaces) then Err fault.TooManyInterfaces
    else Ok (part.Interface (record {
      link = word_in_order order bytes 8;
      most = long_in_order order bytes 12;
      resolution = resolution_of order (drop 16 (take (length bytes - 4) bytes));
    }))

-- the time of a count of an interface's units
abbrev pub time_by : Option Interface → ℕ → Option FrameTime
time_by interface count = option_map (λ i. record { count = count; resolution = i.resolution }) interface

-- frames of a link that is not read are passed over in a section that describes a link that is read
abbrev pub is_link_taken : ℕ → List Interface → Bool
is_link_taken link interfaces = is_link_read link || list_any (λ i. is_link_read i.link) interfaces

-- a frame of one of these interfaces, which begins at a place of a block; its padding and the length at the end stand behind it
abbrev pub frame_of : List Interface → Option Interface → ℕ → ℕ → Option FrameTime → ℕ → PartContent
frame_of interfaces None start count time total = Err fault.NoInterface
frame_of interfaces (Some interface) start count time total =
    if not (is_link_taken interface.link interfaces) then Err (fault.UnreadLink interface.link)
    else if nat_lt most_frame_bytes count then Err fault.TooLong
    else if nat_lt total (start + count + 4) then Err fault.Lengths
    else Ok (part.Frame (record { link = interface.link; start = start; count = count; time = time }))

-- a packet of the interface with this number: the time at 12, and the captured length at 20
abbrev pub timed_in : ℕ → ByteOrder → List Interface → List ℕ → PartContent
timed_in number order interfaces bytes =
    if not (has_lengths order 32 bytes) then Err fault.Lengths
    else frame_of interfaces (slice_get interfaces number) 28 (long_in_order order bytes 20)
    (time_by (slice_get interfaces number) (count_at order bytes 12)) (length bytes)

-- an enhanced packet, whose interface has a number of four bytes at 8
abbrev pub enhanced_in : ByteOrder → List Interface → List ℕ → PartContent
enhanced_in order interfaces bytes = timed_in (long_in_order order bytes 8) order interfaces bytes

-- the obsolete packet, whose interface has a number of two bytes at 8
abbrev pub old_in : ByteOrder → List Interface → List ℕ → PartContent
old_in order interfaces bytes = timed_in (word_in_order order bytes 8) order interfaces bytes

-- how many bytes of a frame of so many were kept
abbrev pub kept_count : Option Interface → ℕ → ℕ
kept_count None count = count
kept_count (Some interface) count = if interface.most == 0 then count else min count interface.most

-- a simple packet, of the first interface, which has no time: the original length at 8
abbrev pub simple_in : ByteOrder → List Interface → List ℕ → PartContent
simple_in order interfaces bytes =
    if not (has_lengths order 16 bytes) then Err fault.Lengths
    else frame_of interfaces (slice_get interfaces 0) 12 (kept_count (slice_get interfaces 0) (long_in_order order bytes 8)) None (length bytes)

-- blocks that are no packets, and have numbers as frames in Wireshark: a systemd journal entry, a system call, and custom blocks
abbrev pub is_counted : ℕ → Bool
is_counted kind = kind == 9 || kind == 0x204 || kind == 0xbad || kind == 0x40000bad

-- any other block is passed over, and one that is counted is a frame; behind these bytes of it comes what the format says
abbrev pub passed_over : ℕ → Format → Part
passed_over kind next = if is_counted kind then part.Counted next else part.Continues next

abbrev pub other_in : ℕ → ByteOrder → List ℕ → PartContent
other_in kind order bytes =
    if nat_lt most_block_bytes (long_in_order order bytes 4)
    then Ok (passed_over kind (Passing order (long_in_order order bytes 4 - 12) (long_in_order order bytes 4)))
    else if not (has_lengths order 12 bytes) then Err fault.Lengths
    else Ok (passed_over kind (Blocks order))

-- a part of a long block of which so many bytes are left: the last part has its length at the end
abbrev pub rest_size : ℕ → Size
rest_size left = Ok (max 4 (min left most_passed_bytes))

abbrev pub rest_in : ByteOrder → ℕ → ℕ → List ℕ → PartContent
rest_in order left total bytes =
    if nat_lt (length bytes) left then Ok (part.Continues (Passing order (left - length bytes) total))
    else if long_in_order order bytes (length bytes - 4) == total then Ok (part.Continues (Blocks order))
    else Err fault.Lengths

-- a block that is no section header, by its type
unfoldable pub block_of_type : ℕ → ByteOrder → List Interface → List ℕ → PartContent
block_of_type kind order interfaces bytes =
    if kind == 1 then interface_in order interfaces bytes
    else if kind == 6 then enhanced_in order interfaces bytes
    else if kind == 2 then old_in order interfaces bytes
    else if kind == 3 then simple_in order interfaces bytes
    else other_in kind order bytes

unfoldable pub block_in : ByteOrder → List Interface → List ℕ → PartContent
block_in order interfaces bytes =
    if long_in_order order bytes 0 == section_type then section_in_order (section_order bytes) bytes
    else block_of_type (long_in_order order bytes 0) order interfaces bytes

-- ---- both

-- a file that begins with these bytes is a capture
abbrev pub is_capture : List ℕ → Bool
is_capture bytes = not (nat_lt (length bytes) 4) && (long_in_order Big bytes 0 == section_type || is_some (classic_order bytes))

-- the first part of a file: the header of a classic capture, or a section header
abbrev pub classic_size : Option ByteOrder → Size
classic_size None = Err fault.NoCapture
classic_size (Some order) = Ok 24

abbrev pub file_size : List ℕ → Size
file_size head = if long_in_order Big head 0 == section_type then block_size Big head else classic_size (classic_order head)

abbrev pub classic_in : Option ByteOrder → List ℕ → PartContent
classic_in None bytes = Err fault.NoCapture
classic_in (Some order) bytes = header_in order bytes

abbrev pub file_in : List Interface → List ℕ → PartContent
file_in interfaces bytes =
    if long_in_order Big bytes 0 == section_type then block_in Big interfaces bytes else classic_in (classic_order bytes) bytes

-- the head of a part has so many bytes
abbrev pub head_count : Format → ℕ
head_count (Records order link is_nano) = 16
head_count (Passing order left total) = 4
head_count _ = 12

-- how many bytes the part with this head has
unfoldable pub size_of : Format → List ℕ → Size
size_of Unread head = file_size head
size_of (Records order link is_nano) head = record_size order head
size_of (Blocks order) head = block_size order head
size_of (Passing order left total) head = rest_size left

-- what a part with these bytes holds, in a section with these interfaces
unfoldable pub part_of : Format → List Interface → List ℕ → PartContent
part_of Unread interfaces bytes = file_in interfaces bytes
part_of (Records order link is_nano) interfaces bytes = record_in order link is_nano bytes
part_of (Blocks order) interfaces bytes = block_in order interfaces bytes
part_of (Passing order left total) interfaces bytes = rest_in order left total bytes

-- the frame stands within so many bytes
abbrev pub IsWithin : ℕ → Part → Type 0
IsWithin count (part.Frame frame) = frame.start + frame.count ≤ count
IsWithin count _ = Unit {0}
