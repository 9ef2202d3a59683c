-- The internet packet that a frame carries, by its link type.
use Rattle.std.specs.Prelude.{ℕ, ◌+◌, ◌*◌, ◌==◌, ◌||◌, ◌&&◌, nat_lt, ◌%◌, not, Bool, if◌then◌else◌, List, ◌∷◌, length, take, drop}
use Rattle.std.specs.Prelude.{slice_index, Option, Some, None, is_some, option_and_then}
use Rattle.xns_captures.specs.Places.{word_in_order}
use Rattle.xns_captures.specs.declared.byte_order.ByteOrder.TheVariants.{Big}

-- the type of frames that carry internet packets
abbrev pub xns_type : ℕ
xns_type = 0x0600

-- a larger number is a type, and no length (IEEE 802.3)
abbrev pub most_length : ℕ
most_length = 1500

-- the types of VLAN tags
abbrev pub is_tag : ℕ → Bool
is_tag kind = kind == 0x8100 || kind == 0x88a8 || kind == 0x9100

-- a header of SNAP (RFC 1042, 802.1H) that has the type
abbrev pub is_snap : List ℕ → Bool
is_snap bytes = not (nat_lt (length bytes) 8) && word_in_order Big bytes 0 == 0xaaaa && word_in_order Big bytes 2 == 0x0300
    && (word_in_order Big bytes 4 == 0x0000 || word_in_order Big bytes 4 == 0x00f8) && word_in_order Big bytes 6 == xns_type

-- the bytes of a header of LLC, by its control field: an unnumbered one, whose low two bits are 1, has one byte
abbrev pub llc_count : ℕ → ℕ
llc_count control = if control % 4 == 3 then 3 else 4

-- the packet behind a header of LLC to access point 80, or of SNAP
abbrev pub behind_llc : List ℕ → Option (List ℕ)
behind_llc bytes =
    if slice_index bytes 0 == 0x80 then Some (drop (llc_count (slice_index bytes 2)) bytes)
    else if is_snap bytes then Some (drop 8 bytes)
    else None

-- by a number that is a type or a length, the bytes behind it, and the packet behind a tag
abbrev pub by_number : ℕ → List ℕ → Option (List ℕ) → Option (List ℕ)
by_number number bytes tagged =
    if number == xns_type then Some bytes
    else if is_tag number then tagged
    else if nat_lt most_length number then None
    else behind_llc (take number bytes)

-- the packet behind a type or a length; a tag has two bytes and the next type or length
abbrev pub behind_number : ℕ → List ℕ → Option (List ℕ)
behind_number number (a ∷ b ∷ high ∷ low ∷ bytes) =
    by_number number (a ∷ b ∷ high ∷ low ∷ bytes) (behind_number (256 * high + low) bytes)
behind_number number few = by_number number few None

-- the packet behind the protocol of a Linux cooked header: 4 stands for LLC, and other small numbers for no type
unfoldable pub behind_protocol : ℕ → List ℕ → Option (List ℕ)
behind_protocol protocol bytes =
    if protocol == 4 then behind_llc bytes
    else if nat_lt most_length protocol then behind_number protocol bytes
    else None

-- Ethernet: two hosts of six bytes, and a type or a length
abbrev pub of_ethernet : List ℕ → Option (List ℕ)
of_ethernet frame = if nat_lt (length frame) 14 then None else behind_number (word_in_order Big frame 12) (drop 14 frame)

-- the 3 Mb/s Ethernet: two hosts of one byte, and a type
abbrev pub of_old_ethernet : List ℕ → Option (List ℕ)
of_old_ethernet frame =
    if nat_lt (length frame) 4 then None else if word_in_order Big frame 2 == xns_type then Some (drop 4 frame) else None

-- Linux cooked captures: the protocol ends a header of 16 bytes, and begins one of 20
abbrev pub of_cooked : List ℕ → Option (List ℕ)
of_cooked frame = if nat_lt (length frame) 16 then None else behind_protocol (word_in_order Big frame 14) (drop 16 frame)

abbrev pub of_cooked_2 : List ℕ → Option (List ℕ)
of_cooked_2 frame = if nat_lt (length frame) 20 then None else behind_protocol (word_in_order Big frame 0) (drop 20 frame)

-- how a frame of this link type is read; none where it is not read
abbrev pub reader_of : ℕ → Option (List ℕ → Option (List ℕ))
reader_of link =
    if link == 1 then Some of_ethernet
    else if link == 2 then Some of_old_ethernet
    else if link == 113 then Some of_cooked
    else if link == 276 then Some of_cooked_2
    else None

abbrev pub is_link_read : ℕ → Bool
is_link_read link = is_some (reader_of link)

-- the packet of a frame of this link type, with all bytes behind it
unfoldable pub packet_of_frame : ℕ → List ℕ → Option (List ℕ)
packet_of_frame link frame = option_and_then (λ packet_in. packet_in frame) (reader_of link)
