-- What a capture holds: its frames, why it can't be read on, and the packets in its frames.
use Rattle.std.specs.Prelude.{ℕ, zero, suc, ◌+◌, nat_lt, if◌then◌else◌, List, [], ◌∷◌, ◌++◌, length, take, drop}
use Rattle.std.specs.Prelude.{Option, Some, None, Ok, Err}
use Rattle.std.specs.Option.{option_or}
use Rattle.xns_captures.specs.Links.{packet_of_frame}
use Rattle.xns_captures.specs.Parts.{PartContent, Size, head_count, part_of, size_of}
use Rattle.xns_captures.specs.declared.fault.CaptureFault.{CaptureFault}
use Rattle.xns_captures.specs.declared.fault.CaptureFault.TheVariants as fault
use Rattle.xns_captures.specs.declared.format.Format.{Format}
use Rattle.xns_captures.specs.declared.format.Format.TheVariants.{Unread, Passing}
use Rattle.xns_captures.specs.declared.frame.Frame.{Frame}
use Rattle.xns_captures.specs.declared.frame_time.FrameTime.{FrameTime}
use Rattle.xns_captures.specs.declared.interface.Interface.{Interface}
use Rattle.xns_captures.specs.declared.part.Part.{Part}
use Rattle.xns_captures.specs.declared.part.Part.TheVariants as part
use Rattle.xns_captures.specs.declared.stamp.Stamp.{Stamp}

-- a frame is its link type, its captured bytes, and when it was captured, where the capture says so
abbrev pub FrameBytes : Type 0
FrameBytes = ℕ × List ℕ × Option FrameTime

-- the frame that stands in a part
abbrev pub frame_in : Frame → List ℕ → FrameBytes
frame_in frame bytes = (frame.link, take frame.count (drop frame.start bytes), frame.time)

-- the frames, and why no more can be read, if so
pub record Contents : Type 0 where
  pub frames : List FrameBytes
  pub fault : Option CaptureFault

abbrev pub ends_with : Option CaptureFault → Contents
ends_with fault = record { frames = []; fault = fault }

abbrev pub with_frame : FrameBytes → Contents → Contents
with_frame frame contents = record { frames = frame ∷ contents.frames; fault = contents.fault }

-- a frame of no bytes, of link type 0, which carries no packet
abbrev pub empty_frame : FrameBytes
empty_frame = (0, [], None)

-- what the rest of a capture holds, in a file of that format, in a section with these interfaces
abbrev pub More : Type 0
More = Format → List Interface → List ℕ → Contents

-- a part, and what the rest holds behind it
abbrev pub behind_part : More → Format → List Interface → List ℕ → List ℕ → Part → Contents
behind_part more format interfaces bytes rest (part.Begins next) = more next [] rest
behind_part more format interfaces bytes rest (part.Interface interface) = more format (interfaces ++ interface ∷ []) rest
behind_part more format interfaces bytes rest (part.Frame frame) = with_frame (frame_in frame bytes) (more format interfaces rest)
behind_part more format interfaces bytes rest (part.Continues next) = more next interfaces rest
behind_part more format interfaces bytes rest (part.Counted next) = with_frame empty_frame (more next interfaces rest)

abbrev pub behind_whole : More → Format → List Interface → List ℕ → List ℕ → PartContent → Contents
behind_whole more format interfaces bytes rest (Ok part) = behind_part more format interfaces bytes rest part
behind_whole more format interfaces bytes rest (Err fault) = ends_with (Some fault)

abbrev pub behind_size : More → Format → List Interface → List ℕ → Size → Contents
behind_size more format interfaces bytes (Err fault) = ends_with (Some fault)
behind_size more format interfaces bytes (Ok size) =
    if nat_lt (length bytes) size then ends_with (Some fault.Cut)
    else behind_whole more format interfaces (take size bytes) (drop size bytes) (part_of format interfaces (take size bytes))

abbrev pub behind_head : More → Format → List Interface → List ℕ → Contents
behind_head more format interfaces bytes =
    if nat_lt (length bytes) (head_count format) then ends_with (Some fault.Cut)
    else behind_size more format interfaces bytes (size_of format (take (head_count format) bytes))

-- a file may end behind each part, but not within a long block
abbrev pub fault_at_end : Format → Option CaptureFault
fault_at_end (Passing order left total) = Some fault.Cut
fault_at_end _ = None

-- what a capture holds from here on, within so many parts
unfoldable pub contents_in : ℕ → More
contents_in parts format interfaces [] = ends_with (fault_at_end format)
contents_in zero format interfaces (byte ∷ bytes) = ends_with None
contents_in (suc parts) format interfaces (byte ∷ bytes) = behind_head (contents_in parts) format interfaces (byte ∷ bytes)

-- what a capture holds from here on: no more parts than bytes
unfoldable pub contents : More
contents format interfaces bytes = contents_in (length bytes) format interfaces bytes

-- what a file holds
abbrev pub contents_of : List ℕ → Contents
contents_of file = contents Unread [] file

-- the frames of a file, in order, and why it can't be read to its end, if so
abbrev pub frames_of : List ℕ → List FrameBytes
frames_of file = (contents_of file).frames

abbrev pub capture_fault : List ℕ → Option CaptureFault
capture_fault file = (contents_of file).fault

-- the number and the time of its frame, and a packet
abbrev pub NumberedPacket : Type 0
NumberedPacket = Stamp × List ℕ

abbrev pub with_packet : Stamp → Option (List ℕ) → List NumberedPacket → List NumberedPacket
with_packet stamp None packets = packets
with_packet stamp (Some packet) packets = (stamp, packet) ∷ packets

-- the stamp of frame n, which has this time, behind frames with this first time
abbrev pub stamp_of : Option FrameTime → ℕ → Option FrameTime → Stamp
stamp_of first n time = record { number = n; time = time; first = option_or first time }

-- the packets in frames of which the first has number n, behind frames with this first time
abbrev pub packets_in : Option FrameTime → ℕ → List FrameBytes → List NumberedPacket
packets_in first n [] = []
packets_in first n (frame ∷ frames) =
    with_packet (stamp_of first n frame.2) (packet_of_frame frame.0 frame.1) (packets_in (option_or first frame.2) (n + 1) frames)

-- the packets of a file; frames count from 1
abbrev pub packets_of : List ℕ → List NumberedPacket
packets_of file = packets_in None 1 (frames_of file)
