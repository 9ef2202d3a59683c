-- What was read of a capture, between two parts and after a fault.
use Rattle.std.specs.Prelude.{◌≡◌, ◌≤◌, ◌<◌, ℕ, List, [], ◌∷◌, ◌++◌, length, take, Option, Some, None, Ok}
use Rattle.xns_lines.specs.Faults.{StandsAfterThing}
use Rattle.xns_lines.specs.declared.fault.RunFault.{RunFault}
use Rattle.xns_lines.specs.declared.fault.RunFault.TheVariants as run
use Rattle.std.specs.Option.{option_or}
use Rattle.xns_captures.specs.Captures.{Contents, FrameBytes, NumberedPacket, contents, contents_of, fault_at_end, ends_with, frames_of, packets_in, packets_of, with_frame}
use Rattle.xns_captures.specs.Captures.{capture_fault}
use Rattle.xns_captures.specs.declared.fault.CaptureFault.{CaptureFault}
use Rattle.xns_captures.specs.declared.fault.CaptureFault.TheVariants.{Cut}
use Rattle.xns_captures.specs.declared.file_fault.FileFault.{FileFault}
use Rattle.xns_captures.specs.declared.file_fault.FileFault.TheVariants.{Run, Capture, TooManyFrames}
use Rattle.xns_captures.specs.declared.format.Format.{Format}
use Rattle.xns_captures.specs.declared.frame_time.FrameTime.{FrameTime}
use Rattle.xns_captures.specs.Parts.{head_count, size_of}
use Rattle.xns_captures.specs.declared.reading.Reading.{Reading}

-- what a taker stands for, as a function of the packets taken
abbrev pub Says : Type 1
Says = List NumberedPacket → Type 0

-- a capture has at most so many frames
abbrev pub most_frames : ℕ
most_frames = 4294967295

-- a taker's fault at a packet: without memory it stands for the packets before it, and after a failed write the packet is taken
abbrev pub StandsAfterPacket : RunFault → Says → Says → List NumberedPacket → NumberedPacket → Type 0
StandsAfterPacket fault stands fails packets packet = StandsAfterThing fault stands fails packets packet

-- a fault at a frame behind so many: after a failed write its packet is taken, and else it is not
abbrev pub StopsAtFrame : FileFault → ℕ → Says → Says → List NumberedPacket → List NumberedPacket → Type 0
StopsAtFrame (Run run.Write) count stands fails packets more = fails more
StopsAtFrame (Run run.NoMemory) count stands fails packets more = stands packets
StopsAtFrame (Run _) count stands fails packets more = ⊥
StopsAtFrame TooManyFrames count stands fails packets more = (most_frames ≤ count) × stands packets
StopsAtFrame (Capture fault) count stands fails packets more = ⊥

-- what is left of a taker after a fault: after a failed write what `fails` says, else it stands for the packets
abbrev pub StandsAfter : FileFault → Says → Says → List NumberedPacket → Type 0
StandsAfter (Run run.Write) stands fails packets = fails packets
StandsAfter _ stands fails packets = stands packets

-- why a file that ends in these bytes, of no whole part, is not whole: one that ends in some bytes of a part is cut
abbrev pub end_in : Format → List ℕ → Option CaptureFault
end_in format [] = fault_at_end format
end_in format (byte ∷ bytes) = Some Cut

-- a part with so many bytes stands first in these
pub record IsWholePart (format : Format) (bytes : List ℕ) (size : ℕ) : Type 0 where
  pub head : head_count format ≤ size
  pub of_head : size_of format (take (head_count format) bytes) ≡ Ok size
  pub fits : size ≤ length bytes

-- the first time of frames, behind others with this first one
abbrev pub first_among : Option FrameTime → List FrameBytes → Option FrameTime
first_among first [] = first
first_among first (frame ∷ frames) = first_among (option_or first frame.2) frames

-- frames, and what a capture holds behind them
abbrev pub behind_frames : List FrameBytes → Contents → Contents
behind_frames [] rest = rest
behind_frames (frame ∷ frames) rest = with_frame frame (behind_frames frames rest)

-- a reader has read these bytes, of which the last were not taken yet: whatever comes behind them, the capture holds the frames
-- that came and what the rest holds, and the taker stands for the packets in these frames
pub record HasRead (reading : Reading) (read kept : List ℕ) (stands : Says) : Type 0 where
  pub frames : List FrameBytes
  pub count : reading.count ≡ length frames
  pub first : reading.first ≡ first_among None frames
  pub whole : (rest : List ℕ)
      → contents_of (read ++ rest) ≡ behind_frames frames (contents reading.format reading.interfaces.items (kept ++ rest))
  pub taken : stands (packets_in None 1 frames)

-- a capture has no lines, and so no limit of lines is passed
abbrev pub IsOfNoLine : RunFault → Type 0
IsOfNoLine run.LineTooLong = ⊥
IsOfNoLine run.TooManyLines = ⊥
IsOfNoLine _ = Unit {0}

-- what the rest of a capture holds behind some frames, where it can't be read on; behind as many frames as a capture has at most, there is one more
abbrev pub EndsBy : FileFault → List FrameBytes → (List ℕ → Contents) → Type 0
EndsBy (Capture fault) frames more = (rest : List ℕ) → more rest ≡ ends_with (Some fault)
EndsBy (Run fault) frames more = IsOfNoLine fault
EndsBy TooManyFrames frames more = (most_frames ≤ length frames) × ((rest : List ℕ) → 0 < length (more rest).frames)

-- a reader has stopped by this fault behind some frames of the capture, and of the packets in these frames this is so
pub record HasStopped (fault : FileFault) (read : List ℕ) (left : Says) : Type 0 where
  pub frames : List FrameBytes
  pub more : List ℕ → Contents
  pub whole : (rest : List ℕ) → contents_of (read ++ rest) ≡ behind_frames frames (more rest)
  pub ends : EndsBy fault frames more
  pub is_left : left (packets_in None 1 frames)

-- what a taker and a writer stand for together, by what the writer held before and holds after
abbrev pub Stands : Type 1
Stands = Option (List ℕ) → Option (List ℕ) → Says

-- the part with these bytes is taken, whatever comes behind it: the taker stood for the packets before it, and stands for those with it; the
-- writer held `mid` before, and holds `after`
abbrev pub TakesPart : Reading → Reading → List ℕ → Stands → Stands → Option (List ℕ) → Option (List ℕ) → Type 0
TakesPart old new bytes stood stands mid after = (read tail : List ℕ) (before : Option (List ℕ)) → HasRead old read (bytes ++ tail) (stood before mid)
    → HasRead new read tail (stands before after)

-- a fault came at the part with these bytes, whatever comes behind it
abbrev pub StopsInPart : FileFault → Reading → List ℕ → Stands → Stands → Stands → Option (List ℕ) → Option (List ℕ) → Type 0
StopsInPart fault old bytes stood stands fails mid after = (read tail : List ℕ) (before : Option (List ℕ)) → HasRead old read (bytes ++ tail) (stood before mid)
    → HasStopped fault read (StandsAfter fault (stands before after) (fails before after))

-- why it stopped: the capture can't be read on, or has too many frames
abbrev pub IsJustified : FileFault → List ℕ → Type 0
IsJustified (Capture fault) file = capture_fault file ≡ Some fault
IsJustified (Run fault) file = IsOfNoLine fault
IsJustified TooManyFrames file = most_frames < length (frames_of file)

-- a fault of the capture comes behind all its packets, and any other behind some of them
abbrev pub StopsBy : FileFault → List ℕ → Says → Type 0
StopsBy (Capture fault) file left = IsJustified (Capture fault) file × left (packets_of file)
StopsBy fault file left =
    IsJustified fault file × (front : List NumberedPacket) × (rest : List NumberedPacket) × (front ++ rest ≡ packets_of file) × left front
