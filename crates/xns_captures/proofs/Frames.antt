-- What was read of a capture, as one more part is taken.
use Rattle.std.proofs.Common.{◌≡◌, refl, ap, sym, ◌∙◌, subst, arith, ℕ, ◌+◌, ◌-◌, ◌≤◌, ◌<◌, add-zero, take, drop, List, [], ◌∷◌, ◌++◌, length, append_assoc, append-nil, Option, Some, None}
use Rattle.std.proofs.lemmas.List.{drop-drop, take-append-drop, take_rest}
use Rattle.std.specs.Option.{option_or}
use Rattle.xns_captures.specs.Captures.{Contents, FrameBytes, NumberedPacket, contents, contents_of, ends_with, frame_in, packets_in, stamp_of, with_frame, with_packet}
use Rattle.xns_captures.specs.Links.{packet_of_frame}
use Rattle.xns_captures.specs.Reading.{EndsBy, HasRead, HasStopped, IsOfNoLine, Says, StandsAfter, StandsAfterPacket, StopsAtFrame, behind_frames, first_among, most_frames}
use Rattle.xns_captures.specs.declared.fault.CaptureFault.{CaptureFault}
use Rattle.xns_captures.specs.declared.file_fault.FileFault.{FileFault}
use Rattle.xns_captures.specs.declared.file_fault.FileFault.TheVariants.{Run, Capture, TooManyFrames}
use Rattle.xns_lines.specs.declared.fault.RunFault.{RunFault}
use Rattle.xns_lines.specs.declared.fault.RunFault.TheVariants as run
use Rattle.xns_captures.specs.declared.format.Format.{Format}
use Rattle.xns_captures.specs.declared.frame.Frame.{Frame}
use Rattle.xns_captures.specs.declared.frame_time.FrameTime.{FrameTime}
use Rattle.xns_captures.specs.declared.interface.Interface.{Interface}
use Rattle.xns_captures.specs.declared.reading.Reading.{Reading}
use Rattle.xns_captures.specs.declared.stamp.Stamp.{Stamp}

-- ---- the packets of one frame more

pub with-packet-append : (n : Stamp) (p : Option (List ℕ)) (xs ys : List NumberedPacket) → with_packet n p (xs ++ ys) ≡ with_packet n p xs ++ ys
with-packet-append n None xs ys = refl
with-packet-append n (Some p) xs ys = refl

packets-append : (first : Option FrameTime) (n : ℕ) (frames : List FrameBytes) (frame : FrameBytes)
    → packets_in first n (frames ++ frame ∷ []) ≡ packets_in first n frames
    ++ with_packet (stamp_of (first_among first frames) (n + length frames) frame.2) (packet_of_frame frame.0 frame.1) []
packets-append first n [] frame = ap (λ m. with_packet (stamp_of first m frame.2) (packet_of_frame frame.0 frame.1) []) (sym (add-zero n))
packets-append first n (f ∷ frames) frame =
    let next = option_or first f.2 in
    ap (with_packet (stamp_of first n f.2) (packet_of_frame f.0 f.1)) (packets-append next (n + 1) frames frame)
    ∙ with-packet-append (stamp_of first n f.2) (packet_of_frame f.0 f.1) (packets_in next (n + 1) frames)
    (with_packet (stamp_of (first_among next frames) ((n + 1) + length frames) frame.2) (packet_of_frame frame.0 frame.1) [])
    ∙ ap (λ m. packets_in first n (f ∷ frames) ++ with_packet (stamp_of (first_among next frames) m frame.2) (packet_of_frame frame.0 frame.1) []) (omega arith)

-- the first time of one frame more
pub first-append : (first : Option FrameTime) (frames : List FrameBytes) (frame : FrameBytes)
    → first_among first (frames ++ frame ∷ []) ≡ option_or (first_among first frames) frame.2
first-append first [] frame = refl
first-append first (f ∷ frames) frame = first-append (option_or first f.2) frames frame

some_packet : (n : Stamp) (p : Option (List ℕ)) (packets : List NumberedPacket) → length (with_packet n p packets) ≤ length packets + 1
some_packet n None packets = omega arith
some_packet n (Some p) packets = omega arith

-- a frame has one packet at most
pub packets_few : (first : Option FrameTime) (n : ℕ) (frames : List FrameBytes) → length (packets_in first n frames) ≤ length frames
packets_few first n [] = omega arith
packets_few first n (f ∷ frames) =
    let next = option_or first f.2 in
    omega (arith, some_packet (stamp_of first n f.2) (packet_of_frame f.0 f.1) (packets_in next (n + 1) frames), packets_few next (n + 1) frames)

pub no_packet : (frames : List FrameBytes) (link : ℕ) (bytes : List ℕ) (time : Option FrameTime) → None ≡ packet_of_frame link bytes
    → packets_in None 1 (frames ++ (link, bytes, time) ∷ []) ≡ packets_in None 1 frames
no_packet frames link bytes time e =
    packets-append None 1 frames (link, bytes, time)
    ∙ ap (λ p. packets_in None 1 frames ++ with_packet (stamp_of (first_among None frames) (1 + length frames) time) p []) (sym e)
    ∙ append-nil (packets_in None 1 frames)

pub one_packet : (frames : List FrameBytes) (link : ℕ) (bytes packet : List ℕ) (time : Option FrameTime) (stamp : Stamp) → Some packet ≡ packet_of_frame link bytes
    → stamp ≡ stamp_of (first_among None frames) (1 + length frames) time
    → packets_in None 1 (frames ++ (link, bytes, time) ∷ []) ≡ packets_in None 1 frames ++ (stamp, packet) ∷ []
one_packet frames link bytes packet time stamp e stamped =
    packets-append None 1 frames (link, bytes, time)
    ∙ ap (λ p. packets_in None 1 frames ++ with_packet (stamp_of (first_among None frames) (1 + length frames) time) p []) (sym e)
    ∙ ap (λ (m : Stamp). packets_in None 1 frames ++ (m, packet) ∷ []) (sym stamped)

-- the stamp of a frame, by what is known of those before it
pub is_stamp : (count : ℕ) (first : Option FrameTime) (frames : List FrameBytes) (time : Option FrameTime) (stamp : Stamp) → count ≡ length frames
    → first ≡ first_among None frames → stamp ≡ stamp_of first (count + 1) time
    → stamp ≡ stamp_of (first_among None frames) (1 + length frames) time
is_stamp count first frames time stamp counted firsts is =
    let one : count + 1 ≡ 1 + length frames = omega arith in
    is ∙ ap (λ m. stamp_of first m time) one ∙ ap (λ f. stamp_of f (1 + length frames) time) firsts

behind-append : (frames : List FrameBytes) (frame : FrameBytes) (rest : Contents)
    → behind_frames (frames ++ frame ∷ []) rest ≡ behind_frames frames (with_frame frame rest)
behind-append [] frame rest = refl
behind-append (f ∷ frames) frame rest = ap (with_frame f) (behind-append frames frame rest)

-- ---- a part is taken

-- what the rest of the capture holds, for that reading
abbrev pub rest_of : Reading → List ℕ → Contents
rest_of reading bytes = contents reading.format reading.interfaces.items bytes

-- behind the part, whatever comes
behind_part_in : (old : Reading) (read bytes tail : List ℕ) (stands : Says) (h : HasRead old read (bytes ++ tail) stands) (rest : List ℕ)
    → contents_of (read ++ rest) ≡ behind_frames h.frames (rest_of old (bytes ++ (tail ++ rest)))
behind_part_in old read bytes tail stands h rest =
    h.whole rest ∙ ap (λ more. behind_frames h.frames (rest_of old more)) (append_assoc bytes tail rest)

pub moves : (old new : Reading) (read bytes tail : List ℕ) (stands : Says) → new.count ≡ old.count → new.first ≡ old.first
    → ((rest : List ℕ) → rest_of old (bytes ++ rest) ≡ rest_of new rest)
    → HasRead old read (bytes ++ tail) stands → HasRead new read tail stands
moves old new read bytes tail stands count first step h = record {
  frames = h.frames;
  count = count ∙ h.count;
  first = first ∙ h.first;
  whole = λ rest. behind_part_in old read bytes tail stands h rest ∙ ap (behind_frames h.frames) (step (tail ++ rest));
  taken = h.taken;
}

pub takes_frame : (old new : Reading) (read bytes tail : List ℕ) (stands stands' : Says) (frame : FrameBytes)
    → ((rest : List ℕ) → rest_of old (bytes ++ rest) ≡ with_frame frame (rest_of new rest))
    → (h : HasRead old read (bytes ++ tail) stands) → new.count ≡ length (h.frames ++ frame ∷ [])
    → new.first ≡ first_among None (h.frames ++ frame ∷ []) → stands' (packets_in None 1 (h.frames ++ frame ∷ []))
    → HasRead new read tail stands'
takes_frame old new read bytes tail stands stands' frame step h count first taken = record {
  frames = h.frames ++ frame ∷ [];
  count = count;
  first = first;
  whole = λ rest. behind_part_in old read bytes tail stands h rest ∙ ap (behind_frames h.frames) (step (tail ++ rest))
      ∙ sym (behind-append h.frames frame (rest_of new (tail ++ rest)));
  taken = taken;
}

-- ---- it stops

-- a reading stops behind the frames that came, by a fault that fits what comes behind them
stops_behind : (fault : FileFault) (old : Reading) (read kept : List ℕ) (stands left : Says) (h : HasRead old read kept stands)
    → EndsBy fault h.frames (λ rest. rest_of old (kept ++ rest)) → left (packets_in None 1 h.frames) → HasStopped fault read left
stops_behind fault old read kept stands left h ends is_left = record {
  frames = h.frames;
  more = λ rest. rest_of old (kept ++ rest);
  whole = h.whole;
  ends = ends;
  is_left = is_left;
}

-- what was not taken yet says nothing of the rest of the capture
pub stops_here : (old : Reading) (read kept : List ℕ) (stands left : Says) (why : CaptureFault)
    → ((rest : List ℕ) → rest_of old (kept ++ rest) ≡ ends_with (Some why))
    → (h : HasRead old read kept stands) → left (packets_in None 1 h.frames)
    → HasStopped (Capture why) read left
stops_here old read kept stands left why step h is_left = stops_behind (Capture why) old read kept stands left h step is_left

pub stops_at_part : (old : Reading) (read bytes tail : List ℕ) (stands left : Says) (why : CaptureFault)
    → ((rest : List ℕ) → rest_of old (bytes ++ rest) ≡ ends_with (Some why))
    → (h : HasRead old read (bytes ++ tail) stands) → left (packets_in None 1 h.frames)
    → HasStopped (Capture why) read left
stops_at_part old read bytes tail stands left why step h is_left =
    stops_here old read (bytes ++ tail) stands left why (λ rest. ap (rest_of old) (append_assoc bytes tail rest) ∙ step (tail ++ rest)) h is_left

pub stops_in_run : (old : Reading) (f : RunFault) (read kept : List ℕ) (stands left : Says) → IsOfNoLine f
    → (h : HasRead old read kept stands) → left (packets_in None 1 h.frames) → HasStopped (Run f) read left
stops_in_run old f read kept stands left of_none h is_left = stops_behind (Run f) old read kept stands left h of_none is_left

-- a frame is there, as the part says
a_frame_more : (rest more : Contents) (frame : FrameBytes) → rest ≡ with_frame frame more → 0 < length rest.frames
a_frame_more rest more frame e = subst (λ (c : Contents). 0 < length c.frames) (sym e) (omega arith)

stops_at_limit : (old : Reading) (read bytes tail : List ℕ) (stands left : Says) (frame : FrameBytes) (more : List ℕ → Contents)
    → ((rest : List ℕ) → rest_of old (bytes ++ rest) ≡ with_frame frame (more rest))
    → (h : HasRead old read (bytes ++ tail) stands) → most_frames ≤ old.count → left (packets_in None 1 h.frames)
    → HasStopped TooManyFrames read left
stops_at_limit old read bytes tail stands left frame more step h many is_left =
    stops_behind TooManyFrames old read (bytes ++ tail) stands left h
    (omega (arith, many, h.count), λ rest. a_frame_more _ (more (tail ++ rest)) frame (ap (rest_of old) (append_assoc bytes tail rest) ∙ step (tail ++ rest)))
    is_left

pub stops_behind_frame : (old : Reading) (read bytes tail : List ℕ) (stands left : Says) (frame : FrameBytes)
    (more : List ℕ → Contents)
    → ((rest : List ℕ) → rest_of old (bytes ++ rest) ≡ with_frame frame (more rest))
    → (h : HasRead old read (bytes ++ tail) stands) → left (packets_in None 1 (h.frames ++ frame ∷ []))
    → HasStopped (Run run.Write) read left
stops_behind_frame old read bytes tail stands left frame more step h is_left = record {
  frames = h.frames ++ frame ∷ [];
  more = λ rest. more (tail ++ rest);
  whole = λ rest. behind_part_in old read bytes tail stands h rest ∙ ap (behind_frames h.frames) (step (tail ++ rest))
      ∙ sym (behind-append h.frames frame (more (tail ++ rest)));
  ends = tt;
  is_left = is_left;
}

-- a fault at a frame, of whichever kind
pub stops_at_frame : (fault : FileFault) (old : Reading) (read bytes tail : List ℕ) (stands stands' fails : Says) (frame : FrameBytes)
    (more : List ℕ → Contents)
    → ((rest : List ℕ) → rest_of old (bytes ++ rest) ≡ with_frame frame (more rest))
    → (h : HasRead old read (bytes ++ tail) stands)
    → StopsAtFrame fault old.count stands' fails (packets_in None 1 h.frames) (packets_in None 1 (h.frames ++ frame ∷ []))
    → HasStopped fault read (StandsAfter fault stands' fails)
stops_at_frame (Run run.Write) old read bytes tail stands stands' fails frame more step h is_left =
    stops_behind_frame old read bytes tail stands fails frame more step h is_left
stops_at_frame (Run run.Read) old read bytes tail stands stands' fails frame more step h is_left = absurd is_left
stops_at_frame (Run run.LineTooLong) old read bytes tail stands stands' fails frame more step h is_left = absurd is_left
stops_at_frame (Run run.TooManyLines) old read bytes tail stands stands' fails frame more step h is_left = absurd is_left
stops_at_frame (Run run.NoMemory) old read bytes tail stands stands' fails frame more step h is_left =
    stops_in_run old run.NoMemory read (bytes ++ tail) stands stands' tt h is_left
stops_at_frame (Capture why) old read bytes tail stands stands' fails frame more step h is_left = absurd is_left
stops_at_frame TooManyFrames old read bytes tail stands stands' fails frame more step h is_left =
    stops_at_limit old read bytes tail stands stands' frame more step h is_left.0 is_left.1

-- a taker's fault at the packet of a frame
pub failed_at : (fault : RunFault) (count : ℕ) (stands fails : Says) (packets more : List NumberedPacket) (packet : NumberedPacket)
    → more ≡ packets ++ packet ∷ [] → StandsAfterPacket fault stands fails packets packet
    → StopsAtFrame (Run fault) count stands fails packets more
failed_at run.Write count stands fails packets more packet e h = subst fails (sym e) h
failed_at run.NoMemory count stands fails packets more packet e h = h
failed_at run.Read count stands fails packets more packet e h = absurd h
failed_at run.LineTooLong count stands fails packets more packet e h = absurd h
failed_at run.TooManyLines count stands fails packets more packet e h = absurd h

-- the bytes of a frame, as a range
pub same_frame : (frame : Frame) (bytes : List ℕ) (rest : Contents)
    → with_frame (frame_in frame bytes) rest
    ≡ with_frame (frame.link, take (frame.start + frame.count - frame.start) (drop frame.start bytes), frame.time) rest
same_frame frame bytes rest =
    let n : frame.count ≡ frame.start + frame.count - frame.start = omega arith in
    ap (λ count. with_frame (frame.link, take count (drop frame.start bytes), frame.time) rest) n

pub same_rest : (new : Reading) (format : Format) (interfaces : List Interface) (rest : List ℕ) → new.format ≡ format → new.interfaces.items ≡ interfaces
    → contents format interfaces rest ≡ rest_of new rest
same_rest new format interfaces rest e f =
    ap (λ g. contents g interfaces rest) (sym e) ∙ ap (λ i. contents new.format i rest) (sym f)

-- a part, and what comes behind it
part-split : (bytes : List ℕ) (taken size : ℕ)
    → take size (take (length bytes - taken) (drop taken bytes)) ++ drop (taken + size) bytes ≡ drop taken bytes
part-split bytes taken size =
    ap (λ xs. take size xs ++ drop (taken + size) bytes) (take_rest bytes taken)
    ∙ ap (λ ys. take size (drop taken bytes) ++ ys) (sym (drop-drop size taken bytes))
    ∙ take-append-drop size (drop taken bytes)

pub part_read : (old : Reading) (read bytes : List ℕ) (taken size : ℕ) (stands : Says) → HasRead old read (drop taken bytes) stands
    → HasRead old read (take size (take (length bytes - taken) (drop taken bytes)) ++ drop (taken + size) bytes) stands
part_read old read bytes taken size stands h = subst (λ kept. HasRead old read kept stands) (sym (part-split bytes taken size)) h
