-- What a file holds, where its reading ends.
use Rattle.std.proofs.Common.{◌≡◌, refl, ap, sym, ◌∙◌, subst, arith, ℕ, ◌+◌, ◌≤◌, ◌<◌, ◌==◌, true, false, add-zero, List, [], ◌∷◌, ◌++◌, length, length-append, append_assoc, append-nil, Option, Some, None}
use Rattle.std.specs.Prelude.{IfSome}
use Rattle.std.specs.Io.KnownBytes.{Consumes, IsAtEnd}
use Rattle.std.proofs.lemmas.Bool.{eqb-false, eqb-true}
use Rattle.std.specs.Option.{option_or}
use Rattle.xns_lines.proofs.Writes.{consumes_none}
use Rattle.xns_captures.specs.Captures.{Contents, FrameBytes, NumberedPacket, contents, contents_of, ends_with, capture_fault, frames_of, packets_in, packets_of, stamp_of, with_packet}
use Rattle.xns_captures.specs.Links.{packet_of_frame}
use Rattle.xns_captures.specs.Reading.{HasRead, HasStopped, Says, StandsAfter, StopsBy, behind_frames, end_in, first_among, most_frames}
use Rattle.xns_captures.specs.declared.fault.CaptureFault.{CaptureFault}
use Rattle.xns_captures.specs.declared.fault.CaptureFault.TheVariants.{Cut}
use Rattle.xns_lines.specs.declared.fault.RunFault.TheVariants as run
use Rattle.xns_captures.specs.declared.file_fault.FileFault.{FileFault}
use Rattle.xns_captures.specs.declared.file_fault.FileFault.TheVariants.{Run, Capture, TooManyFrames}
use Rattle.xns_lines.specs.declared.fault.RunFault.{RunFault}
use Rattle.xns_captures.specs.declared.format.Format.{Format}
use Rattle.xns_captures.specs.declared.format.Format.TheVariants.{Unread}
use Rattle.xns_captures.specs.declared.frame_time.FrameTime.{FrameTime}
use Rattle.xns_captures.specs.declared.reading.Reading.{Reading}
use Rattle.xns_captures.proofs.Frames.{rest_of, with-packet-append}

-- ---- frames

packets-join : (first : Option FrameTime) (n : ℕ) (xs ys : List FrameBytes)
    → packets_in first n (xs ++ ys) ≡ packets_in first n xs ++ packets_in (first_among first xs) (n + length xs) ys
packets-join first n [] ys = ap (λ m. packets_in first m ys) (sym (add-zero n))
packets-join first n (x ∷ xs) ys =
    let next = option_or first x.2 in
    ap (with_packet (stamp_of first n x.2) (packet_of_frame x.0 x.1)) (packets-join next (n + 1) xs ys)
    ∙ with-packet-append (stamp_of first n x.2) (packet_of_frame x.0 x.1) (packets_in next (n + 1) xs) (packets_in (first_among next xs) ((n + 1) + length xs) ys)
    ∙ ap (λ m. packets_in first n (x ∷ xs) ++ packets_in (first_among next xs) m ys) (omega arith)

frames-behind : (frames : List FrameBytes) (rest : Contents) → (behind_frames frames rest).frames ≡ frames ++ rest.frames
frames-behind [] rest = refl
frames-behind (frame ∷ frames) rest = ap (λ more. frame ∷ more) (frames-behind frames rest)

fault-behind : (frames : List FrameBytes) (rest : Contents) → (behind_frames frames rest).fault ≡ rest.fault
fault-behind [] rest = refl
fault-behind (frame ∷ frames) rest = fault-behind frames rest

-- the packets of a file that holds these frames and more
packets-of : (file : List ℕ) (frames : List FrameBytes) (more : Contents) → contents_of file ≡ behind_frames frames more
    → packets_of file ≡ packets_in None 1 frames ++ packets_in (first_among None frames) (1 + length frames) more.frames
packets-of file frames more e =
    ap (λ c. packets_in None 1 c.frames) e ∙ ap (packets_in None 1) (frames-behind frames more) ∙ packets-join None 1 frames more.frames

fault-of : (file : List ℕ) (frames : List FrameBytes) (more : Contents) → contents_of file ≡ behind_frames frames more
    → capture_fault file ≡ more.fault
fault-of file frames more e = ap (λ c. c.fault) e ∙ fault-behind frames more

-- where nothing is behind these frames
packets-end : (file : List ℕ) (frames : List FrameBytes) (why : Option CaptureFault) → contents_of file ≡ behind_frames frames (ends_with why)
    → packets_of file ≡ packets_in None 1 frames
packets-end file frames why e = packets-of file frames (ends_with why) e ∙ append-nil (packets_in None 1 frames)

-- ---- what was read is the file, or the front of it

pub begun : (reading : Reading) (stands : Says) → reading.format ≡ Unread → reading.interfaces.items ≡ [] → reading.count ≡ 0 → reading.first ≡ None → stands []
    → HasRead reading [] [] stands
begun reading stands format interfaces count first said = record {
  frames = [];
  count = count;
  first = first;
  whole = λ rest. ap (λ f. contents f [] rest) (sym format) ∙ ap (λ is. contents reading.format is rest) (sym interfaces);
  taken = said;
}

-- more is read
pub grown : (reading : Reading) (read kept piece : List ℕ) (stands : Says) → HasRead reading read kept stands
    → HasRead reading (read ++ piece) (kept ++ piece) stands
grown reading read kept piece stands h = record {
  frames = h.frames;
  count = h.count;
  first = h.first;
  whole = λ rest. ap contents_of (append_assoc read piece rest) ∙ h.whole (piece ++ rest)
      ∙ ap (λ more. behind_frames h.frames (rest_of reading more)) (sym (append_assoc kept piece rest));
  taken = h.taken;
}

-- what is read and kept, at the end of a file
at_end : (reading : Reading) (read kept : List ℕ) (stands : Says) (why : Option CaptureFault)
    → rest_of reading kept ≡ ends_with why → (h : HasRead reading read kept stands)
    → contents_of read ≡ behind_frames h.frames (ends_with why)
at_end reading read kept stands why e h =
    ap contents_of (sym (append-nil read)) ∙ h.whole []
    ∙ ap (λ more. behind_frames h.frames (rest_of reading more)) (append-nil kept)
    ∙ ap (behind_frames h.frames) e

whole_file : (left after : Option (List ℕ)) (read : List ℕ) (P : List ℕ → Type 0) → Consumes left after read → IsAtEnd after → P read
    → IfSome left P
whole_file None after read P h end p = tt
whole_file (Some file) None read P h end p = absurd h
whole_file (Some file) (Some xs) read P h end p =
    subst P (sym (h ∙ ap (λ ys. read ++ ys) end ∙ append-nil read)) p

-- the file ends behind its last part, or within a part: nothing more was read
pub ended : (left mid after : Option (List ℕ)) (reading : Reading) (read kept piece bytes : List ℕ) (why : Option CaptureFault) (first stands : Option (List ℕ) → Says)
    → Consumes left mid read → Consumes mid after piece → piece ≡ [] → IsAtEnd after
    → rest_of reading kept ≡ ends_with (end_in reading.format kept) → bytes ≡ kept ++ piece → end_in reading.format bytes ≡ why
    → ((before : Option (List ℕ)) → first before [] → HasRead reading read kept (stands before))
    → IfSome left (λ file. (before : Option (List ℕ)) → first before [] → (capture_fault file ≡ why) × stands before (packets_of file))
ended left mid after reading read kept piece bytes why first stands consumed more none end rest whole ends has =
    let same : bytes ≡ kept = whole ∙ ap (λ p. kept ++ p) none ∙ append-nil kept in
    let rest_ends : rest_of reading kept ≡ ends_with why = rest ∙ ap (λ bs. ends_with (end_in reading.format bs)) (sym same) ∙ ap ends_with ends in
    whole_file left after read (λ file. (before : Option (List ℕ)) → first before [] → (capture_fault file ≡ why) × stands before (packets_of file))
    (consumes_none left mid after read piece none consumed more) end
    (λ before said.
    let h = has before said in
    let e = at_end reading read kept (stands before) why rest_ends h in
    (fault-of read h.frames (ends_with why) e, subst (stands before) (sym (packets-end read h.frames why e)) h.taken))

-- ---- it stopped before the end

-- behind as many frames as a capture has at most, there is one more
too_many : (file : List ℕ) (frames : List FrameBytes) (more : Contents) → contents_of file ≡ behind_frames frames more
    → most_frames ≤ length frames → 0 < length more.frames → most_frames < length (frames_of file)
too_many file frames more e many some =
    let all : frames_of file ≡ frames ++ more.frames = ap (λ c. c.frames) e ∙ frames-behind frames more in
    omega (arith, ap length all, length-append frames more.frames, many, some)

stopped : (fault : FileFault) (read xs : List ℕ) (left : Says) → HasStopped fault read left → StopsBy fault (read ++ xs) left
stopped (Capture why) read xs left h =
    let e : contents_of (read ++ xs) ≡ behind_frames h.frames (ends_with (Some why)) = h.whole xs ∙ ap (behind_frames h.frames) (h.ends xs) in
    (fault-of (read ++ xs) h.frames (ends_with (Some why)) e, subst left (sym (packets-end (read ++ xs) h.frames (Some why) e)) h.is_left)
stopped (Run fault) read xs left h =
    (h.ends, packets_in None 1 h.frames, packets_in (first_among None h.frames) (1 + length h.frames) (h.more xs).frames, sym (packets-of (read ++ xs) h.frames (h.more xs) (h.whole xs)), h.is_left)
stopped TooManyFrames read xs left h =
    (too_many (read ++ xs) h.frames (h.more xs) (h.whole xs) h.ends.0 (h.ends.1 xs), packets_in None 1 h.frames, packets_in (first_among None h.frames) (1 + length h.frames) (h.more xs).frames, sym (packets-of (read ++ xs) h.frames (h.more xs) (h.whole xs)), h.is_left)

pub stops_by : (fault : FileFault) (left after : Option (List ℕ)) (read : List ℕ) (first leaves : Option (List ℕ) → Says)
    → Consumes left after read
    → ((before : Option (List ℕ)) → first before [] → HasStopped fault read (leaves before))
    → IfSome left (λ file. (before : Option (List ℕ)) → first before [] → StopsBy fault file (leaves before))
stops_by fault None after read first leaves consumed has = tt
stops_by fault (Some file) None read first leaves consumed has = absurd consumed
stops_by fault (Some file) (Some xs) read first leaves consumed has = λ before said.
    subst (λ whole. StopsBy fault whole (leaves before)) (sym consumed) (stopped fault read xs (leaves before) (has before said))

-- ---- between two reads

pub no_items : (xs : List ℕ) → (length xs == 0) ≡ true → xs ≡ []
no_items [] e = refl
no_items (x ∷ xs) e = absurd (omega (arith, eqb-true (length (x ∷ xs)) 0 e))

-- the taker stands for the same packets, and the same is kept
pub anew : (reading : Reading) (read kept kept' : List ℕ) (stands stands' : Says) → kept' ≡ kept → (h : HasRead reading read kept stands)
    → (stands (packets_in None 1 h.frames) → stands' (packets_in None 1 h.frames)) → HasRead reading read kept' stands'
anew reading read kept kept' stands stands' e h said = record {
  frames = h.frames;
  count = h.count;
  first = h.first;
  whole = λ rest. h.whole rest ∙ ap (λ bytes. behind_frames h.frames (rest_of reading (bytes ++ rest))) (sym e);
  taken = said h.taken;
}

pub paused : (fault : RunFault) (stands fails : Says) (packets : List NumberedPacket) → fault ≡ run.Write → fails packets
    → StandsAfter (Run fault) stands fails packets
paused fault stands fails packets e h = subst (λ f. StandsAfter (Run f) stands fails packets) (sym e) h
