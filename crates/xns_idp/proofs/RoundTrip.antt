-- Bytes spell the packet that is read in them, and a packet that they spell is read in them.
use Rattle.std.proofs.Common.{◌≡◌, ℕ, ◌+◌, ◌-◌, ◌*◌, ◌/◌, ◌%◌, ◌<◌, ◌≤◌, Bool, true, false, not, cond, eqb, ltb, if◌then◌else◌, List, [], ◌∷◌, ◌++◌, length, get_or, take, drop, replicate, Option, Some, None, Result, Ok, Err, ◌⊎◌, inl, inr, refl, sym, ap, subst, ◌∙◌, append_assoc, arith, lit<}
use Rattle.std.specs.Prelude.{slice_range, IfOk, IfErr}
use Rattle.std.specs.Int.{w16, w32, to_be_bytes}
use Rattle.std.proofs.lemmas.Bool.{ltb-false, le-ltb, eqb-true, eq-eqb, ne_eqb, cases_Bool, not-true}
use Rattle.std.proofs.lemmas.List.{take_at, take-append-drop, length-append, length-take, length-drop, length-replicate}
use Rattle.std.proofs.lemmas.List.Elements.{All-take, All-drop, All-from_get_or, All-replicate}
use Rattle.xns_idp.specs.Checksum.{words, cycle_checksum}
use Rattle.xns_idp.specs.Packet.{PacketModel, AreBytes, IsAddress, IsPacket, SpellsPacket, IsPacketAtFront, most_data, most_packet, packet_model, address_bytes, after_checksum, packet_bytes, packet_spelling}
use Rattle.xns_idp.specs.Reading.{word_at, address_at, made_even, computed_sum, packet_fault, packet_fields, unless, packet_of, decode_model}
use Rattle.xns_idp.specs.declared.address.Address.{Address}
use Rattle.xns_idp.specs.declared.packet.Packet.{Packet}
use Rattle.xns_idp.specs.declared.fault.IdpFault.{IdpFault}
use Rattle.xns_idp.specs.declared.fault.IdpFault.TheVariants.{Short, LengthSmall, LengthLarge, Cut, BadSum}
use Rattle.xns_idp.proofs.Cells.{six_cells}
use Rattle.xns_idp.proofs.Numbers.{word_back, long_back}
use Rattle.xns_idp.proofs.Slices.{slice-join, slice_two, byte_below, word_below, word_slice, address_slice}

pub record NoFault (b : List ℕ) : Type 0 where
  pub have : 30 ≤ length b
  pub small : 30 ≤ word_at b 2
  pub large : word_at b 2 ≤ most_packet
  pub whole : made_even (word_at b 2) ≤ length b
  pub sum : (word_at b 0 ≡ 65535) ⊎ ((eqb (word_at b 0) 65535 ≡ false) × (word_at b 0 ≡ computed_sum b))

passed : (t : Bool) (f : IdpFault) (rest : Option IdpFault) → cond t (Some f) rest ≡ None → (t ≡ false) × (rest ≡ None)
passed true f rest e = absurd cc
passed false f rest e = (refl, e)

summed_right : (found computed : ℕ) (f : IdpFault) → cond (eqb found 65535) None (cond (eqb found computed) None (Some f)) ≡ None
    → (found ≡ 65535) ⊎ ((eqb found 65535 ≡ false) × (found ≡ computed))
summed_right found computed f e =
    elim (cases_Bool (eqb found 65535)) [
      | inl unsummed ↦ inl (eqb-true found 65535 unsummed)
      | inr is_summed ↦ elim (cases_Bool (eqb found computed)) [
        | inl same ↦ inr (is_summed, eqb-true found computed same)
        | inr differs ↦ let bad : Some f ≡ None = rw (is_summed, differs) at e in absurd cc
      ]
    ]

pub no_fault : (b : List ℕ) → packet_fault b ≡ None → NoFault b
unfolding packet_fault
no_fault b e =
    let a = passed (ltb (length b) 30) (Short (length b)) _ e in
    let c = passed (ltb (word_at b 2) 30) (LengthSmall (word_at b 2)) _ a.1 in
    let d = passed (ltb most_packet (word_at b 2)) (LengthLarge (word_at b 2)) _ c.1 in
    let f = passed (ltb (length b) (made_even (word_at b 2))) (Cut (made_even (word_at b 2)) (length b)) _ d.1 in
    record {
      have = ltb-false _ _ a.0;
      small = ltb-false _ _ c.0;
      large = ltb-false _ _ d.0;
      whole = ltb-false _ _ f.0;
      sum = summed_right (word_at b 0) (computed_sum b) (BadSum (word_at b 0) (computed_sum b)) f.1;
    }

pub none_from : (b : List ℕ) → NoFault b → packet_fault b ≡ None
unfolding packet_fault
none_from b h =
    let a : ltb (length b) 30 ≡ false = le-ltb _ _ h.have in
    let c : ltb (word_at b 2) 30 ≡ false = le-ltb _ _ h.small in
    let d : ltb most_packet (word_at b 2) ≡ false = le-ltb _ _ h.large in
    let f : ltb (length b) (made_even (word_at b 2)) ≡ false = le-ltb _ _ h.whole in
    elim h.sum [
      | inl e ↦ let g : eqb (word_at b 0) 65535 ≡ true = eq-eqb _ _ e in rw (a, c, d, f, g) refl
      | inr s ↦ let g : eqb (word_at b 0) (computed_sum b) ≡ true = eq-eqb _ _ s.1 in let s0 : eqb (word_at b 0) 65535 ≡ false = s.0 in rw (a, c, d, f, s0, g) refl
    ]

unless_ok : {X : Type 0} (o : Option IdpFault) (x y : X) → unless o x ≡ Ok y → (o ≡ None) × (x ≡ y)
unless_ok None x y e = (refl, cc)
unless_ok (Some f) x y e = absurd cc

-- ---- found

length-slice : (b : List ℕ) (i j : ℕ) → j ≤ length b → length (slice_range b i j) ≡ j - i
length-slice b i j h = omega (arith, h, length-take (j - i) (drop i b), length-drop i b)

AreBytes-slice : (b : List ℕ) (i j : ℕ) → AreBytes b → AreBytes (slice_range b i j)
AreBytes-slice b i j h = All-take (λ x. x < 256) (j - i) (drop i b) (All-drop (λ x. x < 256) i b h)

address_fits : (b : List ℕ) (i : ℕ) → AreBytes b → i + 12 ≤ length b → IsAddress (address_at b i)
unfolding address_at
address_fits b i fits h = record {
  network = omega (arith, word_below b i fits (omega arith), word_below b (i + 2) fits (omega arith));
  host_length = length-slice b (i + 4) (i + 10) (omega arith) ∙ omega arith;
  host = AreBytes-slice b (i + 4) (i + 10) fits;
  socket = word_below b (i + 10) fits (omega arith);
}

pub fields_found : (b : List ℕ) → AreBytes b → NoFault b → IsPacketAtFront b (packet_fields b) (made_even (word_at b 2))
unfolding packet_fields after_checksum packet_bytes
fields_found b fits ok =
    let n = word_at b 2 in
    let k = made_even n in
    let p = packet_fields b in
    let garbage = slice_range b n k in
    let small = ok.small in
    let whole = ok.whole in
    let body_length : length (slice_range b 30 n) ≡ n - 30 = length-slice b 30 n (omega arith) in
    let n_is : 30 + length (slice_range b 30 n) ≡ n = omega arith in
    let after : after_checksum p garbage ≡ slice_range b 2 k =
    ap (λ (xs : List ℕ). xs ++ (p.control ∷ p.kind ∷ []) ++ address_bytes p.target ++ address_bytes p.source ++ p.body ++ garbage) (ap (to_be_bytes w16) n_is ∙ word_slice b 2 4 fits refl (omega arith))
    ∙ ap (λ (xs : List ℕ). slice_range b 2 4 ++ xs ++ address_bytes p.target ++ address_bytes p.source ++ p.body ++ garbage) (sym (slice_two b 4 6 refl (omega arith)))
    ∙ ap (λ (xs : List ℕ). xs ++ address_bytes p.target ++ address_bytes p.source ++ p.body ++ garbage) (slice-join b 2 4 6 (omega arith) (omega arith))
    ∙ ap (λ (xs : List ℕ). slice_range b 2 6 ++ xs ++ address_bytes p.source ++ p.body ++ garbage) (address_slice b 6 18 fits refl (omega arith))
    ∙ ap (λ (xs : List ℕ). xs ++ address_bytes p.source ++ p.body ++ garbage) (slice-join b 2 6 18 (omega arith) (omega arith))
    ∙ ap (λ (xs : List ℕ). slice_range b 2 18 ++ xs ++ p.body ++ garbage) (address_slice b 18 30 fits refl (omega arith))
    ∙ ap (λ (xs : List ℕ). xs ++ p.body ++ garbage) (slice-join b 2 18 30 (omega arith) (omega arith))
    ∙ ap (λ (xs : List ℕ). xs ++ garbage) (slice-join b 2 30 n (omega arith) small)
    ∙ slice-join b 2 n k (omega arith) (omega arith) in
    let field : (if p.summed then cycle_checksum (words (after_checksum p garbage)) else 65535) ≡ word_at b 0 =
    elim ok.sum [
      | inl e ↦ let g : eqb (word_at b 0) 65535 ≡ true = eq-eqb _ _ e in rw g (sym e)
      | inr s ↦ let g : eqb (word_at b 0) 65535 ≡ false = s.0 in rw g (ap (λ (xs : List ℕ). cycle_checksum (words xs)) after ∙ sym s.1)
    ] in
    let all : packet_bytes p garbage ≡ take k b =
    ap (λ (m : ℕ). to_be_bytes w16 m ++ after_checksum p garbage) field
    ∙ ap (λ (xs : List ℕ). xs ++ after_checksum p garbage) (word_slice b 0 2 fits refl (omega arith))
    ∙ ap (λ (xs : List ℕ). slice_range b 0 2 ++ xs) after
    ∙ slice-join b 0 2 k (omega arith) (omega arith)
    ∙ ap (λ (m : ℕ). take m b) (omega arith) in
    record {
      fits = record {
        control = byte_below b 4 fits (omega arith);
        kind = byte_below b 5 fits (omega arith);
        target = address_fits b 6 fits (omega arith);
        source = address_fits b 18 fits (omega arith);
        body = AreBytes-slice b 30 n fits;
      };
      length = whole;
      spells = record {
        size = omega arith;
        garbage = garbage;
        garbage_length = length-slice b n k whole ∙ omega arith;
        garbage_bytes = AreBytes-slice b n k fits;
        spells = sym all;
      };
    }

pub packet_found : (b : List ℕ) (p : PacketModel) (k : ℕ) → AreBytes b → packet_of b ≡ Ok (p, k) → IsPacketAtFront b p k
unfolding packet_of
packet_found b p k fits e =
    let u = unless_ok (packet_fault b) (packet_fields b, made_even (word_at b 2)) (p, k) e in
    let f = fields_found b fits (no_fault b u.0) in
    subst (λ (x : PacketModel × ℕ). IsPacketAtFront b x.0 x.1) u.1 f

pub is_found : (b : List ℕ) (r : Result (Packet × ℕ) IdpFault) → ((i : ℕ) → get_or b i 0 < 256) → decode_model r ≡ packet_of b → IfOk r (λ x. IsPacketAtFront b (packet_model x.0) x.1)
is_found b (Ok x) fits e = packet_found b (packet_model x.0) x.1 (All-from_get_or (λ x. x < 256) b 0 (λ i h. fits i)) (sym e)
is_found b (Err f) fits e = tt

unless_err : {X : Type 0} (o : Option IdpFault) (x : X) (f : IdpFault) → unless o x ≡ Err f → o ≡ Some f
unless_err None x f e = absurd cc
unless_err (Some g) x f e = cc

pub is_fault : (b : List ℕ) (r : Result (Packet × ℕ) IdpFault) → decode_model r ≡ packet_of b → IfErr r (λ f. packet_fault b ≡ Some f)
unfolding packet_of
is_fault b (Ok x) e = tt
is_fault b (Err f) e = unless_err (packet_fault b) (packet_fields b, made_even (word_at b 2)) f (sym e)

-- ---- the spelling of a packet is read

-- an address whose host is told byte by byte, and then more
abbrev address_and : Address → List ℕ → List ℕ
address_and a xs = to_be_bytes w32 a.network ++ (get_or a.host 0 0 ∷ get_or a.host 1 0 ∷ get_or a.host 2 0 ∷ get_or a.host 3 0 ∷ get_or a.host 4 0 ∷ get_or a.host 5 0 ∷ (to_be_bytes w16 a.socket ++ xs))

-- a header, and then more
abbrev header_and : ℕ → ℕ → PacketModel → List ℕ → List ℕ
header_and sum n p xs = to_be_bytes w16 sum ++ (to_be_bytes w16 n ++ (p.control ∷ p.kind ∷ address_and p.target (address_and p.source xs)))

spelled_cells : (p : PacketModel) (garbage rest : List ℕ) (sum : ℕ) → length p.target.host ≡ 6 → length p.source.host ≡ 6
    → sum ≡ (if p.summed then cycle_checksum (words (after_checksum p garbage)) else 65535)
    → packet_bytes p garbage ++ rest ≡ header_and sum (30 + length p.body) p (p.body ++ (garbage ++ rest))
unfolding packet_bytes after_checksum
spelled_cells p garbage rest sum six six' es =
    let n = to_be_bytes w16 (30 + length p.body) in
    ap (λ (m : ℕ). to_be_bytes w16 m ++ after_checksum p garbage ++ rest) (sym es)
    ∙ ap (λ (h : List ℕ). to_be_bytes w16 sum ++ (n ++ (p.control ∷ p.kind ∷ []) ++ (to_be_bytes w32 p.target.network ++ h ++ to_be_bytes w16 p.target.socket) ++ address_bytes p.source ++ p.body ++ garbage) ++ rest) (six_cells p.target.host six)
    ∙ ap (λ (h : List ℕ). to_be_bytes w16 sum ++ (n ++ (p.control ∷ p.kind ∷ []) ++ address_and p.target [] ++ (to_be_bytes w32 p.source.network ++ h ++ to_be_bytes w16 p.source.socket) ++ p.body ++ garbage) ++ rest) (six_cells p.source.host six')
    ∙ ap (λ (xs : List ℕ). header_and sum (30 + length p.body) p xs) (append_assoc p.body garbage rest)

address_is : (a b : Address) → a.network ≡ b.network → a.host ≡ b.host → a.socket ≡ b.socket → a ≡ b
address_is a b n h s =
    let at_network : ℕ → Address = λ m. record { network = m; host = a.host; socket = a.socket } in
    let at_host : List ℕ → Address = λ m. record { network = b.network; host = m; socket = a.socket } in
    let at_socket : ℕ → Address = λ m. record { network = b.network; host = b.host; socket = m } in
    ap at_network n ∙ ap at_host h ∙ ap at_socket s

datagram_is : (p q : PacketModel) → p.summed ≡ q.summed → p.control ≡ q.control → p.kind ≡ q.kind → p.target ≡ q.target → p.source ≡ q.source → p.body ≡ q.body → p ≡ q
datagram_is p q a b c d e f =
    let at_summed : Bool → PacketModel = λ m. record { summed = m; control = p.control; kind = p.kind; target = p.target; source = p.source; body = p.body } in
    let at_control : ℕ → PacketModel = λ m. record { summed = q.summed; control = m; kind = p.kind; target = p.target; source = p.source; body = p.body } in
    let at_kind : ℕ → PacketModel = λ m. record { summed = q.summed; control = q.control; kind = m; target = p.target; source = p.source; body = p.body } in
    let at_target : Address → PacketModel = λ m. record { summed = q.summed; control = q.control; kind = q.kind; target = m; source = p.source; body = p.body } in
    let at_source : Address → PacketModel = λ m. record { summed = q.summed; control = q.control; kind = q.kind; target = q.target; source = m; body = p.body } in
    let at_body : List ℕ → PacketModel = λ m. record { summed = q.summed; control = q.control; kind = q.kind; target = q.target; source = q.source; body = m } in
    ap at_summed a ∙ ap at_control b ∙ ap at_kind c ∙ ap at_target d ∙ ap at_source e ∙ ap at_body f

after_length : (p : PacketModel) (garbage : List ℕ) → length p.target.host ≡ 6 → length p.source.host ≡ 6 → length (after_checksum p garbage) ≡ 28 + length p.body + length garbage
unfolding after_checksum
after_length p garbage six six' = simp length-append (omega arith)

cyc_below : (ws : List ℕ) → cycle_checksum ws < 65535
unfolding cycle_checksum
cyc_below ws = omega arith

-- the fields in the bytes of a packet, whatever follows
pub fields_again : (p : PacketModel) (garbage rest : List ℕ) (sum : ℕ) → IsPacket p → length p.body ≤ most_data → sum < 65536 → not (eqb sum 65535) ≡ p.summed
    → packet_fields (header_and sum (30 + length p.body) p (p.body ++ (garbage ++ rest))) ≡ p
unfolding packet_fields address_at
fields_again p garbage rest sum fits size small summed =
    let n = 30 + length p.body in
    let n_is : 256 * (n / 256 % 256) + n % 256 ≡ n = word_back n (omega arith) in
    let sum_is : 256 * (sum / 256 % 256) + sum % 256 ≡ sum = word_back sum small in
    datagram_is (packet_fields (header_and sum n p (p.body ++ (garbage ++ rest)))) p
    (ap (λ (m : ℕ). not (eqb m 65535)) sum_is ∙ summed)
    refl
    refl
    (address_is (address_at (header_and sum n p (p.body ++ (garbage ++ rest))) 6) p.target (long_back p.target.network fits.target.network) (sym (six_cells p.target.host fits.target.host_length)) (word_back p.target.socket fits.target.socket))
    (address_is (address_at (header_and sum n p (p.body ++ (garbage ++ rest))) 18) p.source (long_back p.source.network fits.source.network) (sym (six_cells p.source.host fits.source.host_length)) (word_back p.source.socket fits.source.socket))
    (ap (λ (m : ℕ). take (m - 30) (p.body ++ (garbage ++ rest))) n_is ∙ take_at p.body (garbage ++ rest) (30 + length p.body - 30) (omega arith))

-- the checksum field, and whether there is a checksum
field_fits : (summed : Bool) (ws : List ℕ) → ((if summed then cycle_checksum ws else 65535) < 65536) × (not (eqb (if summed then cycle_checksum ws else 65535) 65535) ≡ summed)
field_fits true ws =
    let below : cycle_checksum ws < 65535 = cyc_below ws in
    let apart : eqb (cycle_checksum ws) 65535 ≡ false = ne_eqb _ _ (λ (e : cycle_checksum ws ≡ 65535). omega (arith, e)) in
    (omega arith, ap not apart)
field_fits false ws = (lit< tt, refl)

slice_after : (p : PacketModel) (garbage rest : List ℕ) (k : ℕ) → length (after_checksum p garbage) ≡ k - 2 → slice_range (packet_bytes p garbage ++ rest) 2 k ≡ after_checksum p garbage
unfolding packet_bytes
slice_after p garbage rest k len = take_at (after_checksum p garbage) rest (k - 2) len

spelled_length : (p : PacketModel) (garbage : List ℕ) → length (packet_bytes p garbage) ≡ 2 + length (after_checksum p garbage)
unfolding packet_bytes
spelled_length p garbage = omega arith

packet_again : (p : PacketModel) (garbage rest : List ℕ) → IsPacket p → length p.body ≤ most_data → length garbage ≡ length p.body % 2
    → packet_of (packet_bytes p garbage ++ rest) ≡ Ok (p, made_even (30 + length p.body))
unfolding packet_of
packet_again p garbage rest fits size len =
    let after = after_checksum p garbage in
    let sum : ℕ = if p.summed then cycle_checksum (words after) else 65535 in
    let n = 30 + length p.body in
    let b = packet_bytes p garbage ++ rest in
    let cells : b ≡ header_and sum n p (p.body ++ (garbage ++ rest)) = spelled_cells p garbage rest sum fits.target.host_length fits.source.host_length refl in
    let fit = field_fits p.summed (words after) in
    let fields : packet_fields b ≡ p = ap packet_fields cells ∙ fields_again p garbage rest sum fits size fit.0 fit.1 in
    let n_is : word_at b 2 ≡ n = ap (λ (xs : List ℕ). word_at xs 2) cells ∙ word_back n (omega arith) in
    let sum_is : word_at b 0 ≡ sum = ap (λ (xs : List ℕ). word_at xs 0) cells ∙ word_back sum fit.0 in
    let length_is : length b ≡ n + length garbage + length rest =
    omega (arith, length-append (packet_bytes p garbage) rest, spelled_length p garbage, after_length p garbage fits.target.host_length fits.source.host_length) in
    let after_is : length after ≡ made_even n - 2 = omega (arith, after_length p garbage fits.target.host_length fits.source.host_length) in
    let sum_of_is : computed_sum b ≡ cycle_checksum (words after) = ap (λ (m : ℕ). cycle_checksum (words (slice_range b 2 (made_even m)))) n_is ∙ ap (λ (xs : List ℕ). cycle_checksum (words xs)) (slice_after p garbage rest (made_even n) after_is) in
    let ok : NoFault b = record {
      have = omega arith;
      small = omega arith;
      large = omega arith;
      whole = omega arith;
      sum = elim (cases_Bool p.summed) [
        | inl is_summed ↦ inr (not-true (eqb (word_at b 0) 65535) (ap (λ (m : ℕ). not (eqb m 65535)) sum_is ∙ fit.1 ∙ is_summed), sum_is ∙ ap (λ (t : Bool). if t then cycle_checksum (words after) else 65535) is_summed ∙ sym sum_of_is)
        | inr unsummed ↦ inl (sum_is ∙ ap (λ (t : Bool). if t then cycle_checksum (words after) else 65535) unsummed)
      ];
    } in
    rw (none_from b ok, fields, n_is) refl

-- the bytes of a packet, and then more
pub spelling_again : (p : PacketModel) (taken rest b : List ℕ) → IsPacket p → SpellsPacket p taken → b ≡ taken ++ rest → packet_of b ≡ Ok (p, length taken)
spelling_again p taken rest b fits spells e =
    let garbage = spells.garbage in
    let ended : PacketModel × ℕ → Result (PacketModel × ℕ) IdpFault = λ x. Ok x in
    let long : made_even (30 + length p.body) ≡ length taken =
    omega (arith, ap length spells.spells, spelled_length p garbage, after_length p garbage fits.target.host_length fits.source.host_length, spells.garbage_length) in
    ap packet_of (e ∙ ap (λ (xs : List ℕ). xs ++ rest) spells.spells) ∙ packet_again p garbage rest fits spells.size spells.garbage_length ∙ ap (λ (k : ℕ). ended (p, k)) long

-- where there is a fault, no prefix spells a packet
pub none_spelled : (b : List ℕ) (f : IdpFault) → packet_of b ≡ Err f → (p : PacketModel) (taken : ℕ) → ¬ (IsPacketAtFront b p taken)
none_spelled b f refused p taken front =
    let found = spelling_again p (take taken b) (drop taken b) b front.fits front.spells (sym (take-append-drop taken b)) in
    absurd (cc)

-- ---- the laws of the written form

pub plain_spells : (p : PacketModel) → length p.body ≤ most_data → SpellsPacket p (packet_spelling p)
unfolding packet_spelling
plain_spells p size = record {
  size = size;
  garbage = replicate (length p.body % 2) 0;
  garbage_length = length-replicate (length p.body % 2) 0;
  garbage_bytes = All-replicate (λ x. x < 256) (length p.body % 2) 0 (lit< tt);
  spells = refl;
}

pub plain_again : (p : PacketModel) (rest : List ℕ) → IsPacket p → length p.body ≤ most_data → packet_of (packet_spelling p ++ rest) ≡ Ok (p, length (packet_spelling p))
plain_again p rest fits size = spelling_again p (packet_spelling p) rest (packet_spelling p ++ rest) fits (plain_spells p size) refl

pub plain_length : (p : PacketModel) → IsPacket p → length (packet_spelling p) ≡ made_even (30 + length p.body)
unfolding packet_spelling
plain_length p fits =
    let pad : List ℕ = replicate (length p.body % 2) 0 in
    omega (arith, spelled_length p pad, after_length p pad fits.target.host_length fits.source.host_length, length-replicate {A = ℕ} (length p.body % 2) 0)
