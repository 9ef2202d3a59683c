-- What is written, piece by piece, is the spelling of the packet.
use Rattle.std.proofs.Common.{◌≡◌, ℕ, zero, suc, ◌+◌, ◌-◌, ◌%◌, ◌<◌, if◌then◌else◌, List, [], ◌∷◌, ◌++◌, length, take, drop, replicate, refl, sym, ap, ◌∙◌, append_assoc, length-append, ◌≤◌, arith}
use Rattle.std.proofs.lemmas.List.{append-nil, drop_all, drop_at, length-take-le, take_at, take_all}
use Rattle.std.specs.Int.{w16, to_be_bytes}
use borrow.Rule.Slice.PartMut.{mid_of, post_of, put_mid, Post-is}
use Rattle.xns_idp.specs.Checksum.{words, cycle_checksum}
use Rattle.xns_idp.specs.Packet.{PacketModel, address_bytes, after_checksum, packet_bytes, packet_spelling, with_data_behind}

-- the garbage byte of 0, where there is one
abbrev pub padding : PacketModel → List ℕ
padding p = replicate (length p.body % 2) 0

regroup : (o c f t s b d g : List ℕ) → o ++ (c ++ (f ++ t ++ s)) ++ b ++ d ++ g ≡ o ++ (c ++ (f ++ t ++ s ++ (b ++ d) ++ g))
regroup o c f t s b d g = simp append_assoc

-- the pieces of the packet with d behind its data, c being in the place of the checksum field
pub pieces : (p : PacketModel) (old o0 o1 o2 o3 c f d g : List ℕ) → let q = with_data_behind p d in
    f ≡ c ++ (to_be_bytes w16 (30 + length q.body) ++ (p.control ∷ p.kind ∷ []) ++ address_bytes p.target ++ address_bytes p.source) → g ≡ padding q
    → o0 ≡ old → o1 ≡ o0 ++ f → o2 ≡ o1 ++ p.body → o3 ≡ o2 ++ d → o3 ++ g ≡ old ++ (c ++ after_checksum q (padding q))
unfolding after_checksum
pieces p old o0 o1 o2 o3 c f d g ef eg e0 e1 e2 e3 =
    let pad = padding (with_data_behind p d) in
    let front = to_be_bytes w16 (30 + length (p.body ++ d)) ++ (p.control ∷ p.kind ∷ []) in
    let all : o3 ++ g ≡ old ++ (c ++ (front ++ address_bytes p.target ++ address_bytes p.source)) ++ p.body ++ d ++ pad = cc in
    all ∙ regroup old c front (address_bytes p.target) (address_bytes p.source) p.body d pad

-- the part from the field on
part : (old whole now : List ℕ) (start : ℕ) → now ≡ old ++ whole → start ≡ length old → mid_of start (length now - start) now ≡ whole
part old whole now start e es =
    let count : length now - start ≡ length whole = omega (arith, ap (λ (xs : List ℕ). length xs) e, length-append old whole, es) in
    ap (λ (xs : List ℕ). take (length now - start) (drop start xs)) e
    ∙ ap (λ (xs : List ℕ). take (length now - start) xs) (drop_at old whole start (sym es))
    ∙ take_all (length now - start) whole (omega (arith, count))

-- the checksum field is put in the place of c
pub written : (p : PacketModel) (n start : ℕ) (old c items now new : List ℕ) → length c ≡ 2
    → let after = after_checksum p (padding p) in let front = mid_of start (length now - start) now in
    items ≡ old ++ (c ++ after) → now ≡ items → start ≡ length old → n ≡ length items
    → new ≡ to_be_bytes w16 (if p.summed then cycle_checksum (words (drop 2 front)) else 65535) ++ drop 2 front
    → let put = put_mid start (length now - start) now new in take n (put ++ drop (length put) items) ≡ old ++ packet_spelling p
unfolding packet_spelling packet_bytes
written p n start old c items now new two ei enow es en enew =
    let after = after_checksum p (padding p) in
    let field = to_be_bytes w16 (if p.summed then cycle_checksum (words after) else 65535) in
    let put = put_mid start (length now - start) now new in
    let is : now ≡ old ++ (c ++ after) = enow ∙ ei in
    let rest : drop 2 (mid_of start (length now - start) now) ≡ after =
    ap (λ (xs : List ℕ). drop 2 xs) (part old (c ++ after) now start is es) ∙ drop_at c after 2 two in
    let new_is : new ≡ field ++ after = enew ∙ ap (λ (xs : List ℕ). to_be_bytes w16 (if p.summed then cycle_checksum (words xs) else 65535) ++ xs) rest in
    let front : take start now ≡ old = ap (λ (xs : List ℕ). take start xs) is ∙ take_at old (c ++ after) start (sym es) in
    let behind : post_of start (length now - start) now ≡ [] =
    Post-is start (length now) now (omega (arith, ap (λ (xs : List ℕ). length xs) is, length-append old (c ++ after), es)) ∙ drop_all (length now) now (omega arith) in
    let put_is : put ≡ old ++ (field ++ after) =
    ap (λ (xs : List ℕ). xs ++ (new ++ post_of start (length now - start) now)) front
    ∙ ap (λ (xs : List ℕ). old ++ (new ++ xs)) behind ∙ ap (λ (xs : List ℕ). old ++ xs) (append-nil new) ∙ ap (λ (xs : List ℕ). old ++ xs) new_is in
    let long : length put ≡ n =
    omega (arith, ap (λ (xs : List ℕ). length xs) put_is, ap (λ (xs : List ℕ). length xs) ei, length-append old (field ++ after), length-append old (c ++ after), length-append c after, two, en) in
    take_at put (drop (length put) items) n long ∙ put_is

-- a garbage byte or none
pub no_byte_or_one : (n : ℕ) → n < 2 → take {A = ℕ} n (0 ∷ []) ≡ replicate {A = ℕ} n 0
no_byte_or_one zero h = refl
no_byte_or_one (suc zero) h = refl
no_byte_or_one (suc (suc n)) h = absurd (omega (arith, h))

-- the pieces of a packet that begins with two bytes of 0
pub pieces_of : (p : PacketModel) (o1 o2 f g : List ℕ)
    → f ≡ 0 ∷ 0 ∷ to_be_bytes w16 (30 + length p.body) ++ (p.control ∷ p.kind ∷ []) ++ address_bytes p.target ++ address_bytes p.source → g ≡ padding p
    → o1 ≡ f → o2 ≡ o1 ++ p.body → o2 ++ g ≡ 0 ∷ 0 ∷ after_checksum p (padding p)
unfolding after_checksum
pieces_of p o1 o2 f g ef eg e1 e2 =
    let front = 0 ∷ 0 ∷ to_be_bytes w16 (30 + length p.body) ++ (p.control ∷ p.kind ∷ []) in
    let all : o2 ++ g ≡ front ++ address_bytes p.target ++ address_bytes p.source ++ p.body ++ padding p = cc in
    all

-- the packet of which t stands before its checksum is put into it, with what stood behind it
pub placed : (p : PacketModel) (n : ℕ) (old last new t : List ℕ) → t ≡ take n last → t ≡ 0 ∷ 0 ∷ after_checksum p (padding p) → n ≤ length last → drop n last ≡ drop n old
    → new ≡ to_be_bytes w16 (if p.summed then cycle_checksum (words (drop 2 t)) else 65535) ++ drop 2 t
    → (n ≡ length (packet_spelling p)) × (new ++ drop n last ≡ packet_spelling p ++ drop (length (packet_spelling p)) old)
unfolding packet_spelling packet_bytes
placed p n old last new t et is within behind enew =
    let rest : drop 2 t ≡ after_checksum p (padding p) = ap (λ (xs : List ℕ). drop 2 xs) is in
    let new_is : new ≡ packet_spelling p = enew ∙ ap (λ (xs : List ℕ). to_be_bytes w16 (if p.summed then cycle_checksum (words xs) else 65535) ++ xs) rest in
    let size : n ≡ length (packet_spelling p) = sym (length-take-le n last within) ∙ ap (λ (xs : List ℕ). length xs) (sym et ∙ is) in
    (size, ap (λ (xs : List ℕ). xs ++ drop n last) new_is ∙ ap (λ (xs : List ℕ). packet_spelling p ++ xs) behind ∙ ap (λ (k : ℕ). packet_spelling p ++ drop k old) size)
