-- What is read, by the places where it stands.
use Rattle.std.proofs.Common.{◌≡◌, ◌≤◌, ℕ, Bool, true, false, cond, ltb, refl, ◌+◌, ◌-◌, List, take, drop, length, ap, sym, ◌∙◌, arith, Option, Some, None, Result, Ok, Err}
use Rattle.std.proofs.Math.Nat.{min-le_right}
use Rattle.std.proofs.lemmas.Bool.{ltb-false}
use Rattle.std.proofs.lemmas.List.{drop-drop, drop-take, length-drop, length-take, take_min}
use Rattle.std.specs.Prelude.{slice_range}
use Rattle.xns_idp.specs.Packet.{PacketModel}
use Rattle.xns_idp.specs.Reading.{packet_of, packet_fault, packet_fields, word_at, made_even, unless}
use Rattle.xns_idp.specs.declared.fault.IdpFault.{IdpFault}
use Rattle.xns_idp.specs.declared.fault.IdpFault.TheVariants.{Short}
use Rattle.xns_c.specs.declared.packet.XnsPacket.{XnsPacket}
use Rattle.xns_c.specs.Views.{StandsIn, packet_in}
use Rattle.xns_c.specs.Given.{is_yes, as_byte}
use Rattle.xns_c.specs.Structs.{address_of_struct}

abbrev from_ok : {X : Type 0} {F : Type 0} → X → Result X F → X
from_ok d (Ok x) = x
from_ok d (Err f) = d

unless_ok : {X F : Type 0} (o : Option F) (x y : X) → unless o x ≡ Ok y → x ≡ y
unless_ok None x y e = ap (from_ok x) e
unless_ok (Some f) x y e = ap (from_ok x) e

body_of : (b : List ℕ) (x : PacketModel × ℕ) → packet_of b ≡ Ok x → slice_range b 30 (word_at b 2) ≡ x.0.body
unfolding packet_of packet_fields
body_of b x e = ap (λ (p : PacketModel × ℕ). p.0.body) (unless_ok (packet_fault b) (packet_fields b, made_even (word_at b 2)) x e)

-- the data stand behind the header
pub placed : (b : List ℕ) (x : PacketModel × ℕ) → packet_of b ≡ Ok x → x.0.body ≡ slice_range b 30 (30 + length x.0.body)
placed b x e =
    let xs : List ℕ = drop 30 b in
    let n : ℕ = word_at b 2 - 30 in
    let is : take n xs ≡ x.0.body = body_of b x e in
    let counts : 30 + length x.0.body - 30 ≡ length x.0.body = omega arith in
    sym (ap (λ (m : ℕ). take m xs) (counts ∙ sym (ap length is) ∙ length-take n xs) ∙ take_min n xs ∙ is)

-- what stands behind the first of the data
behind : (b : List ℕ) (x : PacketModel × ℕ) (k n : ℕ) → packet_of b ≡ Ok x → k + n ≡ length x.0.body → slice_range b (30 + k) (30 + k + n) ≡ drop k x.0.body
behind b x k n e size =
    let xs : List ℕ = drop 30 b in
    let counts : 30 + length x.0.body - 30 ≡ k + n = omega (arith, size) in
    let is : x.0.body ≡ take (k + n) xs = placed b x e ∙ ap (λ (m : ℕ). take m xs) counts in
    let left : 30 + k + n - (30 + k) ≡ n = omega arith in
    ap (λ (m : ℕ). take m (drop (30 + k) b)) left ∙ ap (λ (l : List ℕ). take n l) (sym (drop-drop k 30 b)) ∙ sym (drop-take k n xs) ∙ ap (λ (l : List ℕ). drop k l) (sym is)

not_short : (t : Bool) (f : IdpFault) (rest : Option IdpFault) → cond t (Some f) rest ≡ None → t ≡ false
not_short true f rest e = absurd cc
not_short false f rest e = refl

no_fault : {X F : Type 0} (o : Option F) (x y : X) → unless o x ≡ Ok y → o ≡ None
no_fault None x y e = refl
no_fault (Some f) x y e = absurd cc

has_header : (b : List ℕ) → packet_fault b ≡ None → 30 ≤ length b
unfolding packet_fault
has_header b e = ltb-false _ _ (not_short (ltb (length b) 30) (Short (length b)) _ e)

-- a packet's header and its data lie within the bytes
pub within : (b : List ℕ) (x : PacketModel × ℕ) → packet_of b ≡ Ok x → 30 + length x.0.body ≤ length b
unfolding packet_of
within b x e =
    let xs : List ℕ = drop 30 b in
    let n : ℕ = word_at b 2 - 30 in
    let is : take n xs ≡ x.0.body = body_of b x e in
    let header = has_header b (no_fault (packet_fault b) (packet_fields b, made_even (word_at b 2)) x e) in
    let size : length (take n xs) ≡ length x.0.body = ap length is in
    let cut = length-take n xs in
    let most = min-le_right n (length xs) in
    let left = length-drop 30 b in
    omega (arith, header, size, cut, most, left)

-- what stands behind the first of the data lies within the bytes
pub stands : {IsSuch : PacketModel → Type 0} (before size : ℕ) (b : List ℕ) (x : PacketModel × ℕ) → packet_of b ≡ Ok x → IsSuch x.0
    → before + size ≡ length x.0.body → StandsIn IsSuch before b (30 + before) size
stands before size b x reads such is =
    let fits = within b x reads in
    record {
      packet = x.0;
      taken = x.1;
      reads = reads;
      such = such;
      at = refl;
      within = omega (arith, is, fits);
      body = behind b x before size reads is;
    }

flag_again : (x : Bool) → is_yes (as_byte x) ≡ x
flag_again true = refl
flag_again false = refl

small : (x : Bool) → as_byte x ≤ 1
small true = omega arith
small false = omega arith

pub byte_of_flag : (x : Bool) (f : ℕ) → f ≡ as_byte x → f ≤ 1
byte_of_flag x f e = let most = small x in omega (arith, e, most)

-- what is told of a packet says which it is
pub read_as : (b : List ℕ) (p : PacketModel) (n : ℕ) (r : XnsPacket) → Ok (p, n) ≡ packet_of b → r.summed ≡ as_byte p.summed
    → (r.control ≡ p.control) × (r.kind ≡ p.kind) → (address_of_struct r.target ≡ p.target) × (address_of_struct r.source ≡ p.source)
    → (r.body_at ≡ 30) × (r.body_length ≡ length p.body) × (r.taken ≡ n) → packet_of b ≡ Ok (packet_in r b, r.taken)
read_as b p n r e flag fields ends (at, size, whole) =
    let summed : p.summed ≡ is_yes r.summed = sym (ap is_yes flag ∙ flag_again p.summed) in
    let body : p.body ≡ slice_range b r.body_at (r.body_at + r.body_length) = placed b (p, n) (sym e) ∙ (λ i. slice_range b (sym at i) (sym at i + sym size i)) in
    sym e ∙ (λ i. Ok (record { summed = summed i; control = sym fields.0 i; kind = sym fields.1 i; target = sym ends.0 i; source = sym ends.1 i; body = body i }, sym whole i))
