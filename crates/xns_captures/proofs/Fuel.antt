-- What a capture holds does not depend on the bound on its parts.
use Rattle.std.proofs.Common.{◌≡◌, refl, ap, arith, ℕ, zero, suc, ◌+◌, ◌≤◌, min, Bool, cond, nat_lt, ◌||◌, ◌==◌, ◌%◌, not, lit≤, List, [], ◌∷◌, ◌++◌, length, take, drop, length-drop, Ok, Err, Option, Some, None}
use Rattle.std.proofs.Math.Nat.{le-max_left}
use Rattle.std.proofs.lemmas.Bool.{cond_both, ltb-false, or_parts}
use Rattle.xns_captures.specs.Places.{long_in_order}
use Rattle.xns_captures.specs.Captures.{More, behind_head, behind_part, behind_size, behind_whole, contents, contents_in, empty_frame, fault_at_end, ends_with, frame_in, with_frame}
use Rattle.xns_captures.specs.Parts.{PartContent, Size, head_count, part_of, size_of, block_size, block_size_in, size_in_order, classic_size, is_read, long_size, most_passed_bytes, rest_size, section_order, classic_order, section_type, most_block_bytes, most_frame_bytes}
use Rattle.xns_captures.specs.declared.byte_order.ByteOrder.{ByteOrder}
use Rattle.xns_captures.specs.declared.byte_order.ByteOrder.TheVariants.{Big}
use Rattle.xns_captures.specs.declared.fault.CaptureFault.TheVariants as fault
use Rattle.xns_captures.specs.declared.format.Format.{Format}
use Rattle.xns_captures.specs.declared.format.Format.TheVariants.{Unread, Records, Blocks, Passing}
use Rattle.xns_captures.specs.declared.interface.Interface.{Interface}
use Rattle.xns_captures.specs.declared.part.Part.{Part}
use Rattle.xns_captures.specs.declared.part.Part.TheVariants as part

-- ---- each part has a byte, and at most so many

-- a size is at least so many bytes, and no more than a part has at most
abbrev pub HasBytes : ℕ → Size → Type 0
HasBytes least (Ok size) = (least ≤ size) × (size ≤ most_block_bytes)
HasBytes least (Err fault) = Unit {0}

long_has_bytes : (kind : ℕ) → HasBytes 12 (long_size kind)
long_has_bytes kind = cond_both (is_read kind) (Err fault.TooLong) (Ok 12) (HasBytes 12) (λ _. tt) (λ _. (lit≤ tt, lit≤ tt))

sized : (kind total : ℕ) (t : Bool)
    → HasBytes 12 (cond (nat_lt total 12 || t) (Err fault.Lengths) (cond (nat_lt most_block_bytes total) (long_size kind) (Ok total)))
sized kind total t =
    cond_both (nat_lt total 12 || t) (Err fault.Lengths) (cond (nat_lt most_block_bytes total) (long_size kind) (Ok total)) (HasBytes 12) (λ e. tt)
    (λ e. cond_both (nat_lt most_block_bytes total) (long_size kind) (Ok total) (HasBytes 12) (λ _. long_has_bytes kind)
    (λ few. let h = or_parts (nat_lt total 12) t e in (ltb-false total 12 h.0, ltb-false most_block_bytes total few)))

block_has_bytes : (order : ByteOrder) (head : List ℕ) → HasBytes 12 (block_size_in order head)
block_has_bytes order head = sized (long_in_order order head 0) (long_in_order order head 4) (not (long_in_order order head 4 % 4 == 0))

section_has_bytes : (order : Option ByteOrder) (head : List ℕ) → HasBytes 12 (size_in_order order head)
section_has_bytes None head = tt
section_has_bytes (Some order) head = block_has_bytes order head

any_block_has_bytes : (order : ByteOrder) (head : List ℕ) → HasBytes 12 (block_size order head)
any_block_has_bytes order head =
    cond_both (long_in_order order head 0 == section_type) (size_in_order (section_order head) head) (block_size_in order head) (HasBytes 12)
    (λ _. section_has_bytes (section_order head) head) (λ _. block_has_bytes order head)

classic_has_bytes : (order : Option ByteOrder) → HasBytes 12 (classic_size order)
classic_has_bytes None = tt
classic_has_bytes (Some order) = (lit≤ tt, lit≤ tt)

rest_has_bytes : (left : ℕ) → HasBytes 4 (rest_size left)
rest_has_bytes left = (le-max_left 4 (min left most_passed_bytes), omega arith)

-- a part has the bytes of its head
pub part_has_bytes : (f : Format) (head : List ℕ) → HasBytes (head_count f) (size_of f head)
unfolding size_of
part_has_bytes Unread head =
    cond_both (long_in_order Big head 0 == section_type) (block_size Big head) (classic_size (classic_order head)) (HasBytes 12)
    (λ _. any_block_has_bytes Big head) (λ _. classic_has_bytes (classic_order head))
part_has_bytes (Records order link is_nano) head =
    cond_both (nat_lt most_frame_bytes (long_in_order order head 8)) (Err fault.TooLong) (Ok (16 + long_in_order order head 8)) (HasBytes 16)
    (λ _. tt) (λ e. (omega arith, omega (arith, ltb-false most_frame_bytes (long_in_order order head 8) e)))
part_has_bytes (Blocks order) head = any_block_has_bytes order head
part_has_bytes (Passing order left total) head = rest_has_bytes left

pub head_has_bytes : (f : Format) → 1 ≤ head_count f
head_has_bytes Unread = lit≤ tt
head_has_bytes (Records order link is_nano) = lit≤ tt
head_has_bytes (Blocks order) = lit≤ tt
head_has_bytes (Passing order left total) = lit≤ tt

-- what a part holds, with what is said of the rest in two ways
module _ (more more' : More) (n : ℕ) (same : (f : Format) (is : List Interface) (rest : List ℕ) → length rest ≤ n → more f is rest ≡ more' f is rest) where
  same_part : (f : Format) (is : List Interface) (bytes rest : List ℕ) (p : Part) → length rest ≤ n
      → behind_part more f is bytes rest p ≡ behind_part more' f is bytes rest p
  same_part f is bytes rest (part.Begins next) h = same next [] rest h
  same_part f is bytes rest (part.Interface i) h = same f (is ++ i ∷ []) rest h
  same_part f is bytes rest (part.Frame frame) h = ap (with_frame (frame_in frame bytes)) (same f is rest h)
  same_part f is bytes rest (part.Continues next) h = same next is rest h
  same_part f is bytes rest (part.Counted next) h = ap (with_frame empty_frame) (same next is rest h)

  same_whole : (f : Format) (is : List Interface) (bytes rest : List ℕ) (p : PartContent) → length rest ≤ n
      → behind_whole more f is bytes rest p ≡ behind_whole more' f is bytes rest p
  same_whole f is bytes rest (Ok p) h = same_part f is bytes rest p h
  same_whole f is bytes rest (Err fault) h = refl

  same_size : (f : Format) (is : List Interface) (bytes : List ℕ) (s : Size) → HasBytes (head_count f) s → length bytes ≤ n + 1
      → behind_size more f is bytes s ≡ behind_size more' f is bytes s
  same_size f is bytes (Err fault) some h = refl
  same_size f is bytes (Ok size) some h =
      ap (λ rest. cond (nat_lt (length bytes) size) (ends_with (Some fault.Cut)) rest)
      (same_whole f is (take size bytes) (drop size bytes) (part_of f is (take size bytes)) (omega (arith, length-drop size bytes, some.0, head_has_bytes f)))

  pub same_head : (f : Format) (is : List Interface) (bytes : List ℕ) → HasBytes (head_count f) (size_of f (take (head_count f) bytes)) → length bytes ≤ n + 1
      → behind_head more f is bytes ≡ behind_head more' f is bytes
  same_head f is bytes some h =
      ap (λ rest. cond (nat_lt (length bytes) (head_count f)) (ends_with (Some fault.Cut)) rest)
      (same_size f is bytes (size_of f (take (head_count f) bytes)) some h)

pub fuel : (n m : ℕ) (f : Format) (is : List Interface) (bytes : List ℕ) → length bytes ≤ n → length bytes ≤ m
    → contents_in n f is bytes ≡ contents_in m f is bytes
unfolding contents_in
fuel zero zero f is bytes h k = refl
fuel zero (suc m) f is [] h k = refl
fuel zero (suc m) f is (b ∷ bytes) h k = absurd (omega arith)
fuel (suc n) zero f is [] h k = refl
fuel (suc n) zero f is (b ∷ bytes) h k = absurd (omega arith)
fuel (suc n) (suc m) f is [] h k = refl
fuel (suc n) (suc m) f is (b ∷ bytes) h k =
    same_head (contents_in n) (contents_in m) (length bytes) (λ g is' rest short. fuel n m g is' rest (omega arith) (omega arith)) f is (b ∷ bytes)
    (part_has_bytes f (take (head_count f) (b ∷ bytes))) (omega arith)

-- what a capture holds from a byte on
pub contents-head : (f : Format) (is : List Interface) (bytes : List ℕ) → 1 ≤ length bytes → contents f is bytes ≡ behind_head contents f is bytes
unfolding contents contents_in
contents-head f is [] h = absurd (omega arith)
contents-head f is (b ∷ bytes) h =
    same_head (contents_in (length bytes)) contents (length bytes) (λ g is' rest short. fuel (length bytes) (length rest) g is' rest short (omega arith)) f is (b ∷ bytes)
    (part_has_bytes f (take (head_count f) (b ∷ bytes))) (omega arith)

pub contents-none : (f : Format) (is : List Interface) → contents f is [] ≡ ends_with (fault_at_end f)
unfolding contents contents_in
contents-none f is = refl
