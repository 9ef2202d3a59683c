-- What a capture holds, by its next part.
use Rattle.std.proofs.Common.{◌≡◌, refl, ap, subst, ◌∙◌, arith, lit≤, ℕ, ◌<◌, ◌≤◌, nat_lt, List, [], ◌∷◌, ◌++◌, length, take, drop, length-append, Ok, Err, Some}
use Rattle.std.proofs.lemmas.List.{take-append-le, take_at, drop_at}
use Rattle.std.proofs.lemmas.Bool.{cond-true, cond-false, lt-ltb, le-ltb}
use Rattle.xns_captures.specs.Captures.{behind_size, behind_whole, contents, ends_with}
use Rattle.xns_captures.specs.Reading.{end_in}
use Rattle.xns_captures.specs.Parts.{PartContent, head_count, most_block_bytes, part_of, size_of}
use Rattle.xns_captures.specs.declared.fault.CaptureFault.{CaptureFault}
use Rattle.xns_captures.specs.declared.fault.CaptureFault.TheVariants as fault
use Rattle.xns_captures.specs.declared.format.Format.{Format}
use Rattle.xns_captures.specs.declared.format.Format.TheVariants.{Unread, Records, Blocks, Passing}
use Rattle.xns_captures.specs.declared.interface.Interface.{Interface}
use Rattle.xns_captures.proofs.Fuel.{HasBytes, contents-head, contents-none, head_has_bytes, part_has_bytes}

-- where the head is there
at_head : (f : Format) (is : List Interface) (bytes : List ℕ) → head_count f ≤ length bytes
    → contents f is bytes ≡ behind_size contents f is bytes (size_of f (take (head_count f) bytes))
at_head f is bytes h =
    contents-head f is bytes (omega (arith, head_has_bytes f))
    ∙ cond-false (nat_lt (length bytes) (head_count f)) (ends_with (Some fault.Cut))
    (behind_size contents f is bytes (size_of f (take (head_count f) bytes))) (le-ltb (length bytes) (head_count f) h)

-- a head, and what comes behind it
head_of_more : (f : Format) (bytes rest : List ℕ) → head_count f ≤ length bytes
    → take (head_count f) (bytes ++ rest) ≡ take (head_count f) bytes
head_of_more f bytes rest h = take-append-le (head_count f) bytes rest h

at_more : (f : Format) (is : List Interface) (bytes rest : List ℕ) → head_count f ≤ length bytes
    → contents f is (bytes ++ rest) ≡ behind_size contents f is (bytes ++ rest) (size_of f (take (head_count f) bytes))
at_more f is bytes rest h =
    at_head f is (bytes ++ rest) (omega (arith, length-append bytes rest))
    ∙ ap (λ head. behind_size contents f is (bytes ++ rest) (size_of f head)) (head_of_more f bytes rest h)

-- the file ends within the head of a part
pub short_head : (f : Format) (is : List Interface) (bytes : List ℕ) → length bytes < head_count f
    → contents f is bytes ≡ ends_with (end_in f bytes)
short_head f is [] h = contents-none f is
short_head f is (b ∷ bytes) h =
    contents-head f is (b ∷ bytes) (omega arith)
    ∙ cond-true (nat_lt (length (b ∷ bytes)) (head_count f)) (ends_with (Some fault.Cut))
    (behind_size contents f is (b ∷ bytes) (size_of f (take (head_count f) (b ∷ bytes)))) (lt-ltb (length (b ∷ bytes)) (head_count f) h)

-- the file ends behind the head of a part, and before the part's end
pub short_part : (f : Format) (is : List Interface) (bytes : List ℕ) (size : ℕ) → head_count f ≤ length bytes
    → size_of f (take (head_count f) bytes) ≡ Ok size → length bytes < size
    → contents f is bytes ≡ ends_with (end_in f bytes)
short_part f is [] size h e short = contents-none f is
short_part f is (b ∷ bytes) size h e short =
    at_head f is (b ∷ bytes) h
    ∙ ap (behind_size contents f is (b ∷ bytes)) e
    ∙ cond-true (nat_lt (length (b ∷ bytes)) size) (ends_with (Some fault.Cut))
    (behind_whole contents f is (take size (b ∷ bytes)) (drop size (b ∷ bytes)) (part_of f is (take size (b ∷ bytes)))) (lt-ltb (length (b ∷ bytes)) size short)

-- the head says no size
pub no_size : (f : Format) (is : List Interface) (bytes : List ℕ) (why : CaptureFault) → head_count f ≤ length bytes
    → size_of f (take (head_count f) bytes) ≡ Err why
    → (rest : List ℕ) → contents f is (bytes ++ rest) ≡ ends_with (Some why)
no_size f is bytes why h e rest = at_more f is bytes rest h ∙ ap (behind_size contents f is (bytes ++ rest)) e

-- a part that is there whole
pub at_part : (f : Format) (is : List Interface) (bytes rest : List ℕ) → head_count f ≤ length bytes
    → size_of f (take (head_count f) bytes) ≡ Ok (length bytes)
    → contents f is (bytes ++ rest) ≡ behind_whole contents f is bytes rest (part_of f is bytes)
at_part f is bytes rest h e =
    at_more f is bytes rest h
    ∙ ap (behind_size contents f is (bytes ++ rest)) e
    ∙ cond-false (nat_lt (length (bytes ++ rest)) (length bytes)) (ends_with (Some fault.Cut))
    (behind_whole contents f is (take (length bytes) (bytes ++ rest)) (drop (length bytes) (bytes ++ rest)) (part_of f is (take (length bytes) (bytes ++ rest))))
    (le-ltb (length (bytes ++ rest)) (length bytes) (omega (arith, length-append bytes rest)))
    ∙ ap (λ front. behind_whole contents f is front (drop (length bytes) (bytes ++ rest)) (part_of f is front)) (take_at bytes rest (length bytes) refl)
    ∙ ap (λ more. behind_whole contents f is bytes more (part_of f is bytes)) (drop_at bytes rest (length bytes) refl)

pub at_part_as : (f : Format) (is : List Interface) (bytes rest : List ℕ) (p : PartContent) → head_count f ≤ length bytes
    → size_of f (take (head_count f) bytes) ≡ Ok (length bytes) → part_of f is bytes ≡ p
    → contents f is (bytes ++ rest) ≡ behind_whole contents f is bytes rest p
at_part_as f is bytes rest p h e is_part = at_part f is bytes rest h e ∙ ap (behind_whole contents f is bytes rest) is_part

pub size_fits : (f : Format) (head : List ℕ) (size : ℕ) → size_of f head ≡ Ok size → (head_count f ≤ size) × (size ≤ most_block_bytes)
size_fits f head size e = subst (HasBytes (head_count f)) e (part_has_bytes f head)

-- the head of a part has fewer bytes than the longest part
pub head_few : (f : Format) → head_count f < most_block_bytes
head_few Unread = lit≤ tt
head_few (Records order link is_nano) = lit≤ tt
head_few (Blocks order) = lit≤ tt
head_few (Passing order left total) = lit≤ tt
