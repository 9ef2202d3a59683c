-- The packet behind a type or a length, where it is that of a tag and where it is not.
use Rattle.std.proofs.Common.{◌≡◌, refl, arith, ℕ, ◌<◌, ◌≤◌, true, false, List, [], ◌∷◌, length, drop, Option, None}
use Rattle.std.proofs.lemmas.Bool.Decides.{nat_tests}
use Rattle.xns_captures.specs.Links.{behind_number, by_number, is_tag}
use Rattle.xns_captures.specs.Places.{word_in_order}
use Rattle.xns_captures.specs.declared.byte_order.ByteOrder.TheVariants.{Big}

-- a tag's number is not the type
tag_is_no_type : (number : ℕ) (bytes : List ℕ) (tagged : Option (List ℕ)) → is_tag number ≡ true → by_number number bytes tagged ≡ tagged
tag_is_no_type number bytes tagged tag = grind (arith, nat_tests)

pub behind_tag : (number : ℕ) (bytes : List ℕ) → is_tag number ≡ true → 4 ≤ length bytes
    → behind_number number bytes ≡ behind_number (word_in_order Big bytes 2) (drop 4 bytes)
behind_tag number [] tag long = absurd (omega arith)
behind_tag number (a ∷ []) tag long = absurd (omega arith)
behind_tag number (a ∷ b ∷ []) tag long = absurd (omega arith)
behind_tag number (a ∷ b ∷ c ∷ []) tag long = absurd (omega arith)
behind_tag number (a ∷ b ∷ c ∷ d ∷ bytes) tag long = tag_is_no_type number (a ∷ b ∷ c ∷ d ∷ bytes) (behind_number (word_in_order Big (a ∷ b ∷ c ∷ d ∷ bytes) 2) bytes) tag
