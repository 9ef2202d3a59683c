-- Connections that are as they were.
use Rattle.std.proofs.Common.{◌≡◌, ◌∙◌, ℕ, List, Option, Some, slice_get, ap, ◌<◌, length}
use Rattle.std.specs.Prelude.{slice_set}
use Rattle.xns_host.specs.Hosting.{IsApart}
use Rattle.xns_host.specs.declared.guest.Guest.{Guest}
use Rattle.xns_agenda.proofs.Putting.{place_other, place_set}

pub apart_then : (a b c : List (Option Guest)) (number : ℕ) → IsApart a b number → IsApart b c number → IsApart a c number
apart_then a b c number first next = record { others = λ k other. next.others k other ∙ first.others k other }

pub set_apart : (a b : List (Option Guest)) (n : ℕ) (v : Option Guest) → b ≡ slice_set a n v → IsApart a b n
set_apart a b n v is = record { others = λ k other. ap (λ (xs : List (Option Guest)). slice_get xs k) is ∙ place_other a n k v other }

pub set_there : (a b : List (Option Guest)) (n : ℕ) (v : Option Guest) → n < length a → b ≡ slice_set a n v → slice_get b n ≡ Some v
set_there a b n v less is = ap (λ (xs : List (Option Guest)). slice_get xs n) is ∙ place_set a n v less
