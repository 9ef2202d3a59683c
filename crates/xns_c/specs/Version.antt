-- The version of the library.
use Rattle.std.specs.Prelude.{ℕ, List, [], ◌∷◌}

-- 0.1.0, in 16 bytes
abbrev pub version_text : List ℕ
version_text = 48 ∷ 46 ∷ 49 ∷ 46 ∷ 48 ∷ 0 ∷ 0 ∷ 0 ∷ 0 ∷ 0 ∷ 0 ∷ 0 ∷ 0 ∷ 0 ∷ 0 ∷ 0 ∷ []
