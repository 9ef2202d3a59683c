-- The reject that answers a call whose program or version is not listed (XSIS 038112, Courier, Reject message).
use Rattle.std.specs.Prelude.{ℕ, List, [], ◌∷◌, Bool, ◌||◌, nat_lt}

-- the reason of a reject: there is no such program
abbrev pub no_such_program : ℕ
no_such_program = 0

-- the reason of a reject: the program is there, but not in this version
abbrev pub no_such_version : ℕ
no_such_version = 1

-- a version is none of those from low to high
abbrev pub is_outside : ℕ → ℕ → ℕ → Bool
is_outside low high version = nat_lt version low || nat_lt high version

-- the words of a reject for the reason `no_such_version`: the lowest and the highest version that there is
abbrev pub version_words : ℕ → ℕ → List ℕ
version_words low high = low ∷ high ∷ []
