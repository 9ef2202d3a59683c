-- What a window holds behind a read.
use Rattle.std.proofs.Common.{◌≡◌, ◌≤◌, ◌+◌, ◌∙◌, ◌++◌, ap, rules, sym, ℕ, List, length, take}
use borrow.Rule.Slice.PartMut.{post_of}
use Rattle.std.proofs.Math.Seq.{take-append-add}
use Rattle.std.proofs.lemmas.List.{length-take-le, places, take-append-le}

-- what was read into a room behind its first bytes stands behind these
pub read_behind : (room piece rest : List ℕ) (filled count : ℕ) → filled ≤ length room → count ≤ length piece
    → take (filled + count) (take filled room ++ (piece ++ rest)) ≡ take filled room ++ take count piece
read_behind room piece rest filled count fits few =
    ap (λ n. take (n + count) (take filled room ++ (piece ++ rest))) (sym (length-take-le filled room fits))
    ∙ take-append-add (take filled room) (piece ++ rest) count
    ∙ ap (λ bytes. take filled room ++ bytes) (take-append-le count piece rest few)

-- the room is as long as before
pub length_written : (room piece : List ℕ) (filled size : ℕ) → length piece ≡ size → filled + size ≤ length room
    → length (take filled room ++ (piece ++ post_of filled size room)) ≡ length room
length_written room piece filled size len fits = search (rules, places)
