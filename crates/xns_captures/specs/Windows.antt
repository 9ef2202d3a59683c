-- What is kept of a file that is read piece by piece.
use Rattle.std.specs.Prelude.{ℕ, ◌+◌, List}
use Rattle.xns_captures.specs.Parts.{most_block_bytes}
use Rattle.xns_captures.specs.declared.window.TheConstants.{MOST_PIECE_BYTES}

-- the bytes that were read and are not dropped, and how many bytes there is room for
pub record WindowModel : Type 0 where
  pub bytes : List ℕ
  pub room : ℕ

-- there is room for one part at most, and one piece; no part has more bytes than a block that is read whole
abbrev pub most_room : ℕ
most_room = most_block_bytes + MOST_PIECE_BYTES
