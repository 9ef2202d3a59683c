-- Numbers at a place of a capture.
use Rattle.std.specs.Prelude.{ℕ, ◌+◌, ◌*◌, List, slice_index}
use Rattle.xns_captures.specs.declared.byte_order.ByteOrder.{ByteOrder}
use Rattle.xns_captures.specs.declared.byte_order.ByteOrder.TheVariants.{Big, Little}

-- what is read in an order, of what is read in either
abbrev pub picked : {A : Type 0} → ByteOrder → A → A → A
picked Big big little = big
picked Little big little = little

-- the numbers of two and of four bytes at a place, in either order
abbrev pub word_in_order : ByteOrder → List ℕ → ℕ → ℕ
word_in_order Big bytes i = 256 * slice_index bytes i + slice_index bytes (i + 1)
word_in_order Little bytes i = slice_index bytes i + 256 * slice_index bytes (i + 1)

abbrev pub long_in_order : ByteOrder → List ℕ → ℕ → ℕ
long_in_order Big bytes i = 65536 * word_in_order Big bytes i + word_in_order Big bytes (i + 2)
long_in_order Little bytes i = word_in_order Little bytes i + 65536 * word_in_order Little bytes (i + 2)

-- the number of eight bytes, of which the four that count most come first in either order
abbrev pub count_at : ByteOrder → List ℕ → ℕ → ℕ
count_at order bytes i = long_in_order order bytes i * 4294967296 + long_in_order order bytes (i + 4)
