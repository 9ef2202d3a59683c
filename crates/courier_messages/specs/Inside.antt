-- What the pieces of a session hold.
use Rattle.std.specs.Prelude.{◌≡◌, ◌⊎◌, ◌+◌, ◌<◌, ◌≤◌, ℕ, List, [], length}
use Rattle.courier_types.specs.Pieces.{joined}
use Rattle.courier_messages.specs.declared.pieces.Kept.{Kept}
use Rattle.courier_messages.specs.declared.pieces.Kept.TheVariants.{One, Several}
use Rattle.courier_messages.specs.Message.{most_bytes}
use Rattle.courier_messages.specs.Conversation.{range_bytes, Phase, opening, fresh, inside}
use Rattle.courier_messages.specs.declared.incoming.Stage.{Stage}
use Rattle.courier_messages.specs.declared.incoming.Stage.TheVariants.{Opening, Fresh, Inside}

-- how many pieces are kept
abbrev pub pieces_kept : Kept → ℕ
pieces_kept (One only) = 1
pieces_kept (Several several) = length several.items

-- the bytes of the pieces that are kept
abbrev pub bytes_kept : Kept → List ℕ
bytes_kept (One only) = only.items
bytes_kept (Several several) = joined several.items

abbrev pub phase_in : Stage → List ℕ → Phase
phase_in Opening bytes = opening bytes
phase_in Fresh bytes = fresh
phase_in Inside bytes = inside bytes

-- nothing is skipped; or the version range is, and there are bytes behind it
abbrev pub IsSkipped : ℕ → List ℕ → Type 0
IsSkipped skipped bytes = (skipped ≡ 0) ⊎ ((skipped ≡ range_bytes) × (range_bytes < length bytes))

abbrev pub IsHeld : Stage → ℕ → List ℕ → Type 0
IsHeld Opening skipped bytes = (skipped ≡ 0) × (length bytes < range_bytes)
IsHeld Fresh skipped bytes = (skipped ≡ 0) × (bytes ≡ [])
IsHeld Inside skipped bytes = IsSkipped skipped bytes × (length bytes ≤ most_bytes + skipped)

-- the bytes that are kept at a stage, of those that came
abbrev pub kept_at : Stage → List ℕ → List ℕ
kept_at Opening bytes = bytes
kept_at Fresh bytes = []
kept_at Inside bytes = bytes
