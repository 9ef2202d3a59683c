-- The identifiers of new connections (XSIS 028112, Sequenced Packet Protocol, Connection Identifiers).
use Rattle.std.specs.Prelude.{◌≡◌, ℕ, suc, zero, ◌+◌, ◌≤◌, Bool, List, [], ◌∷◌, ◌++◌, length, take, drop, AllPairs, Contains, All, ◌≢◌, ◌⊎◌, false, position}
use Rattle.std.specs.Prelude.{Option, Some, None, slice_get, slice_set, slice_index_or}
use Rattle.std.specs.Option.{is_none}
use Rattle.rand_core.specs.Steps.{stream_of, steps_u32}
use Rattle.rand_chacha.specs.ChaCha.{next_word, of_seed}
use Rattle.rand.specs.Shuffle.{shuffled}

-- all identifiers, in the order in which they come next; and by identifier the number of the connection that has it
pub record Ids : Type 0 where
  pub ahead : List ℕ
  pub owners : List (Option ℕ)

-- an identifier is from 1 to this one
abbrev pub most_id : ℕ
most_id = 65535

-- the numbers from 1 to n
unfoldable pub numbers : ℕ → List ℕ
numbers zero = []
numbers (suc n) = numbers n ++ suc n ∷ []

-- the order that a secret gives: the kit's shuffle by its ChaCha of 20 rounds
abbrev pub order_of : List ℕ → List ℕ → List ℕ
order_of ids secret = (shuffled ids 0 (stream_of (steps_u32 (next_word 10)) (of_seed secret))).0

-- no identifier comes twice, and each comes
pub record IsOrder (ids : List ℕ) : Type 0 where
  pub distinct : AllPairs (λ a b. a ≢ b) ids
  pub within : All (λ id. (1 ≤ id) × (id ≤ most_id)) ids
  pub each : (id : ℕ) → 1 ≤ id → id ≤ most_id → Contains ids id

pub record IsIds (ahead : List ℕ) (owners : List (Option ℕ)) : Type 0 where
  pub order : IsOrder ahead
  pub room : length owners ≡ 65536

abbrev pub is_free : List (Option ℕ) → ℕ → Bool
is_free owners id = is_none (slice_index_or owners id None)

-- the identifier that comes next: the first of those ahead that no connection has
pub record IsNextIdentifier (ids : Ids) (id : ℕ) : Type 0 where
  pub place : ℕ
  pub first : position (is_free ids.owners) ids.ahead ≡ Some place
  pub there : slice_get ids.ahead place ≡ Some id

-- the one at this place is given to the connection with this number, and comes again after all others
pub record GivesIdentifier (old new : Ids) (place number id : ℕ) : Type 0 where
  pub there : slice_get old.ahead place ≡ Some id
  pub turned : new.ahead ≡ drop (place + 1) old.ahead ++ take (place + 1) old.ahead
  pub owned : new.owners ≡ slice_set old.owners id (Some number)

-- ---- one after another

-- the one that came next was given, and comes again after all others
pub record TurnsOver (old new : Ids) (id : ℕ) : Type 0 where
  pub place : ℕ
  pub first : position (is_free old.owners) old.ahead ≡ Some place
  pub there : slice_get old.ahead place ≡ Some id
  pub turned : new.ahead ≡ drop (place + 1) old.ahead ++ take (place + 1) old.ahead

-- no identifier was given: they come in the order in which they came
abbrev pub StaysInOrder : (old new : Ids) → Type 0
StaysInOrder old new = new.ahead ≡ old.ahead

-- an identifier was given, and who had which one then
pub record IdentifierTurn : Type 0 where
  pub given : ℕ
  pub owners : List (Option ℕ)

-- from one moment to another identifiers are given at these turns, in order, whoever has which one in between
pub data Given : Ids → List IdentifierTurn → Ids → Type 0 where
  none : {a : Ids} → Given a [] a
  gives : {a b c : Ids} {turns : List IdentifierTurn} (id : ℕ) → TurnsOver a b id → Given b turns c
      → Given a (record { given = id; owners = a.owners } ∷ turns) c
  keeps : {a b c : Ids} {turns : List IdentifierTurn} → StaysInOrder a b → Given b turns c → Given a turns c

-- an identifier was given in that turn, or was in use
abbrev pub HadTurn : ℕ → IdentifierTurn → Type 0
HadTurn id turn = (turn.given ≡ id) ⊎ (is_free turn.owners id ≡ false)
