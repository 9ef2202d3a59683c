-- Courier's values in words, read and written at a cursor (XSIS 038112, Courier, Standard representation).
use Rattle.std.specs.Prelude.{◌≡◌, ◌≢◌, ◌<◌, ◌≤◌, ℕ, ◌+◌, List, ◌++◌, drop, take, length, Result, Ok, Err}
use Rattle.courier_types.specs.declared.read_fault.ReadFault.{ReadFault}
use Rattle.courier_types.specs.declared.read_fault.Reason.{Reason}
use Rattle.courier_types.specs.declared.read_fault.Reason.TheVariants.{Truncated, NotBoolean, NotListed, OverMaximum}
use Rattle.courier_types.specs.Spelling.{value_spelling}
use Rattle.courier_types.specs.Value.{ValueModel}
use Rattle.xns_c.specs.Results.{ok, short_buffer, truncated, not_boolean, over_maximum, not_listed}
use Rattle.xns_c.specs.declared.cursor.XnsCursor.{XnsCursor}

-- the number of a reason why words are no value
abbrev pub reason_number : Reason → ℕ
reason_number Truncated = truncated
reason_number NotBoolean = not_boolean
reason_number OverMaximum = over_maximum
reason_number NotListed = not_listed

-- the words from the cursor's place on
abbrev pub ahead : List ℕ → XnsCursor → List ℕ
ahead words cursor = drop cursor.place words

-- a cursor that is this many words further on
abbrev pub further_on : XnsCursor → ℕ → XnsCursor
further_on cursor count = record cursor { place = cursor.place + count }

-- a cursor with a fault
abbrev pub faulted : XnsCursor → ℕ → XnsCursor
faulted cursor number = record cursor { fault = number }

-- a read of the words ahead, which are a value or have a fault, returns this number, tells this value, and leaves the cursor there
abbrev pub IsRead : Result (ValueModel × ℕ) ReadFault → XnsCursor → XnsCursor → ℕ → ValueModel → Type 0
IsRead (Ok found) before after number value = (number ≡ ok) × (value ≡ found.0) × (after ≡ further_on before found.1)
IsRead (Err fault) before after number value = (number ≡ reason_number fault.reason) × (after ≡ faulted before (reason_number fault.reason))

-- words were put at a place of a buffer; what stood before and behind them stands there still
abbrev pub IsPutAt : ℕ → List ℕ → List ℕ → List ℕ → Type 0
IsPutAt place words before after = after ≡ take place before ++ words ++ drop (place + length words) before

-- a write of words at the cursor returns this number, and leaves the cursor there; a buffer without room for all of the words stays as it was
abbrev pub WritesWords : List ℕ → XnsCursor → XnsCursor → List ℕ → List ℕ → ℕ → Type 0
WritesWords words before after old new number =
    (before.place + length words ≤ length old → (number ≡ ok) × IsPutAt before.place words old new × (after ≡ further_on before (length words)))
    × (length old < before.place + length words → (number ≡ short_buffer) × (new ≡ old) × (after ≡ faulted before short_buffer))

-- words are put at the cursor; after a fault that fault is returned, and nothing changes
pub record Puts (words : List ℕ) (before after : XnsCursor) (old new : List ℕ) (number : ℕ) : Type 0 where
  pub written : before.fault ≡ ok → WritesWords words before after old new number
  pub stays : before.fault ≢ ok → (number ≡ before.fault) × (after ≡ before) × (new ≡ old)

-- a value is written as its words
abbrev pub WritesValue : ValueModel → XnsCursor → XnsCursor → List ℕ → List ℕ → ℕ → Type 0
WritesValue value before after old new number = Puts (value_spelling value) before after old new number
