-- Words as the text of a record (XSIS 038112, Courier). That a text has a limit is this project's rule.
use Rattle.std.specs.Prelude.{◌≡◌, ◌⊎◌, ℕ, ◌==◌, List, [], ◌++◌, length, Result, Ok, Err, nat_le, if◌then◌else◌, codes}
use Rattle.std.specs.Global.{Vec}
use Rattle.courier_types.specs.declared.read_fault.ReadFault.{ReadFault}
use Rattle.courier_types.specs.declared.read_fault.Reason.{Reason}
use Rattle.courier_types.specs.declared.read_fault.Reason.TheVariants as read_reasons
use Rattle.courier_types.specs.Front.{value_of}
use Rattle.courier_types.specs.Memory.{WantsMemory}
use Rattle.courier_types.specs.Value.{ValueModel, ValueModels}
use Rattle.courier_texts.specs.Appending.{most_text}
use Rattle.courier_texts.specs.Printing.{components_text}
use Rattle.courier_programs.specs.Meanings.{Components, FieldsModel, components_from}
use Rattle.call_texts.specs.declared.unread.UnreadReason.{UnreadReason}
use Rattle.call_texts.specs.declared.unread.UnreadReason.TheVariants as reasons
use Rattle.call_texts.specs.declared.unread.Unshown.{Unshown}
use Rattle.call_texts.specs.declared.unread.Unshown.TheVariants as unshown

-- the word that goes on no value, and why
abbrev pub UnreadModel : Type 0
UnreadModel = ℕ × UnreadReason

-- a function returned that text, or why there is none, unless memory ran out
abbrev pub Shows : Result (Vec ℕ) Unshown → Result (List ℕ) UnreadModel → Type 0
Shows (Ok v) text = text ≡ Ok v.items
Shows (Err (unshown.Unread u)) text = text ≡ Err (u.place, u.reason)
Shows (Err unshown.NoMemory) text = Unit {0}

abbrev pub unread_reason : Reason → UnreadReason
unread_reason read_reasons.Truncated = reasons.Truncated
unread_reason read_reasons.NotBoolean = reasons.NotBoolean
unread_reason read_reasons.NotListed = reasons.NotListed
unread_reason read_reasons.OverMaximum = reasons.OverMaximum

-- the values of these components with their names, in brackets
abbrev pub bracketed : Components → ValueModels → List ℕ
bracketed parts values = codes "[" ++ components_text [] (components_from parts) values ++ codes "]"

-- the text of a record of these components; another value has none
abbrev pub record_text : Components → ValueModel → List ℕ
record_text parts (ValueModel.fields values) = bracketed parts values
record_text parts _ = []

abbrev pub limited : List ℕ → Result (List ℕ) UnreadModel
limited text = if nat_le (length text) most_text then Ok text else Err (0, reasons.LongText)

-- the text of a value that takes so many of the words
abbrev pub text_of_value : Components → List ℕ → Result (ValueModel × ℕ) ReadFault → Result (List ℕ) UnreadModel
text_of_value parts words (Ok v) = if v.1 == length words then limited (record_text parts v.0) else Err (v.1, reasons.Trailing)
text_of_value parts words (Err fault) = Err (fault.place, unread_reason fault.reason)

-- the text of the record that the words are, all of them
abbrev pub shown : FieldsModel → List ℕ → Result (List ℕ) UnreadModel
shown fields words = text_of_value fields.0 words (value_of fields.1 words)

-- ---- memory

-- P holds where memory was refused
abbrev pub IfNoMemory : {X : Type 0} → Result X Unshown → Type 0 → Type 0
IfNoMemory (Ok x) P = Unit {0}
IfNoMemory (Err (unshown.Unread u)) P = Unit {0}
IfNoMemory (Err unshown.NoMemory) P = P

-- a value was read, and takes all the words
abbrev pub TakesAllWords : List ℕ → Result (ValueModel × ℕ) ReadFault → Type 0
TakesAllWords words (Ok v) = v.1 ≡ length words
TakesAllWords words (Err fault) = ⊥

-- showing a record wants memory: for its value, or, where that takes all the words, for its text
abbrev pub ShowingWants : FieldsModel → List ℕ → Type 0
ShowingWants fields words = WantsMemory fields.1 words ⊎ TakesAllWords words (value_of fields.1 words)
