-- Messages by name: what stands in a line in place of numbers and words.
use Rattle.std.specs.Prelude.{◌≡◌, ℕ, List, [], ◌++◌, codes, Option, Some, None, IsSomeAnd, Result, Ok, Err}
use Rattle.std.specs.Borrow.{Bor}
use Rattle.std.specs.Fmt.{decimal}
use Rattle.std.specs.Global.{Vec}
use Rattle.call_texts.specs.Calls.{AbortWants, CallWants, ReturnWants, abort_shown, call_shown, return_shown}
use Rattle.call_texts.specs.Showing.{UnreadModel}
use Rattle.call_texts.specs.declared.unread.UnreadReason.{UnreadReason}
use Rattle.call_texts.specs.declared.unread.UnreadReason.TheVariants as reasons
use Rattle.call_texts.specs.declared.unread.Unshown.{Unshown}
use Rattle.call_texts.specs.declared.unread.Unshown.TheVariants as unshown
use Rattle.courier_programs.specs.declared.program.Program.{Program}
use Rattle.xns_calls.specs.declared.shown.Shown.{Shown}
use Rattle.xns_calls.specs.declared.shown.Shown.TheVariants.{Named, Numbered, Unread}
use Rattle.xns_calls.specs.declared.waiting.Waiting.{Waiting}

-- the programs by which calls are named, behind a reference, where some are given
abbrev pub Programs : Type 0
Programs = Option (Bor (List Program))

-- the text of a message by name, or why its words are no value; none where it is not declared
abbrev pub ShownModel : Type 0
ShownModel = Option (Result (List ℕ) UnreadModel)

-- ---- which text

abbrev pub named_call : Programs → ℕ → ℕ → ℕ → List ℕ → ShownModel
named_call (Some programs) program version procedure words = call_shown programs.now program version procedure words
named_call None program version procedure words = None

-- a return is named as one of its call's procedure
abbrev pub named_return : Programs → Option Waiting → List ℕ → ShownModel
named_return (Some programs) (Some call) words = return_shown programs.now call.program call.version call.procedure words
named_return (Some programs) None words = None
named_return None of words = None

-- an abort is named as an error of its call's program
abbrev pub named_abort : Programs → Option Waiting → ℕ → List ℕ → ShownModel
named_abort (Some programs) (Some call) error words = abort_shown programs.now call.program call.version error words
named_abort (Some programs) None error words = None
named_abort None of error words = None

-- ---- memory

-- naming a call wants memory: programs are given, and its text by them wants memory
abbrev pub NamingCallWants : Programs → ℕ → ℕ → ℕ → List ℕ → Type 0
NamingCallWants programs program version procedure words = IsSomeAnd programs (λ given. CallWants given.now program version procedure words)

-- naming a return wants memory: programs are given, its call is known, and its text by them wants memory
abbrev pub NamingReturnWants : Programs → Option Waiting → List ℕ → Type 0
NamingReturnWants programs of words = IsSomeAnd programs (λ given. IsSomeAnd of
    (λ call. ReturnWants given.now call.program call.version call.procedure words))

-- naming an abort wants memory: programs are given, its call is known, and its text by them wants memory
abbrev pub NamingAbortWants : Programs → Option Waiting → ℕ → List ℕ → Type 0
NamingAbortWants programs of error words = IsSomeAnd programs (λ given. IsSomeAnd of
    (λ call. AbortWants given.now call.program call.version error words))

-- ---- in a line

-- the text by name, or else what is said by numbers
abbrev pub named_or : List ℕ → ShownModel → List ℕ
named_or numbers (Some (Ok text)) = codes " " ++ text
named_or numbers (Some (Err unread)) = numbers
named_or numbers None = numbers

abbrev pub reason_name : UnreadReason → List ℕ
reason_name reasons.Truncated = codes "Truncated"
reason_name reasons.NotBoolean = codes "NotBoolean"
reason_name reasons.NotListed = codes "NotListed"
reason_name reasons.OverMaximum = codes "OverMaximum"
reason_name reasons.Trailing = codes "Trailing"
reason_name reasons.LongText = codes "LongText"

-- the word that goes on no value, counted from 0, and why, where a message is declared and its words are no value
abbrev pub unread_text : ShownModel → List ℕ
unread_text (Some (Ok text)) = []
unread_text (Some (Err unread)) = codes " unread " ++ decimal unread.0 ++ codes " " ++ reason_name unread.1
unread_text None = []

-- ---- what the code answers

abbrev pub shown_model : Shown → ShownModel
shown_model (Named text) = Some (Ok text.items)
shown_model (Unread unread) = Some (Err (unread.place, unread.reason))
shown_model Numbered = None

-- a function answered that there is this text by name, and memory did not run out
abbrev pub Declares : Result (Option (Vec ℕ)) Unshown → ShownModel → Type 0
Declares (Ok (Some text)) shown = shown ≡ Some (Ok text.items)
Declares (Ok None) shown = shown ≡ None
Declares (Err (unshown.Unread unread)) shown = shown ≡ Some (Err (unread.place, unread.reason))
Declares (Err unshown.NoMemory) shown = ⊥
