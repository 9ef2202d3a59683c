-- A conversation as whole lists is what its signs end, one by one.
use Rattle.std.proofs.Common.{◌≡◌, ◌∙◌, ap, sym, refl, ℕ, ◌+◌, ◌*◌, ◌<◌, ◌≤◌, Bool, true, false, List, [], ◌∷◌, ◌++◌, length, map, append_assoc, append-nil, arith, length-append, le-ltb, lt-ltb, eqb-true, Result, Ok, Err, Option, Some, None}
use Rattle.std.proofs.lemmas.Bool.{eqb-false}
use Rattle.std.specs.Prelude.{if◌then◌else◌, ◌==◌, option_map}
use Rattle.std.specs.List.{flat_map}
use Rattle.xns_spp.specs.declared.item.Item.{Item}
use Rattle.courier_messages.specs.declared.fault.MessageFault.{MessageFault}
use Rattle.courier_messages.specs.declared.fault.MessageFault.TheVariants.{TooLong}
use Rattle.courier_messages.specs.declared.fault.SessionFault.{SessionFault}
use Rattle.courier_messages.specs.declared.fault.SessionFault.TheVariants.{BadMessage, Stream}
use Rattle.courier_messages.specs.declared.message.Message.{Message}
use Rattle.courier_messages.specs.Message.{message_of}
use Rattle.courier_messages.specs.Text.{Sign, byte, mark, foreign, written, marked, pieces_behind, rest_behind, foreign_in}
use Rattle.courier_messages.specs.Conversation.{versions_fault, agreed_unless, agreed_range, version_range, without_mark, said_by, message_and, messages_in, first_of, fault_in, fault_of_rest, fault_behind, messages_of, fault_of, conversation, conversation_fault, Phase, opening, fresh, inside, phase_behind, phase_of, or_fault, ending}
use Rattle.courier_messages.specs.Phases.{fresh_unless, agreement, closed, good, after_sign, ◌then◌, run, onwards, said}
use Rattle.courier_messages.proofs.Runs.{byte_step}

-- more than 131,072 bytes stay a fault, whatever comes behind them

pub record IsTooLong (begun : List ℕ) (text : List Sign) : Type 0 where
  pub silent : messages_in (pieces_behind begun text) ≡ []
  pub fault : fault_behind begun text ≡ Some (BadMessage TooLong)

said_too_long : (piece : List ℕ) → 131072 < length piece → said_by piece ≡ Err TooLong
unfolding said_by
said_too_long piece h = ap (λ (b : Bool). if b then Err TooLong else message_of piece) (lt-ltb 131072 (length piece) h)

rest_too_long : (bytes : List ℕ) (other : Option ℕ) → 131072 < length bytes → fault_of_rest bytes other ≡ Some (BadMessage TooLong)
unfolding fault_of_rest
rest_too_long bytes other h = ap (λ (b : Bool). if b then Some (BadMessage TooLong) else option_map Stream other) (lt-ltb 131072 (length bytes) h)

pub too_long : (begun : List ℕ) (text : List Sign) → 131072 < length begun → IsTooLong begun text
unfolding pieces_behind rest_behind foreign_in messages_in fault_in
too_long begun [] h = record { silent = refl; fault = rest_too_long begun None h }
too_long begun (byte b ∷ text) h =
    let longer = length-append begun (b ∷ []) in
    let k = too_long (begun ++ b ∷ []) text (omega (arith, longer)) in
    record { silent = k.silent; fault = k.fault }
too_long begun (mark ∷ text) h =
    let e = said_too_long begun h in
    record {
      silent = ap (λ (r : Result Message MessageFault). message_and r (messages_in (pieces_behind [] text))) e;
      fault = ap (λ (r : Result Message MessageFault). first_of r (fault_behind [] text)) e;
    }
too_long begun (foreign kind ∷ text) h = record { silent = refl; fault = rest_too_long begun (Some kind) h }

-- within a message

pub record Ties (begun : List ℕ) (text : List Sign) : Type 0 where
  pub ran : run (inside begun) text ≡ or_fault (fault_behind begun text) (inside (rest_behind begun text))
  pub spoke : said (inside begun) text ≡ messages_in (pieces_behind begun text)

said_short : (piece : List ℕ) → length piece ≤ 131072 → said_by piece ≡ message_of piece
unfolding said_by
said_short piece h = ap (λ (b : Bool). if b then Err TooLong else message_of piece) (le-ltb 131072 (length piece) h)

rest_short : (bytes : List ℕ) (other : Option ℕ) → length bytes ≤ 131072 → fault_of_rest bytes other ≡ option_map Stream other
unfolding fault_of_rest
rest_short bytes other h = ap (λ (b : Bool). if b then Some (BadMessage TooLong) else option_map Stream other) (le-ltb 131072 (length bytes) h)

mark_runs : (r : Result Message MessageFault) (text : List Sign) → Ties [] text → (closed r then λ q. run q text) ≡ or_fault (first_of r (fault_behind [] text)) (inside (rest_behind [] text))
mark_runs (Ok m) text k = k.ran
mark_runs (Err e) text k = refl

mark_says : (r : Result Message MessageFault) (text : List Sign) → Ties [] text → good r ++ onwards (closed r) (λ q. said q text) ≡ message_and r (messages_in (pieces_behind [] text))
mark_says (Ok m) text k = ap (λ (ms : List Message). m ∷ ms) k.spoke
mark_says (Err e) text k = refl

byte_ties : (begun : List ℕ) (b : ℕ) (text : List Sign) (full : Bool) → (length begun == 131072) ≡ full → (full ≡ true → IsTooLong (begun ++ b ∷ []) text) → (full ≡ false → Ties (begun ++ b ∷ []) text) → Ties begun (byte b ∷ text)
unfolding pieces_behind rest_behind foreign_in run said
byte_ties begun b text true e long short =
    let k = long refl in
    let s : after_sign (inside begun) (byte b) ≡ Err (BadMessage TooLong) = ap (byte_step begun b) e in
    record {
      ran = ap (λ (r : Result Phase SessionFault). r then λ q. run q text) s ∙ ap (λ (f : Option SessionFault). or_fault f (inside (rest_behind (begun ++ b ∷ []) text))) (sym k.fault);
      spoke = ap (λ (r : Result Phase SessionFault). onwards r (λ q. said q text)) s ∙ sym k.silent;
    }
byte_ties begun b text false e long short =
    let k = short refl in
    let s : after_sign (inside begun) (byte b) ≡ Ok (inside (begun ++ b ∷ [])) = ap (byte_step begun b) e in
    record {
      ran = ap (λ (r : Result Phase SessionFault). r then λ q. run q text) s ∙ k.ran;
      spoke = ap (λ (r : Result Phase SessionFault). onwards r (λ q. said q text)) s ∙ k.spoke;
    }

pub ties : (begun : List ℕ) (text : List Sign) → length begun ≤ 131072 → Ties begun text
unfolding pieces_behind rest_behind foreign_in messages_in fault_in run said
ties begun [] h = record { ran = sym (ap (λ (f : Option SessionFault). or_fault f (inside begun)) (rest_short begun None h)); spoke = refl }
ties begun (byte b ∷ text) h =
    let longer = length-append begun (b ∷ []) in
    byte_ties begun b text (length begun == 131072) refl
    (λ e. let n = eqb-true (length begun) 131072 e in too_long (begun ++ b ∷ []) text (omega (arith, longer, n)))
    (λ e. let n = eqb-false (length begun) 131072 e in ties (begun ++ b ∷ []) text (omega (arith, longer, n)))
ties begun (mark ∷ text) h =
    let k = ties [] text (omega arith) in
    let e = said_short begun h in
    record {
      ran = mark_runs (message_of begun) text k ∙ ap (λ (r : Result Message MessageFault). or_fault (first_of r (fault_behind [] text)) (inside (rest_behind [] text))) (sym e);
      spoke = mark_says (message_of begun) text k ∙ ap (λ (r : Result Message MessageFault). message_and r (messages_in (pieces_behind [] text))) (sym e);
    }
ties begun (foreign kind ∷ text) h = record { ran = sym (ap (λ (f : Option SessionFault). or_fault f (inside begun)) (rest_short begun (Some kind) h)); spoke = refl }

-- behind the version range

pub record TiesFresh (text : List Sign) : Type 0 where
  pub ran : run fresh text ≡ or_fault (fault_behind [] (without_mark text)) (phase_behind text)
  pub spoke : said fresh text ≡ messages_in (pieces_behind [] (without_mark text))

no_rest : fault_of_rest [] None ≡ None
no_rest = rest_short [] None (omega arith)

pub ties_fresh : (text : List Sign) → TiesFresh text
unfolding pieces_behind rest_behind foreign_in messages_in fault_in run said
ties_fresh [] = record { ran = sym (ap (λ (f : Option SessionFault). or_fault f fresh) no_rest); spoke = refl }
ties_fresh (mark ∷ text) = let k = ties [] text (omega arith) in record { ran = k.ran; spoke = k.spoke }
ties_fresh (byte b ∷ text) = let k = ties (b ∷ []) text (omega arith) in record { ran = k.ran; spoke = k.spoke }
ties_fresh (foreign kind ∷ text) =
    record { ran = sym (ap (λ (f : Option SessionFault). or_fault f (inside [])) (rest_short [] (Some kind) (omega arith))); spoke = refl }

-- from the beginning

pub record TiesOpening (text : List Sign) : Type 0 where
  pub ran : run (opening []) text ≡ or_fault (fault_of (version_range text)) (phase_of (version_range text))
  pub spoke : said (opening []) text ≡ messages_of (version_range text)

record TiesRange (low high : ℕ) (text : List Sign) : Type 0 where
  ran : (agreement low high then λ q. run q text) ≡ or_fault (fault_of (agreed_range low high text)) (phase_of (agreed_range low high text))
  spoke : onwards (agreement low high) (λ q. said q text) ≡ messages_of (agreed_range low high text)

record TiesBy (text : List Sign) (f : Option SessionFault) : Type 0 where
  ran : (fresh_unless f then λ q. run q text) ≡ or_fault (fault_of (agreed_unless f text)) (phase_of (agreed_unless f text))
  spoke : onwards (fresh_unless f) (λ q. said q text) ≡ messages_of (agreed_unless f text)

ties_by : (text : List Sign) (f : Option SessionFault) → TiesBy text f
ties_by text (Some e) = record { ran = refl; spoke = refl }
ties_by text None = let k = ties_fresh text in record { ran = k.ran; spoke = k.spoke }

range_ties : (low high : ℕ) (text : List Sign) → TiesRange low high text
range_ties low high text = let k = ties_by text (versions_fault low high) in record { ran = k.ran; spoke = k.spoke }

pub ties_opening : (text : List Sign) → TiesOpening text
unfolding run said
ties_opening [] = record { ran = refl; spoke = refl }
ties_opening (mark ∷ text) = record { ran = refl; spoke = refl }
ties_opening (foreign k ∷ text) = record { ran = refl; spoke = refl }
ties_opening (byte a ∷ []) = record { ran = refl; spoke = refl }
ties_opening (byte a ∷ mark ∷ text) = record { ran = refl; spoke = refl }
ties_opening (byte a ∷ foreign k ∷ text) = record { ran = refl; spoke = refl }
ties_opening (byte a ∷ byte b ∷ []) = record { ran = refl; spoke = refl }
ties_opening (byte a ∷ byte b ∷ mark ∷ text) = record { ran = refl; spoke = refl }
ties_opening (byte a ∷ byte b ∷ foreign k ∷ text) = record { ran = refl; spoke = refl }
ties_opening (byte a ∷ byte b ∷ byte c ∷ []) = record { ran = refl; spoke = refl }
ties_opening (byte a ∷ byte b ∷ byte c ∷ mark ∷ text) = record { ran = refl; spoke = refl }
ties_opening (byte a ∷ byte b ∷ byte c ∷ foreign k ∷ text) = record { ran = refl; spoke = refl }
ties_opening (byte a ∷ byte b ∷ byte c ∷ byte d ∷ text) =
    let k = range_ties (a * 256 + b) (c * 256 + d) text in record { ran = k.ran; spoke = k.spoke }

pub conversation_is : (items : List Item) → conversation items ≡ said (opening []) (written items)
unfolding conversation
conversation_is items = sym (ties_opening (written items)).spoke

pub ending_is : (items : List Item) → ending items ≡ run (opening []) (written items)
unfolding ending conversation_fault
ending_is items = sym (ties_opening (written items)).ran

-- a text is its pieces

put_back : (begun : List ℕ) (b : ℕ) (more : List Sign) → map byte (begun ++ b ∷ []) ++ more ≡ map byte begun ++ (byte b ∷ more)
put_back [] b more = refl
put_back (x ∷ begun) b more = ap (λ (ss : List Sign). byte x ∷ ss) (put_back begun b more)

pub pieces_are : (begun : List ℕ) (text : List Sign) → foreign_in text ≡ None → flat_map marked (pieces_behind begun text) ++ map byte (rest_behind begun text) ≡ map byte begun ++ text
unfolding pieces_behind rest_behind foreign_in
pieces_are begun [] h = sym (append-nil (map byte begun))
pieces_are begun (byte b ∷ text) h = pieces_are (begun ++ b ∷ []) text h ∙ put_back begun b text
pieces_are begun (mark ∷ text) h =
    append_assoc (marked begun) (flat_map marked (pieces_behind [] text)) (map byte (rest_behind [] text))
    ∙ ap (λ (ss : List Sign). marked begun ++ ss) (pieces_are [] text h)
    ∙ append_assoc (map byte begun) (mark ∷ []) text
pieces_are begun (foreign kind ∷ text) h = absurd cc
