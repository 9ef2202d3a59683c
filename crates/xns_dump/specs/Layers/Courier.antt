-- The lines of Courier messages (XSIS 038112, Courier, Message stream).
use Rattle.std.specs.Prelude.{ℕ, List, ◌++◌, codes, Result, Ok, Err}
use Rattle.std.specs.Fmt.{decimal}
use Rattle.courier_messages.specs.Message.{message_of}
use Rattle.courier_messages.specs.declared.fault.MessageFault.{MessageFault}
use Rattle.courier_messages.specs.declared.message.Message.{Message}
use Rattle.courier_messages.specs.declared.message.Message.TheVariants.{Call, Reject, Return, Abort}
use Rattle.xns_dump.specs.Layers.Text.{line_of, words_line}
use Rattle.xns_lines.specs.Text.{words_text}

-- the program, the version and the procedure of a call
unfoldable pub callee_text : ℕ → ℕ → ℕ → List ℕ
callee_text program version procedure = codes " program " ++ decimal program ++ (codes " version " ++ decimal version)
    ++ (codes " procedure " ++ decimal procedure)

-- the fields of a message, and its words
unfoldable pub message_text : Message → List ℕ
message_text (Call transaction program version procedure words) =
    codes " call " ++ decimal transaction ++ callee_text program version procedure ++ codes " args " ++ words_text words
message_text (Reject transaction reason words) = codes " reject " ++ decimal transaction ++ codes " reason " ++ decimal reason
    ++ codes " words " ++ words_text words
message_text (Return transaction words) = codes " return " ++ decimal transaction ++ codes " results " ++ words_text words
message_text (Abort transaction error words) = codes " abort " ++ decimal transaction ++ codes " error " ++ decimal error
    ++ codes " args " ++ words_text words

abbrev pub message_line : ℕ → Message → List ℕ
message_line n message = line_of n (message_text message)

abbrev pub report_message : ℕ → List ℕ → Result Message MessageFault → List ℕ
report_message n content (Ok message) = message_line n message
report_message n content (Err fault) = words_line n content

-- the line of the data at the end of a message: the message that the data read as, or their words
unfoldable pub courier_text : ℕ → List ℕ → List ℕ
courier_text n content = report_message n content (message_of content)
