-- What is printed of what is heard.
use Rattle.std.proofs.Common.{◌≡◌, ◌∙◌, ap, sym, refl, false, List, [], ◌∷◌, ◌++◌, append_assoc, append-nil}
use Rattle.std.specs.Prelude.{map}
use Rattle.xns_spp.specs.declared.item.Item.{Item}
use Rattle.courier_messages.specs.declared.message.Message.{Message}
use Rattle.xns_calls.specs.Listening.{AreFaultless, at_line, heard_at_lines, message_lines, messages_heard, messages_in, said_items}
use Rattle.xns_calls.specs.Reading.{Told, after_heard, said_item}
use Rattle.xns_calls.specs.Speech.{speech_after, heard_of}
use Rattle.xns_calls.specs.Telling.{calls_after, heard_text, is_fault}
use Rattle.xns_calls.specs.declared.heading.Heading.{Heading}
use Rattle.xns_calls.specs.declared.heard.Heard.{Heard}
use Rattle.xns_calls.specs.declared.heard.Heard.TheVariants as heard
use Rattle.xns_calls.specs.declared.speech.Speech.{Speech}
use Rattle.xns_calls.specs.Unanswered.{UnansweredCalls}

-- one thing more is heard, which is no fault
one_more : (h : Heading) (calls : UnansweredCalls) (x : Heard) (rest : List (Heading × Message)) → is_fault x ≡ false
    → heard_text h calls x ++ message_lines (calls_after h calls x) rest ≡ message_lines calls (at_line h (messages_in x) ++ rest)
one_more h calls heard.Nothing rest fine = refl
one_more h calls (heard.Message message) rest fine = refl
one_more h calls (heard.Fault fault) rest fine = (cc)

pub text_is : (items : List (Heading × Item)) (t : Told) → AreFaultless t.track.speech items → (said_items items t).text ≡ t.text ++ message_lines t.calls (heard_at_lines t.track.speech items)
unfolding said_item after_heard
text_is [] t fine = sym (append-nil t.text)
text_is (x ∷ items) t fine =
    let what = heard_of t.track.speech x.1 in
    let rest = heard_at_lines (speech_after t.track.speech x.1) items in
    text_is items (said_item x.0 x.1 t) fine.1
    ∙ append_assoc t.text (heard_text x.0 t.calls what) (message_lines (calls_after x.0 t.calls what) rest)
    ∙ ap (λ l. t.text ++ l) (one_more x.0 t.calls what rest fine.0)

headed : (h : Heading) (ms : List Message) (rest : List (Heading × Message)) → map (λ x. x.1) (at_line h ms ++ rest) ≡ ms ++ map (λ x. x.1) rest
headed h [] rest = refl
headed h (m ∷ ms) rest = ap (λ l. m ∷ l) (headed h ms rest)

pub messages_are : (items : List (Heading × Item)) (speech : Speech) → map (λ x. x.1) (heard_at_lines speech items) ≡ messages_heard speech (map (λ x. x.1) items)
messages_are [] speech = refl
messages_are (x ∷ items) speech =
    let ms = messages_in (heard_of speech x.1) in
    headed x.0 ms (heard_at_lines (speech_after speech x.1) items) ∙ ap (λ l. ms ++ l) (messages_are items (speech_after speech x.1))
