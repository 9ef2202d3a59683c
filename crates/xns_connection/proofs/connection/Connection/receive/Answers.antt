use Rattle.std.proofs.Common.{◌≡◌, ◌∙◌, ◌++◌, [], ap, refl, rules, sym, ℕ, true, false, Result}
use Rattle.xns_spp.specs.Held.{StandsFor}
use Rattle.xns_connection.specs.Closing.{drains}
use Rattle.xns_spp.specs.Receiving.{after_receive}
use Rattle.xns_connection.proofs.Moments.{hears_at}
use Rattle.xns_spp.specs.Packet.{SppPacketModel, spp_packet_spelling}
use Rattle.xns_spp.specs.declared.dropped.Dropped.{Dropped}
use Rattle.xns_connection.specs.Replying.{reply_by, reply_in}
use Rattle.std.specs.Prelude.{nat_lt}
use Rattle.xns_spp.specs.State.{State}
use Rattle.xns_connection.specs.Step.{is_ours_by, parts_of}
use Rattle.xns_connection.specs.Telling.{progress}
use Rattle.xns_connection.specs.declared.conversation.Conversation.{Conversation}
use Rattle.xns_connection.proofs.Belonging.{belongs, conversation_stays, stored_is_ours}
use Rattle.xns_connection.proofs.Dues.{fits_same}
use Rattle.xns_connection.proofs.Steps.{heard_by, heard_history, owed_is_heard, same_connection, same_history, same_timed, wait_is_heard}
use Rattle.xns_connection.proofs.connection.Connection.receive.Goals.{After-is_of_another}
use Rattle.xns_connection.proofs.connection.Connection.receive.Goals as goal

pub returns-clause-step : goal.returns-clause-step
returns-clause-step c = λ yes b read.
    let k = c.in_ok-input.ensures in
    let n = c.note.ensures in
    let more_is : (s : State) → StandsFor c.args.self.now.conversation.endpoint s → c.progress_of-progress.result ≡ progress s (after_receive s b) = λ s stands.
    c.progress_of-progress.ensures s (after_receive s b) (c.unacknowledged-before.ensures s stands) (c.is_open-was_open.ensures s stands)
    (k.stands s b stands read) in
    let says : (s : State) → StandsFor c.args.self.now.conversation.endpoint s → c.reply_of-reply.result ≡ reply_by (after_receive s b) b = λ s stands.
    c.reply_of-reply.ensures (after_receive s b) (k.stands s b stands read) ∙ ap (λ (r : Result SppPacketModel Dropped). reply_in (after_receive s b) r) (sym read) in
    heard_by c.args.now b c.args.self.now _ c.receive.new.self c.note.new.owed c.note.new.wait (λ s stands. k.stands s b stands read) (ap (λ (t : Conversation). t.side) k.rest) (ap (λ (t : Conversation). t.closing) k.rest)
    (λ s stands. owed_is_heard c.args.self.now.owed c.note.new.owed c.args.self.now.wait s b c.in_ok-input.input c.progress_of-progress.result (nat_lt 0 c.unacknowledged-left.result) c.reply_of-reply.result c.args.now
    (k.answer s b stands read) (more_is s stands) (ap (λ (n : ℕ). nat_lt 0 n) (c.unacknowledged-left.ensures (after_receive s b) (k.stands s b stands read))) (says s stands)
    (λ yes. (n.foreign yes).1) n.owed)
    (λ s stands. wait_is_heard c.args.self.now.wait c.note.new.wait s b c.in_ok-input.input c.progress_of-progress.result (nat_lt 0 c.unacknowledged-left.result) c.reply_of-reply.result c.args.now
    (k.answer s b stands read) (more_is s stands) (ap (λ (n : ℕ). nat_lt 0 n) (c.unacknowledged-left.ensures (after_receive s b) (k.stands s b stands read))) (says s stands) (λ yes. (n.foreign yes).0) n.wait)
    c.settled.ensures.moved (λ steps. hears_at _ _ _ _ _ _ _ _ (λ yes. (n.foreign yes).0) n.wait steps) (ap (λ (t : Conversation). t.packets) k.rest) refl

pub invariant_of-self-2-clause-stands : goal.invariant_of-self-2-clause-stands
invariant_of-self-2-clause-stands c = c.settled.ensures.stands

pub settled-requires-clause-stands : goal.settled-requires-clause-stands
settled-requires-clause-stands c =
    let p = c.args.packet.now in
    heard_history c.args.self.now.conversation.endpoint _ (spp_packet_spelling p ++ []) c.args.self.now.stands
    (λ s stands. c.in_ok-input.ensures.stands s (spp_packet_spelling p ++ []) stands (c.written_packet_is_read_again.ensures.again p [] c.requires))

pub invariant_of-self : goal.invariant_of-self
invariant_of-self c =
    let end = ap (λ (t : Conversation). t.endpoint) c.in_err-input.ensures.unchanged in
    record {
      timed = same_timed _ c.args.self.now.wait _ _ end c.args.self.now.timed;
      fits = fits_same _ _ _ _ c.args.self.now.fits (ap (λ (t : Conversation). drains t.side t.closing) c.in_err-input.ensures.unchanged);
      stands = same_history _ _ end c.args.self.now.stands;
    }

-- a packet of another connection leaves the conversation as it was
unmoved : (c : After-is_of_another) → c.is_of_another.result ≡ true → c.receive.new.self ≡ c.args.self.now.conversation
unmoved c other =
    let p = c.args.packet.now in
    let read = c.written_packet_is_read_again.ensures.again p [] c.requires in
    let k = c.in_ok-input.ensures in
    conversation_stays c.foreign_bytes_change_nothing.ensures c.args.self.now.conversation c.receive.new.self (spp_packet_spelling p ++ []) p c.in_ok-input.input
    c.args.self.now.stands read (λ s stands. k.answer s (spp_packet_spelling p ++ []) stands read) (λ s stands. k.stands s (spp_packet_spelling p ++ []) stands read)
    k.rest (sym c.is_of_another.ensures ∙ other)

pub invariant_of-self-then-is_of_another : goal.invariant_of-self-then-is_of_another
invariant_of-self-then-is_of_another c =
    let same = unmoved (goal.at.invariant_of-self-then-is_of_another c).After-is_of_another c.if-is_of_another.true in
    let end = ap (λ (t : Conversation). t.endpoint) same in
    record {
      timed = same_timed _ c.args.self.now.wait _ _ end c.args.self.now.timed;
      fits = fits_same _ _ _ _ c.args.self.now.fits (ap (λ (t : Conversation). drains t.side t.closing) same);
      stands = same_history _ _ end c.args.self.now.stands;
    }

pub returns-then-is_of_another-clause-foreign : goal.returns-then-is_of_another-clause-foreign
returns-then-is_of_another-clause-foreign c = λ ok.
    let same = unmoved (goal.at.returns-then-is_of_another-clause-foreign c).After-is_of_another c.if-is_of_another.true in
    same_connection _ _ (ap (λ (t : Conversation). record (parts_of c.args.self.now) { conversation = t }) same)

pub returns-then-is_of_another-clause-ours : goal.returns-then-is_of_another-clause-ours
returns-then-is_of_another-clause-ours c = λ s stands.
    let p = c.args.packet.now in
    let read = c.written_packet_is_read_again.ensures.again p [] c.requires in
    belongs s (spp_packet_spelling p ++ []) p c.in_ok-input.input true read (c.in_ok-input.ensures.answer s (spp_packet_spelling p ++ []) stands read)
    (sym c.is_of_another.ensures ∙ c.if-is_of_another.true)

pub returns-clause-ours : goal.returns-clause-ours
returns-clause-ours c = λ s stands.
    let p = c.args.packet.now in
    let read = c.written_packet_is_read_again.ensures.again p [] c.requires in
    belongs s (spp_packet_spelling p ++ []) p c.in_ok-input.input false read (c.in_ok-input.ensures.answer s (spp_packet_spelling p ++ []) stands read)
    (sym c.is_of_another.ensures ∙ c.if-is_of_another.false)

pub returns-in_err-input-clause-ours : goal.returns-in_err-input-clause-ours
returns-in_err-input-clause-ours c = λ s stands.
    let p = c.args.packet.now in
    let read = c.written_packet_is_read_again.ensures.again p [] c.requires in
    let refused : is_ours_by c.from_residual.result ≡ true = search rules in
    stored_is_ours c.foreign_bytes_change_nothing.ensures s (spp_packet_spelling p ++ []) p read
    (c.in_err-input.ensures.memory s (spp_packet_spelling p ++ []) stands read) ∙ sym refused

pub settled-requires-clause-fits : goal.settled-requires-clause-fits
settled-requires-clause-fits c = record {
  open_due = λ none. c.note.ensures.open_due (c.args.self.now.fits.open_due none);
  closed_due = λ some. c.note.ensures.closed_due (c.args.self.now.fits.closed_due some);
  deaf = λ some. ap (λ (t : Conversation). drains t.side t.closing) c.in_ok-input.ensures.rest ∙ c.args.self.now.fits.deaf some;
}
