-- Why a connection is closed, or is not, after its items moved.
use Rattle.std.proofs.Common.{◌≡◌, ◌∙◌, ap, sym, refl, Bool, true, false, Option, Some, None, Result, Ok, Err}
use Rattle.std.specs.Prelude.{◌&&◌, ◌||◌, ◌==◌, if◌then◌else◌}
use Rattle.courier_sessions.specs.declared.feed_refusal.FeedRefusal.{FeedRefusal}
use Rattle.xns_spp.specs.State.{State}
use Rattle.xns_spp.specs.Telling.{unacknowledged_count}
use Rattle.xns_connection.specs.Closed.{ClosesBy, is_closed_now}
use Rattle.xns_connection.specs.Closing.{drains}
use Rattle.xns_connection.specs.Connecting.{why_after, why_over}
use Rattle.xns_connection.specs.Story.{Story, is_called, is_stopped}
use Rattle.xns_connection.specs.Telling.{is_over}
use Rattle.xns_connection.specs.declared.closing.Closing.{Closing}
use Rattle.xns_connection.specs.declared.conversation.Conversation.{Conversation}
use Rattle.xns_connection.specs.declared.why.Why.{Why}
use Rattle.xns_connection.proofs.Tellings.{reads_on}

-- whether what comes is read does not say why it is closed
pub deaf_or_not : (c : Closing) (deaf : Bool) (s : State) (moved : Result (Unit {0}) FeedRefusal)
    → why_after (record c { deaf = deaf }) (is_over (record c { deaf = deaf }) s) moved ≡ why_after c (is_over c s) moved
deaf_or_not c deaf s (Ok u) = refl
deaf_or_not c deaf s (Err e) = refl

not_over : (c : Closing) (s : State) (a b c2 d : Bool) → c.reply_sent ≡ c2 → (a || (b || (c2 || d))) ≡ false → is_over c s ≡ false
not_over c s true b e d is z = absurd (cc)
not_over c s false true e d is z = absurd (cc)
not_over c s false false true d is z = absurd (cc)
not_over c s false false false d is z = ap (λ (x : Bool). x && (c.reply_heard && (unacknowledged_count s == 0))) is

none_now : (o : Option Why) → is_closed_now o o ≡ false
none_now None = refl
none_now (Some w) = refl

-- nothing was left to move
pub closes_calm : {old new : Conversation} {moving : Bool} {was closed : Option Why} (base : Story → Story)
    → drains old.side old.closing ≡ false → drains new.side new.closing ≡ false → moving ≡ false → closed ≡ was → ClosesBy old base new moving was closed
closes_calm {old} {new} {was = was} {closed = closed} base before free none same = record {
  moved = Ok tt;
  refused = tt;
  reads = λ h tells.
      let rest : Bool = new.closing.end_sent && is_called new.side in
      let now : is_closed_now was closed ≡ false = ap (λ (o : Option Why). is_closed_now was o) same ∙ none_now was in
      free ∙ sym (ap (λ (b : Bool). b || (is_closed_now was closed || rest)) before ∙ ap (λ (b : Bool). b || rest) now ∙ (reads_on new.side new.closing free).end);
  why = λ is s stands.
      let over = not_over new.closing s (is_stopped new.side) (new.closing.end_sent && is_called new.side) new.closing.reply_sent new.closing.deaf refl free in
      same ∙ is ∙ sym (ap (λ (b : Bool). if b then Some (why_over new.closing) else None) over);
  short = λ z. absurd (cc);
  noted = λ z. absurd (cc);
}
