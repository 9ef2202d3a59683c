-- A conversation that is given up goes on with what it had done.
use Rattle.std.proofs.Common.{◌≡◌, refl, subst, sym, true}
use Rattle.std.specs.Prelude.{◌&&◌}
use Rattle.xns_connection.specs.Story.{is_called, is_stopped}
use Rattle.xns_connection.specs.Telling.{Goes}
use Rattle.xns_connection.specs.declared.conversation.Conversation.{Conversation}
use Rattle.xns_connection.proofs.Tellings.{deafened, marks}

pub given_up_goes : (t u : Conversation) → u ≡ record t { closing = record t.closing { deaf = true } } → Goes t u
given_up_goes t u is = subst (λ (c : Conversation). Goes t c) (sym is)
    (marks t _ refl (λ last. last) refl (λ items k. record { wanted = k.wanted; heard = k.heard })
    (λ z. absurd (deafened (is_stopped t.side) (t.closing.end_sent && is_called t.side) t.closing.reply_sent z)) (λ z. z) refl)
