use Rattle.std.proofs.Common.{◌≡◌, sym, subst, rules, inl, ℕ, List, Option, Some, None, Ok, Err, Result}
use Rattle.std.specs.Prelude.{IfSome}
use Rattle.std.specs.declared.alloc.AllocError.{AllocError}
use Rattle.xns_spp.specs.Held.{StandsFor}
use Rattle.xns_spp.specs.State.{State}
use Rattle.xns_connection.specs.Giving.{GivesAs, GivesNewer, giving, newer}
use Rattle.xns_connection.specs.declared.conversation.Conversation.{Conversation}
use Rattle.xns_connection.specs.declared.owed.Owed.{Owed}
use Rattle.xns_connection.proofs.Single.{same_giving, so_before}
use Rattle.xns_connection.proofs.conversation.Conversation.newer_packet.Goals as goal

pub returns-in_err-packet : goal.returns-in_err-packet
returns-in_err-packet c =
    let is : c.from_residual.result ≡ Err c.in_err-packet.field-0.0 = search rules in
    let t = c.args.self.now in
    let o = c.args.owed.now in
    let same = c.in_err-packet.ensures.unchanged in
    subst (λ (r : Result (Option (List ℕ)) AllocError). GivesNewer r t c.single_packet.new.self o c.single_packet.new.owed) (sym is) (record {
      side = c.single_packet.ensures.side;
      at = tt;
      short = λ s stands. inl (same_giving t c.single_packet.new.self o c.single_packet.new.owed s same.0 same.1 stands);
      memory = c.in_err-packet.ensures.memory;
    })

pub returns-in-Some : goal.returns-in-Some
returns-in-Some c = record {
  side = c.single_packet.ensures.side;
  at = subst (λ (o : Option (List ℕ)). IfSome o (λ p. (s : State) → StandsFor c.args.self.now.endpoint s
      → GivesAs (newer (giving c.args.self.now c.args.owed.now s)) (Some p) c.single_packet.new.self c.single_packet.new.owed)) c.in-Some.is c.in_ok-packet.ensures.at;
  short = tt;
  memory = tt;
}

pub returns : goal.returns
returns c =
    let none : c.single_packet.result ≡ Ok None = search rules in
    so_before (λ (t : Conversation) (o : Owed). GivesNewer c.flushed_packet.result t c.flushed_packet.new.self o c.flushed_packet.new.owed)
    (c.single_packet.ensures.none none) c.flushed_packet.ensures
