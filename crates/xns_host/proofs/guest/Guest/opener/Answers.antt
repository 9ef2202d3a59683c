use Rattle.std.proofs.Common.{◌≡◌, ◌∙◌, ap, sym, ℕ, Option, Some}
use Rattle.xns_idp.specs.declared.address.Address.{Address}
use Rattle.xns_connection.specs.Ends.{peer_that_opened}
use Rattle.xns_host.specs.Knowing.{opener_to}
use Rattle.xns_host.specs.Register.{peer_at}
use Rattle.xns_host.proofs.Ends.{own_socket}
use Rattle.xns_host.proofs.guest.Guest.opener.Goals as goal

-- the connection names who opened it, and its end has the socket to which that was
pub returns : goal.returns
returns c =
    let named : peer_that_opened c.args.self.now.connection ≡ Some (c.in_ok-peer.peer, c.in_ok-peer.id) = sym c.opener.ensures ∙ c.in_ok-peer.was in
    ap Some (c.at.ensures ∙ ap (λ (n : ℕ). peer_at c.in_ok-peer.peer c.in_ok-peer.id n) (own_socket c.args.self.now.connection c.own.result c.own.ensures))
    ∙ sym (ap (λ (o : Option (Address × ℕ)). opener_to c.args.self.now.connection.conversation.endpoint.ends.own.socket o) named)
