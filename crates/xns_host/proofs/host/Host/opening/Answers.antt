use Rattle.std.proofs.Common.{◌≡◌, ◌∙◌, ap, Ok, refl, rules, subst, sym, ℕ, None, Some, true}
use Rattle.xns_idp.specs.declared.address.Address.{Address}
use Rattle.xns_small.specs.declared.error_number.TheConstants.{NO_RESOURCES}
use Rattle.xns_spp.specs.Ends.{is_ours_at}
use Rattle.xns_spp.specs.Held.{StandsFor}
use Rattle.xns_spp.specs.State.{State, responder_state}
use Rattle.xns_host.specs.Coming.{Opens, Seats, opened}
use Rattle.xns_host.specs.Hosting.{address_in}
use Rattle.xns_host.specs.Knowing.{id_of}
use Rattle.xns_host.specs.Services.{programs_at}
use Rattle.xns_host.specs.Strays.{HasComplained, StrayQueue, lost_stray}
use Rattle.xns_host.specs.Turn.{places_of, whole_of}
use Rattle.xns_host.specs.declared.register.Register.{Register}
use Rattle.xns_host.proofs.Comings.{complained_of, full_by, starved_by}
use Rattle.xns_host.proofs.Hearing.{of_opened, served_by}
use Rattle.xns_host.proofs.Placed.{is_true}
use Rattle.xns_host.proofs.host.Host.opening.Goals as goal

pub returns-in_default-from_slice-clause-opens : goal.returns-in_default-from_slice-clause-opens
returns-in_default-from_slice-clause-opens c = λ read yes. starved_by c.args.now _ c.args.bytes.now c.args.packet.now _ _ _ _ c.lose.ensures refl refl

pub returns-in_default-open-clause-opens : goal.returns-in_default-open-clause-opens
returns-in_default-open-clause-opens c = λ read yes.
    let kept = c.open.ensures.unopened (λ n made. absurd (search rules)) in
    starved_by c.args.now _ c.args.bytes.now c.args.packet.now (whole_of c.args.self.now) c.open.new.self.register _ _
    (c.lose-in_default-open.ensures ∙ ap lost_stray c.open.ensures.strays) kept.0 kept.1

pub returns-in_default-place-clause-opens : goal.returns-in_default-place-clause-opens
returns-in_default-place-clause-opens c = λ read yes.
    let none : c.open.result ≡ Ok None = search rules in
    let kept = c.open.ensures.unopened (λ n made. absurd (search rules)) in
    let socket : c.packet.inside.target.socket ≡ c.args.packet.now.target.socket = search rules in
    let complains = complained_of c.open.new.self.network c.args.self.now.network c.open.new.self.host c.args.self.now.host c.packet.inside.target.socket
    c.args.packet.now.target.socket c.args.via c.args.bytes.now c.args.self.now.strays c.open.new.self.strays c.complain.new.self c.open.ensures.set_up.0.0
    c.open.ensures.set_up.0.1 socket c.open.ensures.strays
    (subst (λ (a : Address). HasComplained a NO_RESOURCES c.args.via c.args.bytes.now c.open.new.self.strays c.complain.new.self) c.address-own.ensures c.complain.ensures) in
    full_by c.args.now _ c.args.bytes.now c.args.packet.now (whole_of c.args.self.now) c.open.new.self.register _ _ complains kept.0
    (c.open.ensures.full none) kept.1

pub returns-clause-opens : goal.returns-clause-opens
returns-clause-opens c = λ read yes.
    let made = c.open.ensures.opened c.in-Some-place.number (c.in-Ok-open.is ∙ ap Ok c.in-Some-place.is) in
    let end : ℕ → State
    = λ socket. responder_state (address_in c.args.self.now.network c.args.self.now.host socket) (id_of made.guest) c.in-Some.peer c.in-Some.peer_id
    c.args.self.now.settings.window c.args.self.now.settings.backlog in
    let socket : c.packet.inside.target.socket ≡ c.args.packet.now.target.socket = search rules in
    let stands : StandsFor made.guest.connection.conversation.endpoint (end c.args.packet.now.target.socket)
    = subst (λ (n : ℕ). StandsFor made.guest.connection.conversation.endpoint (end n)) socket made.answering.tells.stands in
    let ours : is_ours_at (end c.args.packet.now.target.socket).ends c.args.packet.now ≡ true
    = of_opened c.args.self.now.network c.args.self.now.host c.args.packet.now c.in-Some.peer c.in-Some.peer_id (id_of made.guest)
    c.args.self.now.settings.window c.args.self.now.settings.backlog c.requires.here (search rules) in
    let heard : c.hear.result ≡ true
    = is_true c.hear.result (λ no. let not = c.hear.ensures.foreign no made.guest (end c.args.packet.now.target.socket) made.there stands in absurd (cc)) in
    subst (λ (q : StrayQueue). Opens c.args.now c.args.via c.args.bytes.now c.args.packet.now (whole_of c.args.self.now) c.hear.new.self.register q (places_of c.hear.new.self))
    (sym (c.hear.ensures.strays ∙ c.open.ensures.strays)) (opened c.in-Some-place.number c.in-Some.peer_id c.in-Some.peer c.in-Ok.programs.items (search rules)
    (subst (λ (n : ℕ). programs_at c.args.self.now.services.programs n ≡ Some c.in-Ok.programs.items) socket
    (served_by _ c.at.ensures c.in-Some-at.is (search rules)))
    (subst (λ (r : Register). Seats c.args.now c.args.via (whole_of c.args.self.now) c.args.packet.now.target.socket c.in-Some.peer c.in-Some.peer_id
    c.in-Ok.programs.items c.in-Some-place.number r (places_of c.open.new.self)) (sym c.hear.ensures.register)
    (subst (λ (n : ℕ). Seats c.args.now c.args.via (whole_of c.args.self.now) n c.in-Some.peer c.in-Some.peer_id c.in-Ok.programs.items
    c.in-Some-place.number c.open.new.self.register (places_of c.open.new.self)) socket made))
    ((c.hear.ensures.turn heard).1 c.args.bytes.now read))
