use Rattle.std.proofs.Common.{◌≡◌, ℕ, ◌+◌, List, true, Some, length, map, refl, sym, ◌∙◌, ap, subst}
use Rattle.std.specs.Option.{option_to_list}
use Rattle.std.specs.Prelude.{slice_get, slice_set}
use Rattle.std.proofs.lemmas.List.{set-append_left}
use Rattle.std.proofs.lemmas.Option.{slice_get_within}
use Rattle.item_world.proofs.Fronts.{front_get}
use Rattle.item_world.proofs.Networks.{delivers_it, read_from}
use Rattle.item_world.proofs.network.Network.deliver.Goals as goal
use Rattle.item_world.specs.Network.{IsNetwork}
use Rattle.item_world.specs.NetworkModel.{NetworkModel}
use Rattle.item_world.specs.World.{emitted, with_packets}
use Rattle.item_world.specs.declared.emitted.Emitted.{Emitted}

pub returns-clause-delivers : goal.returns-clause-delivers
returns-clause-delivers c w x s now is fits more =
    let n : NetworkModel = record { packets = c.self.inside.packets.items; taken = c.self.inside.taken; rested = c.self.inside.rested } in
    let h : IsNetwork n w = subst (λ (m : NetworkModel). IsNetwork m w) (sym c.self.view_is) now in
    let k = c.args.number in
    let side = c.args.side in
    let at = c.moment.result in
    let bs : List (List ℕ) = option_to_list c.args.reply in
    let sent : List Emitted = map (emitted side at) bs in
    let all : List Emitted = c.append.new.before.items in
    let e : Emitted = record x { delivered = true } in
    let appended : all ≡ with_packets n.packets side at bs = c.in_ok-append.ensures.items in
    let there : slice_get n.packets k ≡ Some x = ap (λ (l : List Emitted). slice_get l k) h.bag ∙ is in
    let same = read_from all k x c.index_mut.result.now (ap (λ (l : List Emitted). slice_get l k) appended ∙ front_get n.packets sent k x there) c.index_mut.ensures.value in
    let counts = c.add.ensures (length s.taken) fits (ap (λ (m : ℕ). m + c.args.took) (h.taken side) ∙ more) in
    delivers_it n (record n { packets = slice_set all k (record c.index_mut.result.now { delivered = true }); taken = c.add.new.self }) w side k x s c.args.took at c.add.new.self bs h is more counts c.moment.ensures
    (ap (λ (y : Emitted). slice_set all k (record y { delivered = true })) same
    ∙ (ap (λ (l : List Emitted). slice_set l k e) appended
    ∙ (set-append_left n.packets sent k e (slice_get_within n.packets k x there)
    ∙ ap (λ (l : List Emitted). with_packets (slice_set l k e) side at bs) h.bag))) refl refl
