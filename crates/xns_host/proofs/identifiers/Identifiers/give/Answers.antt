use Rattle.std.proofs.Common.{rules, ◌∙◌, ap, sym, refl, ℕ, ◌+◌, ◌<◌, ◌++◌, length, take, drop, position, slice_get, slice_set, Some}
use Rattle.std.proofs.lemmas.List.{length-set}
use Rattle.std.proofs.lemmas.Option.{slice_get_read}
use Rattle.xns_host.specs.Identifiers.{Ids, is_free}
use Rattle.xns_host.proofs.Ordered.{permuted, place_within}
use Rattle.xns_host.proofs.identifiers.Identifiers.give.Goals as goal

pub invariant_of-self : goal.invariant_of-self
invariant_of-self c = record {
  order = permuted c.self.inside.ahead.items c.rotate_left.new.self.items c.rotate_left.ensures.permutation c.self.invariant.order;
  room = length-set c.self.inside.owners.items c.from.result (Some c.args.number) ∙ c.self.invariant.room;
}

pub returns-clause-gives : goal.returns-clause-gives
returns-clause-gives c =
    let within : c.args.place < length c.self.inside.ahead.items =
    place_within c.self.inside.ahead.items c.self.inside.owners.items c.args.place (ap (λ (s : Ids). position (is_free s.owners) s.ahead) c.self.view_is ∙ c.requires) in
    record {
      there = ap (λ (s : Ids). slice_get s.ahead c.args.place) (sym c.self.view_is)
          ∙ slice_get_read c.self.inside.ahead.items (length c.self.inside.ahead.items) c.args.place c.index-id.result.now refl within (search rules);
      turned = c.rotate_left.ensures.items ∙ ap (λ (s : Ids). drop (c.args.place + 1) s.ahead ++ take (c.args.place + 1) s.ahead) c.self.view_is;
      owned = ap (λ (s : Ids). slice_set s.owners c.from.result (Some c.args.number)) c.self.view_is ∙ ap (λ (i : ℕ). slice_set c.args.self.now.owners i (Some c.args.number)) c.from.ensures;
    }

pub returns-clause-order : goal.returns-clause-order
returns-clause-order c = permuted c.self.inside.ahead.items c.rotate_left.new.self.items c.rotate_left.ensures.permutation c.self.invariant.order
