use Rattle.std.proofs.Common.{◌≡◌, ◌++◌, [], ◌∷◌, List, ℕ, map, sym, ◌∙◌, ap, append-nil, append_assoc, arith}
use Rattle.std.proofs.IntoIterSteps.{All-taken}
use Rattle.std.proofs.lemmas.List.{map-append}
use Rattle.std.specs.Vec.Iter.{into_iter_items}
use Rattle.item_world.specs.declared.emitted.Emitted.{Emitted}
use Rattle.item_world.specs.declared.moment.Moment.{Moment}
use Rattle.item_world.specs.declared.side.Side.{Side}
use Rattle.item_world.specs.World.{emitted, with_packets}
use Rattle.item_world.proofs.network.append_all.Goals as goal

joined_more : (bag : List Emitted) (side : Side) (at : Moment) (bs : List (List ℕ)) (b : List ℕ) → with_packets bag side at (bs ++ b ∷ []) ≡ with_packets bag side at bs ++ emitted side at b ∷ []
joined_more bag side at bs b = ap (λ (l : List Emitted). bag ++ l) (map-append (emitted side at) bs (b ∷ [])) ∙ sym (append_assoc bag (map (emitted side at) bs) (emitted side at b ∷ []))

pub loop-bytes-init : goal.loop-bytes-init
loop-bytes-init c = record {
  joined = sym (append-nil c.args.before.now.items);
  room = omega (arith, c.requires, c.into_iter-bytes-iterator.ensures.into_iter_gives.1);
}

pub loop-bytes-preserved : goal.loop-bytes-preserved
loop-bytes-preserved c =
    let b : List ℕ = c.in-Some.bytes in
    record {
      joined =
          c.push_reserved.ensures.items
          ∙ (ap (λ (x : Emitted). c.loop-bytes.before.items ++ x ∷ []) c.new.ensures
          ∙ (ap (λ (l : List Emitted). l ++ emitted c.args.side c.args.at b ∷ []) c.loop-bytes.invariant.joined
          ∙ sym (joined_more c.args.before.now.items c.args.side c.args.at c.loop-bytes.yielded b)));
      room = omega (arith, c.loop-bytes.invariant.room, c.in-Some.ensures.steps.1, c.push_reserved.ensures.len, c.push_reserved.ensures.capacity);
    }

pub returns : goal.returns
returns c =
    let given : into_iter_items c.into_iter-bytes-iterator.result ≡ c.args.packets.items = c.into_iter-bytes-iterator.ensures.into_iter_gives.0 in
    let all : c.loop-bytes.yielded ≡ c.args.packets.items = All-taken c.into_iter-bytes-iterator.result c.loop-bytes.yielded (c.next.new.self, (c.loop-bytes.bytes-iterator, c.loop-bytes.yielded_by, c.in-None.ensures.steps)) ∙ given in
    c.loop-bytes.invariant.joined ∙ ap (with_packets c.args.before.now.items c.args.side c.args.at) all
