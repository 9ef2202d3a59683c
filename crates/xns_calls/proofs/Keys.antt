-- One key serves both directions of a connection.
use Rattle.std.proofs.Common.{◌≡◌, ◌∙◌, ap, sym, refl, rules, ℕ, ◌*◌, ◌^◌, Bool, true, false, cond, ◌==◌, ◌&&◌, ◌||◌}
use Rattle.std.proofs.Math.Bool.{and-true}
use Rattle.std.proofs.lemmas.Map.Lookups.{exact_unsigned}
use Rattle.std.specs.Cmp.{Equal-is, IsTotalOrder, both_ways, tied_itself, tied_then}
use Rattle.std.specs.Cmp.Rules.{comparing}
use Rattle.std.specs.Int.Bits.{bit_xor, xor_assoc, xor_self, xor_zero_l, xor_zero_r}
use Rattle.std.specs.Ordering.{is_eq, is_gt, nat_cmp, ordering_reverse, ordering_then}
use Rattle.std.specs.declared.cmp.Ordering.{Ordering}
use Rattle.std.specs.declared.cmp.Ordering.TheVariants.{Less, Equal, Greater}
use Rattle.std.proofs.lemmas.Bool.{and_parts, or_left, or_right}
use Rattle.std.proofs.lemmas.Cmp.{nat_cmp_total}
use Rattle.xns_dump.proofs.Numbered.{cmp_eq}
use Rattle.xns_dump.proofs.Places.{then_equal}
use Rattle.xns_dump.specs.Flows.{is_flow, is_place}
use Rattle.xns_dump.specs.Flows.Numbers.{flow_cmp}
use Rattle.xns_dump.specs.Flows.Places.{IsPlace, host_and_socket, place_cmp}
use Rattle.xns_dump.specs.Laws.{FlowsAreToldApart, PlacesAreOrderedByNumbers}
use Rattle.xns_dump.specs.declared.flows.flow.Flow.{Flow}
use Rattle.xns_dump.specs.declared.flows.place.Place.{Place}
use Rattle.xns_calls.specs.Capture.{flow_behind}
use Rattle.xns_calls.specs.Keys.{IsFlow, connection_key, end_key, key_cmp, key_of_ends}
use Rattle.xns_calls.specs.Laws.{OneKeyServesBothDirections}
use Rattle.xns_calls.specs.declared.connection_key.ConnectionKey.{ConnectionKey}

places_total : IsTotalOrder place_cmp
places_total = search (comparing, rules)

tied_key : (key : ConnectionKey) → key_cmp key key ≡ Equal
tied_key key =
    ap (λ r. ordering_then r (ordering_then (nat_cmp key.lesser key.lesser) (ordering_then first second))) (tied_itself nat_cmp_total key.mixed)
    ∙ ap (λ r. ordering_then r (ordering_then first second)) (tied_itself nat_cmp_total key.lesser)
    ∙ ap (λ r. ordering_then r second) (tied_itself nat_cmp_total key.lesser_identifier)
    ∙ tied_itself nat_cmp_total key.greater_identifier
  where
    first : Ordering
    first = nat_cmp key.lesser_identifier key.lesser_identifier

    second : Ordering
    second = nat_cmp key.greater_identifier key.greater_identifier

-- ---- a flow, or the one behind it: that from the lesser end

turned_by : Bool → Flow → Flow
turned_by true flow = flow_behind flow
turned_by false flow = flow

ordered : Flow → Flow
ordered flow = turned_by (is_gt (place_cmp flow.source flow.target)) flow

-- a flow whose ends are in no order is the one behind it
even_ends : FlowsAreToldApart → (flow : Flow) → place_cmp flow.source flow.target ≡ Equal → flow ≡ flow_behind flow
even_ends law flow even =
    let turned : place_cmp flow.target flow.source ≡ Equal = places_total.antisymm flow.target flow.source ∙ ap ordering_reverse even in
    let tied : flow_cmp flow (flow_behind flow) ≡ Equal = ap (λ r. ordering_then r (place_cmp flow.target flow.source)) even ∙ turned in
    law.same flow (flow_behind flow) (sym (law.order flow (flow_behind flow)) ∙ ap is_eq tied)

ordered_behind : FlowsAreToldApart → (flow : Flow) → ordered (flow_behind flow) ≡ ordered flow
unfolding ordered turned_by
ordered_behind law flow =
    ap (λ r. turned_by (is_gt r) (flow_behind flow)) (places_total.antisymm flow.target flow.source) ∙ by_order (place_cmp flow.source flow.target) refl
  where
    by_order : (r : Ordering) → place_cmp flow.source flow.target ≡ r → turned_by (is_gt (ordering_reverse r)) (flow_behind flow) ≡ turned_by (is_gt r) flow
    by_order Less e = refl
    by_order Equal e = sym (even_ends law flow e)
    by_order Greater e = refl

-- ---- flows with one key

pub same_flow : FlowsAreToldApart → (a b : Flow) → a ≡ b → is_flow a b ≡ true
same_flow law a b same =
    let tied : flow_cmp b b ≡ Equal = ap (λ r. ordering_then r (place_cmp b.target b.target)) (tied_itself places_total b.source) ∙ tied_itself places_total b.target in
    ap (λ f. is_flow f b) same ∙ sym (law.order b b) ∙ ap is_eq tied

either : (p q : Bool) (A : Type 0) → (p ≡ true → A) → (q ≡ true → A) → (p || q) ≡ true → A
either true q A f g e = f refl
either false q A f g e = g e

-- turned or not, one flow is one of the two
turned_one : FlowsAreToldApart → (p q : Bool) (a b : Flow) → turned_by p a ≡ turned_by q b → (is_flow a b || is_flow a (flow_behind b)) ≡ true
unfolding turned_by
turned_one law true true a b e = or_left (is_flow a b) (is_flow a (flow_behind b)) (same_flow law a b (ap flow_behind e))
turned_one law true false a b e = or_right (is_flow a b) (is_flow a (flow_behind b)) (same_flow law a (flow_behind b) (ap flow_behind e))
turned_one law false true a b e = or_right (is_flow a b) (is_flow a (flow_behind b)) (same_flow law a (flow_behind b) e)
turned_one law false false a b e = or_left (is_flow a b) (is_flow a (flow_behind b)) (same_flow law a b e)

ordered_told : FlowsAreToldApart → (a b : Flow) → is_flow (ordered a) (ordered b) ≡ (is_flow a b || is_flow a (flow_behind b))
unfolding ordered
ordered_told law a b = both_ways (is_flow (ordered a) (ordered b)) (is_flow a b || is_flow a (flow_behind b))
    (λ e. turned_one law (is_gt (place_cmp a.source a.target)) (is_gt (place_cmp b.source b.target)) a b (law.same (ordered a) (ordered b) e))
    (either (is_flow a b) (is_flow a (flow_behind b)) (is_flow (ordered a) (ordered b) ≡ true)
    (λ e. same_flow law (ordered a) (ordered b) (ap ordered (law.same a b e)))
    (λ e. same_flow law (ordered a) (ordered b) (ap ordered (law.same a (flow_behind b) e) ∙ ordered_behind law b)))

-- ---- keys are ordered as flows

key_in : Flow → ConnectionKey
key_in flow = key_of_ends (end_key flow.source) (end_key flow.target)

turned_key : (p : Bool) (flow : Flow) → cond p (key_in (flow_behind flow)) (key_in flow) ≡ key_in (turned_by p flow)
unfolding turned_by
turned_key true flow = refl
turned_key false flow = refl

ordered_key : PlacesAreOrderedByNumbers → (flow : Flow) → IsFlow flow → connection_key flow ≡ key_in (ordered flow)
unfolding ordered key_in
ordered_key order flow formed =
    ap (λ r. cond (is_gt r) (key_in (flow_behind flow)) (key_in flow)) (order flow.source flow.target formed.source formed.target)
    ∙ turned_key (is_gt (place_cmp flow.source flow.target)) flow

turned_formed : (p : Bool) (flow : Flow) → IsFlow flow → IsFlow (turned_by p flow)
unfolding turned_by
turned_formed true flow formed = record { source = formed.target; target = formed.source }
turned_formed false flow formed = formed

end_order : Place → Place → Ordering
end_order a b = ordering_then (nat_cmp (host_and_socket a) (host_and_socket b)) (nat_cmp a.identifier b.identifier)

ends_order : Flow → Flow → Ordering
ends_order a b = ordering_then (end_order a.source b.source) (end_order a.target b.target)

ends_ordered : PlacesAreOrderedByNumbers → (a b : Flow) → IsFlow a → IsFlow b → ends_order a b ≡ flow_cmp a b
unfolding end_order ends_order
ends_ordered law a b formed formed_too =
    ap (λ r. ordering_then r (end_order a.target b.target)) (law a.source b.source formed.source formed_too.source)
    ∙ ap (λ r. ordering_then (place_cmp a.source b.source) r) (law a.target b.target formed.target formed_too.target)

-- the mixed number tells one end's host and socket by the other's and by what the identifiers are mixed into
unmixed : (a b c : ℕ) → bit_xor a (bit_xor (bit_xor (bit_xor a b) c) c) ≡ b
unmixed a b c =
    ap (bit_xor a) (xor_assoc (bit_xor a b) c c ∙ ap (bit_xor (bit_xor a b)) (xor_self c) ∙ xor_zero_r (bit_xor a b))
    ∙ sym (xor_assoc a a b) ∙ ap (λ n. bit_xor n b) (xor_self a) ∙ xor_zero_l b

all_tied : (m l i j : Ordering) → ordering_then m (ordering_then l (ordering_then i j)) ≡ Equal → (m ≡ Equal) × (l ≡ Equal) × (i ≡ Equal) × (j ≡ Equal)
all_tied Less l i j e = (cc)
all_tied Greater l i j e = (cc)
all_tied Equal Less i j e = (cc)
all_tied Equal Greater i j e = (cc)
all_tied Equal Equal Less j e = (cc)
all_tied Equal Equal Greater j e = (cc)
all_tied Equal Equal Equal j e = (refl, refl, refl, e)

same_number : (a b : ℕ) → a ≡ b → nat_cmp a b ≡ Equal
same_number a b e = ap (λ n. nat_cmp n b) e ∙ tied_itself nat_cmp_total b

-- the ends of flows whose keys are equal are in no order
ends_tied : (a b : Flow) → key_cmp (key_in a) (key_in b) ≡ Equal → ends_order a b ≡ Equal
unfolding end_order ends_order key_in
ends_tied a b e =
    ap (λ r. ordering_then (ordering_then r (nat_cmp a.source.identifier b.source.identifier)) target) tied.1
    ∙ ap (λ r. ordering_then r target) tied.2
    ∙ ap (λ r. ordering_then r (nat_cmp a.target.identifier b.target.identifier)) (same_number (host_and_socket a.target) (host_and_socket b.target) other)
    ∙ tied.3
  where
    target : Ordering
    target = end_order a.target b.target

    ids : Flow → ℕ
    ids f = bit_xor f.source.identifier f.target.identifier * 2 ^ 48

    tied : (nat_cmp (key_in a).mixed (key_in b).mixed ≡ Equal) × (nat_cmp (host_and_socket a.source) (host_and_socket b.source) ≡ Equal)
        × (nat_cmp a.source.identifier b.source.identifier ≡ Equal) × (nat_cmp a.target.identifier b.target.identifier ≡ Equal)
    tied = all_tied (nat_cmp (key_in a).mixed (key_in b).mixed) (nat_cmp (host_and_socket a.source) (host_and_socket b.source))
        (nat_cmp a.source.identifier b.source.identifier) (nat_cmp a.target.identifier b.target.identifier) e

    lesser : host_and_socket a.source ≡ host_and_socket b.source
    lesser = exact_unsigned _ _ tied.1

    same_ids : ids a ≡ ids b
    same_ids =
        ap (λ n. bit_xor n a.target.identifier * 2 ^ 48) (exact_unsigned _ _ tied.2)
        ∙ ap (λ n. bit_xor b.source.identifier n * 2 ^ 48) (exact_unsigned _ _ tied.3)

    other : host_and_socket a.target ≡ host_and_socket b.target
    other =
        sym (unmixed (host_and_socket a.source) (host_and_socket a.target) (ids a))
        ∙ ap (λ n. bit_xor n (bit_xor (key_in a).mixed (ids a))) lesser
        ∙ ap (λ n. bit_xor (host_and_socket b.source) (bit_xor n (ids a))) (exact_unsigned _ _ tied.0)
        ∙ ap (λ n. bit_xor (host_and_socket b.source) (bit_xor (key_in b).mixed n)) same_ids
        ∙ unmixed (host_and_socket b.source) (host_and_socket b.target) (ids b)

keys_told : FlowsAreToldApart → PlacesAreOrderedByNumbers → (a b : Flow) → IsFlow a → IsFlow b → is_eq (key_cmp (key_in a) (key_in b)) ≡ is_flow a b
keys_told law order a b formed formed_too = both_ways (is_eq (key_cmp (key_in a) (key_in b))) (is_flow a b)
    (λ e. sym (law.order a b) ∙ ap is_eq (sym (ends_ordered order a b formed formed_too) ∙ ends_tied a b ((Equal-is (key_cmp (key_in a) (key_in b))).0 e)))
    (λ e. ap (λ f. is_eq (key_cmp (key_in f) (key_in b))) (law.same a b e) ∙ ap is_eq (tied_key (key_in b)))

pub one_key : FlowsAreToldApart → PlacesAreOrderedByNumbers → OneKeyServesBothDirections
unfolding ordered
one_key law order a b formed formed_too =
    ap (λ k. is_eq (key_cmp k (connection_key b))) (ordered_key order a formed)
    ∙ ap (λ k. is_eq (key_cmp (key_in (ordered a)) k)) (ordered_key order b formed_too)
    ∙ keys_told law order (ordered a) (ordered b)
    (turned_formed (is_gt (place_cmp a.source a.target)) a formed) (turned_formed (is_gt (place_cmp b.source b.target)) b formed_too)
    ∙ ordered_told law a b

-- ---- an end is told by its numbers

place_told : FlowsAreToldApart → (a b : Place) → is_eq (place_cmp a b) ≡ is_place a b
place_told law a b =
    let from_a : Flow = record { source = a; target = a } in
    let from_b : Flow = record { source = b; target = a } in
    let itself : is_place a a ≡ true = (and_parts (is_place a a) (is_place a a) (same_flow law from_a from_a refl)).0 in
    sym (ap (λ r. is_eq (ordering_then (place_cmp a b) r)) (tied_itself places_total a) ∙ ap is_eq (then_equal (place_cmp a b)))
    ∙ law.order from_a from_b
    ∙ ap (λ p. is_place a b && p) itself ∙ and-true (is_place a b)

-- two ends are one where their numbers are equal
pub end_told : FlowsAreToldApart → PlacesAreOrderedByNumbers → (a b : Place) → IsPlace a → IsPlace b
    → ((host_and_socket a == host_and_socket b) && (a.identifier == b.identifier)) ≡ is_place a b
end_told law order a b formed formed_too =
    sym (sym (tied_then (nat_cmp (host_and_socket a) (host_and_socket b)) (nat_cmp a.identifier b.identifier))
    ∙ ap (λ p. p && is_eq (nat_cmp a.identifier b.identifier)) (cmp_eq (host_and_socket a) (host_and_socket b))
    ∙ ap (λ p. (host_and_socket a == host_and_socket b) && p) (cmp_eq a.identifier b.identifier))
    ∙ ap is_eq (order a b formed formed_too) ∙ place_told law a b
