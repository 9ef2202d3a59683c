-- A server's end that settles comes to where no step applies, and stays within its bounds, whatever packets come.
use Rattle.std.proofs.Common.{◌≡◌, ℕ, ◌+◌, ◌≤◌, Bool, true, false, length, Option, Some, None, refl, sym, subst, arith, zero, suc, List, [], ◌∷◌, ◌++◌, drop, ◌∙◌, append-nil, length-append, inl, inr, fold, Result, Ok, Err, ap}
use Rattle.std.specs.Prelude.{All, nat_lt, if◌then◌else◌, is_ok}
use Rattle.std.proofs.lemmas.List.Elements.{All-take, All-head, All-tail, All-weaker}
use Rattle.courier_calls.specs.Calls.{Serving}
use Rattle.courier_messages.specs.Laws.{IsSendableItem}
use Rattle.courier_calls.specs.Server.{server_items, answer_items}
use Rattle.xns_spp.specs.Item.{IsItem, IsShortItem}
use Rattle.xns_spp.specs.Sending.{is_full, waiting_count, after_send, after_take, after_flush, send_answer}
use Rattle.xns_spp.specs.State.{State, IsState}
use Rattle.xns_spp.specs.declared.item.Item.{Item}
use Rattle.xns_world.proofs.CallCarries.{at_place, none_past, not_refused, room_of, room_most, send_room, take_waiting, waiting_item}
use Rattle.xns_world.proofs.Stepping.{by_end, steps_are, GoesOn, IfGoesOn, steps_keep, steps_end}
use Rattle.xns_world.specs.CallLaws.{ServerLaws}
use Rattle.xns_world.specs.ServeEnd.{next_item_out}
use Rattle.xns_world.specs.Settling.{handed_up_by, most_steps, serve_step, stepped_out, after_steps}
use Rattle.courier_messages.specs.Conversation.{conversation, Phase, ending}
use Rattle.courier_messages.specs.Bounds.{bytes_in}
use Rattle.courier_messages.specs.Called.{calls_of, all_calls, server_ending}
use Rattle.courier_calls.specs.Laws.{AnItemBringsAtMostOneAnswer, BringsAtMostOne, next_answer}
use Rattle.xns_world.specs.ServePromises.{IsOutShort}
use Rattle.xns_idp.specs.Packet.{AreBytes}
use Rattle.courier_messages.specs.declared.fault.SessionFault.{SessionFault}
use Rattle.courier_messages.specs.declared.fault.SessionFault.TheVariants.{BadReply}
use Rattle.xns_spp.specs.Growth.{Begins}
use Rattle.xns_spp.specs.Receiving.{after_receive}
use Rattle.xns_spp.specs.Fronts.{front_of}
use Rattle.item_world.specs.EndLaws.{EndLaws}
use Rattle.xns_world.specs.Serve.{Served, serve_settles, serve_receives, serve_hears}

pub record Keeps (v : State) : Type 0 where
  pub fits : IsState v
  pub items : All IsItem v.taken

-- how many steps are left at most
pub left_of : State → ℕ
left_of v = room_of v + waiting_count v

sends_go : {S : Type 0} (serving : Serving S) (s : S) (v : State) (x : Item) → ServerLaws serving s → Keeps v → next_item_out serving s v ≡ Some x → is_full v ≡ false → GoesOn Keeps left_of v (after_send v x)
unfolding left_of
sends_go serving s v x a k is full =
    let piece : IsSendableItem x = at_place (server_items serving s (handed_up_by v)) (length v.accepted) x is (a.pieces.server (handed_up_by v) (All-take IsItem v.handed v.taken k.items)) in
    let ok = not_refused a.ends v x piece full in
    let falls = send_room a.ends v x k.fits full ok in
    record {
      keeps = record { fits = a.ends.bounds.send v x k.fits piece.short.fits; items = subst (All IsItem) (sym (a.ends.hears.send v x).taken) k.items };
      fewer = omega (arith, falls.0, falls.1);
    }

takes_go : {S : Type 0} (serving : Serving S) (s : S) (v : State) → ServerLaws serving s → Keeps v → nat_lt 0 (waiting_count v) ≡ true → GoesOn Keeps left_of v (after_take v)
unfolding left_of
takes_go serving s v a k is =
    let e = waiting_item a.ends v is in
    let falls = take_waiting a.ends v e.0 e.1 in
    record {
      keeps = record { fits = a.ends.bounds.take v k.fits; items = subst (All IsItem) (sym (a.ends.hears.take v).taken) k.items };
      fewer = omega (arith, falls.0, falls.1);
    }

pub step_goes : {S : Type 0} (serving : Serving S) (s : S) (v : State) → ServerLaws serving s → Keeps v → IfGoesOn Keeps left_of v (serve_step serving s v)
unfolding IfGoesOn
step_goes serving s v a k = by_end v (next_item_out serving s v) (λ o. IfGoesOn Keeps left_of v o) (λ x is full. sends_go serving s v x a k is full) (λ none is. takes_go serving s v a k is) tt

pub settled : {S : Type 0} (serving : Serving S) (s : S) (v : State) → ServerLaws serving s → Keeps v → serve_step serving s (stepped_out (serve_step serving s) v) ≡ None
unfolding left_of
settled serving s v a k =
    let most : left_of v ≤ most_steps = omega (arith, steps_are, k.fits.bounds.window_holds, k.fits.ends.window_most, k.fits.ends.backlog_most, room_most v) in
    steps_end (serve_step serving s) Keeps left_of (λ u h. step_goes serving s u a h) v k most

-- ---- the bytes behind a place

bytes_behind : (k : ℕ) (xs : List Item) → length (bytes_in (drop k xs)) ≤ length (bytes_in xs)
bytes_behind zero xs = omega arith
bytes_behind (suc k) [] = omega arith
bytes_behind (suc k) (x ∷ xs) = omega (arith, bytes_behind k xs, length-append x.body (bytes_in xs))

bytes_further : (k : ℕ) (xs : List Item) → length (bytes_in (drop (suc k) xs)) ≤ length (bytes_in (drop k xs))
bytes_further zero xs = bytes_behind 1 xs
bytes_further (suc k) [] = omega arith
bytes_further (suc k) (x ∷ xs) = bytes_further k xs

-- behind all of the first items stand others alone
bytes_past : (k : ℕ) (xs ys : List Item) → length xs ≤ k → length (bytes_in (drop k (xs ++ ys))) ≤ length (bytes_in ys)
bytes_past k [] ys h = bytes_behind k ys
bytes_past zero (x ∷ xs) ys h = absurd (omega (arith, h))
bytes_past (suc k) (x ∷ xs) ys h = bytes_past k xs ys (omega (arith, h))

-- ---- an end that accepts and hands up nothing

pub out_same : {S : Type 0} (serving : Serving S) (s : S) (v u : State) → u.accepted ≡ v.accepted → handed_up_by u ≡ handed_up_by v → IsOutShort serving s v → IsOutShort serving s u
out_same serving s v u accepted handed h =
    subst (λ (l : List Item). length (bytes_in (drop (length l) (server_items serving s (handed_up_by u)))) ≤ 131072) (sym accepted)
    (subst (λ (l : List Item). length (bytes_in (drop (length v.accepted) (server_items serving s l))) ≤ 131072) (sym handed) h)

-- ---- a new end has the versions out

versions_short : {S : Type 0} (serving : Serving S) (s : S) → length (bytes_in (server_items serving s [])) ≤ 131072
unfolding conversation calls_of answer_items
versions_short serving s = omega arith

pub out_first : {S : Type 0} (serving : Serving S) (s : S) (v : State) → v.accepted ≡ [] → handed_up_by v ≡ [] → IsOutShort serving s v
out_first serving s v accepted handed =
    subst (λ (l : List Item). length (bytes_in (drop (length l) (server_items serving s (handed_up_by v)))) ≤ 131072) (sym accepted)
    (subst (λ (l : List Item). length (bytes_in (server_items serving s l)) ≤ 131072) (sym handed) (versions_short serving s))

-- ---- one step

abbrev pub IfOut : {S : Type 0} → Serving S → S → Option State → Type 0
IfOut serving s None = Unit {0}
IfOut serving s (Some v) = IsOutShort serving s v

-- one item more is handed up, where none is out
out_after : {S : Type 0} (serving : Serving S) (s : S) (F : List Item) (x : Item) (k : ℕ) → length (server_items serving s F) ≤ k → BringsAtMostOne serving s F (F ++ x ∷ [])
    → length (bytes_in (drop k (server_items serving s (F ++ x ∷ [])))) ≤ 131072
out_after serving s F x k past (inl none) =
    let more : server_items serving s (F ++ x ∷ []) ≡ server_items serving s F ++ [] = none.out ∙ sym (append-nil (server_items serving s F)) in
    subst (λ (l : List Item). length (bytes_in (drop k l)) ≤ 131072) (sym more) (omega (arith, bytes_past k (server_items serving s F) [] past))
out_after serving s F x k past (inr one) =
    let answer = next_answer serving s F one.transaction one.call in
    subst (λ (l : List Item). length (bytes_in (drop k l)) ≤ 131072) (sym one.out) (omega (arith, bytes_past k (server_items serving s F) answer past, one.size))

sends_out : {S : Type 0} (serving : Serving S) (s : S) (v : State) (x : Item) → ServerLaws serving s → Keeps v → next_item_out serving s v ≡ Some x → is_full v ≡ false → IsOutShort serving s v → IsOutShort serving s (after_send v x)
sends_out serving s v x a k is full h =
    let out = server_items serving s (handed_up_by v) in
    let piece : IsSendableItem x = at_place out (length v.accepted) x is (a.pieces.server (handed_up_by v) (All-take IsItem v.handed v.taken k.items)) in
    let one = a.ends.accepts.accepted v x (not_refused a.ends v x piece full) in
    let longer : length (v.accepted ++ x ∷ []) ≡ suc (length v.accepted) = omega (arith, length-append v.accepted (x ∷ [])) in
    let fewer : length (bytes_in (drop (suc (length v.accepted)) out)) ≤ 131072 = omega (arith, bytes_further (length v.accepted) out, h) in
    subst (λ (u : State). IsOutShort serving s u) (sym one) (subst (λ (n : ℕ). length (bytes_in (drop n out)) ≤ 131072) (sym longer) fewer)

takes_out : {S : Type 0} (serving : Serving S) (s : S) (v : State) → ServerLaws serving s → AnItemBringsAtMostOneAnswer serving s → Keeps v → next_item_out serving s v ≡ None → nat_lt 0 (waiting_count v) ≡ true → IsOutShort serving s (after_take v)
takes_out serving s v a brings k none waits =
    let e = waiting_item a.ends v waits in
    let one = a.ends.hands_up.some v e.0 e.1 in
    let up = a.ends.hands_up.more v e.0 e.1 in
    let items : All IsItem (handed_up_by v ++ e.0 ∷ []) = subst (All IsItem) up (All-take IsItem (v.handed + 1) v.taken k.items) in
    let there = out_after serving s (handed_up_by v) e.0 (length v.accepted) (none_past (server_items serving s (handed_up_by v)) (length v.accepted) none) (brings (handed_up_by v) e.0 items) in
    subst (λ (u : State). IsOutShort serving s u) (sym one)
    (subst (λ (l : List Item). length (bytes_in (drop (length v.accepted) (server_items serving s l))) ≤ 131072) (sym up) there)

pub step_out : {S : Type 0} (serving : Serving S) (s : S) (v : State) → ServerLaws serving s → AnItemBringsAtMostOneAnswer serving s → Keeps v → IsOutShort serving s v → IfOut serving s (serve_step serving s v)
step_out serving s v a brings k h =
    by_end v (next_item_out serving s v) (λ o. IfOut serving s o) (λ x is full. sends_out serving s v x a k is full h) (λ none waits. takes_out serving s v a brings k none waits) tt

keeps_of : (v : State) → IsState v → Keeps v
keeps_of v fits = record { fits = fits; items = All-weaker IsShortItem IsItem (λ x i. i.fits) v.taken fits.taken_items }

pub handed_items : (v : State) → IsState v → All IsItem (handed_up_by v)
handed_items v fits = let k = keeps_of v fits in All-take IsItem v.handed v.taken k.items

-- an end and what its session has put out are within their bounds
pub record Within {S : Type 0} (serving : Serving S) (s : S) (v : State) : Type 0 where
  pub fits : IsState v
  pub out : IsOutShort serving s v

within_goes : {S : Type 0} (serving : Serving S) (s : S) (v : State) → ServerLaws serving s → AnItemBringsAtMostOneAnswer serving s → Within serving s v → IfGoesOn (Within serving s) left_of v (serve_step serving s v)
unfolding IfGoesOn
within_goes serving s v a brings h = by_step (serve_step serving s v) (step_goes serving s v a (keeps_of v h.fits)) (step_out serving s v a brings (keeps_of v h.fits) h.out) where
  by_step : (o : Option State) → IfGoesOn Keeps left_of v o → IfOut serving s o → IfGoesOn (Within serving s) left_of v o
  by_step None goes out = tt
  by_step (Some u) goes out = record { keeps = record { fits = goes.keeps.fits; out = out }; fewer = goes.fewer }

pub steps_within : {S : Type 0} (serving : Serving S) (s : S) (v : State) (n : ℕ) → ServerLaws serving s → AnItemBringsAtMostOneAnswer serving s → Within serving s v → Within serving s (after_steps (serve_step serving s) v n)
steps_within serving s v n a brings h = steps_keep (serve_step serving s) (Within serving s) left_of (λ u k. within_goes serving s u a brings k) v n h

pub settles_within : {S : Type 0} (serving : Serving S) (s : S) (w : Served) → ServerLaws serving s → AnItemBringsAtMostOneAnswer serving s → Within serving s w.end → Within serving s (serve_settles serving s w).end
settles_within serving s w a brings h =
    let v = stepped_out (serve_step serving s) w.end in
    let k = steps_within serving s w.end most_steps a brings h in
    let on = a.network.stays.flush v in
    record {
      fits = a.ends.bounds.flush v k.fits;
      out = out_same serving s v (after_flush v) on.accepted (a.network.stays.handed v (after_flush v) on k.fits.bounds.handed_taken) k.out;
    }

receives_within : {S : Type 0} (serving : Serving S) (s : S) (w : Served) (b : List ℕ) → ServerLaws serving s → Within serving s w.end → AreBytes b → Within serving s (serve_receives w b).end
receives_within serving s w b a h bytes =
    let on = a.network.stays.receive w.end b in
    record {
      fits = a.ends.bounds.receive w.end b h.fits bytes;
      out = out_same serving s w.end (after_receive w.end b) on.accepted (a.network.stays.handed w.end (after_receive w.end b) on h.fits.bounds.handed_taken) h.out;
    }

hears_within : {S : Type 0} (serving : Serving S) (s : S) (w : Served) (b : List ℕ) → ServerLaws serving s → AnItemBringsAtMostOneAnswer serving s → Within serving s w.end → AreBytes b → Within serving s (serve_hears serving s w b).end
hears_within serving s w b a brings h bytes = settles_within serving s (serve_receives w b) a brings (receives_within serving s w b a h bytes)

pub hears_all_within : {S : Type 0} (serving : Serving S) (s : S) (w : Served) (packets : List (List ℕ)) → ServerLaws serving s → AnItemBringsAtMostOneAnswer serving s → Within serving s w.end → All AreBytes packets
    → Within serving s (fold (serve_hears serving s) w packets).end
hears_all_within serving s w [] a brings h bytes = h
hears_all_within serving s w (b ∷ bs) a brings h bytes =
    hears_all_within serving s (serve_hears serving s w b) bs a brings (hears_within serving s w b a brings h (All-head AreBytes b bs bytes)) (All-tail AreBytes b bs bytes)

-- ---- while an item is out

send_hands_up_nothing : EndLaws → (v : State) (x : Item) → handed_up_by (after_send v x) ≡ handed_up_by v
send_hands_up_nothing laws v x =
    let ok : Bool = is_ok (send_answer v x) in
    elim ok as (λ b. ok ≡ b → handed_up_by (after_send v x) ≡ handed_up_by v) [
      | true ↦ λ h. ap (λ (u : State). handed_up_by u) (laws.accepts.accepted v x h)
      | false ↦ λ h. ap (λ (u : State). handed_up_by u) (laws.accepts.refused v x h)
    ] refl

pub still_handed : EndLaws → (v u : State) (x : Item) (full : Bool) → (if full then None else Some (after_send v x)) ≡ Some u → handed_up_by u ≡ handed_up_by v
still_handed laws v u x true is = absurd (cc)
still_handed laws v u x false is =
    let same : after_send v x ≡ u = cc in
    ap (λ (q : State). handed_up_by q) (sym same) ∙ send_hands_up_nothing laws v x

-- ---- what the session keeps

ending_if : (b : Bool) (r : Result Phase SessionFault) (p : Phase) → (if b then r else Err BadReply) ≡ Ok p → r ≡ Ok p
ending_if true r p is = is
ending_if false r p is = absurd (let never = is in cc)

pub kept_ending : (fed : List Item) (p : Phase) → server_ending fed ≡ Ok p → ending fed ≡ Ok p
kept_ending fed p is = ending_if (all_calls (conversation fed)) (ending fed) p is

-- ---- packets that come first

pub begun_bytes : (come packets : List (List ℕ)) → Begins come packets → All AreBytes packets → All AreBytes come
begun_bytes come packets b bytes = subst (All AreBytes) (front_of come packets b) (All-take AreBytes (length come) packets bytes)
