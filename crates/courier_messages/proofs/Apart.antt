-- A part of what messages are cut into says fewer messages.
use Rattle.std.proofs.Common.{◌≡◌, ◌⊎◌, inl, inr, ℕ, zero, suc, ◌+◌, ◌<◌, ◌≤◌, Bool, true, false, List, [], ◌∷◌, ◌++◌, length, map, take, drop, Result, Ok, Err, refl, sym, ◌∙◌, ap, subst, arith, length-append}
use Rattle.std.specs.Prelude.{if◌then◌else◌, ◌==◌, ◌-◌, ◌/◌}
use Rattle.std.specs.List.{flat_map}
use Rattle.xns_spp.specs.declared.item.Item.{Item}
use Rattle.xns_spp.specs.Growth.{Begins}
use Rattle.xns_spp.specs.Packet.{most_body}
use Rattle.courier_messages.specs.declared.fault.SessionFault.{SessionFault}
use Rattle.courier_messages.specs.declared.message.Message.{Message}
use Rattle.courier_messages.specs.Message.{message_bytes}
use Rattle.courier_messages.specs.Text.{byte, foreign, signs, end_of, written}
use Rattle.courier_messages.specs.Conversation.{Phase, inside, conversation}
use Rattle.courier_messages.specs.Phases.{run, said, onwards}
use Rattle.courier_messages.specs.Cutting.{message_item, cut_items, cut_bytes, cut, versions_item}
use Rattle.courier_messages.specs.Laws.{items_of}
use Rattle.courier_messages.proofs.More.{item_one}
use Rattle.courier_messages.proofs.Runs.{no_more, said_append, said_bytes, said_stream}
use Rattle.courier_messages.proofs.Signs.{conversation_is}

-- how many items end a message
one_if : Bool → ℕ
one_if true = 1
one_if false = 0

lasts : List Item → ℕ
lasts [] = 0
lasts (x ∷ xs) = one_if x.last + lasts xs

-- ---- items say no more messages than they end

signs_none : (ours : Bool) (x : Item) (p : Phase) → length (said p (if ours then map byte x.body ++ [] else foreign x.stream ∷ [])) ≤ 0
unfolding said
signs_none true x p =
    let e = said_append p (map byte x.body) [] ∙ ap (λ (ms : List Message). ms ++ onwards (run p (map byte x.body)) (λ q. said q [])) (said_bytes p x.body) ∙ no_more (run p (map byte x.body)) (λ q. []) (λ q. refl) in
    omega (arith, ap (length {A = Message}) e)
signs_none false x p = omega (arith, ap (length {A = Message}) (said_stream p x.stream))

item_by : (x : Item) (b : Bool) (p : Phase) → x.last ≡ b → length (said p (signs x)) ≤ one_if b
unfolding one_if
item_by x true p is = item_one x p
item_by x false p is = subst (λ (b : Bool). length (said p (if x.stream == 0 then map byte x.body ++ end_of b else foreign x.stream ∷ [])) ≤ 0) (sym is) (signs_none (x.stream == 0) x p)

on_few : (r : Result Phase SessionFault) (f : Phase → List Message) (n : ℕ) → ((p : Phase) → length (f p) ≤ n) → length (onwards r f) ≤ n
on_few (Ok p) f n h = h p
on_few (Err e) f n h = omega arith

says_few : (p : Phase) (xs : List Item) → length (said p (written xs)) ≤ lasts xs
unfolding said lasts
says_few p [] = omega arith
says_few p (x ∷ xs) =
    let more = onwards (run p (signs x)) (λ q. said q (written xs)) in
    let few : length more ≤ lasts xs = on_few (run p (signs x)) (λ q. said q (written xs)) (lasts xs) (λ q. says_few q xs) in
    let e : said p (signs x ++ written xs) ≡ said p (signs x) ++ more = said_append p (signs x) (written xs) in
    omega (arith, ap (length {A = Message}) e, length-append (said p (signs x)) more, few, item_by x x.last p refl)

behind_versions : (xs : List Item) → length (conversation (versions_item ∷ xs)) ≤ lasts xs
unfolding run said
behind_versions xs = let few = says_few (inside []) xs in omega (arith, ap (length {A = Message}) (conversation_is (versions_item ∷ xs)), few)

nothing_said : length (conversation []) ≤ 0
unfolding said
nothing_said = omega (arith, ap (length {A = Message}) (conversation_is []))

-- ---- a part of what was cut ends fewer messages

-- the items f are all items of one message, and then some of what follows
record Goes (all rest f r : List Item) : Type 0 where
  more : List Item
  front : f ≡ all ++ more
  behind : more ++ r ≡ rest
  ends : lasts f ≡ 1 + lasts more

pieces_or : (n : ℕ) (bytes : List ℕ) (rest f r : List Item) → f ++ r ≡ cut_items n bytes ++ rest → (lasts f ≡ 0) ⊎ Goes (cut_items n bytes) rest f r
unfolding cut_items lasts one_if
pieces_or zero bytes rest [] r e = inl refl
pieces_or (suc n) bytes rest [] r e = inl refl
pieces_or zero bytes rest (y ∷ f) r e =
    let first : y ≡ message_item true bytes = cc in
    let behind : f ++ r ≡ rest = cc in
    inr (record { more = f; front = ap (λ (x : Item). x ∷ f) first; behind = behind; ends = ap (λ (x : Item). one_if x.last + lasts f) first })
pieces_or (suc n) bytes rest (y ∷ f) r e =
    let x : Item = message_item false (take most_body bytes) in
    let first : y ≡ x = cc in
    let behind : f ++ r ≡ cut_items n (drop most_body bytes) ++ rest = cc in
    let same : lasts (y ∷ f) ≡ lasts f = omega (arith, ap (λ (z : Item). one_if z.last + lasts f) first) in
    elim (pieces_or n (drop most_body bytes) rest f r behind) as (λ o. (lasts (y ∷ f) ≡ 0) ⊎ Goes (x ∷ cut_items n (drop most_body bytes)) rest (y ∷ f) r) [
      | inl none ↦ inl (same ∙ none)
      | inr g ↦ inr (record { more = g.more; front = ap (λ (z : Item). z ∷ f) first ∙ ap (λ (l : List Item). x ∷ l) g.front; behind = g.behind; ends = same ∙ g.ends })
    ]

ends_fewer : (ms : List Message) (f r : List Item) → f ++ r ≡ flat_map cut ms → length f < length (flat_map cut ms) → lasts f < length ms
unfolding cut_bytes
ends_fewer [] f r e less = absurd (omega (arith, less))
ends_fewer (m ∷ ms) f r e less =
    let all : List Item = cut m in
    let rest : List Item = flat_map cut ms in
    elim (pieces_or ((length (message_bytes m) - 1) / most_body) (message_bytes m) rest f r e) as (λ o. lasts f < length (m ∷ ms)) [
      | inl none ↦ omega (arith, none)
      | inr g ↦
          let left : length g.more < length rest = omega (arith, ap (length {A = Item}) g.front, length-append all g.more, length-append all rest, less) in
          omega (arith, ends_fewer ms g.more r g.behind left, g.ends)
    ]

-- ---- a prefix says fewer messages than the whole

says_less_by : (fed : List Item) (ms : List Message) (r : List Item) → fed ++ r ≡ items_of ms → length fed < length (items_of ms) → 0 < length ms → length (conversation fed) < length ms
says_less_by [] ms r e less some = omega (arith, nothing_said, some)
says_less_by (x ∷ fed) ms r e less some =
    let first : x ≡ versions_item = cc in
    let behind : fed ++ r ≡ flat_map cut ms = cc in
    let few = ends_fewer ms fed r behind (omega (arith, less)) in
    omega (arith, few, behind_versions fed, ap (λ (y : Item). length (conversation (y ∷ fed))) first)

pub says_less : (fed : List Item) (ms : List Message) → Begins fed (items_of ms) → length fed < length (items_of ms) → 0 < length ms → length (conversation fed) < length ms
says_less fed ms b less some = says_less_by fed ms b.0 b.1 less some
