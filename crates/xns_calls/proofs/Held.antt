-- What a packet acknowledges ahead is waited for up to 64 packets of its connection, and no longer.
use Rattle.std.proofs.Common.{◌≡◌, ◌∙◌, ap, sym, refl, subst, arith, inl, inr, ℕ, suc, ◌+◌, ◌-◌, ◌<◌, ◌≤◌, ◌==◌, ◌⊎◌, Bool, true, false, cond, List, [], ◌∷◌, ◌++◌, length, Option, Some, None}
use Rattle.std.specs.Prelude.{nat_lt, max, not, option_map, slice_get}
use Rattle.std.specs.Option.{unwrap_or}
use Rattle.std.proofs.lemmas.Bool.{eqb-false, ltb-false, ltb-true}
use Rattle.xns_spp.specs.declared.header.Header.{Header}
use Rattle.xns_dump.specs.declared.flows.flow.Flow.{Flow}
use Rattle.xns_calls.specs.Acknowledged.{acknowledged_of, ahead_of, aheads_in, beyond, effective, given_in, given_with, last_ahead, most_waited, nearer, new_ahead, noted_beside, waiting, with_ahead}
use Rattle.xns_calls.specs.Capture.{new_connection}
use Rattle.xns_calls.specs.Held.{Handled, acknowledges, behind_all, track_behind, with_all, with_handled}
use Rattle.xns_calls.specs.Numbers.{near}
use Rattle.xns_calls.specs.Over.{side_in}
use Rattle.xns_calls.specs.declared.ahead.Ahead.{Ahead}
use Rattle.xns_calls.specs.declared.connection.Connection.{Connection}
use Rattle.xns_calls.specs.declared.track.Track.{Track}
use Rattle.xns_calls.proofs.Histories.{with_both}

-- ---- acknowledgements take effect one after the other

-- each acknowledgement waits for a packet more than the one before it, the first for at least so many packets, and none for more than the most
abbrev Apart : ℕ → ℕ → List Ahead → Type 0
Apart least most [] = Unit {0}
Apart least most (a ∷ rest) = (least ≤ a.left) × (a.left ≤ most) × Apart (a.left + 1) most rest

apart_from : (least less most : ℕ) (xs : List Ahead) → less ≤ least → Apart least most xs → Apart less most xs
apart_from least less most [] le apart = tt
apart_from least less most (a ∷ rest) le apart = (omega (arith, le, apart.0), apart.1, apart.2)

nearer_apart : (least most : ℕ) (xs : List Ahead) → Apart (least + 1) (most + 1) xs → Apart least most (nearer xs)
nearer_apart least most [] apart = tt
nearer_apart least most (a ∷ rest) apart =
    let least_is : least + 1 ≤ a.left = apart.0 in
    let most_is : a.left ≤ most + 1 = apart.1 in
    let next : a.left - 1 + 1 ≡ a.left = omega (arith, least_is) in (
      omega (arith, least_is),
      omega (arith, most_is),
      subst (λ n. Apart n most (nearer rest)) (sym next) (nearer_apart a.left most rest apart.2),
    )

waiting_apart : (most : ℕ) (xs : List Ahead) → Apart 0 most xs → Apart 1 most (waiting xs)
waiting_apart most [] apart = tt
waiting_apart most (a ∷ rest) apart = by_left (a.left == 0) refl
  where
    by_left : (p : Bool) → (a.left == 0) ≡ p → Apart 1 most (cond p rest (a ∷ rest))
    by_left true e = apart_from (a.left + 1) 1 most rest (omega arith) apart.2
    by_left false e = (omega (arith, eqb-false a.left 0 e), apart.1, apart.2)

pushed_apart : (least most n : ℕ) (xs : List Ahead) → least ≤ most + 1 → Apart least most xs → Apart least (most + 1) (xs ++ record { left = most + 1; number = n } ∷ [])
pushed_apart least most n [] le apart = (le, omega arith, tt)
pushed_apart least most n (a ∷ rest) le apart =
    let most_is : a.left ≤ most = apart.1 in (apart.0, omega (arith, most_is), pushed_apart (a.left + 1) most n rest (omega (arith, most_is)) apart.2)

apart_up : (least most : ℕ) (xs : List Ahead) → Apart least most xs → Apart least (most + 1) xs
apart_up least most [] apart = tt
apart_up least most (a ∷ rest) apart = let most_is : a.left ≤ most = apart.1 in (apart.0, omega (arith, most_is), apart_up (a.left + 1) most rest apart.2)

ahead_apart : (o : Option ℕ) (xs : List Ahead) → Apart 1 63 xs → Apart 1 64 (with_ahead o xs)
ahead_apart None xs apart = apart_up 1 63 xs apart
ahead_apart (Some n) xs apart = pushed_apart 1 63 n xs (omega arith) apart

-- what is kept once a packet more was captured
abbrev stepped : Option ℕ → List Ahead → List Ahead
stepped o xs = with_ahead o (waiting (nearer xs))

step_apart : (o : Option ℕ) (xs : List Ahead) → Apart 1 64 xs → Apart 1 64 (stepped o xs)
step_apart o xs apart = ahead_apart o (waiting (nearer xs)) (waiting_apart 63 (nearer xs) (nearer_apart 0 63 xs apart))

-- ---- a number that takes effect within so many packets

abbrev IsAhead : ℕ → ℕ → List Ahead → Type 0
IsAhead j n [] = ⊥
IsAhead j n (a ∷ rest) = ((n ≤ a.number) × (a.left ≤ j)) ⊎ IsAhead j n rest

-- a number has taken effect, or it does within so many packets
abbrev Waits : ℕ → ℕ → ℕ → List Ahead → Type 0
Waits j n given xs = (n ≤ given) ⊎ IsAhead j n xs

ahead_nearer : (j n : ℕ) (xs : List Ahead) → IsAhead (j + 1) n xs → IsAhead j n (nearer xs)
ahead_nearer j n [] is = is
ahead_nearer j n (a ∷ rest) (inl both) = inl (both.0, let le : a.left ≤ j + 1 = both.1 in omega (arith, le))
ahead_nearer j n (a ∷ rest) (inr is) = inr (ahead_nearer j n rest is)

takes_or_waits : (j n : ℕ) (xs : List Ahead) → IsAhead j n xs → (n ≤ unwrap_or (effective xs) 0) ⊎ IsAhead j n (waiting xs)
takes_or_waits j n [] is = absurd is
takes_or_waits j n (a ∷ rest) is = by_left (a.left == 0) is
  where
    by_left : (p : Bool) → ((n ≤ a.number) × (a.left ≤ j)) ⊎ IsAhead j n rest → (n ≤ unwrap_or (cond p (Some a.number) None) 0) ⊎ IsAhead j n (cond p rest (a ∷ rest))
    by_left true (inl both) = inl both.0
    by_left true (inr more) = inr more
    by_left false is = inr is

ahead_front : (j n : ℕ) (xs ys : List Ahead) → IsAhead j n xs → IsAhead j n (xs ++ ys)
ahead_front j n [] ys is = absurd is
ahead_front j n (a ∷ rest) ys (inl both) = inl both
ahead_front j n (a ∷ rest) ys (inr is) = inr (ahead_front j n rest ys is)

ahead_more : (j n : ℕ) (o : Option ℕ) (xs : List Ahead) → IsAhead j n xs → IsAhead j n (with_ahead o xs)
ahead_more j n None xs is = is
ahead_more j n (Some m) xs is = ahead_front j n xs (record { left = most_waited; number = m } ∷ []) is

step_waits : (j n given : ℕ) (o : Option ℕ) (xs : List Ahead) → Waits (j + 1) n given xs → Waits j n (given_with (effective (nearer xs)) given) (stepped o xs)
step_waits j n given o xs (inl le) = inl (omega (arith, le))
step_waits j n given o xs (inr is) = by_ahead (takes_or_waits j n (nearer xs) (ahead_nearer j n xs is))
  where
    by_ahead : (n ≤ unwrap_or (effective (nearer xs)) 0) ⊎ IsAhead j n (waiting (nearer xs)) → Waits j n (given_with (effective (nearer xs)) given) (stepped o xs)
    by_ahead (inl le) = inl (omega (arith, le))
    by_ahead (inr more) = inr (ahead_more j n o (waiting (nearer xs)) more)

-- what waits for no packet has taken effect
none_ahead : (n least : ℕ) (xs : List Ahead) → 1 ≤ least → Apart least 64 xs → IsAhead 0 n xs → ⊥
none_ahead n least [] le apart is = is
none_ahead n least (a ∷ rest) le apart (inl both) =
    let up : least ≤ a.left = apart.0 in
    let down : a.left ≤ 0 = both.1 in absurd (omega (arith, le, up, down))
none_ahead n least (a ∷ rest) le apart (inr is) = none_ahead n (a.left + 1) rest (omega arith) apart.2 is

waits_done : (n given : ℕ) (xs : List Ahead) → Apart 1 64 xs → Waits 0 n given xs → n ≤ given
waits_done n given xs apart (inl le) = le
waits_done n given xs apart (inr is) = absurd (none_ahead n 1 xs (omega arith) apart is)

waits_longer : (j l n given : ℕ) (xs : List Ahead) → j ≤ l → Waits j n given xs → Waits l n given xs
waits_longer j l n given xs le (inl taken) = inl taken
waits_longer j l n given xs le (inr is) = inr (longer xs is)
  where
    longer : (ys : List Ahead) → IsAhead j n ys → IsAhead l n ys
    longer [] is = is
    longer (a ∷ rest) (inl both) = inl (both.0, let down : a.left ≤ j = both.1 in omega (arith, le, down))
    longer (a ∷ rest) (inr is) = inr (longer rest is)

-- ---- what a packet acknowledges ahead

pushed_ahead : (n : ℕ) (xs : List Ahead) → IsAhead 64 n (xs ++ record { left = 64; number = n } ∷ [])
pushed_ahead n [] = inl (omega arith, omega arith)
pushed_ahead n (a ∷ rest) = inr (pushed_ahead n rest)

last_more : (a b : Ahead) (rest : List Ahead) → last_ahead (a ∷ b ∷ rest) ≡ last_ahead (b ∷ rest)
last_more a b rest =
    let one : length (a ∷ b ∷ rest) - 1 ≡ suc (length (b ∷ rest) - 1) = omega arith in ap (λ i. unwrap_or (option_map (λ (x : Ahead). x.number) (slice_get (a ∷ b ∷ rest) i)) 0) one

-- the last one is one of those that wait
last_is : (n least : ℕ) (xs : List Ahead) → 1 ≤ n → n ≤ last_ahead xs → Apart least 64 xs → IsAhead 64 n xs
last_is n least [] some le apart = let none : n ≤ 0 = le in absurd (omega (arith, some, none))
last_is n least (a ∷ []) some le apart = inl (le, apart.1)
last_is n least (a ∷ b ∷ rest) some le apart = inr (last_is n (a.left + 1) (b ∷ rest) some (subst (λ m. n ≤ m) (last_more a b rest) le) apart.2)

-- an item that is not read when a packet acknowledges it is waited for up to 64 packets
new_waits : (track : Track) (field n given : ℕ) (xs : List Ahead) → Apart 1 64 xs → near track.next field ≡ Some n
    → (n ≤ track.next) ⊎ Waits 64 n (given_with (effective (nearer xs)) given) (stepped (new_ahead (Some track) xs field) xs)
new_waits track field n given xs apart at =
    subst (λ o. (n ≤ track.next) ⊎ Waits 64 n given' (stepped (beyond (max track.next (last_ahead xs)) o) xs)) (sym at) (by_most (nat_lt (max track.next (last_ahead xs)) n) refl)
  where
    given' : ℕ
    given' = given_with (effective (nearer xs)) given

    by_next : (p : Bool) → nat_lt track.next n ≡ p → n ≤ max track.next (last_ahead xs) → (n ≤ track.next) ⊎ Waits 64 n given' (stepped None xs)
    by_next false e most = inl (ltb-false track.next n e)
    by_next true e most =
        let lt : track.next < n = ltb-true track.next n e in
        inr (waits_longer 63 64 n given' (stepped None xs) (omega arith) (step_waits 63 n given None xs (inr (last_is n 1 xs (omega (arith, lt)) (omega (arith, lt, most)) apart))))

    by_most : (p : Bool) → nat_lt (max track.next (last_ahead xs)) n ≡ p → (n ≤ track.next) ⊎ Waits 64 n given' (stepped (cond p (Some n) None) xs)
    by_most true e = inr (inr (pushed_ahead n (waiting (nearer xs))))
    by_most false e = by_next (nat_lt track.next n) refl (ltb-false (max track.next (last_ahead xs)) n e)

-- ---- a connection

abbrev pub given_of : Bool → Connection → ℕ
given_of true c = c.second_given
given_of false c = c.first_given

pub given_other : (b : Bool) (c : Connection) → (given_in b c).other ≡ given_of (not b) c
given_other true c = refl
given_other false c = refl

-- what a packet of flow q adds to what is kept of flow d
abbrev added : Bool → Bool → Header → Connection → Option ℕ
added true true f c = None
added false false f c = None
added true false f c = ahead_of false f c
added false true f c = ahead_of true f c

aheads_after : (d : Bool) (packet : Handled) (c : Connection) → aheads_in d (with_handled packet c) ≡ stepped (added d packet.is_behind packet.header c) (aheads_in d c)
aheads_after d packet c = by_flow d packet.is_behind
  where
    by_flow : (d q : Bool) → aheads_in d (record (noted_beside q packet.header c) { first = packet.first; second = packet.second }) ≡ stepped (added d q packet.header c) (aheads_in d c)
    by_flow true true = refl
    by_flow true false = refl
    by_flow false true = refl
    by_flow false false = refl

given_after : (d : Bool) (packet : Handled) (c : Connection) → given_of d (with_handled packet c) ≡ given_with (effective (nearer (aheads_in d c))) (given_of d c)
given_after d packet c = by_flow d packet.is_behind
  where
    by_flow : (d q : Bool) → given_of d (record (noted_beside q packet.header c) { first = packet.first; second = packet.second }) ≡ given_with (effective (nearer (aheads_in d c))) (given_of d c)
    by_flow true true = refl
    by_flow true false = refl
    by_flow false true = refl
    by_flow false false = refl

one_apart : (d : Bool) (packet : Handled) (c : Connection) → Apart 1 64 (aheads_in d c) → Apart 1 64 (aheads_in d (with_handled packet c))
one_apart d packet c apart =
    subst (Apart 1 64) (sym (aheads_after d packet c)) (step_apart (added d packet.is_behind packet.header c) (aheads_in d c) apart)

all_apart : (d : Bool) (packets : List Handled) (c : Connection) → Apart 1 64 (aheads_in d c) → Apart 1 64 (aheads_in d (with_all packets c))
all_apart d [] c apart = apart
all_apart d (packet ∷ more) c apart = all_apart d more (with_handled packet c) (one_apart d packet c apart)

new_apart : (d : Bool) (number : ℕ) (flow : Flow) → Apart 1 64 (aheads_in d (new_connection number flow))
new_apart true number flow = tt
new_apart false number flow = tt

abbrev WaitsIn : ℕ → ℕ → Bool → Connection → Type 0
WaitsIn j n d c = Waits j n (given_of d c) (aheads_in d c)

one_waits : (j n : ℕ) (d : Bool) (packet : Handled) (c : Connection) → WaitsIn (j + 1) n d c → WaitsIn j n d (with_handled packet c)
one_waits j n d packet c waits =
    subst (λ xs. Waits j n (given_of d (with_handled packet c)) xs) (sym (aheads_after d packet c))
    (subst (λ g. Waits j n g (stepped (added d packet.is_behind packet.header c) (aheads_in d c))) (sym (given_after d packet c))
    (step_waits j n (given_of d c) (added d packet.is_behind packet.header c) (aheads_in d c) waits))

all_wait : (j n : ℕ) (d : Bool) (packets : List Handled) (c : Connection) → WaitsIn j n d c → WaitsIn (j - length packets) n d (with_all packets c)
all_wait j n d [] c waits = let same : j ≡ j - 0 = omega arith in subst (λ i. WaitsIn i n d c) same waits
all_wait j n d (packet ∷ more) c waits =
    let one : (j - 1) - length more ≡ j - length (packet ∷ more) = omega arith in
    subst (λ i. WaitsIn i n d (with_all more (with_handled packet c))) one
    (all_wait (j - 1) n d more (with_handled packet c)
    (one_waits (j - 1) n d packet c (waits_longer j (j - 1 + 1) n (given_of d c) (aheads_in d c) (omega arith) waits)))

-- the first packet
packet_waits : (packet : Handled) (c : Connection) (track : Track) (n : ℕ) → Apart 1 64 (aheads_in (not packet.is_behind) c) → track_behind packet c ≡ Some track → acknowledges packet c ≡ Some n
    → (n ≤ track.next) ⊎ WaitsIn 64 n (not packet.is_behind) (with_handled packet c)
packet_waits packet c track n apart at is =
    let d = not packet.is_behind in
    let f = packet.header in
    let xs = aheads_in d c in
    let near_is : near track.next f.acknowledge ≡ Some n = sym (ap (λ o. acknowledged_of o f.acknowledge) at) ∙ acknowledged_is packet.is_behind ∙ is in
    subst (λ ys. (n ≤ track.next) ⊎ Waits 64 n (given_of d (with_handled packet c)) ys) (sym (aheads_after d packet c))
    (subst (λ g. (n ≤ track.next) ⊎ Waits 64 n g (stepped (added d packet.is_behind f c) xs)) (sym (given_after d packet c))
    (subst (λ o. (n ≤ track.next) ⊎ Waits 64 n (given_with (effective (nearer xs)) (given_of d c)) (stepped o xs)) (sym (added_is packet.is_behind at))
    (new_waits track f.acknowledge n (given_of d c) xs apart near_is)))
  where
    acknowledged_is : (q : Bool) → acknowledged_of (side_in (not q) c).track packet.header.acknowledge ≡ acknowledges (record packet { is_behind = q }) c
    acknowledged_is q = refl

    added_is : (q : Bool) → (side_in (not q) c).track ≡ Some track → added (not q) q packet.header c ≡ new_ahead (Some track) (aheads_in (not q) c) packet.header.acknowledge
    added_is true at = ap (λ o. new_ahead o (aheads_in false c) packet.header.acknowledge) at
    added_is false at = ap (λ o. new_ahead o (aheads_in true c) packet.header.acknowledge) at

pub given_then : (number : ℕ) (flow : Flow) (before more : List Handled) (packet : Handled) (track : Track) (n : ℕ)
    → track_behind packet (behind_all number flow before) ≡ Some track → acknowledges packet (behind_all number flow before) ≡ Some n → most_waited ≤ length more
    → (n ≤ track.next) ⊎ (n ≤ given_of (not packet.is_behind) (behind_all number flow (before ++ packet ∷ more)))
given_then number flow before more packet track n at is long = by_packet (packet_waits packet c track n apart at is)
  where
    d : Bool
    d = not packet.is_behind

    c : Connection
    c = behind_all number flow before

    c' : Connection
    c' = with_handled packet c

    apart : Apart 1 64 (aheads_in d c)
    apart = all_apart d before (new_connection number flow) (new_apart d number flow)

    by_packet : (n ≤ track.next) ⊎ WaitsIn 64 n d c' → (n ≤ track.next) ⊎ (n ≤ given_of d (behind_all number flow (before ++ packet ∷ more)))
    by_packet (inl le) = inl le
    by_packet (inr waits) =
        let enough : 64 ≤ length more = long in
        let none : 64 - length more ≡ 0 = omega (arith, enough) in
        let last : WaitsIn 0 n d (with_all more c') = subst (λ j. WaitsIn j n d (with_all more c')) none (all_wait 64 n d more c' waits) in
        let taken : n ≤ given_of d (with_all more c') = waits_done n (given_of d (with_all more c')) (aheads_in d (with_all more c')) (all_apart d more c' (one_apart d packet c apart)) last in
        inr (subst (λ (x : Connection). n ≤ given_of d x) (sym (with_both before (packet ∷ more) (new_connection number flow))) taken)
