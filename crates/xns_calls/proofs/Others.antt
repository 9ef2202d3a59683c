-- A packet changes no connection but its own.
use Rattle.std.proofs.Common.{◌≡◌, ◌∙◌, ap, sym, refl, arith, ℕ, zero, suc, ◌+◌, ◌<◌, Bool, true, false, cond, List, [], ◌∷◌, ◌++◌, length, Option, Some, None}
use Rattle.std.specs.Prelude.{slice_get, slice_set}
use Rattle.xns_idp.specs.Packet.{PacketModel}
use Rattle.xns_spp.specs.Header.{is_system}
use Rattle.xns_spp.specs.declared.header.Header.{Header}
use Rattle.xns_dump.specs.Flows.{flow_of}
use Rattle.xns_dump.specs.declared.flows.flow.Flow.{Flow}
use Rattle.xns_calls.specs.Anew.{begins_anew}
use Rattle.xns_calls.specs.Capture.{Known, after_at, after_new_flow, after_place, after_sequenced, after_there, forgotten, is_behind_in, new_connection, place_of, renewed, renewed_there, repeats_told, settled_at, settled_there, taken_in, with_new}
use Rattle.xns_calls.specs.declared.connection.Connection.{Connection}
use Rattle.xns_calls.specs.declared.origin.Origin.{Origin}

pub get_set : (xs : List Connection) (i j : ℕ) (y : Connection) → (i ≡ j → ⊥) → slice_get (slice_set xs j y) i ≡ slice_get xs i
get_set [] i zero y other = refl
get_set [] i (suc j) y other = refl
get_set (x ∷ xs) zero zero y other = absurd (other refl)
get_set (x ∷ xs) (suc i) zero y other = refl
get_set (x ∷ xs) zero (suc j) y other = refl
get_set (x ∷ xs) (suc i) (suc j) y other = get_set xs i j y (λ e. other (ap suc e))

pub get_front : (xs ys : List Connection) (i : ℕ) → i < length xs → slice_get (xs ++ ys) i ≡ slice_get xs i
get_front [] ys i lt = absurd (omega (arith, lt))
get_front (x ∷ xs) ys zero lt = refl
get_front (x ∷ xs) ys (suc i) lt = get_front xs ys i (omega (arith, lt))

pub get_same : (xs : List Connection) (i : ℕ) (c y : Connection) → slice_get xs i ≡ Some c → slice_get (slice_set xs i y) i ≡ Some y
get_same [] i c y e = (cc)
get_same (x ∷ xs) zero c y e = refl
get_same (x ∷ xs) (suc i) c y e = get_same xs i c y e

pub get_last : (xs : List Connection) (y : Connection) → slice_get (xs ++ y ∷ []) (length xs) ≡ Some y
get_last [] y = refl
get_last (x ∷ xs) y = get_last xs y

abbrev connection_at : ℕ → Known → Option Connection
connection_at i k = slice_get k.connections i

settled_same : (n : Origin) (i j : ℕ) (q : Bool) (k : Known) → (i ≡ j → ⊥) → connection_at i (settled_at n j q k) ≡ connection_at i k
unfolding settled_at
settled_same n i j q k other = by_connection (slice_get k.connections j)
  where
    by_connection : (o : Option Connection) → connection_at i (settled_there n j q o k) ≡ connection_at i k
    by_connection None = refl
    by_connection (Some c) = get_set k.connections i j _ other

there_same : (n : Origin) (i j : ℕ) (flow : Flow) (packet : PacketModel) (f : Header) (content : List ℕ) (o : Option Connection) (k : Known) → (i ≡ j → ⊥)
    → connection_at i (after_there n j flow packet f content o k) ≡ connection_at i k
there_same n i j flow packet f content None k other = refl
there_same n i j flow packet f content (Some c) k other =
    let q = is_behind_in flow c in settled_same n i j q (taken_in n j q packet f content c (repeats_told n q f c k)) other ∙ get_set k.connections i j _ other

pub at_same : (n : Origin) (i j : ℕ) (flow : Flow) (packet : PacketModel) (f : Header) (content : List ℕ) (k : Known) → (i ≡ j → ⊥)
    → connection_at i (after_at n j flow packet f content k) ≡ connection_at i k
unfolding after_at
at_same n i j flow packet f content k other = there_same n i j flow packet f content (slice_get k.connections j) k other

pub renewed_same : (n : Origin) (i j : ℕ) (flow : Flow) (f : Header) (k : Known) → (i ≡ j → ⊥) → connection_at i (renewed n j flow f k) ≡ connection_at i k
unfolding renewed
renewed_same n i j flow f k other = by_connection (slice_get k.connections j)
  where
    by_anew : (c : Connection) (p : Bool) → connection_at i (cond p (forgotten n j flow c k) k) ≡ connection_at i k
    by_anew c true = get_set k.connections i j _ other
    by_anew c false = refl

    by_connection : (o : Option Connection) → connection_at i (renewed_there n j flow f o k) ≡ connection_at i k
    by_connection None = refl
    by_connection (Some c) = by_anew c (begins_anew f c)

new_same : (n : Origin) (i : ℕ) (flow : Flow) (packet : PacketModel) (f : Header) (content : List ℕ) (k : Known) → i < length k.connections
    → connection_at i (after_new_flow n flow packet f content k) ≡ connection_at i k
new_same n i flow packet f content k lt = over (is_system f)
  where
    begun : Known
    begun = after_at n (length k.connections) flow packet f content (with_new flow k)

    over : (p : Bool) → connection_at i (cond p k begun) ≡ connection_at i k
    over true = refl
    over false =
        at_same n i (length k.connections) flow packet f content (with_new flow k) (λ e. omega (arith, lt, e))
        ∙ get_front k.connections (new_connection (k.count + 1) flow ∷ []) i lt

place_same : (n : Origin) (i : ℕ) (flow : Flow) (packet : PacketModel) (f : Header) (content : List ℕ) (o : Option ℕ) (k : Known) → i < length k.connections → (o ≡ Some i → ⊥)
    → connection_at i (after_place n flow packet f content o k) ≡ connection_at i k
place_same n i flow packet f content (Some j) k lt other =
    at_same n i j flow packet f content (renewed n j flow f k) (λ e. other (ap Some (sym e))) ∙ renewed_same n i j flow f k (λ e. other (ap Some (sym e)))
place_same n i flow packet f content None k lt other = new_same n i flow packet f content k lt

pub others_same : (n : Origin) (packet : PacketModel) (f : Header) (content : List ℕ) (k : Known) (i : ℕ) → i < length k.connections
    → (place_of (flow_of packet f) k.connections ≡ Some i → ⊥)
    → slice_get (after_sequenced n packet f content k).connections i ≡ slice_get k.connections i
unfolding after_sequenced
others_same n packet f content k i lt other = place_same n i (flow_of packet f) packet f content (place_of (flow_of packet f) k.connections) k lt other
