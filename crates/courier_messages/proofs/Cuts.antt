-- How words are cut into items.
use Rattle.std.proofs.Common.{◌≡◌, ◌∙◌, ap, sym, append_assoc, refl, ℕ, zero, suc, ◌+◌, ◌*◌, ◌-◌, ◌/◌, ◌%◌, ◌<◌, ◌≤◌, List, [], ◌∷◌, ◌++◌, length, take, drop, true, false, arith, length-append, length-drop, append-nil, take-append-drop}
use Rattle.xns_spp.specs.declared.item.Item.{Item}
use Rattle.courier_types.specs.Source.{bytes_of}
use Rattle.courier_messages.specs.Bounds.{bytes_in}
use Rattle.courier_messages.specs.Cutting.{message_item, cut_items, cut_bytes}

count_more : (n : ℕ) → 534 < n → (n - 1) / 534 ≡ suc ((n - 534 - 1) / 534)
count_more n h = omega arith

count_last : (n : ℕ) → n ≤ 534 → (n - 1) / 534 ≡ zero
count_last n h = omega arith

one_more : (bytes : List ℕ) → 534 < length bytes → cut_bytes bytes ≡ message_item false (take 534 bytes) ∷ cut_bytes (drop 534 bytes)
unfolding cut_bytes cut_items
one_more bytes h =
    ap (λ (n : ℕ). cut_items n bytes) (count_more (length bytes) h)
    ∙ ap (λ (n : ℕ). message_item false (take 534 bytes) ∷ cut_items ((n - 1) / 534) (drop 534 bytes)) (simp length-drop)

pub the_last : (bytes : List ℕ) → length bytes ≤ 534 → cut_bytes bytes ≡ message_item true bytes ∷ []
unfolding cut_bytes cut_items
the_last bytes h = ap (λ (n : ℕ). cut_items n bytes) (count_last (length bytes) h)

pub bytes_length : (ws : List ℕ) → length (bytes_of ws) ≡ 2 * length ws
bytes_length [] = refl
bytes_length (w ∷ ws) = omega (arith, bytes_length ws)

-- words are twice as many bytes: the bytes of the first n words are the first 2n bytes
front_bytes : (n m : ℕ) (ws : List ℕ) → m ≡ 2 * n → take m (bytes_of ws) ≡ bytes_of (take n ws)
front_bytes zero m ws e = let k : m ≡ 0 = omega arith in ap (λ (i : ℕ). take i (bytes_of ws)) k
front_bytes (suc n) m [] e = let k : m ≡ suc (m - 1) = omega arith in ap (λ (i : ℕ). take i []) k
front_bytes (suc n) m (w ∷ ws) e =
    let k : m ≡ suc (suc (m - 2)) = omega arith in
    ap (λ (i : ℕ). take i (bytes_of (w ∷ ws))) k ∙ ap (λ (l : List ℕ). w / 256 ∷ w % 256 ∷ l) (front_bytes n (m - 2) ws (omega arith))

back_bytes : (n m : ℕ) (ws : List ℕ) → m ≡ 2 * n → drop m (bytes_of ws) ≡ bytes_of (drop n ws)
back_bytes zero m ws e = let k : m ≡ 0 = omega arith in ap (λ (i : ℕ). drop i (bytes_of ws)) k
back_bytes (suc n) m [] e = let k : m ≡ suc (m - 1) = omega arith in ap (λ (i : ℕ). drop i []) k
back_bytes (suc n) m (w ∷ ws) e =
    let k : m ≡ suc (suc (m - 2)) = omega arith in
    ap (λ (i : ℕ). drop i (bytes_of (w ∷ ws))) k ∙ back_bytes n (m - 2) ws (omega arith)

pub last_item : (ws : List ℕ) → length ws ≤ 267 → cut_bytes (bytes_of ws) ≡ message_item true (bytes_of ws) ∷ []
last_item ws h = the_last (bytes_of ws) (omega (arith, bytes_length ws))

pub one_more_item : (ws : List ℕ) → 267 < length ws → cut_bytes (bytes_of ws) ≡ message_item false (bytes_of (take 267 ws)) ∷ cut_bytes (bytes_of (drop 267 ws))
one_more_item ws h =
    one_more (bytes_of ws) (omega (arith, bytes_length ws))
    ∙ ap (λ (l : List ℕ). message_item false l ∷ cut_bytes (drop 534 (bytes_of ws))) (front_bytes 267 534 ws refl)
    ∙ ap (λ (l : List ℕ). message_item false (bytes_of (take 267 ws)) ∷ cut_bytes l) (back_bytes 267 534 ws refl)

pub next_cut : (before after : List Item) (rest a b all : List ℕ) (x : Item) → 267 < length rest → a ≡ take 267 rest → b ≡ drop 267 rest → x ≡ message_item false (bytes_of a) → after ≡ before ++ x ∷ [] → before ++ cut_bytes (bytes_of rest) ≡ cut_bytes (bytes_of all) → after ++ cut_bytes (bytes_of b) ≡ cut_bytes (bytes_of all)
next_cut before after rest a b all x h ea eb ex ei inv =
    let e : cut_bytes (bytes_of rest) ≡ x ∷ cut_bytes (bytes_of b) =
    one_more_item rest h ∙ ap (λ (l : List ℕ). message_item false (bytes_of l) ∷ cut_bytes (bytes_of (drop 267 rest))) (sym ea)
    ∙ ap (λ (y : Item). y ∷ cut_bytes (bytes_of (drop 267 rest))) (sym ex) ∙ ap (λ (l : List ℕ). x ∷ cut_bytes (bytes_of l)) (sym eb) in
    ap (λ (ys : List Item). ys ++ cut_bytes (bytes_of b)) ei ∙ (append_assoc before (x ∷ []) (cut_bytes (bytes_of b)) ∙ (ap (λ (ys : List Item). before ++ ys) (sym e) ∙ inv))

-- the items have the bytes that were cut

back_from : (n : ℕ) (bytes : List ℕ) → bytes_in (cut_items n bytes) ≡ bytes
unfolding cut_items
back_from zero bytes = append-nil bytes
back_from (suc n) bytes = ap (λ (l : List ℕ). take 534 bytes ++ l) (back_from n (drop 534 bytes)) ∙ take-append-drop 534 bytes

pub bytes_back : (bytes : List ℕ) → bytes_in (cut_bytes bytes) ≡ bytes
unfolding cut_bytes
bytes_back bytes = back_from ((length bytes - 1) / 534) bytes

pub cut_length : (ws : List ℕ) → length (bytes_in (cut_bytes (bytes_of ws))) ≡ 2 * length ws
cut_length ws = ap (length {A = ℕ}) (bytes_back (bytes_of ws)) ∙ bytes_length ws

pub put_length : (before : List Item) (ws : List ℕ) → length (bytes_in (before ++ cut_bytes (bytes_of ws))) ≡ length (bytes_in before) + 2 * length ws
put_length [] ws = omega (arith, cut_length ws)
put_length (x ∷ xs) ws =
    omega (arith, length-append x.body (bytes_in xs), length-append x.body (bytes_in (xs ++ cut_bytes (bytes_of ws))), put_length xs ws)
