-- Sums lane by lane, and how large they get.
use Rattle.std.proofs.Common.{◌≡◌, ℕ, zero, suc, ◌+◌, ◌-◌, ◌*◌, ◌%◌, ◌^◌, ◌<◌, ◌≤◌, List, [], ◌∷◌, ◌++◌, length, get_or, take, drop, replicate, append-nil, refl, sym, ap, ◌∙◌, arith, map, subst, Fits, w8, w16, w32}
use Rattle.std.specs.Simd.Lanes.{Each1, Each2, zip2, sum_l, products}
use Rattle.std.proofs.lemmas.Simd.{Each1-zip2, Each2-of, Each1-weaker, chunk-fits, chunk-drop, length-chunk, length-zip2, pick_l_whole, Each1-replicate}
use Rattle.std.proofs.Math.Nat.{mul-le-mul_right}
use Rattle.xns_idp.specs.Checksum.{words, sum_from}
use Rattle.xns_idp.proofs.Sums.{from_nothing, sum_from-cons, sum_from-append, sum_from-mod, words-append}
use Rattle.std.proofs.lemmas.List.{take-append-drop, length-take, length-drop, drop_all}
use Rattle.std.proofs.lemmas.Slice.{take-put_mid, drop-put_mid}
use borrow.Rule.Slice.PartMut.{put_mid}

-- the sum of sums is that of the lanes' sums
pub zip_sum : (s t : ℕ) (xs ys : List ℕ) → length xs ≡ length ys → sum_from (s + t) (words (zip2 (λ a b. a + b) xs ys)) ≡ sum_from s (words xs) + sum_from t (words ys)
zip_sum s t [] [] e = omega (arith, from_nothing (s + t), from_nothing s, from_nothing t)
zip_sum s t [] (b ∷ ys) e = absurd (omega (arith, e))
zip_sum s t (a ∷ xs) [] e = absurd (omega (arith, e))
zip_sum s t (a ∷ []) (b ∷ []) e =
    omega (
      arith,
      sum_from-cons (s + t) (256 * (a + b)) [],
      sum_from-cons s (256 * a) [],
      sum_from-cons t (256 * b) [],
      from_nothing (2 * ((s + t) + 256 * (a + b))),
      from_nothing (2 * (s + 256 * a)),
      from_nothing (2 * (t + 256 * b)),
    )
zip_sum s t (a ∷ []) (b ∷ c ∷ ys) e = absurd (omega (arith, e))
zip_sum s t (a ∷ d ∷ xs) (b ∷ []) e = absurd (omega (arith, e))
zip_sum s t (a ∷ d ∷ xs) (b ∷ c ∷ ys) e =
    let both : 2 * ((s + t) + (256 * (a + b) + (d + c))) ≡ 2 * (s + (256 * a + d)) + 2 * (t + (256 * b + c)) = omega arith in
    sum_from-cons (s + t) (256 * (a + b) + (d + c)) (words (zip2 (λ a b. a + b) xs ys))
    ∙ ap (λ (n : ℕ). sum_from n (words (zip2 (λ a b. a + b) xs ys))) both
    ∙ zip_sum (2 * (s + (256 * a + d))) (2 * (t + (256 * b + c))) xs ys (omega (arith, e))
    ∙ ap (λ (n : ℕ). n + sum_from (2 * (t + (256 * b + c))) (words ys)) (sym (sum_from-cons s (256 * a + d) (words xs)))
    ∙ ap (λ (n : ℕ). sum_from s (words (a ∷ d ∷ xs)) + n) (sym (sum_from-cons t (256 * b + c) (words ys)))

pub length_words : (n : ℕ) (bytes : List ℕ) → length bytes ≡ 2 * n → length (words bytes) ≡ n
length_words n [] e = omega (arith, e)
length_words n (a ∷ []) e = absurd (omega (arith, e))
length_words zero (a ∷ b ∷ bytes) e = absurd (omega (arith, e))
length_words (suc n) (a ∷ b ∷ bytes) e = ap suc (length_words n bytes (omega (arith, e)))

-- after 16 words a sum has come round
come_round : (sum : ℕ) (ws : List ℕ) → length ws ≡ 16 → sum_from sum ws ≡ 65536 * sum + sum_from 0 ws
unfolding sum_from
come_round sum ws e = rw e (omega arith)

-- a block is added to the lanes
pub add_block : (start : ℕ) (lanes block : List ℕ) → length lanes ≡ 32 → length block ≡ 32
    → sum_from start (words (zip2 (λ a b. a + b) lanes block)) % 65535 ≡ sum_from (sum_from start (words lanes)) (words block) % 65535
add_block start lanes block hl hb =
    let zipped : sum_from start (words (zip2 (λ a b. a + b) lanes block)) ≡ sum_from start (words lanes) + sum_from 0 (words block) =
    ap (λ (n : ℕ). sum_from n (words (zip2 (λ a b. a + b) lanes block))) (omega arith) ∙ zip_sum start 0 lanes block (omega (arith, hl, hb)) in
    let round = come_round (sum_from start (words lanes)) (words block) (length_words 16 block hb) in
    omega (arith, zipped, round)

pub next_block : (start total : ℕ) (lanes block bytes rest : List ℕ) → length lanes ≡ 32 → length block ≡ 32 → bytes ≡ block ++ rest
    → sum_from (sum_from start (words lanes)) (words bytes) % 65535 ≡ total
    → sum_from (sum_from start (words (zip2 (λ a b. a + b) lanes block))) (words rest) % 65535 ≡ total
next_block start total lanes block bytes rest hl hb e so_far =
    let a = sum_from start (words lanes) in
    sum_from-mod _ (sum_from a (words block)) (words rest) (add_block start lanes block hl hb)
    ∙ ap (λ (n : ℕ). n % 65535) (sym (sum_from-append a (words block) (words rest)))
    ∙ ap (λ (ws : List ℕ). sum_from a ws % 65535) (sym (words-append block rest (omega (arith, hb))) ∙ sym (ap words e))
    ∙ so_far

zeros : List ℕ
zeros = 0 ∷ 0 ∷ 0 ∷ 0 ∷ 0 ∷ 0 ∷ 0 ∷ 0 ∷ 0 ∷ 0 ∷ 0 ∷ 0 ∷ 0 ∷ 0 ∷ 0 ∷ 0 ∷ []

no_sum : sum_from 0 zeros ≡ 0
unfolding sum_from zeros
no_sum = refl

pub no_block : (start : ℕ) (bytes : List ℕ) → sum_from (sum_from start (0 ∷ 0 ∷ 0 ∷ 0 ∷ 0 ∷ 0 ∷ 0 ∷ 0 ∷ 0 ∷ 0 ∷ 0 ∷ 0 ∷ 0 ∷ 0 ∷ 0 ∷ 0 ∷ [])) (words bytes) % 65535 ≡ sum_from start (words bytes) % 65535
unfolding zeros
no_block start bytes = sum_from-mod (sum_from start zeros) start (words bytes) (omega (arith, come_round start zeros refl, no_sum))

-- the words that fill no block come first
pub front_first : (sum at : ℕ) (bytes : List ℕ) → at % 2 ≡ 0 → at ≤ length bytes → sum ≡ sum_from 0 (words (take at bytes)) → sum_from sum (words (drop at bytes)) ≡ sum_from 0 (words bytes)
front_first sum at bytes even within e =
    let two : length (take at bytes) % 2 ≡ 0 = omega (arith, length-take at bytes, even, within) in
    ap (λ (n : ℕ). sum_from n (words (drop at bytes))) e
    ∙ sym (sum_from-append 0 (words (take at bytes)) (words (drop at bytes)))
    ∙ ap (λ (ws : List ℕ). sum_from 0 ws) (sym (words-append (take at bytes) (drop at bytes) two) ∙ ap words (take-append-drop at bytes))

-- zeros in front add nothing
zeros_first : (zs bytes : List ℕ) → Each1 (λ z. z ≡ 0) zs → length zs % 2 ≡ 0 → sum_from 0 (words (zs ++ bytes)) ≡ sum_from 0 (words bytes)
zeros_first [] bytes none even = refl
zeros_first (y ∷ []) bytes none even = absurd (omega (arith, even))
zeros_first (y ∷ z ∷ zs) bytes none even =
    let nothing : 2 * (0 + (256 * y + z)) ≡ 0 = omega (arith, none.0, none.1.0) in
    sum_from-cons 0 (256 * y + z) (words (zs ++ bytes))
    ∙ ap (λ (n : ℕ). sum_from n (words (zs ++ bytes))) nothing
    ∙ zeros_first zs bytes none.1.1 (omega (arith, even))

some_of : (P : ℕ → Type 0) (n : ℕ) (xs : List ℕ) → Each1 P xs → Each1 P (take n xs)
some_of P zero [] h = tt
some_of P zero (x ∷ xs) h = tt
some_of P (suc n) [] h = tt
some_of P (suc n) (x ∷ xs) h = (h.0, some_of P n xs h.1)

some_zeros : (n : ℕ) → Each1 {A = ℕ} (λ z. z ≡ 0) (take n (replicate 32 0))
some_zeros n = some_of (λ (z : ℕ). z ≡ 0) n (replicate 32 0) (Each1-replicate (λ (z : ℕ). z ≡ 0) 32 0 refl)

-- bytes at the end of a slice
at_the_end : (a k : ℕ) (xs ys : List ℕ) → a + k ≡ length xs → length ys ≡ k → put_mid a k xs ys ≡ take a xs ++ ys
at_the_end a k xs ys e l =
    let n = length xs in
    let all = put_mid a k xs ys in
    let none : drop n all ≡ [] = drop-put_mid a k xs ys n (omega (arith, e)) (omega (arith, e)) l ∙ drop_all n xs (omega arith) in
    sym (take-append-drop n all)
    ∙ ap (λ (zs : List ℕ). take n all ++ zs) none
    ∙ append-nil (take n all)
    ∙ take-put_mid a k xs ys n (omega (arith, e, l)) (omega (arith, e))

-- the words of the front are those of a block that ends with it, behind zeros
pub behind_zeros : (at : ℕ) (put front : List ℕ) → put ≡ front → length front ≡ at → at % 2 ≡ 0 → at ≤ 32
    → sum_from 0 (words (put_mid (32 - at) (32 - (32 - at)) (replicate 32 0) put)) ≡ sum_from 0 (words front)
behind_zeros at put front same long two within =
    let n = 32 - at in
    let zeros : List ℕ = replicate 32 0 in
    let even : length (take n zeros) % 2 ≡ 0 = omega (arith, length-take n zeros, two, within) in
    let fits : length put ≡ 32 - n = omega (arith, ap (λ (xs : List ℕ). length xs) same, long, within) in
    ap (λ (xs : List ℕ). sum_from 0 (words xs)) (at_the_end n (32 - n) zeros put (omega (arith, within)) fits)
    ∙ zeros_first (take n zeros) put (some_zeros n) even
    ∙ ap (λ (xs : List ℕ). sum_from 0 (words xs)) same

-- whole rounds of 16 words weigh nothing on what stands before them
pub rounds : (k s : ℕ) (ws : List ℕ) → length ws ≡ 16 * k → sum_from s ws % 65535 ≡ (s + sum_from 0 ws) % 65535
rounds zero s [] e = omega (arith, from_nothing s, from_nothing 0)
rounds zero s (w ∷ ws) e = absurd (omega (arith, e))
rounds (suc k) s ws e =
    let a = take 16 ws in
    let b = drop 16 ws in
    let la : length a ≡ 16 = omega (arith, length-take 16 ws, e) in
    let lb : length b ≡ 16 * k = omega (arith, length-drop 16 ws, e) in
    let split : (t : ℕ) → sum_from t ws ≡ sum_from (sum_from t a) b = λ t. ap (λ (xs : List ℕ). sum_from t xs) (sym (take-append-drop 16 ws)) ∙ sum_from-append t a b in
    omega (arith, split s, split 0, rounds k (sum_from s a) b lb, rounds k (sum_from 0 a) b lb, come_round s a la)

pub none_left : (sum at : ℕ) (bytes : List ℕ) → length bytes ≤ at → sum_from sum (words (drop at bytes)) % 65535 ≡ sum % 65535
none_left sum at bytes past =
    ap (λ (xs : List ℕ). sum_from sum (words xs) % 65535) (drop_all at bytes past) ∙ ap (λ (n : ℕ). n % 65535) (from_nothing sum)

-- ---- bounds

-- a lane of no more than m, and a byte
pub lanes_grow : (m n : ℕ) (lanes block : List ℕ) → m + 256 ≤ n → Each1 (λ x. x ≤ m) lanes → Each1 (λ x. x ≤ 255) block → Each1 (λ x. x ≤ n) (zip2 (λ a b. a + b) lanes block)
lanes_grow m n lanes block e x y =
    Each1-zip2 (λ a b. a + b) (λ z. z ≤ n) lanes block (Each2-of (λ z. z ≤ m) (λ z. z ≤ 255) (λ a b. a + b ≤ n) (λ a b ha hb. omega (arith, ha, hb, e)) lanes block x y)

-- a byte, and a lane whose blocks come to so many bytes
front_kept : (Q : ℕ → ℕ → Type 0) (at : ℕ) (front lanes : List ℕ) → ((a b : ℕ) → a ≤ 255 → b ≤ 16384 → Q a b) → Each1 (Fits w8) front → Each1 (λ x. x ≤ 8 * at) lanes → at ≤ 2048 → Each2 Q front lanes
front_kept Q at front lanes keeps x y le = Each2-of (Fits w8) (λ z. z ≤ 8 * at) Q (λ a b ha hb. keeps a b (omega (arith, ha)) (omega (arith, hb, le))) front lanes x y

pub front_fits : (at : ℕ) (front lanes : List ℕ) → Each1 (Fits w8) front → Each1 (λ x. x ≤ 8 * at) lanes → at ≤ 2048 → Each2 (λ a b. Fits w16 (a + b)) front lanes
front_fits at front lanes = front_kept (λ a b. Fits w16 (a + b)) at front lanes (λ a b ha hb. omega (arith, ha, hb))

pub front_grows : (at : ℕ) (front lanes : List ℕ) → Each1 (Fits w8) front → Each1 (λ x. x ≤ 8 * at) lanes → at ≤ 2048 → Each1 (λ x. x ≤ 16640) (zip2 (λ a b. a + b) front lanes)
front_grows at front lanes x y le =
    Each1-zip2 (λ a b. a + b) (λ z. z ≤ 16640) front lanes (front_kept (λ a b. a + b ≤ 16640) at front lanes (λ a b ha hb. omega (arith, ha, hb)) x y le)

-- ---- what the lanes weigh

-- the weights of a block's bytes, modulo 65535
abbrev pub weights : List ℕ
weights = 256 ∷ 1 ∷ 128 ∷ 32768 ∷ 64 ∷ 16384 ∷ 32 ∷ 8192 ∷ 16 ∷ 4096 ∷ 8 ∷ 2048 ∷ 4 ∷ 1024 ∷ 2 ∷ 512 ∷ 1 ∷ 256 ∷ 32768 ∷ 128 ∷ 16384 ∷ 64 ∷ 8192 ∷ 32 ∷ 4096 ∷ 16 ∷ 2048 ∷ 8 ∷ 1024 ∷ 4 ∷ 512 ∷ 2 ∷ []

-- a word's weight and its remainder differ by a multiple of 65535
front_weighs : (a0 a1 a2 a3 a4 a5 a6 a7 a8 a9 a10 a11 a12 a13 a14 a15 t u q : ℕ) → t ≡ u + 65535 * q
    → 0 + ((256 * a0 + a1) * 65536 + ((256 * a2 + a3) * 32768 + ((256 * a4 + a5) * 16384 + ((256 * a6 + a7) * 8192 + ((256 * a8 + a9) * 4096 + ((256 * a10 + a11) * 2048 + ((256 * a12 + a13) * 1024 + ((256 * a14 + a15) * 512 + t)))))))) ≡ (a0 * 256 + (a1 * 1 + (a2 * 128 + (a3 * 32768 + (a4 * 64 + (a5 * 16384 + (a6 * 32 + (a7 * 8192 + (a8 * 16 + (a9 * 4096 + (a10 * 8 + (a11 * 2048 + (a12 * 4 + (a13 * 1024 + (a14 * 2 + (a15 * 512 + u)))))))))))))))) + 65535 * (a1 + 256 * a0 + 128 * a2 + 64 * a4 + 32 * a6 + 16 * a8 + 8 * a10 + 4 * a12 + 2 * a14 + q)
front_weighs a0 a1 a2 a3 a4 a5 a6 a7 a8 a9 a10 a11 a12 a13 a14 a15 t u q e = omega (arith, e)

back_weighs : (a16 a17 a18 a19 a20 a21 a22 a23 a24 a25 a26 a27 a28 a29 a30 a31 : ℕ) → ((256 * a16 + a17) * 256 + ((256 * a18 + a19) * 128 + ((256 * a20 + a21) * 64 + ((256 * a22 + a23) * 32 + ((256 * a24 + a25) * 16 + ((256 * a26 + a27) * 8 + ((256 * a28 + a29) * 4 + ((256 * a30 + a31) * 2 + 0)))))))) ≡ (a16 * 1 + (a17 * 256 + (a18 * 32768 + (a19 * 128 + (a20 * 16384 + (a21 * 64 + (a22 * 8192 + (a23 * 32 + (a24 * 4096 + (a25 * 16 + (a26 * 2048 + (a27 * 8 + (a28 * 1024 + (a29 * 4 + (a30 * 512 + (a31 * 2 + 0)))))))))))))))) + 65535 * a16
back_weighs a16 a17 a18 a19 a20 a21 a22 a23 a24 a25 a26 a27 a28 a29 a30 a31 = omega arith

same_remainder : (s t q : ℕ) → s ≡ t + 65535 * q → t % 65535 ≡ s % 65535
same_remainder s t q e = omega (arith, e)

cells_weigh : (a0 a1 a2 a3 a4 a5 a6 a7 a8 a9 a10 a11 a12 a13 a14 a15 a16 a17 a18 a19 a20 a21 a22 a23 a24 a25 a26 a27 a28 a29 a30 a31 : ℕ)
    → sum_l (products (a0 ∷ a1 ∷ a2 ∷ a3 ∷ a4 ∷ a5 ∷ a6 ∷ a7 ∷ a8 ∷ a9 ∷ a10 ∷ a11 ∷ a12 ∷ a13 ∷ a14 ∷ a15 ∷ a16 ∷ a17 ∷ a18 ∷ a19 ∷ a20 ∷ a21 ∷ a22 ∷ a23 ∷ a24 ∷ a25 ∷ a26 ∷ a27 ∷ a28 ∷ a29 ∷ a30 ∷ a31 ∷ []) weights) % 65535 ≡ sum_from 0 (words (a0 ∷ a1 ∷ a2 ∷ a3 ∷ a4 ∷ a5 ∷ a6 ∷ a7 ∷ a8 ∷ a9 ∷ a10 ∷ a11 ∷ a12 ∷ a13 ∷ a14 ∷ a15 ∷ a16 ∷ a17 ∷ a18 ∷ a19 ∷ a20 ∷ a21 ∷ a22 ∷ a23 ∷ a24 ∷ a25 ∷ a26 ∷ a27 ∷ a28 ∷ a29 ∷ a30 ∷ a31 ∷ [])) % 65535
unfolding sum_from
cells_weigh a0 a1 a2 a3 a4 a5 a6 a7 a8 a9 a10 a11 a12 a13 a14 a15 a16 a17 a18 a19 a20 a21 a22 a23 a24 a25 a26 a27 a28 a29 a30 a31 =
    same_remainder _ _ _ (front_weighs a0 a1 a2 a3 a4 a5 a6 a7 a8 a9 a10 a11 a12 a13 a14 a15 _ _ _ (back_weighs a16 a17 a18 a19 a20 a21 a22 a23 a24 a25 a26 a27 a28 a29 a30 a31))

pub lanes_weigh : (lanes : List ℕ) → length lanes ≡ 32 → sum_l (products lanes weights) % 65535 ≡ sum_from 0 (words lanes) % 65535
lanes_weigh lanes e =
    let x : (i : ℕ) → ℕ = λ i. get_or lanes i 0 in
    subst (λ (xs : List ℕ). sum_l (products xs weights) % 65535 ≡ sum_from 0 (words xs) % 65535) (pick_l_whole 0 lanes 32 e)
    (cells_weigh (x 0) (x 1) (x 2) (x 3) (x 4) (x 5) (x 6) (x 7) (x 8) (x 9) (x 10) (x 11) (x 12) (x 13) (x 14) (x 15) (x 16) (x 17) (x 18) (x 19) (x 20) (x 21) (x 22) (x 23) (x 24) (x 25) (x 26) (x 27) (x 28) (x 29) (x 30) (x 31))

weigh_at_most : (most : ℕ) (xs ws : List ℕ) → Each1 (λ x. x ≤ most) xs → sum_l (products xs ws) ≤ most * sum_l ws
weigh_at_most most [] ws h = omega arith
weigh_at_most most (x ∷ xs) [] h = omega arith
weigh_at_most most (x ∷ xs) (w ∷ ws) h = omega (arith, mul-le-mul_right w h.0, weigh_at_most most xs ws h.1)

pub weigh_below : (lanes : List ℕ) → Each1 (λ x. x ≤ 16640) lanes → sum_l (products lanes weights) < 2 ^ 32
weigh_below lanes h = omega (arith, weigh_at_most 16640 lanes weights h)

pub products_fit : (xs ws : List ℕ) → sum_l (products xs ws) < 2 ^ 32 → Each2 (λ x w. Fits w32 (x * w)) xs ws
products_fit [] ws h = tt
products_fit (x ∷ xs) [] h = tt
products_fit (x ∷ xs) (w ∷ ws) h = (record { fits = omega (arith, h) }, products_fit xs ws (omega (arith, h)))

-- ---- a widened block

pub same_lanes : (f : ℕ → ℕ) → ((x : ℕ) → f x ≡ x) → (xs : List ℕ) → map f xs ≡ xs
same_lanes f e [] = refl
same_lanes f e (x ∷ xs) = ap (λ y. y ∷ map f xs) (e x) ∙ ap (λ ys. x ∷ ys) (same_lanes f e xs)

pub block_bytes : (at : ℕ) (bytes added : List ℕ) → ((i : ℕ) → Fits w8 (get_or bytes i 0)) → added ≡ take 32 (drop at bytes) → Each1 (λ x. x ≤ 255) added
block_bytes at bytes added fits e =
    subst (Each1 (λ x. x ≤ 255)) (sym e) (Each1-weaker (Fits w8) (λ x. x ≤ 255) (λ x h. omega (arith, h)) _ (chunk-fits w8 at 32 bytes fits))

pub lanes_fit : (at : ℕ) (lanes bytes added : List ℕ) → ((i : ℕ) → Fits w8 (get_or bytes i 0)) → added ≡ take 32 (drop at bytes) → at + 32 ≤ 8160 → Each1 (λ x. x ≤ 8 * at) lanes
    → Each2 (λ a b. Fits w16 (a + b)) lanes added
lanes_fit at lanes bytes added fits e le small =
    Each2-of (λ z. z ≤ 8 * at) (λ z. z ≤ 255) (λ a b. Fits w16 (a + b)) (λ a b ha hb. omega (arith, ha, hb, le)) lanes added small (block_bytes at bytes added fits e)

pub block_length : (at : ℕ) (bytes added : List ℕ) → added ≡ take 32 (drop at bytes) → at + 32 ≤ length bytes → length added ≡ 32
block_length at bytes added e le = ap length e ∙ length-chunk at 32 bytes le

pub lanes_length : (at : ℕ) (lanes bytes added : List ℕ) → added ≡ take 32 (drop at bytes) → at + 32 ≤ length bytes → length lanes ≡ 32 → length (zip2 (λ a b. a + b) lanes added) ≡ 32
lanes_length at lanes bytes added e le hl = length-zip2 (λ a b. a + b) lanes added (hl ∙ sym (block_length at bytes added e le)) ∙ hl

pub lanes_small : (at : ℕ) (lanes bytes added : List ℕ) → ((i : ℕ) → Fits w8 (get_or bytes i 0)) → added ≡ take 32 (drop at bytes) → Each1 (λ x. x ≤ 8 * at) lanes
    → Each1 (λ x. x ≤ 8 * (at + 32)) (zip2 (λ a b. a + b) lanes added)
lanes_small at lanes bytes added fits e small = lanes_grow (8 * at) (8 * (at + 32)) lanes added (omega arith) small (block_bytes at bytes added fits e)

pub lanes_same : (at start total : ℕ) (lanes bytes added : List ℕ) → added ≡ take 32 (drop at bytes) → at + 32 ≤ length bytes → length lanes ≡ 32
    → sum_from (sum_from start (words lanes)) (words (drop at bytes)) % 65535 ≡ total
    → sum_from (sum_from start (words (zip2 (λ a b. a + b) lanes added))) (words (drop (at + 32) bytes)) % 65535 ≡ total
lanes_same at start total lanes bytes added e le hl so_far =
    next_block start total lanes added (drop at bytes) (drop (at + 32) bytes) hl (block_length at bytes added e le)
    (chunk-drop at 32 bytes ∙ ap (λ (xs : List ℕ). xs ++ drop (at + 32) bytes) (sym e)) so_far
