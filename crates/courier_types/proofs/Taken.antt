-- Bytes that are taken a run at a time.
use Rattle.std.proofs.Common.{◌≡◌, ◌∙◌, ap, sym, subst, refl, ℕ, zero, suc, ◌+◌, ◌-◌, ◌*◌, ◌/◌, ◌%◌, ◌<◌, ◌≤◌, List, [], ◌∷◌, ◌++◌, length, drop, take, Result, Ok, Err, OnErr, is_ok, if◌then◌else◌, get_or, take_all, length-append, append_assoc, append-nil, take-append-drop, arith, Vec, Global, ◌^◌}
use Rattle.std.proofs.lemmas.List.{drop-append-le}
use Rattle.courier_types.specs.declared.read_fault.Reason.TheVariants.{Truncated}
use Rattle.courier_types.specs.Reading.{◌>>=◌, front_bytes}
use Rattle.courier_types.specs.Source.{bytes_of}
use Rattle.courier_types.specs.Spelling.{AreBytes}
use Rattle.courier_types.specs.Pieces.{joined, words_of}
use Rattle.courier_types.proofs.Words.{head_below, tail_below}

-- past a prefix

pub take_past : (front back : List ℕ) (n k : ℕ) → n ≡ length front + k → take n (front ++ back) ≡ front ++ take k back
take_past [] back n k e = let h : n ≡ k = omega (arith, e) in ap (λ i. take i back) h
take_past (x ∷ front) back zero k e = absurd (omega (arith, e))
take_past (x ∷ front) back (suc n) k e = ap (λ (l : List ℕ). x ∷ l) (take_past front back n k (omega (arith, e)))

drop_past : (front back : List ℕ) (n k : ℕ) → n ≡ length front + k → drop n (front ++ back) ≡ drop k back
drop_past [] back n k e = let h : n ≡ k = omega (arith, e) in ap (λ i. drop i back) h
drop_past (x ∷ front) back zero k e = absurd (omega (arith, e))
drop_past (x ∷ front) back (suc n) k e = drop_past front back n k (omega (arith, e))

pub take_step : (bytes front back total : List ℕ) (n : ℕ) → length front ≤ n → bytes ++ take n (front ++ back) ≡ total → (bytes ++ front) ++ take (n - length front) back ≡ total
take_step bytes front back total n h e =
    let k : n ≡ length front + (n - length front) = omega (arith, h) in
    append_assoc bytes front (take (n - length front) back) ∙ ap (λ (l : List ℕ). bytes ++ l) (sym (take_past front back n (n - length front) k)) ∙ e

pub drop_step : (front back total : List ℕ) (n : ℕ) → length front ≤ n → drop n (front ++ back) ≡ total → drop (n - length front) back ≡ total
drop_step front back total n h e =
    let k : n ≡ length front + (n - length front) = omega (arith, h) in
    sym (drop_past front back n (n - length front) k) ∙ e

pub enough_step : (front back : List ℕ) (n : ℕ) → length front ≤ n → n ≤ length (front ++ back) → n - length front ≤ length back
enough_step front back n h le = let e = length-append front back in omega (arith, e, h, le)

-- memory is not refused where the vector has room
pub extended : {T E X : Type 0} (result : Result T E) (capacity len more : ℕ) (new longer same : X) → len + more ≤ capacity → OnErr result (capacity < len + more) → new ≡ (if is_ok result then longer else same) → new ≡ longer
extended (Ok t) capacity len more new longer same le full e = e
extended (Err t) capacity len more new longer same le full e = absurd (omega (arith, le, full))

-- the first piece, and those behind it
pub pieces_next : (ps : List (Vec ℕ Global)) (p : Vec ℕ Global) → 1 ≤ length ps → p ≡ get_or ps 0 p → joined ps ≡ p.items ++ joined (take (length ps - 1) (drop 1 ps))
pieces_next [] p n e = absurd (omega arith)
pieces_next (x ∷ xs) p n e =
    let count : length xs ≤ length (x ∷ xs) - 1 = omega arith in
    let rest : take (length (x ∷ xs) - 1) xs ≡ xs = take_all (length (x ∷ xs) - 1) xs count in
    ap (λ (v : Vec ℕ Global). v.items ++ joined xs) (sym e) ∙ ap (λ (l : List (Vec ℕ Global)). p.items ++ joined l) (sym rest)

-- all words are put
pub put_all : (buffer old source words : List ℕ) (at : ℕ) → take at buffer ++ source ≡ words → source ≡ [] → at + length source ≡ length words → drop (length words) buffer ≡ drop (length words) old → buffer ≡ words ++ drop (length words) old
put_all buffer old source words at so_far none count behind =
    let nothing : length source ≡ 0 = ap (length {A = ℕ}) none in
    let all : at ≡ length words = omega (arith, count, nothing) in
    let front : take at buffer ≡ words = sym (append-nil (take at buffer)) ∙ ap (λ (l : List ℕ). take at buffer ++ l) (sym none) ∙ so_far in
    sym (take-append-drop at buffer) ∙ ap (λ (l : List ℕ). l ++ drop at buffer) front ∙ ap (λ (n : ℕ). words ++ drop n buffer) all ∙ ap (λ (l : List ℕ). words ++ l) behind

-- words and their bytes

words_dropped_of : (n m : ℕ) → m ≡ 2 * n → (bytes : List ℕ) → words_of (drop m bytes) ≡ drop n (words_of bytes)
words_dropped_of zero zero e bytes = refl
words_dropped_of zero (suc m) e bytes = absurd (omega arith)
words_dropped_of (suc n) zero e bytes = absurd (omega arith)
words_dropped_of (suc n) (suc zero) e bytes = absurd (omega arith)
words_dropped_of (suc n) (suc (suc m)) e [] = refl
words_dropped_of (suc n) (suc (suc m)) e (b ∷ []) = refl
words_dropped_of (suc n) (suc (suc m)) e (b ∷ c ∷ bytes) = words_dropped_of n m (omega (arith, e)) bytes

pub words_dropped : (n : ℕ) (bytes : List ℕ) → words_of (drop (2 * n) bytes) ≡ drop n (words_of bytes)
words_dropped n bytes = words_dropped_of n (2 * n) refl bytes

-- words that all lie in front are dropped there
pub front_dropped : (n : ℕ) (front back : List ℕ) → n ≤ length front / 2 → words_of (drop (2 * n) front ++ back) ≡ drop n (words_of (front ++ back))
front_dropped n front back h =
    let le : 2 * n ≤ length front = omega (arith, h) in
    ap words_of (sym (drop-append-le (2 * n) front back le)) ∙ words_dropped n (front ++ back)

bytes_taken_of : (n m : ℕ) → m ≡ 2 * n → (bytes : List ℕ) → m ≤ length bytes → AreBytes (take m bytes) → take m bytes ≡ bytes_of (take n (words_of bytes))
bytes_taken_of zero zero e bytes le h = refl
bytes_taken_of zero (suc m) e bytes le h = absurd (omega arith)
bytes_taken_of (suc n) zero e bytes le h = absurd (omega arith)
bytes_taken_of (suc n) (suc zero) e bytes le h = absurd (omega arith)
bytes_taken_of (suc n) (suc (suc m)) e [] le h = absurd (omega arith)
bytes_taken_of (suc n) (suc (suc m)) e (b ∷ []) le h = absurd (omega arith)
bytes_taken_of (suc n) (suc (suc m)) e (b ∷ c ∷ bytes) le h =
    let t = tail_below (2 ^ 8) b (c ∷ take m bytes) h in
    let y = head_below (2 ^ 8) c (take m bytes) t in
    let high : (b * 256 + c) / 256 ≡ b = omega (arith, y) in
    let low : (b * 256 + c) % 256 ≡ c = omega (arith, y) in
    rw (high, low) (ap (λ (l : List ℕ). b ∷ c ∷ l) (bytes_taken_of n m (omega (arith, e)) bytes (omega (arith, le)) (tail_below (2 ^ 8) c (take m bytes) t)))

last_bytes : (xs ys : List ℕ) → AreBytes (xs ++ ys) → AreBytes ys
last_bytes [] ys h = h
last_bytes (x ∷ xs) ys h = last_bytes xs ys (tail_below (2 ^ 8) x (xs ++ ys) h)

pub bytes_taken : (n : ℕ) (bytes old new : List ℕ) → 2 * n ≤ length bytes → new ≡ old ++ take (2 * n) bytes → AreBytes new → new ≡ old ++ bytes_of (take n (words_of bytes))
bytes_taken n bytes old new le e h =
    e ∙ ap (λ (l : List ℕ). old ++ l) (bytes_taken_of n (2 * n) refl bytes le (last_bytes old (take (2 * n) bytes) (subst AreBytes e h)))

-- bytes of a text, read at once

pub bytes_short : (n : ℕ) (ws : List ℕ) → length ws < n / 2 + n % 2 → front_bytes n ws ≡ Err (0, Truncated)
unfolding front_bytes
bytes_short zero ws h = absurd (omega (arith, h))
bytes_short (suc zero) [] h = refl
bytes_short (suc zero) (w ∷ ws) h = absurd (omega (arith, h))
bytes_short (suc (suc n)) [] h = refl
bytes_short (suc (suc n)) (w ∷ ws) h = ap (λ r. r >>= λ rest. Ok (w / 256 ∷ w % 256 ∷ rest.0, rest.1)) (bytes_short n ws (omega (arith, h)))

bytes_all : (n k : ℕ) → k ≡ n / 2 + n % 2 → (ws : List ℕ) → k ≤ length ws → front_bytes n ws ≡ Ok (take n (bytes_of (take k ws)), drop k ws)
unfolding front_bytes
bytes_all zero zero e ws le = refl
bytes_all zero (suc k) e ws le = absurd (omega (arith, e))
bytes_all (suc zero) zero e ws le = absurd (omega (arith, e))
bytes_all (suc zero) (suc zero) e [] le = absurd (omega (arith, le))
bytes_all (suc zero) (suc zero) e (w ∷ ws) le = refl
bytes_all (suc zero) (suc (suc k)) e ws le = absurd (omega (arith, e))
bytes_all (suc (suc n)) zero e ws le = absurd (omega (arith, e))
bytes_all (suc (suc n)) (suc k) e [] le = absurd (omega (arith, le))
bytes_all (suc (suc n)) (suc k) e (w ∷ ws) le = ap (λ r. r >>= λ rest. Ok (w / 256 ∷ w % 256 ∷ rest.0, rest.1)) (bytes_all n k (omega (arith, e)) ws (omega (arith, le)))

pub bytes_read : (n k : ℕ) (ws items after : List ℕ) → k ≡ n / 2 + n % 2 → k ≤ length ws → items ≡ take n (bytes_of (take k ws)) → after ≡ drop k ws → front_bytes n ws ≡ Ok (items, after)
bytes_read n k ws items after e le h t = rw (h, t) (bytes_all n k e ws le)
