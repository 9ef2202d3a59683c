-- What is read at the front of words.
use Rattle.std.proofs.Common.{◌≡◌, ◌<◌, ◌≤◌, ℕ, ℤ, zero, suc, ◌+◌, ◌*◌, ◌-◌, List, [], ◌∷◌, length, slice_index_or, ap, subst, sym, refl, arith, ◌++◌, ◌∙◌, take, slice_set}
use Rattle.std.specs.Int.{w16, w32, cast_signed}
use Rattle.courier_types.specs.Front.{value_of}
use Rattle.courier_types.specs.Reading.{reading, front_long}
use Rattle.courier_types.specs.Shape.{ShapeModel}
use Rattle.courier_types.specs.Spelling.{bytes_spelling}
use Rattle.courier_types.specs.Value.{ValueModel}
use Rattle.xns_c.specs.Cursor.{further_on, faulted, IsRead}
use Rattle.xns_c.specs.Given.{is_yes}
use Rattle.xns_c.specs.Results.{ok, truncated, not_boolean}
use Rattle.xns_c.specs.declared.cursor.XnsCursor.{XnsCursor}

one_fewer : (words : List ℕ) → suc (length words) - length words ≡ 1
one_fewer words = omega arith

two_fewer : (words : List ℕ) → suc (suc (length words)) - length words ≡ 2
two_fewer words = omega arith

-- what is read of words is read of those that are the same
pub same_read : (shape : ShapeModel) (found words : List ℕ) (before after : XnsCursor) (number : ℕ) (value : ValueModel) → found ≡ words → IsRead (value_of shape found) before after number value → IsRead (value_of shape words) before after number value
same_read shape found words before after number value e read = subst (λ (w : List ℕ). IsRead (value_of shape w) before after number value) e read

pub cardinal_read : (words : List ℕ) (before : XnsCursor) → 1 ≤ length words → IsRead (value_of ShapeModel.cardinal words) before (further_on before 1) ok (ValueModel.cardinal (slice_index_or words 0 0))
unfolding value_of reading
cardinal_read [] before h = absurd (omega (arith, h))
cardinal_read (w ∷ ws) before h = (refl, refl, ap (further_on before) (sym (one_fewer ws)))

pub cardinal_cut : (words : List ℕ) (before after : XnsCursor) (number : ℕ) (value : ValueModel) → length words < 1 → (number ≡ truncated) × (after ≡ faulted before truncated) → IsRead (value_of ShapeModel.cardinal words) before after number value
unfolding value_of reading
cardinal_cut [] before after number value h told = told
cardinal_cut (w ∷ ws) before after number value h told = absurd (omega (arith, h))

-- a cardinal that is read is an integer by its sign
pub integer_read : (words : List ℕ) (before after : XnsCursor) (number word : ℕ) (value : ℤ) → IsRead (value_of ShapeModel.cardinal words) before after number (ValueModel.cardinal word) → (number ≡ ok → value ≡ cast_signed w16 word) → IsRead (value_of ShapeModel.integer words) before after number (ValueModel.integer value)
unfolding value_of reading
integer_read [] before after number word value read e = read
integer_read (w ∷ ws) before after number word value read e =
    let same : ValueModel.cardinal word ≡ ValueModel.cardinal w = read.1 in
    let is : word ≡ w = cc in
    (read.0, ap ValueModel.integer (e read.0 ∙ ap (cast_signed w16) is), read.2)

pub long_cardinal_read : (words : List ℕ) (before : XnsCursor) (value : ℕ) → 2 ≤ length words → value ≡ slice_index_or words 0 0 * 65536 + slice_index_or words 1 0 → IsRead (value_of ShapeModel.long_cardinal words) before (further_on before 2) ok (ValueModel.long_cardinal value)
unfolding value_of reading front_long
long_cardinal_read [] before value h e = absurd (omega (arith, h))
long_cardinal_read (high ∷ []) before value h e = absurd (omega (arith, h))
long_cardinal_read (high ∷ low ∷ ws) before value h e = (refl, ap ValueModel.long_cardinal e, ap (further_on before) (sym (two_fewer ws)))

pub long_cardinal_cut : (words : List ℕ) (before after : XnsCursor) (number : ℕ) (value : ValueModel) → length words < 2 → (number ≡ truncated) × (after ≡ faulted before truncated) → IsRead (value_of ShapeModel.long_cardinal words) before after number value
unfolding value_of reading front_long
long_cardinal_cut [] before after number value h told = told
long_cardinal_cut (high ∷ []) before after number value h told = told
long_cardinal_cut (high ∷ low ∷ ws) before after number value h told = absurd (omega (arith, h))

pub long_integer_read : (words : List ℕ) (before after : XnsCursor) (number double : ℕ) (value : ℤ) → IsRead (value_of ShapeModel.long_cardinal words) before after number (ValueModel.long_cardinal double) → (number ≡ ok → value ≡ cast_signed w32 double) → IsRead (value_of ShapeModel.long_integer words) before after number (ValueModel.long_integer value)
unfolding value_of reading front_long
long_integer_read [] before after number double value read e = read
long_integer_read (high ∷ []) before after number double value read e = read
long_integer_read (high ∷ low ∷ ws) before after number double value read e =
    let same : ValueModel.long_cardinal double ≡ ValueModel.long_cardinal (high * 65536 + low) = read.1 in
    let is : double ≡ high * 65536 + low = cc in
    (read.0, ap ValueModel.long_integer (e read.0 ∙ ap (cast_signed w32) is), read.2)

pub boolean_cut : (words : List ℕ) (before after : XnsCursor) (number : ℕ) (value : ValueModel) → length words < 1 → (number ≡ truncated) × (after ≡ faulted before truncated) → IsRead (value_of ShapeModel.boolean words) before after number value
unfolding value_of reading
boolean_cut [] before after number value h told = told
boolean_cut (w ∷ ws) before after number value h told = absurd (omega (arith, h))

-- the word of a boolean is 0 or 1
pub boolean_read : (words : List ℕ) (before : XnsCursor) → 1 ≤ length words → slice_index_or words 0 0 ≤ 1 → IsRead (value_of ShapeModel.boolean words) before (further_on before 1) ok (ValueModel.boolean (is_yes (slice_index_or words 0 0)))
unfolding value_of reading
boolean_read [] before h low = absurd (omega (arith, h))
boolean_read (zero ∷ ws) before h low = (refl, refl, ap (further_on before) (sym (one_fewer ws)))
boolean_read (suc zero ∷ ws) before h low = (refl, refl, ap (further_on before) (sym (one_fewer ws)))
boolean_read (suc (suc n) ∷ ws) before h low = absurd (omega (arith, low))

pub boolean_wrong : (words : List ℕ) (before after : XnsCursor) (number : ℕ) (value : ValueModel) → 1 ≤ length words → 1 < slice_index_or words 0 0 → (number ≡ not_boolean) × (after ≡ faulted before not_boolean) → IsRead (value_of ShapeModel.boolean words) before after number value
unfolding value_of reading
boolean_wrong [] before after number value h high told = absurd (omega (arith, h))
boolean_wrong (zero ∷ ws) before after number value h high told = absurd (omega (arith, high))
boolean_wrong (suc zero ∷ ws) before after number value h high told = absurd (omega (arith, high))
boolean_wrong (suc (suc n) ∷ ws) before after number value h high told = told

pub text_begun : (words : List ℕ) (count more : ℕ) → length words ≡ 1 + more → take 1 (slice_set words 0 count) ≡ count ∷ []
text_begun [] count more h = absurd (omega (arith, h))
text_begun (w ∷ ws) count more h = refl

pub text_room : (words : List ℕ) (count more : ℕ) → length words ≡ 1 + more → 1 + more ≡ length (slice_set words 0 count)
text_room [] count more h = absurd (omega (arith, h))
text_room (w ∷ ws) count more h = sym h

pub set_last : (words : List ℕ) (place word : ℕ) → place + 1 ≡ length words → slice_set words place word ≡ take place words ++ word ∷ []
set_last [] place word h = absurd (omega (arith, h))
set_last (w ∷ []) zero word h = refl
set_last (w ∷ v ∷ ws) zero word h = absurd (omega (arith, h))
set_last (w ∷ ws) (suc place) word h = ap (λ (l : List ℕ). w ∷ l) (set_last ws place word (omega (arith, h)))

-- an odd last byte is the high one of the last word
pub text_ended : (words rest : List ℕ) (place last : ℕ) → 1 ≤ length rest → length rest < 2 → last ≡ slice_index_or rest 0 0 → place + length (bytes_spelling rest) ≡ length words → slice_set words place (last * 256) ≡ take place words ++ bytes_spelling rest
text_ended words [] place last one two e h = absurd (omega (arith, one))
text_ended words (b ∷ []) place last one two e h = ap (λ (n : ℕ). slice_set words place (n * 256)) e ∙ set_last words place (b * 256) h
text_ended words (b ∷ c ∷ bytes) place last one two e h = absurd (omega (arith, two))
