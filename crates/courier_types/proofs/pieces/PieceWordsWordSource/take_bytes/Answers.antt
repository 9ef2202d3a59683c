use Rattle.std.proofs.Common.{ap, subst, ◌∙◌, ◌++◌, List, ℕ, drop, length, take, arith}
use Rattle.std.proofs.lemmas.List.{length-drop}
use Rattle.courier_types.specs.Pieces.{joined, words_of}
use Rattle.courier_types.specs.Source.{bytes_of}
use Rattle.courier_types.specs.Spelling.{AreBytes}
use Rattle.courier_types.proofs.Joined.{words_length}
use Rattle.courier_types.proofs.Taken.{words_dropped, bytes_taken}
use Rattle.courier_types.proofs.pieces.PieceWordsWordSource.take_bytes.Goals as goal

pub take_bytes-requires-clause-enough : goal.take_bytes-requires-clause-enough
take_bytes-requires-clause-enough c =
    let bytes = c.self.inside.bytes.front.now ++ joined c.self.inside.bytes.later.now in
    let seen = ap (λ (l : List ℕ). length l) c.self.view_is in
    omega (arith, seen, words_length bytes, c.requires.enough)

pub invariant_of-self : goal.invariant_of-self
invariant_of-self c =
    let bytes = c.self.inside.bytes.front.now ++ joined c.self.inside.bytes.later.now in
    let after = ap (λ (l : List ℕ). length (words_of l)) c.take_bytes.ensures.left ∙ ap (λ (l : List ℕ). length l) (words_dropped c.args.count bytes) ∙ length-drop c.args.count (words_of bytes) in
    omega (arith, after, c.self.invariant)

pub returns-clause-left : goal.returns-clause-left
returns-clause-left c =
    let bytes = c.self.inside.bytes.front.now ++ joined c.self.inside.bytes.later.now in
    ap words_of c.take_bytes.ensures.left ∙ words_dropped c.args.count bytes ∙ ap (λ (l : List ℕ). drop c.args.count l) c.self.view_is

pub returns-clause-items : goal.returns-clause-items
returns-clause-items c =
    let bytes = c.self.inside.bytes.front.now ++ joined c.self.inside.bytes.later.now in
    let seen = ap (λ (l : List ℕ). length l) c.self.view_is in
    let old = c.args.bytes.now.items in
    bytes_taken c.args.count bytes old c.take_bytes.new.bytes.items (omega (arith, seen, words_length bytes, c.requires.enough)) c.take_bytes.ensures.items (subst AreBytes c.as_slice.ensures.value c.known_bytes.ensures) ∙ ap (λ (l : List ℕ). old ++ bytes_of (take c.args.count l)) c.self.view_is
