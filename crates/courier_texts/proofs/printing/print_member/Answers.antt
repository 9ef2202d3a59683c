use Rattle.std.proofs.Common.{◌≡◌, ◌+◌, [], drop, sym, rules, arith, eq-eqb, ne_eqb}
use Rattle.courier_types.proofs.Loops.{walk_ends, walk_on}
use Rattle.courier_texts.proofs.Appends.{nothing}
use Rattle.courier_texts.specs.Named.{members_seen}
use Rattle.courier_texts.specs.Printing.{member_text}
use Rattle.courier_texts.proofs.Printed.{next_member}
use Rattle.courier_texts.proofs.printing.print_member.Goals as goal

pub returns-then-member-word : goal.returns-then-member-word
returns-then-member-word c =
    let l = c.loop-member in
    let members = c.args.members.now in
    let m = c.member-item.result in
    let found = next_member m (drop (l.member-index + 1) members) c.args.word (eq-eqb m.1 c.args.word c.if-member-word.true) in
    let text : m.0.items ≡ member_text (members_seen members) c.args.word = walk_on (λ ms. member_text (members_seen ms) c.args.word) members l.member-index m m.0.items _ c.member-item.is (omega arith) found l.invariant.here in
    rw (sym text, ← l.invariant.same, ← c.deref.ensures.value) (search rules)

pub loop-member-preserved : goal.loop-member-preserved
loop-member-preserved c =
    let l = c.loop-member in
    let members = c.args.members.now in
    let m = c.member-item.result in
    let passed = next_member m (drop (l.member-index + 1) members) c.args.word (ne_eqb m.1 c.args.word c.if-member-word.false) in
    record { same = l.invariant.same; here = walk_on (λ ms. member_text (members_seen ms) c.args.word) members l.member-index m _ _ c.member-item.is (omega arith) passed l.invariant.here }

pub returns : goal.returns
returns c =
    let l = c.loop-member in
    let members = c.args.members.now in
    let none : [] ≡ member_text (members_seen members) c.args.word = walk_ends (λ ms. member_text (members_seen ms) c.args.word) members l.member-index _ c.loop-member-test.false l.invariant.here in
    rw (sym none) (nothing c.args.out.now l.out l.invariant.same c.requires)
