-- `skip_group` goes on while a group is open: `Skipping` says that the groups that are open, from the innermost on, and what follows are the
-- definition's group. Each tag closes the innermost, opens another in it, or stands before a payload that is passed over.
use Rattle.std.proofs.Common.{Ok}
use native.Mathlib.Omega.{arith}
use mathlib.Core.Path.{sym, ◌∙◌, ap}
use borrow.Author.Tests.{leb-true, leb-false}
use Rattle.message.specs.Answers.{past}
use Rattle.protobuf.proofs.laws.Read.{handed_on}
use Rattle.message.proofs.laws.Open.{popped-none, popped-some}
use Rattle.message.proofs.laws.Group.{find, opens, ended, tag-refused, other-end, closes-last, closes_inner, too_deep, opens_inner, value-refused, passes, further, falls, falls-behind}
use Rattle.message.proofs.payload.skip_group.Goals as goal

pub loop-tag-init : goal.loop-tag-init
loop-tag-init c = opens _ _ _ c.new-around.ensures c.requires

pub returns-in_err-tag : goal.returns-in_err-tag
returns-in_err-tag c = ap past (handed_on _ c.from_residual.ensures) ∙ sym (tag-refused c.loop-tag.invariant (sym c.read_tag.ensures ∙ c.in_err-tag.was))

pub returns-in_default : goal.returns-in_default
returns-in_default c = sym (ended c.loop-tag.invariant (sym c.read_tag.ensures ∙ c.in_ok-tag.was ∙ ap Ok c.in_default.is))

pub returns-then-innermost-tag : goal.returns-then-innermost-tag
returns-then-innermost-tag c =
    let found = find c.loop-tag.invariant c.read_tag.ensures (c.in_ok-tag.was ∙ ap Ok c.in-Some.is) in
    sym (other-end found c.in-4.is c.if-innermost-tag.true)

pub returns-in_default-pop : goal.returns-in_default-pop
returns-in_default-pop c =
    let found = find c.loop-tag.invariant c.read_tag.ensures (c.in_ok-tag.was ∙ ap Ok c.in-Some.is) in
    sym (closes-last found c.in-4.is c.if-innermost-tag.false (popped-none _ c.in_default-pop.ensures))

pub loop-tag-smaller-in-4 : goal.loop-tag-smaller-in-4
loop-tag-smaller-in-4 c =
    falls (find c.loop-tag.invariant c.read_tag.ensures (c.in_ok-tag.was ∙ ap Ok c.in-Some.is))

pub loop-tag-preserved-in-4 : goal.loop-tag-preserved-in-4
loop-tag-preserved-in-4 c =
    let found = find c.loop-tag.invariant c.read_tag.ensures (c.in_ok-tag.was ∙ ap Ok c.in-Some.is) in
    closes_inner found c.in-4.is c.if-innermost-tag.false (popped-some _ c.in-Some-pop.ensures)

pub returns-then-is_full : goal.returns-then-is_full
returns-then-is_full c =
    let found = find c.loop-tag.invariant c.read_tag.ensures (c.in_ok-tag.was ∙ ap Ok c.in-Some.is) in
    sym (too_deep found c.in-3.is (leb-true _ _ (sym c.is_full.ensures ∙ c.if-is_full.true)))

pub loop-tag-smaller-in-3 : goal.loop-tag-smaller-in-3
loop-tag-smaller-in-3 c =
    falls (find c.loop-tag.invariant c.read_tag.ensures (c.in_ok-tag.was ∙ ap Ok c.in-Some.is))

pub loop-tag-preserved-in-3 : goal.loop-tag-preserved-in-3
loop-tag-preserved-in-3 c =
    let found = find c.loop-tag.invariant c.read_tag.ensures (c.in_ok-tag.was ∙ ap Ok c.in-Some.is) in
    rw c.push.ensures (opens_inner found c.in-3.is (leb-false _ _ (sym c.is_full.ensures ∙ c.if-is_full.false)))

pub read_single-requires : goal.read_single-requires
read_single-requires c =
    (further (find c.loop-tag.invariant c.read_tag.ensures (c.in_ok-tag.was ∙ ap Ok c.in-Some.is))).1

pub returns-in_err-behind-in_default-wire : goal.returns-in_err-behind-in_default-wire
returns-in_err-behind-in_default-wire c =
    let found = find c.loop-tag.invariant c.read_tag.ensures (c.in_ok-tag.was ∙ ap Ok c.in-Some.is) in
    ap past (handed_on _ c.from_residual-in_err-behind-in_default-wire.ensures)
    ∙ sym (value-refused found (λ e. omega arith) (λ e. omega arith) (sym c.read_single.ensures ∙ c.in_err-behind-in_default-wire.was))

pub loop-tag-smaller : goal.loop-tag-smaller
loop-tag-smaller c =
    let found = find c.loop-tag.invariant c.read_tag.ensures (c.in_ok-tag.was ∙ ap Ok c.in-Some.is) in
    falls-behind found (λ e. omega arith) (λ e. omega arith) (sym c.read_single.ensures ∙ c.in_ok-behind-in_default-wire.was)

pub loop-tag-preserved : goal.loop-tag-preserved
loop-tag-preserved c =
    let found = find c.loop-tag.invariant c.read_tag.ensures (c.in_ok-tag.was ∙ ap Ok c.in-Some.is) in
    passes found (λ e. omega arith) (λ e. omega arith) (sym c.read_single.ensures ∙ c.in_ok-behind-in_default-wire.was)
