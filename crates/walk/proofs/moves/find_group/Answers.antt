-- `find_group` takes one group: its entry, and the dense pass over it.
use Rattle.protobuf.proofs.laws.Read.{handed_on}
use borrow.Author.Tests.{eq-eqb}
use mathlib.Core.Path.{refl, sym, ap, ◌∙◌}
use mathlib.Core.Bool.{false}
use Rattle.columns.proofs.laws.Inside.{also-true}
use Rattle.walk.specs.Moves.{entry_ahead, entry_stands}
use Rattle.walk.proofs.laws.Enter.{none_left, no-range, range-stands, no_pass, passed}
use Rattle.walk.proofs.moves.find_group.Goals as goal

pub returns-then-block-number : goal.returns-then-block-number
returns-then-block-number c =
    let a = c.args in
    record { says = λ full. sym (none_left a.buffer.now a.block full a.number c.if-block-number.true); stands = refl }

pub returns-in_err-range : goal.returns-in_err-range
returns-in_err-range c =
    let a = c.args in
    let refused = handed_on _ c.from_residual.ensures in
    record { says = λ full. ap (entry_ahead full a.buffer.now a.block) refused ∙ sym (no-range a.buffer.now a.block full a.number c.if-block-number.false (sym c.group.ensures.answer ∙ c.in_err-range.was)); stands = ap (entry_stands a.buffer.now a.block a.number) refused }

pub returns-in_err-message : goal.returns-in_err-message
returns-in_err-message c =
    let a = c.args in
    let refused = handed_on _ c.from_residual-in_err-message.ensures in
    record { says = λ full. ap (entry_ahead full a.buffer.now a.block) refused ∙ sym (no_pass a.buffer.now a.block full a.number c.if-block-number.false (sym c.group.ensures.answer ∙ c.in_ok-range.was) (sym c.dense.ensures ∙ c.in_err-message.was)); stands = ap (entry_stands a.buffer.now a.block a.number) refused }

pub returns : goal.returns
returns c =
    let a = c.args in
    let here = sym c.group.ensures.answer ∙ c.in_ok-range.was in
    record { says = λ full. sym (passed a.buffer.now a.block full a.number c.if-block-number.false here (sym c.dense.ensures ∙ c.in_ok-message.was)); stands = also-true (range-stands a.buffer.now a.block false a.number c.if-block-number.false here) (eq-eqb a.number a.number refl) }
