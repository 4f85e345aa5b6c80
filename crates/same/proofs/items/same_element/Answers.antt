-- `same_element` compares the heads, and where they are the same what is read of the two.
use mathlib.Core.Path.{sym, ◌∙◌}
use borrow.Author.Tests.{not-true, not-false}
use Rattle.same.proofs.laws.Compared.{test_stops, test_goes-on}
use Rattle.same.proofs.laws.Heads.{heads-same}
use Rattle.same.proofs.items.same_element.Goals as goal

pub returns-then-ne : goal.returns-then-ne
returns-then-ne c m n =
    let a = c.args in
    test_stops (heads-same a.first.now a.a a.second.now a.b m n a.group a.other a.e a.f c.head_of.ensures c.head_of-2.ensures) _
    (not-true _ (sym c.ne.ensures ∙ c.if-ne.true))

pub returns : goal.returns
returns c m n =
    let a = c.args in
    test_goes-on (heads-same a.first.now a.a a.second.now a.b m n a.group a.other a.e a.f c.head_of.ensures c.head_of-2.ensures)
    (not-false _ (sym c.ne.ensures ∙ c.if-ne.false)) c.same_item.ensures
