-- `put_element` tests the room, and puts the element's own numbers behind its kind, group and part.
use native.Mathlib.Omega.{arith}
use Rattle.layouts.proofs.laws.Element.{element-outside, element-inside}
use Rattle.layouts.proofs.element.put_element.Goals as goal

pub returns-then-out-at : goal.returns-then-out-at
returns-then-out-at c = let a = c.args in element-outside a.out.now a.at a.group a.message a.element (omega arith)

pub returns-then-out-at-lt-ELEMENT : goal.returns-then-out-at-lt-ELEMENT
returns-then-out-at-lt-ELEMENT c = let a = c.args in element-outside a.out.now a.at a.group a.message a.element (omega arith)

pub put_own-requires : goal.put_own-requires
put_own-requires c = omega (arith, c.put_at.auto.out)

pub returns : goal.returns
returns c = let a = c.args in element-inside a.out.now a.at a.group a.message a.element (omega arith) c.kind_number-kind.ensures c.put_at.ensures c.put_own.ensures
