-- `put_own` gives `own_words`, by the element's kind.
use native.Mathlib.Omega.{arith}
use mathlib.Core.Path.{sym, ap, ◌∙◌}
use Rattle.numbers.specs.Little.{written}
use Rattle.elements.specs.declared.element.Element.{Element}
use Rattle.elements.specs.declared.element.Element.TheVariants as element
use Rattle.answers.specs.Words.{words}
use Rattle.layouts.specs.Element.{own_words}
use Rattle.layouts.proofs.laws.Element.{put_case}
use Rattle.layouts.proofs.element.put_own.Goals as goal

pub returns-in-DenseNode : goal.returns-in-DenseNode
returns-in-DenseNode c = let a = c.args in c.put_dense.ensures ∙ sym (ap (λ (e : Element). written a.out.now a.at (words (own_words e))) c.in-DenseNode.is)

pub returns-in-Node : goal.returns-in-Node
returns-in-Node c = let a = c.args in put_case own_words a.out.now a.at {known = element.Node c.in-Node.v} (omega arith) c.put_at.ensures c.in-Node.is

pub returns-in-Way : goal.returns-in-Way
returns-in-Way c = let a = c.args in put_case own_words a.out.now a.at {known = element.Way c.in-Way.v} (omega arith) c.put_at-in-Way.ensures c.in-Way.is

pub returns-in-Relation : goal.returns-in-Relation
returns-in-Relation c = let a = c.args in put_case own_words a.out.now a.at {known = element.Relation c.in-Relation.v} (omega arith) c.put_at-in-Relation.ensures c.in-Relation.is
