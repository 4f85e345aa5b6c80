-- `check_node` reads what every element has, and a node has nothing else that is read.
use native.Mathlib.Omega.{arith}
use mathlib.Core.Path.{refl, sym, ◌∙◌}
use Rattle.fields.specs.Schema.{node}
use Rattle.views.specs.Node.{node_at}
use Rattle.protobuf.proofs.laws.Read.{handed_on}
use Rattle.fields.proofs.laws.Whole.{not-viewed}
use Rattle.passes.proofs.laws.Whole.{element-refused, common-whole}
use Rattle.passes.proofs.element_check.check_node.Goals as goal

pub returns-in_err-v : goal.returns-in_err-v
returns-in_err-v c = handed_on _ c.from_residual.ensures ∙ sym (element-refused node _ _ (not-viewed node_at node _ (sym c.parse.ensures ∙ c.in_err-v.was)))

pub returns : goal.returns
returns c =
    let e = sym c.parse.ensures ∙ c.in_ok-v.was in
    sym (common-whole node_at node _ e (omega arith) (λ v. v.info) (λ v. v.keys) (λ v. v.vals) (λ slots. refl) (λ slots. refl) (λ slots. refl) c.check_common.ensures)
