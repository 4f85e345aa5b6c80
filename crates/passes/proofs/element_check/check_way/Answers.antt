-- `check_way` reads what every element has, and then its references.
use native.Mathlib.Omega.{arith}
use mathlib.Core.Path.{refl, sym, ap, ◌∙◌}
use Rattle.fields.specs.Schema.{way}
use Rattle.views.specs.Way.{way_at}
use Rattle.block.specs.Check.{read_whole}
use Rattle.protobuf.proofs.laws.Read.{handed_on}
use Rattle.fields.proofs.laws.Whole.{not-viewed}
use Rattle.passes.proofs.laws.Whole.{part-column, common-refused, common-passed, element-refused}
use Rattle.passes.proofs.element_check.check_way.Goals as goal

pub returns-in_err-v : goal.returns-in_err-v
returns-in_err-v c = handed_on _ c.from_residual.ensures ∙ sym (element-refused way _ _ (not-viewed way_at way _ (sym c.parse.ensures ∙ c.in_err-v.was)))

pub returns-in_err-check_common : goal.returns-in_err-check_common
returns-in_err-check_common c =
    let e = sym c.parse.ensures ∙ c.in_ok-v.was in
    handed_on _ c.from_residual-in_err-check_common.ensures
    ∙ sym (common-refused way_at way _ e (omega arith) _ (λ v. v.info) (λ v. v.keys) (λ v. v.vals) (λ slots. refl) (λ slots. refl) (λ slots. refl) c.check_common.ensures c.in_err-check_common.was)

pub returns : goal.returns
returns c =
    let e = sym c.parse.ensures ∙ c.in_ok-v.was in
    c.check_column.ensures
    ∙ ap read_whole (part-column way_at way _ e (omega arith) (λ v. v.refs) 8 (λ slots. refl))
    ∙ sym (common-passed way_at way _ e (omega arith) _ (λ v. v.info) (λ v. v.keys) (λ v. v.vals) (λ slots. refl) (λ slots. refl) (λ slots. refl) c.check_common.ensures c.in_ok-check_common.was)
