-- `check_relation` reads what every element has, and then roles, memids and types.
use native.Mathlib.Omega.{arith}
use mathlib.Core.Path.{refl, sym, ◌∙◌}
use Rattle.fields.specs.Schema.{relation}
use Rattle.views.specs.Relation.{relation_at}
use Rattle.block.specs.Check.{check_members}
use Rattle.protobuf.proofs.laws.Read.{handed_on}
use Rattle.fields.proofs.laws.Whole.{not-viewed}
use Rattle.passes.proofs.laws.Whole.{part-column, common-refused, common-passed, element-refused}
use Rattle.passes.proofs.element_check.check_relation.Goals as goal

pub returns-in_err-v : goal.returns-in_err-v
returns-in_err-v c = handed_on _ c.from_residual.ensures ∙ sym (element-refused relation _ _ (not-viewed relation_at relation _ (sym c.parse.ensures ∙ c.in_err-v.was)))

pub returns-in_err-check_common : goal.returns-in_err-check_common
returns-in_err-check_common c =
    let e = sym c.parse.ensures ∙ c.in_ok-v.was in
    handed_on _ c.from_residual-in_err-check_common.ensures
    ∙ sym (common-refused relation_at relation _ e (omega arith) _ (λ v. v.info) (λ v. v.keys) (λ v. v.vals) (λ slots. refl) (λ slots. refl) (λ slots. refl) c.check_common.ensures c.in_err-check_common.was)

pub returns : goal.returns
returns c =
    let e = sym c.parse.ensures ∙ c.in_ok-v.was in
    let roles = part-column relation_at relation _ e (omega arith) (λ v. v.roles) 8 (λ slots. refl) in
    let memids = part-column relation_at relation _ e (omega arith) (λ v. v.memids) 9 (λ slots. refl) in
    let types = part-column relation_at relation _ e (omega arith) (λ v. v.types) 10 (λ slots. refl) in
    c.check_members.ensures
    ∙ (λ i. check_members (roles i) (memids i) (types i))
    ∙ sym (common-passed relation_at relation _ e (omega arith) _ (λ v. v.info) (λ v. v.keys) (λ v. v.vals) (λ slots. refl) (λ slots. refl) (λ slots. refl) c.check_common.ensures c.in_ok-check_common.was)
