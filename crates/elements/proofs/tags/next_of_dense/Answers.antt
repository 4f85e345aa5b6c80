-- `next_of_dense` hands out what a step of keys_vals tells.
use Rattle.std.specs.Prelude.{Ok}
use mathlib.Core.Path.{ap, ◌∙◌}
use Rattle.protobuf.proofs.laws.Read.{handed_on}
use Rattle.columns.specs.InStep.{said_by}
use Rattle.elements.specs.Tags.{raw_tags_from}
use Rattle.elements.proofs.laws.Tags.{dense-told}
use Rattle.elements.proofs.tags.next_of_dense.Goals as goal

pub returns-in_err-pair : goal.returns-in_err-pair
returns-in_err-pair c =
    ap (said_by (λ x. x.0) λ x. raw_tags_from c.args.buffer.now x.1) (handed_on _ c.from_residual.ensures) ∙ dense-told _ _ c.next_dense_tag.ensures.says c.in_err-pair.was

pub returns-in_default : goal.returns-in_default
returns-in_default c = dense-told _ _ c.next_dense_tag.ensures.says (c.in_ok-pair.was ∙ λ i. Ok (c.in_default.is i, c.in_ok-pair.next))

pub returns : goal.returns
returns c = dense-told _ _ c.next_dense_tag.ensures.says (c.in_ok-pair.was ∙ λ i. Ok (c.in-Some.is i, c.in_ok-pair.next))
