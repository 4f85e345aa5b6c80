-- `pass_pairs` takes one tag after the other: what is behind the pairs of the place where the loop stands is what was behind the first, and that
-- place is inside where the first was.
use Rattle.std.specs.Prelude.{Ok}
use mathlib.Core.Path.{sym, ◌∙◌}
use Rattle.protobuf.proofs.laws.Read.{says, handed_on}
use Rattle.columns.specs.Inside.{tag_inside}
use Rattle.columns.specs.KeysVals.{tag_said}
use Rattle.columns.proofs.laws.KeysVals.{behind-pair, behind-done, behind-stopped, pair_shortens}
use Rattle.columns.proofs.keys_vals.pass_pairs.Goals as goal

pub returns-in_err-next-clause-says : goal.returns-in_err-next-clause-says
returns-in_err-next-clause-says c =
    rw (handed_on _ c.from_residual.ensures)
    (sym (c.loop-next.invariant.0 ∙ behind-stopped _ (says (tag_said _) c.next_dense_tag.ensures.says c.in_err-next.was)))

pub returns-in-None-default-clause-says : goal.returns-in-None-default-clause-says
returns-in-None-default-clause-says c =
    let done = c.in_ok-next.was ∙ λ i. Ok (c.in-None-default.is-0 i, c.in_ok-next.field-0.1) in
    sym (c.loop-next.invariant.0 ∙ behind-done _ (says (tag_said _) c.next_dense_tag.ensures.says done))

pub loop-next-smaller : goal.loop-next-smaller
loop-next-smaller c =
    let pair = c.in_ok-next.was ∙ λ i. Ok (c.in-Some-default.is-0 i, c.in_ok-next.field-0.1) in
    pair_shortens _ (says (tag_said _) c.next_dense_tag.ensures.says pair)

pub loop-next-preserved : goal.loop-next-preserved
loop-next-preserved c =
    let pair = c.in_ok-next.was ∙ λ i. Ok (c.in-Some-default.is-0 i, c.in_ok-next.field-0.1) in (
      c.loop-next.invariant.0 ∙ behind-pair _ (says (tag_said _) c.next_dense_tag.ensures.says pair),
      λ h. sym (says (tag_inside _) (c.next_dense_tag.ensures.inside (c.loop-next.invariant.1 h)) pair),
    )
