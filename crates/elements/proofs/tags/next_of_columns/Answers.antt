-- `next_of_columns` tests both columns, and then hands out what a step of them in step tells.
use Rattle.std.specs.Prelude.{ℕ, Ok, Option}
use mathlib.Core.Path.{◌≡◌, ap, ◌∙◌}
use Rattle.protobuf.proofs.laws.Read.{handed_on}
use Rattle.fields.specs.Outcome.{Outcome}
use Rattle.fields.proofs.laws.Part.{refuted, confirmed}
use Rattle.columns.specs.InStep.{said_by}
use Rattle.columns.specs.declared.zip.TagColumns.{TagColumns}
use Rattle.elements.specs.declared.tags.TagIter.TheVariants as iter
use Rattle.elements.specs.Tags.{raw_tags_from}
use Rattle.elements.proofs.laws.Tags.{pairs-outside, pairs_said, pair-told}
use Rattle.elements.proofs.tags.next_of_columns.Goals.{After-next_tag}
use Rattle.elements.proofs.tags.next_of_columns.Goals as goal

pub returns-then-not-are_tags_inside : goal.returns-then-not-are_tags_inside
returns-then-not-are_tags_inside c = pairs-outside _ _ (refuted c.are_tags_inside.ensures c.if-not-are_tags_inside.true-raw)

-- what the columns' step tells, once it is known
told : (c : After-next_tag) (known : Outcome (Option ((ℕ × ℕ) × TagColumns))) → c.next_tag.result ≡ known → pairs_said c.args.buffer.now known ≡ raw_tags_from c.args.buffer.now (iter.Columns c.args.columns)
told c known g =
    let t = c.next_tag.ensures in
    pair-told _ _ (confirmed c.are_tags_inside.ensures c.if-not-are_tags_inside.false-raw) t.says t.inside g

pub returns-in_err-key : goal.returns-in_err-key
returns-in_err-key c =
    ap (said_by (λ x. x.0) λ x. raw_tags_from c.args.buffer.now x.1) (handed_on _ c.from_residual.ensures)
    ∙ told (goal.at.returns-in_err-key c).After-next_tag _ c.in_err-key.was

pub returns-in_default : goal.returns-in_default
returns-in_default c = told (goal.at.returns-in_default c).After-next_tag _ (c.in_ok-key.was ∙ ap Ok c.in_default.is)

pub returns : goal.returns
returns c = told (goal.at.returns c).After-next_tag _ (c.in_ok-key.was ∙ ap Ok c.in-Some.is)
