-- `TagIter::with_texts` tests the record, takes a pair in numbers, and looks its texts up.
use Rattle.std.specs.Prelude.{Ok, Option, ◌≡◌}
use mathlib.Core.Path.{sym, ap, ◌∙◌}
use Rattle.protobuf.proofs.laws.Read.{handed_on}
use Rattle.fields.specs.Outcome.{Outcome}
use Rattle.fields.proofs.laws.Part.{refuted, confirmed}
use Rattle.columns.specs.InStep.{said_by}
use Rattle.elements.specs.declared.tags.RawTag.{RawTag}
use Rattle.elements.specs.declared.tags.TagIter.{TagIter}
use Rattle.elements.specs.Steps.{said_then}
use Rattle.elements.specs.Tags.{tags_by, tags_from}
use Rattle.elements.proofs.laws.Tags.{texts-outside, texts_of, texts-told}
use Rattle.elements.proofs.tags.TagIter.with_texts.Goals.{After-next_pair}
use Rattle.elements.proofs.tags.TagIter.with_texts.Goals as goal

-- what the pair in numbers comes to, once it is known
told : (c : After-next_pair) (known : Outcome (Option (RawTag × TagIter))) → c.next_pair.result ≡ known
    → let a = c.args in texts_of a.buffer.now a.block (confirmed c.is_inside.ensures c.if-not-is_inside.false-raw) known ≡ tags_by a.buffer.now a.block a.self
told c known g = texts-told _ _ (confirmed c.is_inside.ensures c.if-not-is_inside.false-raw) _ c.next_pair.ensures g

pub returns-then-not-is_inside : goal.returns-then-not-is_inside
returns-then-not-is_inside c = texts-outside _ _ _ (refuted c.is_inside.ensures c.if-not-is_inside.true-raw)

pub returns-in_err-raw : goal.returns-in_err-raw
returns-in_err-raw c =
    ap (said_by (λ x. x.0) λ x. tags_from c.args.buffer.now c.args.block x.1) (handed_on _ c.from_residual.ensures)
    ∙ told (goal.at.returns-in_err-raw c).After-next_pair _ c.in_err-raw.was

pub returns-in_default : goal.returns-in_default
returns-in_default c = told (goal.at.returns-in_default c).After-next_pair _ (c.in_ok-raw.was ∙ ap Ok c.in_default.is)

pub returns-in_err-tag : goal.returns-in_err-tag
returns-in_err-tag c =
    ap (said_by (λ x. x.0) λ x. tags_from c.args.buffer.now c.args.block x.1) (handed_on _ c.from_residual-in_err-tag.ensures)
    ∙ ap (λ x. said_then x (tags_from c.args.buffer.now c.args.block c.in-Some.next)) (sym c.in_err-tag.was) ∙ c.look_up.ensures _
    ∙ told (goal.at.returns-in_err-tag c).After-next_pair _ (c.in_ok-raw.was ∙ ap Ok c.in-Some.is)

pub returns-in_default-2 : goal.returns-in_default-2
returns-in_default-2 c =
    ap (λ x. said_then x (tags_from c.args.buffer.now c.args.block c.in-Some.next)) (sym (c.in_ok-tag.was ∙ ap Ok c.in_default-2.is)) ∙ c.look_up.ensures _
    ∙ told (goal.at.returns-in_default-2 c).After-next_pair _ (c.in_ok-raw.was ∙ ap Ok c.in-Some.is)

pub returns : goal.returns
returns c =
    ap (λ x. said_then x (tags_from c.args.buffer.now c.args.block c.in-Some.next)) (sym (c.in_ok-tag.was ∙ ap Ok c.in-Some-2.is)) ∙ c.look_up.ensures _
    ∙ told (goal.at.returns c).After-next_pair _ (c.in_ok-raw.was ∙ ap Ok c.in-Some.is)
