-- `scan_block_fields` is the view by PrimitiveBlock's schema: each turn stores the field at the place where the loop stands.
-- Each field has a byte at least, so there are no more groups than bytes.
use native.Mathlib.Omega.{arith}
use Rattle.std.proofs.Common.{Ok}
use mathlib.Core.Path.{sym, ap, ◌∙◌}
use Rattle.message.specs.Answers.{field_of}
use Rattle.protobuf.proofs.laws.Read.{says, handed_on}
use Rattle.fields.specs.Schema.{primitive_block}
use Rattle.wire.specs.Block.{block_fields}
use Rattle.fields.proofs.laws.View.{begins, completed, no_more, not-stored, stored, further, falls}
use Rattle.wire.proofs.primitive_block.scan_block_fields.Goals as goal

pub loop-field-init : goal.loop-field-init
loop-field-init c = (begins block_fields primitive_block _, omega arith)

pub returns-in_err-field : goal.returns-in_err-field
returns-in_err-field c =
    handed_on _ c.from_residual.ensures
    ∙ sym (no_more block_fields primitive_block _ c.loop-field.invariant.0 _ (sym c.next_field.ensures ∙ ap field_of c.in_err-field.was))

pub returns : goal.returns
returns c = sym (completed block_fields primitive_block _ c.loop-field.invariant.0 (says field_of c.next_field.ensures (c.in_ok-field.was ∙ ap Ok c.in_default.is)))

pub returns-in_err-v : goal.returns-in_err-v
returns-in_err-v c =
    handed_on _ c.from_residual-in_err-v.ensures
    ∙ sym (not-stored block_fields primitive_block _ c.loop-field.invariant.0 (says field_of c.next_field.ensures (c.in_ok-field.was ∙ ap Ok c.in-Some.is))
    {out = c.store_block.result} c.store_block.ensures.stores c.in_err-v.was)

pub loop-field-smaller : goal.loop-field-smaller
loop-field-smaller c = falls block_fields primitive_block _ c.loop-field.invariant.0 (says field_of c.next_field.ensures (c.in_ok-field.was ∙ ap Ok c.in-Some.is))

pub loop-field-preserved : goal.loop-field-preserved
loop-field-preserved c =
    let e = says field_of c.next_field.ensures (c.in_ok-field.was ∙ ap Ok c.in-Some.is) in (
      stored block_fields primitive_block _ c.loop-field.invariant.0 e
          {out = c.store_block.result} c.store_block.ensures.stores c.in_ok-v.was,
      omega (arith, c.loop-field.invariant.1, c.in_ok-v.ensures.counts, further block_fields primitive_block _ c.loop-field.invariant.0 e),
    )
