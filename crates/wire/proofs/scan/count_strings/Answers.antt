-- `count_strings` counts what the view by StringTable's schema does. Each field has a byte at least, so there are no more strings
-- than bytes.
use Rattle.std.specs.Prelude.{Ok}
use Prim.Native.Nat.{◌+◌}
use native.Mathlib.Omega.{arith}
use mathlib.Core.Path.{refl, sym, ap, ◌∙◌}
use Rattle.message.specs.Answers.{field_of}
use Rattle.protobuf.proofs.laws.Read.{says, handed_on}
use Rattle.fields.specs.Outcome.{each}
use Rattle.fields.specs.View.{store, put}
use Rattle.fields.specs.Schema.{string_table}
use Rattle.wire.specs.Scan.{string_count}
use Rattle.fields.proofs.laws.View.{begins, completed, no_more, stored, further, falls, passed_over}
use Rattle.wire.proofs.scan.count_strings.Goals as goal

pub loop-field-init : goal.loop-field-init
loop-field-init c = (begins string_count string_table _, omega arith)

pub returns-in_err-field : goal.returns-in_err-field
returns-in_err-field c =
    handed_on _ c.from_residual.ensures
    ∙ sym (no_more string_count string_table _ c.loop-field.invariant.0 _ (sym c.next_field.ensures ∙ ap field_of c.in_err-field.was))

pub returns : goal.returns
returns c = sym (completed string_count string_table _ c.loop-field.invariant.0 (says field_of c.next_field.ensures (c.in_ok-field.was ∙ ap Ok c.in_default.is)))

pub loop-field-smaller-then-field-eq-STRINGS : goal.loop-field-smaller-then-field-eq-STRINGS
loop-field-smaller-then-field-eq-STRINGS c = falls string_count string_table _ c.loop-field.invariant.0 (says field_of c.next_field.ensures (c.in_ok-field.was ∙ ap Ok c.in-Some.is))

pub loop-field-preserved-then-field-eq-STRINGS : goal.loop-field-preserved-then-field-eq-STRINGS
unfolding store put each
loop-field-preserved-then-field-eq-STRINGS c =
    let e = says field_of c.next_field.ensures (c.in_ok-field.was ∙ ap Ok c.in-Some.is) in (
      stored string_count string_table _ c.loop-field.invariant.0 e
          {out = Ok (c.loop-field.n + 1)} (λ slots g. rw (g, c.if-field-eq-STRINGS.true)) refl,
      omega (arith, c.loop-field.invariant.1, further string_count string_table _ c.loop-field.invariant.0 e),
    )

pub loop-field-smaller : goal.loop-field-smaller
loop-field-smaller c = falls string_count string_table _ c.loop-field.invariant.0 (says field_of c.next_field.ensures (c.in_ok-field.was ∙ ap Ok c.in-Some.is))

pub loop-field-preserved : goal.loop-field-preserved
loop-field-preserved c =
    let e = says field_of c.next_field.ensures (c.in_ok-field.was ∙ ap Ok c.in-Some.is) in (
      stored string_count string_table _ c.loop-field.invariant.0 e
          {out = Ok c.loop-field.n} (λ slots g. ap Ok g ∙ sym (passed_over string_count string_table slots _ _ _ _ (tt, c.if-field-eq-STRINGS.false))) refl,
      omega (arith, c.loop-field.invariant.1, further string_count string_table _ c.loop-field.invariant.0 e),
    )
