-- `count_values` counts the values that it has passed, of which each has a byte at least.
use Rattle.std.specs.Prelude.{Ok}
use mathlib.Core.Path.{sym, ap, ◌∙◌}
use Rattle.protobuf.proofs.laws.Read.{handed_on}
use Rattle.columns.proofs.laws.InStep.{stepped, more_shortens}
use Rattle.columns.proofs.laws.Count.{count-begins, count-ends, count_cut, count-one}
use Rattle.columns.proofs.counts.count_values.Goals as goal

pub loop-next-init : goal.loop-next-init
loop-next-init c = count-begins _ _

pub returns-in_err-next : goal.returns-in_err-next
returns-in_err-next c = rw (handed_on _ c.from_residual.ensures) (sym (count_cut _ _ c.loop-next.invariant (stepped _ _ c.read_value.ensures c.in_err-next.was)))

pub loop-next-smaller : goal.loop-next-smaller
loop-next-smaller c = more_shortens (stepped _ _ c.read_value.ensures (c.in_ok-next.was ∙ ap Ok c.in-Some.is))

pub loop-next-preserved : goal.loop-next-preserved
loop-next-preserved c = count-one _ _ c.loop-next.invariant _ (stepped _ _ c.read_value.ensures (c.in_ok-next.was ∙ ap Ok c.in-Some.is))

pub returns : goal.returns
returns c = sym (count-ends _ _ c.loop-next.invariant (stepped _ _ c.read_value.ensures (c.in_ok-next.was ∙ ap Ok c.in_default.is)))
