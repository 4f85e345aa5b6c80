-- `put_one` hands out what a step says.
use Rattle.std.specs.Prelude.{Ok}
use Prim.Native.Nat.{ℕ}
use native.Mathlib.Omega.{arith}
use mathlib.Core.List.{[], ◌∷◌}
use mir.Syntax.{w64}
use mathlib.Core.Path.{ap, ◌∙◌}
use Rattle.protobuf.proofs.laws.Read.{handed_on}
use Rattle.elements.specs.References.{refs_from}
use Rattle.elements.proofs.laws.Steps.{step-is}
use Rattle.answers.specs.declared.codes.Stop.TheVariants as stop
use Rattle.answers.specs.Words.{filled_at}
use Rattle.answers.proofs.laws.Signed.{as_word}
use Rattle.calls.specs.References.{ref_item}
use Rattle.calls.proofs.laws.Items.{puts-item, puts-nothing}
use Rattle.calls.proofs.references.RefsItemsRefState.put_one.Goals as goal

pub returns-in_err-id : goal.returns-in_err-id
returns-in_err-id c =
    rw (handed_on c.from_residual.result c.from_residual.ensures) (puts-nothing ref_item (refs_from _) (stop.Refused _) (step-is (refs_from _) _ c.step-said.ensures.says c.in_err-id.was))

pub returns-in_default : goal.returns-in_default
returns-in_default c = puts-nothing ref_item (refs_from _) stop.Ended (step-is (refs_from _) _ c.step-said.ensures.says (c.in_ok-id.was ∙ ap Ok c.in_default.is))

pub returns : goal.returns
returns c =
    puts-item ref_item (refs_from _) c.in-Some.id (step-is (refs_from _) _ c.step-said.ensures.says (c.in_ok-id.was ∙ ap Ok c.in-Some.is))
    (c.put_at.ensures ∙ ap (λ (n : ℕ). filled_at c.args.out.now c.args.at (n ∷ [])) (as_word w64 c.in-Some.id (omega arith) c.bits.ensures))
