-- `same_streams` steps both, as long as they hand out the same.
use Rattle.std.specs.Prelude.{Ok}
use mathlib.Core.Path.{sym, ap, ◌∙◌}
use Rattle.protobuf.proofs.laws.Read.{handed_on}
use Rattle.columns.proofs.laws.InStep.{more_shortens}
use Rattle.same.proofs.laws.Compared.{refuses}
use Rattle.same.proofs.laws.InStep.{both_hand, two-differ, two-same}
use Rattle.same.proofs.laws.Streams.{said-as, first-refused, second-refused, both-ended, first-ended, second-ended}
use Rattle.same.proofs.streams.same_streams.Goals as goal

pub returns-in_err-p : goal.returns-in_err-p
returns-in_err-p g c = handed_on _ c.from_residual.ensures ∙ first-refused _ c.loop-q.invariant _ c.step-p.ensures.says c.in_err-p.was

pub returns-in_err-q : goal.returns-in_err-q
returns-in_err-q g c =
    handed_on _ c.from_residual-in_err-q.ensures
    ∙ second-refused _ c.loop-q.invariant _ _ _ c.step-p.ensures.says c.step-q.ensures.says _ c.in_ok-p.was c.in_err-q.was

pub returns-in-None-None : goal.returns-in-None-None
returns-in-None-None g c =
    let both = c.in-None-None in
    both-ended _ c.loop-q.invariant _ _ _ c.step-p.ensures.says c.step-q.ensures.says (c.in_ok-p.was ∙ ap Ok both.is-0) (c.in_ok-q.was ∙ ap Ok both.is-1)

pub returns-in_default : goal.returns-in_default
returns-in_default g c =
    let other = c.in_default in
    first-ended _ c.loop-q.invariant _ _ _ c.step-p.ensures.says c.step-q.ensures.says (c.in_ok-p.was ∙ ap Ok other.is-0) (c.in_ok-q.was ∙ ap Ok other.is-1)

pub returns-in_default-2 : goal.returns-in_default-2
returns-in_default-2 g c =
    let one = c.in_default in
    second-ended _ c.loop-q.invariant _ _ _ c.step-p.ensures.says c.step-q.ensures.says (c.in_ok-p.was ∙ ap Ok one.is-0) (c.in_ok-q.was ∙ ap Ok one.is-1)

pub returns-in_err-same-in-Some-Some : goal.returns-in_err-same-in-Some-Some
returns-in_err-same-in-Some-Some g c =
    let both = c.in-Some-Some in
    refuses c.same.ensures _ c.in_err-same-in-Some-Some.was (handed_on _ c.from_residual-in_err-same-in-Some-Some.ensures)
    ∙ both_hand c.loop-q.invariant (said-as _ _ c.step-p.ensures.says (c.in_ok-p.was ∙ ap Ok both.is-0)) (said-as _ _ c.step-q.ensures.says (c.in_ok-q.was ∙ ap Ok both.is-1))

pub returns-then-not-branch : goal.returns-then-not-branch
returns-then-not-branch g c =
    let both = c.in-Some-Some in
    two-differ c.loop-q.invariant (said-as _ _ c.step-p.ensures.says (c.in_ok-p.was ∙ ap Ok both.is-0)) (said-as _ _ c.step-q.ensures.says (c.in_ok-q.was ∙ ap Ok both.is-1))
    (sym c.same.ensures ∙ c.in_ok-same-in-Some-Some.was ∙ ap Ok c.if-not-branch.true)

pub loop-q-smaller : goal.loop-q-smaller
loop-q-smaller g c = more_shortens (said-as _ _ c.step-p.ensures.says (c.in_ok-p.was ∙ ap Ok c.in-Some-Some.is-0))

pub loop-q-preserved : goal.loop-q-preserved
loop-q-preserved g c =
    let both = c.in-Some-Some in
    two-same c.loop-q.invariant (said-as _ _ c.step-p.ensures.says (c.in_ok-p.was ∙ ap Ok both.is-0)) (said-as _ _ c.step-q.ensures.says (c.in_ok-q.was ∙ ap Ok both.is-1))
    (sym c.same.ensures ∙ c.in_ok-same-in-Some-Some.was ∙ ap Ok c.if-not-branch.false)
