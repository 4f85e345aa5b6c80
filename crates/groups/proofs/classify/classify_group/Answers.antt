-- `classify_group` asks of the first byte what `block_type` does.
use native.Mathlib.Omega.{arith}
use mathlib.Core.Path.{sym, ◌∙◌}
use Rattle.groups.specs.Classify.{block_type}
use Rattle.groups.proofs.laws.Classify.{of_none, of_first, of_tag, other_tag}
use Rattle.groups.proofs.classify.classify_group.Goals as goal

pub returns-in_default : goal.returns-in_default
returns-in_default c = of_none _ c.in_default.ensures.value

pub returns-in-10 : goal.returns-in-10
unfolding block_type
returns-in-10 c = of_tag _ c.in-Some.ensures.value c.in-10.is

pub returns-in-18 : goal.returns-in-18
unfolding block_type
returns-in-18 c = of_tag _ c.in-Some.ensures.value c.in-18.is

pub returns-in-26 : goal.returns-in-26
unfolding block_type
returns-in-26 c = of_tag _ c.in-Some.ensures.value c.in-26.is

pub returns-in-34 : goal.returns-in-34
unfolding block_type
returns-in-34 c = of_tag _ c.in-Some.ensures.value c.in-34.is

pub returns-in_default-2 : goal.returns-in_default-2
returns-in_default-2 c =
    sym (other_tag _ (λ e. omega arith) (λ e. omega arith) (λ e. omega arith) (λ e. omega arith)) ∙ of_first _ c.in-Some.ensures.value
