-- A step of a walk, as any stream says it.
use mathlib.Core.Path.{◌∙◌}
use Rattle.same.proofs.laws.Walks.{said-is, said-stand}
use Rattle.same.proofs.walks.BlockElementsIterStream.step.Goals as goal

pub returns-clause-says : goal.returns-clause-says
returns-clause-says c = let a = c.args in said-is a.buffer.now a.block c.step-step.result c.said_of.ensures ∙ c.step-step.ensures.answer.says

pub returns-clause-stand : goal.returns-clause-stand
returns-clause-stand c =
    let a = c.args in
    said-stand a.buffer.now a.block a.self c.said_of.result _ (said-is a.buffer.now a.block c.step-step.result c.said_of.ensures ∙ c.step-step.ensures.answer.says)
