-- A tag that is handed out has texts that stand inside.
use Rattle.same.proofs.laws.Tags.{tags-stand}
use Rattle.same.proofs.tags.TagIterStream.step.Goals as goal

pub returns-clause-stand : goal.returns-clause-stand
returns-clause-stand c = let a = c.args in tags-stand a.buffer.now a.block a.self c.step.result.said _ c.step.ensures.says
