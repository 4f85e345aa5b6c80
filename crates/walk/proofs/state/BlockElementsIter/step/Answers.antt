-- `step` says ended of an ended walk, whatever the buffer is, and else tests and advances.
use mathlib.Core.Path.{sym, ap, ◌∙◌}
use Rattle.walk.specs.Walk.{elements_from}
use Rattle.walk.proofs.laws.Walking.{not-ended}
use Rattle.walk.proofs.claim.Claim.{whole}
use Rattle.walk.proofs.state.BlockElementsIter.step.Goals as goal

pub returns-in-Ended : goal.returns-in-Ended
returns-in-Ended c =
    let ended = c.in-Ended.is in
    record { answer = record { says = ap (elements_from c.args.buffer.now c.args.block) (sym ended); behind = ended }; whole = λ b n s r b' n' x y. whole x y }

pub returns-in_default : goal.returns-in_default
returns-in_default c =
    let a = c.args in
    record { answer = record { says = c.tested.ensures.says ∙ not-ended a.buffer.now a.block a.self c.in_default.not-Ended; behind = c.tested.ensures.behind }; whole = λ b n s r b' n' x y. whole x y }
