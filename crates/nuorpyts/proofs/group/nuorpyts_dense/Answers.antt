-- `nuorpyts_dense` tests the room for the answer first; then it puts what `dense` answers.
use mathlib.Core.Path.{refl}
use Rattle.fields.specs.Outcome.{each}
use Rattle.answers.specs.Group.{part_words}
use Rattle.answers.proofs.laws.Codes.{answer-short}
use Rattle.nuorpyts.proofs.group.nuorpyts_dense.Goals as goal

pub returns-then-out-lt24 : goal.returns-then-out-lt24
returns-then-out-lt24 c = answer-short 3 part_words c.args.out.now (λ a. refl) (each _ _) c.if-out-lt24.true
