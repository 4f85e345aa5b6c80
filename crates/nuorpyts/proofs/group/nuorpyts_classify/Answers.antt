-- `nuorpyts_classify` tests the room for the answer first; then it puts the kind.
use mathlib.Core.Path.{refl}
use Rattle.answers.specs.Group.{kind_words}
use Rattle.answers.proofs.laws.Codes.{answer-short}
use Rattle.nuorpyts.specs.Group.{kind_in}
use Rattle.nuorpyts.proofs.group.nuorpyts_classify.Goals as goal

pub returns-then-out-lt8 : goal.returns-then-out-lt8
returns-then-out-lt8 c = let a = c.args in answer-short 1 kind_words a.out.now (λ k. refl) (kind_in a.buffer.now a.start a.len) c.if-out-lt8.true
