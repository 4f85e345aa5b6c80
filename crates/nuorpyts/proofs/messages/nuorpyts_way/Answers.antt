-- `nuorpyts_way` tests the room for the answer first; then it puts what `WireWay::parse` answers.
use mathlib.Core.Path.{refl}
use Rattle.fields.specs.Outcome.{each}
use Rattle.answers.specs.Views.{way_words}
use Rattle.answers.proofs.laws.Codes.{answer-short}
use Rattle.nuorpyts.proofs.messages.nuorpyts_way.Goals as goal

pub returns-then-out-lt176 : goal.returns-then-out-lt176
returns-then-out-lt176 c = answer-short 22 way_words c.args.out.now (λ a. refl) (each _ _) c.if-out-lt176.true
