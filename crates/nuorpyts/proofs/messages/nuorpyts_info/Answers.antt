-- `nuorpyts_info` tests the room for the answer first; then it puts what `WireInfo::parse` answers.
use mathlib.Core.Path.{refl}
use Rattle.fields.specs.Outcome.{each}
use Rattle.answers.specs.Views.{info_words}
use Rattle.answers.proofs.laws.Codes.{answer-short}
use Rattle.nuorpyts.proofs.messages.nuorpyts_info.Goals as goal

pub returns-then-out-lt96 : goal.returns-then-out-lt96
returns-then-out-lt96 c = answer-short 12 info_words c.args.out.now (λ a. refl) (each _ _) c.if-out-lt96.true
