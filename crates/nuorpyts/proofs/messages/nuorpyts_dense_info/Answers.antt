-- `nuorpyts_dense_info` tests the room for the answer first; then it puts what `WireDenseInfo::parse` answers.
use mathlib.Core.Path.{refl}
use Rattle.fields.specs.Outcome.{each}
use Rattle.answers.specs.Views.{dense_info_words}
use Rattle.answers.proofs.laws.Codes.{answer-short}
use Rattle.nuorpyts.proofs.messages.nuorpyts_dense_info.Goals as goal

pub returns-then-out-lt144 : goal.returns-then-out-lt144
returns-then-out-lt144 c = answer-short 18 dense_info_words c.args.out.now (λ a. refl) (each _ _) c.if-out-lt144.true
