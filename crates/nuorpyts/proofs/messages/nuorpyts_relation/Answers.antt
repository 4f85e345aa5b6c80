-- `nuorpyts_relation` tests the room for the answer first; then it puts what `WireRelation::parse` answers.
use mathlib.Core.Path.{refl}
use Rattle.fields.specs.Outcome.{each}
use Rattle.answers.specs.Views.{relation_words}
use Rattle.answers.proofs.laws.Codes.{answer-short}
use Rattle.nuorpyts.proofs.messages.nuorpyts_relation.Goals as goal

pub returns-then-out-lt152 : goal.returns-then-out-lt152
returns-then-out-lt152 c = answer-short 19 relation_words c.args.out.now (λ a. refl) (each _ _) c.if-out-lt152.true
