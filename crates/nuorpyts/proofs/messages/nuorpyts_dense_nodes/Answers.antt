-- `nuorpyts_dense_nodes` tests the room for the answer first; then it puts what `WireDenseNodes::parse` answers.
use mathlib.Core.Path.{refl}
use Rattle.fields.specs.Outcome.{each}
use Rattle.answers.specs.Views.{dense_nodes_words}
use Rattle.answers.proofs.laws.Codes.{answer-short}
use Rattle.nuorpyts.proofs.messages.nuorpyts_dense_nodes.Goals as goal

pub returns-then-out-lt120 : goal.returns-then-out-lt120
returns-then-out-lt120 c = answer-short 15 dense_nodes_words c.args.out.now (λ a. refl) (each _ _) c.if-out-lt120.true
