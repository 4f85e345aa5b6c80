-- `nuorpyts_node` tests the room for the answer first; then it puts what `WireNode::parse` answers.
use mathlib.Core.Path.{refl}
use Rattle.fields.specs.Outcome.{each}
use Rattle.answers.specs.Views.{node_words}
use Rattle.answers.proofs.laws.Codes.{answer-short}
use Rattle.nuorpyts.proofs.messages.nuorpyts_node.Goals as goal

pub returns-then-out-lt96 : goal.returns-then-out-lt96
returns-then-out-lt96 c = answer-short 12 node_words c.args.out.now (λ a. refl) (each _ _) c.if-out-lt96.true
