-- `walk_full_dense` says the next node, or moves on to the group's nodes where there is none.
use Rattle.std.specs.Prelude.{Ok}
use mathlib.Core.Path.{sym, ap, ◌∙◌}
use Rattle.protobuf.proofs.laws.Read.{says}
use Rattle.kinds.specs.Said.{full_dense_said, full_step_inside}
use Rattle.walk.proofs.laws.Steps.{infos_in, full_refuses, full-moves, full-says}
use Rattle.walk.proofs.steps.walk_full_dense.Goals as goal

pub returns-in-Err : goal.returns-in-Err
returns-in-Err c = full_refuses c.args.buffer.now c.args.block c.requires.0 c.args.d c.requires.1 c.move_refused.ensures (says (full_dense_said c.args.buffer.now c.args.d.nodes.columns) c.next_full_dense.ensures.says c.in-Err.is)

pub returns-in-Ok-None : goal.returns-in-Ok-None
returns-in-Ok-None c = full-moves c.args.buffer.now c.args.block c.requires.0 c.args.d c.requires.1 c.begin_kind.ensures (says (full_dense_said c.args.buffer.now c.args.d.nodes.columns) c.next_full_dense.ensures.says (c.in-Ok-None.is ∙ ap Ok c.in-Ok-None.field-0-is))

pub returns-in-Ok-Some : goal.returns-in-Ok-Some
returns-in-Ok-Some c =
    full-says c.args.buffer.now c.args.block c.requires.0 c.args.d c.requires.1 _ _ _ c.say_full.ensures (sym (ap (full_step_inside _) (c.in-Ok-Some.is ∙ ap Ok c.in-Ok-Some.field-0-is)) ∙ c.next_full_dense.ensures.inside (infos_in c.args.buffer.now c.args.block c.requires.0 c.args.d c.requires.1))
    (says (full_dense_said c.args.buffer.now c.args.d.nodes.columns) c.next_full_dense.ensures.says (c.in-Ok-Some.is ∙ ap Ok c.in-Ok-Some.field-0-is))
