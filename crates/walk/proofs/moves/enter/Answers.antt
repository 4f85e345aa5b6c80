-- `enter` goes by what stands at the group's number.
use Rattle.std.specs.Prelude.{Some, None, Ok}
use Rattle.std.proofs.Common.{rules}
use mathlib.Core.Path.{◌≡◌, sym, ap, ◌∙◌}
use Rattle.protobuf.proofs.laws.Read.{says}
use Rattle.walk.specs.Moves.{entry_ahead, entry_stands}
use Rattle.walk.proofs.laws.Quiet.{quiet_out, quiet_refused}
use Rattle.walk.proofs.laws.Enter.{entry-inside, with-dense, without_dense}
use Rattle.walk.proofs.moves.enter.Goals as goal
use Rattle.walk.proofs.moves.enter.Goals.{In-Ok-Some}

-- the group that was found
found : (c : In-Ok-Some) → c.find_group-e.result ≡ Ok (Some c.in-Ok-Some.found)
found c = search rules

pub returns-in-Ok-None : goal.returns-in-Ok-None
returns-in-Ok-None c =
    let none : c.find_group-e.result ≡ Ok None = search rules in
    quiet_out _ _ c.move_out.ensures (says (entry_ahead c.args.at.full c.args.buffer.now c.args.block) (c.find_group-e.ensures.says c.args.at.full) none)

pub returns-in-Err : goal.returns-in-Err
returns-in-Err c = quiet_refused _ _ c.move_refused.ensures (says (entry_ahead c.args.at.full c.args.buffer.now c.args.block) (c.find_group-e.ensures.says c.args.at.full) c.in-Err.is)

pub enter_dense-requires : goal.enter_dense-requires
enter_dense-requires c =
    let a = c.args in
    let is = found (goal.at.enter_dense-requires c).In-Ok-Some in
    entry-inside a.buffer.now a.block _ a.at.group (sym (ap (entry_stands a.buffer.now a.block a.at.group) is) ∙ c.find_group-e.ensures.stands)

pub returns-then-found : goal.returns-then-found
returns-then-found c =
    let a = c.args in
    let is = found (goal.at.returns-then-found c).In-Ok-Some in
    with-dense a.buffer.now a.block _ a.at.group (sym (ap (entry_stands a.buffer.now a.block a.at.group) is) ∙ c.find_group-e.ensures.stands) a.at.full _ (says (entry_ahead c.args.at.full c.args.buffer.now c.args.block) (c.find_group-e.ensures.says a.at.full) is) c.if-found.true c.enter_dense.ensures

pub returns-in-Ok-Some : goal.returns-in-Ok-Some
returns-in-Ok-Some c =
    let a = c.args in
    let is = found (goal.at.returns-in-Ok-Some c).In-Ok-Some in
    without_dense a.buffer.now a.block _ a.at.group (sym (ap (entry_stands a.buffer.now a.block a.at.group) is) ∙ c.find_group-e.ensures.stands) a.at.full _ (says (entry_ahead c.args.at.full c.args.buffer.now c.args.block) (c.find_group-e.ensures.says a.at.full) is) c.if-found.false c.begin_kind.ensures
