-- `next_node` takes a node whose values are short by itself, and any other by `any_node`.
use native.Mathlib.Omega.{arith}
use mathlib.Core.Path.{sym, ap, ◌∙◌}
use Rattle.protobuf.proofs.laws.Read.{says}
use Rattle.columns.specs.Inside.{behind_inside}
use Rattle.columns.specs.KeysVals.{behind_of}
use Rattle.columns.proofs.laws.Short.{word_within}
use Rattle.kinds.proofs.laws.Short.{short-found, short-refused}
use Rattle.kinds.proofs.dense_nodes.next_node.Goals as goal

pub returns-in_default : goal.returns-in_default
returns-in_default c =
    let a = c.args in
    short-refused a.buffer.now a.columns c.short_value-id.ensures c.if-id-eq0.false c.short_value-lat.ensures c.if-lat-eq0.false c.short_value-lon.ensures c.if-lon-eq0.false (says (behind_of _) c.pass_node.ensures.says c.in_default.is)

pub move_sum-requires : goal.move_sum-requires
move_sum-requires c =
    omega (arith, c.well_formed.0.0, word_within c.args.buffer.now c.args.columns.rows.ids.column c.if-id-eq0.false c.short_value-id.ensures)

pub move_sum-requires-2 : goal.move_sum-requires-2
move_sum-requires-2 c =
    omega (arith, c.well_formed.0.0, word_within c.args.buffer.now c.args.columns.rows.lats.column c.if-lat-eq0.false c.short_value-lat.ensures)

pub move_sum-requires-3 : goal.move_sum-requires-3
move_sum-requires-3 c =
    omega (arith, c.well_formed.0.0, word_within c.args.buffer.now c.args.columns.rows.lons.column c.if-lon-eq0.false c.short_value-lon.ensures)

pub returns : goal.returns
returns c =
    let a = c.args in
    let to = c.in-Ok.behind in
    short-found a.buffer.now a.columns c.short_value-id.ensures c.if-id-eq0.false c.short_value-lat.ensures c.if-lat-eq0.false c.short_value-lon.ensures c.if-lon-eq0.false to
    (says (behind_of _) c.pass_node.ensures.says c.in-Ok.is) (sym (ap (behind_inside _) c.in-Ok.is) ∙ c.pass_node.ensures.inside)
    λ i. record { found = 1; columns = record { rows = record { ids = c.move_sum.ensures i; lats = c.move_sum-2.ensures i; lons = c.move_sum-3.ensures i }; keyvals = to } }
