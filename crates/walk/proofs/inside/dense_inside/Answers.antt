-- `dense_inside` makes the tests of `dense_inside` in their order.
use Rattle.fields.proofs.laws.Part.{refuted, confirmed}
use Rattle.walk.proofs.laws.Inside.{first-fails, first_holds}
use Rattle.walk.proofs.inside.dense_inside.Goals as goal

pub returns-then-not-group_inside : goal.returns-then-not-group_inside
returns-then-not-group_inside c = first-fails _ (refuted c.group_inside.ensures c.if-not-group_inside.true-raw)

pub returns-then-not-part_fits : goal.returns-then-not-part_fits
returns-then-not-part_fits c = first_holds (confirmed c.group_inside.ensures c.if-not-group_inside.false-raw) (first-fails _ (refuted c.part_fits.ensures c.if-not-part_fits.true-raw))

pub returns-then-not-are_rows_inside : goal.returns-then-not-are_rows_inside
returns-then-not-are_rows_inside c =
    first_holds (confirmed c.group_inside.ensures c.if-not-group_inside.false-raw)
    (first_holds (confirmed c.part_fits.ensures c.if-not-part_fits.false-raw) (first-fails _ (refuted c.are_rows_inside.ensures c.if-not-are_rows_inside.true-raw)))

pub returns : goal.returns
returns c =
    first_holds (confirmed c.group_inside.ensures c.if-not-group_inside.false-raw)
    (first_holds (confirmed c.part_fits.ensures c.if-not-part_fits.false-raw) (first_holds (confirmed c.are_rows_inside.ensures c.if-not-are_rows_inside.false-raw) c.is_column_inside.ensures))
