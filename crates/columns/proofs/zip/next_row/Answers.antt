-- `next_row` takes the next id in step with the next lat and lon; each one's step leaves it inside the bytes.
use Rattle.std.specs.Prelude.{Ok}
use mathlib.Core.Path.{sym, ap, ◌∙◌}
use Rattle.protobuf.proofs.laws.Read.{handed_on}
use Rattle.columns.specs.Zip.{both, zip, sum64_ahead, rows_ahead}
use Rattle.columns.proofs.laws.Zip.{Tells, told_is, zipped}
use Rattle.columns.proofs.zip.next_row.Goals.{After-in_step-2}
use Rattle.columns.proofs.zip.next_row.Goals as goal

-- what the three columns in step tell
row : (c : After-in_step-2) → let s = c.args.s.now in
    Tells (λ x. both x.0.sum (both x.1.0.sum x.1.1.sum)) (λ x. zip (sum64_ahead s x.0) (zip (sum64_ahead s x.1.0) (sum64_ahead s x.1.1))) c.in_step-2.result (rows_ahead s c.args.columns)
row c = zipped (record { so = c.next-i.ensures.says }) (zipped (record { so = c.next-y.ensures.says }) (record { so = c.next-x.ensures.says }) c.in_step.ensures) c.in_step-2.ensures

pub returns-in_err-ids-clause-says : goal.returns-in_err-ids-clause-says
returns-in_err-ids-clause-says c = rw (handed_on _ c.from_residual.ensures) (sym (told_is (row (goal.at.returns-in_err-ids-clause-says c).After-in_step-2) c.in_err-ids.was))

pub returns-in_default-clause-says : goal.returns-in_default-clause-says
returns-in_default-clause-says c = sym (told_is (row (goal.at.returns-in_default-clause-says c).After-in_step-2) (c.in_ok-ids.was ∙ ap Ok c.in_default.is))

pub returns-clause-says : goal.returns-clause-says
returns-clause-says c = sym (told_is (row (goal.at.returns-clause-says c).After-in_step-2) (c.in_ok-ids.was ∙ ap Ok c.in-Some.is))
