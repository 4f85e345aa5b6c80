-- `nuorpyts_check` gives the code of what the check by the record in the slice says.
use mathlib.Core.Path.{sym, ap, ◌∙◌}
use Rattle.answers.specs.Codes.{code_of}
use Rattle.nuorpyts.proofs.laws.Check.{check_answered}
use Rattle.nuorpyts.proofs.check.nuorpyts_check.Goals as goal

pub returns-in-Ok : goal.returns-in-Ok
returns-in-Ok c = let said = check_answered c.args.buffer.now c.args.rec.now c.well_formed.0.0 c.check_in-checked.ensures (sym (ap code_of c.in-Ok.is)) in record { code = said.0; scanned = said.1 }

pub returns-in-Err : goal.returns-in-Err
returns-in-Err c = let said = check_answered c.args.buffer.now c.args.rec.now c.well_formed.0.0 c.check_in-checked.ensures (c.from.ensures ∙ sym (ap code_of c.in-Err.is)) in record { code = said.0; scanned = said.1 }
