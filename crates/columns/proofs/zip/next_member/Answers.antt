-- `next_member` takes the next role in step with the next memid and type; each one's step leaves it inside the bytes.
use Rattle.std.specs.Prelude.{Ok}
use mir.Syntax.{w32}
use mathlib.Core.Path.{refl, sym, ap, ◌∙◌}
use Rattle.numbers.specs.Signed.{twos}
use Rattle.numbers.proofs.laws.Machine.{returned}
use Rattle.protobuf.specs.Column.{int32s}
use Rattle.protobuf.specs.Stream.{more}
use Rattle.protobuf.proofs.laws.Read.{handed_on}
use Rattle.columns.specs.InStep.{ahead}
use Rattle.columns.specs.Zip.{both, zip, sum64_ahead, members_ahead}
use Rattle.columns.proofs.laws.Inside.{inside_at, in_step_inside, behind-inside}
use Rattle.columns.proofs.laws.Zip.{Tells, told_is, reads, typed, zipped}
use Rattle.columns.proofs.zip.next_member.Goals.{After-in_step-2}
use Rattle.columns.proofs.zip.next_member.Goals as goal

-- what the three columns in step tell
member : (c : After-in_step-2) → let s = c.args.s.now in
    Tells
    (λ x. both (twos 32 x.0.0) (both x.1.0.sum (twos 32 x.1.1.0)))
    (λ x. zip (int32s (ahead s x.0.1)) (zip (sum64_ahead s x.1.0) (int32s (ahead s x.1.1.1))))
    c.in_step-2.result
    (members_ahead s c.args.columns)
member c =
    zipped
    (typed (twos 32) (reads _ _ c.read_value-r.ensures))
    (zipped (record { so = c.next-m.ensures.says }) (typed (twos 32) (reads _ _ c.read_value-t.ensures)) c.in_step.ensures)
    c.in_step-2.ensures

pub returns-in_err-role-clause-says : goal.returns-in_err-role-clause-says
returns-in_err-role-clause-says c = rw (handed_on _ c.from_residual.ensures) (sym (told_is (member (goal.at.returns-in_err-role-clause-says c).After-in_step-2) c.in_err-role.was))

pub returns-in_default-clause-says : goal.returns-in_default-clause-says
returns-in_default-clause-says c = sym (told_is (member (goal.at.returns-in_default-clause-says c).After-in_step-2) (c.in_ok-role.was ∙ ap Ok c.in_default.is))

pub returns : goal.returns
returns c =
    let read = c.in_ok-role.was ∙ ap Ok c.in-Some.is in
    record {
      says =
          (λ i. more
          (both (returned w32 c.of_bits.type_inv c.of_bits.ensures i) (both c.in-Some.memids.sum (returned w32 c.of_bits-2.type_inv c.of_bits-2.ensures i)))
          (members_ahead c.args.s.now (record { roles = c.in-Some.roles; memids = c.in-Some.memids; types = c.in-Some.types })))
          ∙ sym (told_is (member (goal.at.returns c).After-in_step-2) read);
      inside = inside_at _ (in_step_inside _ _ _ _ (behind-inside _ _ c.read_value-r.ensures refl) (in_step_inside _ _ _ _ c.next-m.ensures.inside (behind-inside _ _ c.read_value-t.ensures refl) c.in_step.ensures) c.in_step-2.ensures) read;
    }
