-- `next_info` is `next_info`: each column that has a value leads on to the next, and the last three are `next_user`'s. A column that is read
-- stays inside the bytes.
use Rattle.std.specs.Prelude.{Ok}
use mathlib.Core.Path.{refl, sym, ap, ◌∙◌}
use Rattle.protobuf.proofs.laws.Read.{says, handed_on}
use Rattle.columns.specs.Zip.{sum64_said}
use Rattle.columns.proofs.laws.InStep.{stepped}
use Rattle.columns.proofs.laws.Inside.{inside_at, each-inside, version-read, timestamp-read, changeset-read, behind-inside}
use Rattle.columns.proofs.laws.Zip.{mapped_end, mapped-more, read-ended, read-cut, read_more}
use Rattle.columns.proofs.info_rows.next_info.Goals.{In-Some, In-Some-2}
use Rattle.columns.proofs.info_rows.next_info.Goals as goal

pub returns-in_err-version-clause-says : goal.returns-in_err-version-clause-says
returns-in_err-version-clause-says c = rw (handed_on _ c.from_residual.ensures) (sym (read-cut _ _ (mapped_end _ (stepped _ _ c.read_value.ensures c.in_err-version.was))))

pub returns-in_default-clause-says : goal.returns-in_default-clause-says
returns-in_default-clause-says c = sym (read-ended _ _ (mapped_end _ (stepped _ _ c.read_value.ensures (c.in_ok-version.was ∙ ap Ok c.in_default.is))))

pub returns-in_err-timestamp-clause-says : goal.returns-in_err-timestamp-clause-says
returns-in_err-timestamp-clause-says c =
    let version = c.in_ok-version.was ∙ ap Ok c.in-Some.is in
    rw (handed_on _ c.from_residual-in_err-timestamp.ensures)
    (sym (read_more _ _ (mapped-more _ (stepped _ _ c.read_value.ensures version) refl) ∙ read-cut _ _ (says (sum64_said _) c.next.ensures.says c.in_err-timestamp.was)))

pub returns-in_default-2 : goal.returns-in_default-2
returns-in_default-2 c =
    let a = c.args in
    let version = c.in_ok-version.was ∙ ap Ok c.in-Some.is in
    let timestamp = c.in_ok-timestamp.was ∙ ap Ok c.in_default-2.is in
    record {
      says = sym (read_more _ _ (mapped-more _ (stepped _ _ c.read_value.ensures version) refl) ∙ read-ended _ _ (says (sum64_said _) c.next.ensures.says timestamp));
      inside = λ h. (version-read (each-inside a.s.now a.columns h) (behind-inside _ _ c.read_value.ensures version)).so;
    }

pub returns-in_err-changeset-clause-says : goal.returns-in_err-changeset-clause-says
returns-in_err-changeset-clause-says c =
    let version = c.in_ok-version.was ∙ ap Ok c.in-Some.is in
    let timestamp = c.in_ok-timestamp.was ∙ ap Ok c.in-Some-2.is in
    rw (handed_on _ c.from_residual-in_err-changeset.ensures)
    (sym (read_more _ _ (mapped-more _ (stepped _ _ c.read_value.ensures version) refl)
    ∙ read_more _ _ (says (sum64_said _) c.next.ensures.says timestamp)
    ∙ read-cut _ _ (says (sum64_said _) c.next-2.ensures.says c.in_err-changeset.was)))

pub returns-in_default-3 : goal.returns-in_default-3
returns-in_default-3 c =
    let a = c.args in
    let version = c.in_ok-version.was ∙ ap Ok c.in-Some.is in
    let timestamp = c.in_ok-timestamp.was ∙ ap Ok c.in-Some-2.is in
    let changeset = c.in_ok-changeset.was ∙ ap Ok c.in_default-3.is in
    record {
      says = sym (read_more _ _ (mapped-more _ (stepped _ _ c.read_value.ensures version) refl)
          ∙ read_more _ _ (says (sum64_said _) c.next.ensures.says timestamp)
          ∙ read-ended _ _ (says (sum64_said _) c.next-2.ensures.says changeset));
      inside = λ h. (timestamp-read (version-read (each-inside a.s.now a.columns h) (behind-inside _ _ c.read_value.ensures version)) (inside_at _ c.next.ensures.inside timestamp)).so;
    }

pub returns : goal.returns
returns c =
    let a = c.args in
    let version = c.in_ok-version.was ∙ ap Ok c.in-Some.is in
    let timestamp = c.in_ok-timestamp.was ∙ ap Ok c.in-Some-2.is in
    let changeset = c.in_ok-changeset.was ∙ ap Ok c.in-Some-3.is in
    record {
      says = c.next_user.ensures.says
          ∙ sym (read_more _ _ (mapped-more _ (stepped _ _ c.read_value.ensures version) refl)
          ∙ read_more _ _ (says (sum64_said _) c.next.ensures.says timestamp)
          ∙ read_more _ _ (says (sum64_said _) c.next-2.ensures.says changeset));
      inside = λ h. c.next_user.ensures.inside (changeset-read (timestamp-read (version-read (each-inside a.s.now a.columns h) (behind-inside _ _ c.read_value.ensures version)) (inside_at _ c.next.ensures.inside timestamp)) (inside_at _ c.next-2.ensures.inside changeset)).so;
    }
