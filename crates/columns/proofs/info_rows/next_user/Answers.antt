-- `next_user` reads uid and user_sid, each of which stays inside the bytes, and leaves visible to `next_visible`.
use Rattle.std.specs.Prelude.{Ok}
use mathlib.Core.Path.{sym, ap, ◌∙◌}
use Rattle.protobuf.proofs.laws.Read.{says, handed_on}
use Rattle.columns.specs.Zip.{sum32_said}
use Rattle.columns.proofs.laws.Inside.{inside_at, each-inside, uid-read, user-read}
use Rattle.columns.proofs.laws.Zip.{read-ended, read-cut, read_more}
use Rattle.columns.proofs.info_rows.next_user.Goals as goal

pub returns-in_err-uid-clause-says : goal.returns-in_err-uid-clause-says
returns-in_err-uid-clause-says c = rw (handed_on _ c.from_residual.ensures) (sym (read-cut _ _ (says (sum32_said _) c.next.ensures.says c.in_err-uid.was)))

pub returns-in_default-clause-says : goal.returns-in_default-clause-says
returns-in_default-clause-says c = sym (read-ended _ _ (says (sum32_said _) c.next.ensures.says (c.in_ok-uid.was ∙ ap Ok c.in_default.is)))

pub returns-in_err-user-clause-says : goal.returns-in_err-user-clause-says
returns-in_err-user-clause-says c =
    let uid = c.in_ok-uid.was ∙ ap Ok c.in-Some.is in
    rw (handed_on _ c.from_residual-in_err-user.ensures)
    (sym (read_more _ _ (says (sum32_said _) c.next.ensures.says uid) ∙ read-cut _ _ (says (sum32_said _) c.next-2.ensures.says c.in_err-user.was)))

pub returns-in_default-2 : goal.returns-in_default-2
returns-in_default-2 c =
    let a = c.args in
    let uid = c.in_ok-uid.was ∙ ap Ok c.in-Some.is in
    let user = c.in_ok-user.was ∙ ap Ok c.in_default-2.is in
    record {
      says = sym (read_more _ _ (says (sum32_said _) c.next.ensures.says uid) ∙ read-ended _ _ (says (sum32_said _) c.next-2.ensures.says user));
      inside = λ h. (uid-read (each-inside a.s.now a.columns h) (inside_at _ c.next.ensures.inside uid)).so;
    }

pub returns : goal.returns
returns c =
    let a = c.args in
    let uid = c.in_ok-uid.was ∙ ap Ok c.in-Some.is in
    let user = c.in_ok-user.was ∙ ap Ok c.in-Some-2.is in
    record {
      says = c.next_visible.ensures.says
          ∙ sym (read_more _ _ (says (sum32_said _) c.next.ensures.says uid) ∙ read_more _ _ (says (sum32_said _) c.next-2.ensures.says user));
      inside = λ h. c.next_visible.ensures.inside (user-read (uid-read (each-inside a.s.now a.columns h) (inside_at _ c.next.ensures.inside uid)) (inside_at _ c.next-2.ensures.inside user)).so;
    }
