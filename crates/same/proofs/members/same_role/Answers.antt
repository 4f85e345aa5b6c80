-- `same_role` looks both texts up, and compares them where there are two.
use Rattle.protobuf.proofs.laws.Read.{handed_on}
use Rattle.std.specs.Prelude.{Ok}
use mathlib.Core.Path.{◌≡◌, refl, sym, ap, ◌∙◌}
use mir.Syntax.{w32}
use mir.ValLaws.{to_z-of_z}
use Rattle.fields.specs.Outcome.{onward}
use Rattle.elements.specs.Members.{role_at}
use Rattle.walk.specs.Same.{same_text}
use Rattle.same.proofs.laws.Stands.{role-stands}
use Rattle.same.proofs.laws.Members.{roles-found, second_refused}
use Rattle.same.proofs.members.same_role.Goals as goal
use Rattle.same.proofs.members.same_role.Goals.{After-role_text, After-role_text-2}

-- what is found of each
first_found : (c : After-role_text) → c.role_text.result ≡ role_at c.args.first.now c.args.a c.args.x
first_found c = c.role_text.ensures.answer ∙ ap (role_at c.args.first.now c.args.a) (to_z-of_z w32 c.args.x c.ranges.x)

second_found : (c : After-role_text-2) → c.role_text-2.result ≡ role_at c.args.second.now c.args.b c.args.y
second_found c = c.role_text-2.ensures.answer ∙ ap (role_at c.args.second.now c.args.b) (to_z-of_z w32 c.args.y c.ranges.y)

pub returns-in_err-p : goal.returns-in_err-p
unfolding onward
returns-in_err-p c =
    let p = goal.at.returns-in_err-p c in
    handed_on _ c.from_residual.ensures
    ∙ roles-found _ c.args.second.now (first_found p.After-role_text) refl c.in_err-p.was refl

pub returns-in_err-q : goal.returns-in_err-q
unfolding onward
returns-in_err-q c =
    let p = goal.at.returns-in_err-q c in
    handed_on _ c.from_residual-in_err-q.ensures
    ∙ second_refused c.args.first.now c.args.second.now c.in_ok-p.p
    ∙ roles-found _ _ (first_found p.After-role_text) (second_found p.After-role_text-2) c.in_ok-p.was c.in_err-q.was

pub returns-in-None-None : goal.returns-in-None-None
unfolding onward
returns-in-None-None c =
    let p = goal.at.returns-in-None-None c in
    let both = c.in-None-None in
    roles-found _ _ (first_found p.After-role_text) (second_found p.After-role_text-2) (c.in_ok-p.was ∙ ap Ok both.is-0) (c.in_ok-q.was ∙ ap Ok both.is-1)

pub returns-in_default : goal.returns-in_default
unfolding onward
returns-in_default c =
    let p = goal.at.returns-in_default c in
    let other = c.in_default in
    roles-found _ _ (first_found p.After-role_text) (second_found p.After-role_text-2) (c.in_ok-p.was ∙ ap Ok other.is-0) (c.in_ok-q.was ∙ ap Ok other.is-1)

pub returns-in_default-2 : goal.returns-in_default-2
unfolding onward
returns-in_default-2 c =
    let p = goal.at.returns-in_default-2 c in
    let one = c.in_default in
    roles-found _ _ (first_found p.After-role_text) (second_found p.After-role_text-2) (c.in_ok-p.was ∙ ap Ok one.is-0) (c.in_ok-q.was ∙ ap Ok one.is-1)

pub returns-in-Some-Some : goal.returns-in-Some-Some
unfolding onward
returns-in-Some-Some c =
    let a = c.args in
    let p = goal.at.returns-in-Some-Some c in
    let both = c.in-Some-Some in
    let first = first_found p.After-role_text in
    let second = second_found p.After-role_text-2 in
    let text = c.in_ok-p.was ∙ ap Ok both.is-0 in
    let other = c.in_ok-q.was ∙ ap Ok both.is-1 in
    let here = role-stands a.first.now a.a a.x (sym first ∙ text) in
    let there = role-stands a.second.now a.b a.y (sym second ∙ other) in
    ap Ok (c.same_text.ensures ∙ λ i. same_text (here i) (there i)) ∙ roles-found _ _ first second text other
