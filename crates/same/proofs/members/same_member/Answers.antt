-- `same_member` compares the roles, and where they are the same the ids.
use Rattle.protobuf.proofs.laws.Read.{handed_on}
use Rattle.std.specs.Prelude.{Ok}
use mathlib.Core.Path.{◌≡◌, refl, ap, ◌∙◌}
use mir.Syntax.{w32}
use Rattle.numbers.proofs.laws.Machine.{returned}
use Rattle.elements.specs.Members.{role_at}
use Rattle.walk.specs.Shows.{text_of}
use Rattle.same.specs.Members.{same_roles}
use Rattle.same.proofs.laws.Compared.{refuses, differs, goes_on}
use Rattle.same.proofs.laws.Members.{ids-same, roles-first}
use Rattle.same.proofs.members.same_member.Goals as goal
use Rattle.same.proofs.members.same_member.Goals.{After-same_role}

-- what the roles come to
compared : (c : After-same_role) → let a = c.args in c.same_role.result ≡ same_roles (text_of a.first.now (role_at a.first.now a.a a.x.role)) (text_of a.second.now (role_at a.second.now a.b a.y.role))
compared c =
    let a = c.args in
    let x = returned w32 {r = a.x.role} c.struct_told-1.given.0.1 refl in
    let y = returned w32 {r = a.y.role} c.struct_told-2-1.given.0.1 refl in
    c.same_role.ensures ∙ λ i. same_roles (text_of a.first.now (role_at a.first.now a.a (x i))) (text_of a.second.now (role_at a.second.now a.b (y i)))

pub returns-in_err-roles : goal.returns-in_err-roles
returns-in_err-roles c = refuses (compared (goal.at.returns-in_err-roles c).After-same_role) _ c.in_err-roles.was (handed_on _ c.from_residual.ensures) ∙ roles-first _ _ _

pub returns-then-not-roles : goal.returns-then-not-roles
returns-then-not-roles c = differs (compared (goal.at.returns-then-not-roles c).After-same_role) c.in_ok-roles.was _ c.if-not-roles.true ∙ roles-first _ _ _

pub returns : goal.returns
returns c = goes_on (compared (goal.at.returns c).After-same_role) c.in_ok-roles.was c.if-not-roles.false (ap Ok (c.eq.ensures ∙ ids-same c.args.x.id c.args.y.id)) ∙ roles-first _ _ _
