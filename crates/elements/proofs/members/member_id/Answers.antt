-- `member_id` makes the cases of `id_by`: a type is held as its bits, which are 0, 1 or 2 where it is.
use native.Mathlib.Omega.{arith}
use mathlib.Core.Path.{refl, ap, ◌∙◌}
use lib.IntN.{pos}
use mir.Syntax.{w32, w64}
use Rattle.numbers.proofs.laws.Machine.{returned}
use Rattle.elements.specs.declared.members.MemberId.TheVariants as id
use Rattle.elements.proofs.laws.Members.{kind-is, id-known, id-unknown}
use Rattle.elements.proofs.members.member_id.Goals as goal

pub returns-in-0 : goal.returns-in-0
returns-in-0 c =
    let a = c.args in
    id-known (pos 0) a.id (kind-is a.kind c.ranges.kind c.in-0.in-0-own.keys1 (omega arith)) (ap id.Node (returned w64 c.ranges.id.sfits refl))

pub returns-in-1 : goal.returns-in-1
returns-in-1 c =
    let a = c.args in
    id-known (pos 1) a.id (kind-is a.kind c.ranges.kind c.in-1.in-1-own.keys2 (omega arith)) (ap id.Way (returned w64 c.ranges.id.sfits refl))

pub returns-in-2 : goal.returns-in-2
returns-in-2 c =
    let a = c.args in
    id-known (pos 2) a.id (kind-is a.kind c.ranges.kind c.in-2.in-2-own.keys3 (omega arith)) (ap id.Relation (returned w64 c.ranges.id.sfits refl))

pub returns-in_default : goal.returns-in_default
returns-in_default c =
    let none = c.in_default.in_default-own.rest in
    let a = c.args in
    let kind = returned w32 {r = a.kind} c.ranges.kind.sfits refl in
    let held = returned w64 {r = a.id} c.ranges.id.sfits refl in
    (λ i. id.Unknown (kind i) (held i)) ∙ id-unknown _ _ none.0.0.1 none.0.1 none.1
