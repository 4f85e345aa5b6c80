-- `member_numbers` gives `member_item`, by the case of the id; a signed number is passed as its bits.
use Prim.Native.Nat.{ℕ}
use mathlib.Core.Path.{ap}
use mathlib.Core.List.{[], ◌∷◌}
use mir.Syntax.{w32, w64}
use Rattle.answers.proofs.laws.Signed.{as_word}
use Rattle.member_calls.proofs.laws.Members.{item_case}
use Rattle.member_calls.proofs.members.member_numbers.Goals as goal

pub returns-in-Node : goal.returns-in-Node
returns-in-Node c = let i = c.in-Node.i in
    item_case c.args.member
    (ap (λ (n : ℕ). c.bits-role.result ∷ 0 ∷ 0 ∷ n ∷ []) (as_word w64 i c.in-Node.known_told-1-own.given.0.1 c.bits.ensures))
    (as_word w32 c.args.member.role c.struct_told-1.given.0.1 c.bits-role.ensures)
    c.in-Node.is

pub returns-in-Way : goal.returns-in-Way
returns-in-Way c = let i = c.in-Way.i in
    item_case c.args.member
    (ap (λ (n : ℕ). c.bits-role.result ∷ 1 ∷ 1 ∷ n ∷ []) (as_word w64 i c.in-Way.known_told-in-Way-1-own.given.0.1 c.bits-in-Way.ensures))
    (as_word w32 c.args.member.role c.struct_told-1.given.0.1 c.bits-role.ensures)
    c.in-Way.is

pub returns-in-Relation : goal.returns-in-Relation
returns-in-Relation c = let i = c.in-Relation.i in
    item_case c.args.member
    (ap (λ (n : ℕ). c.bits-role.result ∷ 2 ∷ 2 ∷ n ∷ []) (as_word w64 i c.in-Relation.known_told-in-Relation-1-own.given.0.1 c.bits-in-Relation.ensures))
    (as_word w32 c.args.member.role c.struct_told-1.given.0.1 c.bits-role.ensures)
    c.in-Relation.is

pub returns-in-Unknown : goal.returns-in-Unknown
returns-in-Unknown c = let kind = c.in-Unknown.kind in
    let i = c.in-Unknown.id in
    let told = c.in-Unknown.known_told-in-Unknown-1-own.given in
    item_case c.args.member
    (λ j. c.bits-role.result ∷ 3 ∷ as_word w32 kind told.0.1 c.bits-in-Unknown.ensures j ∷ as_word w64 i told.1.0.1 c.bits-in-Unknown-2.ensures j ∷ [])
    (as_word w32 c.args.member.role c.struct_told-1.given.0.1 c.bits-role.ensures)
    c.in-Unknown.is
