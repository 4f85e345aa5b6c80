-- `members_of` goes by the kind, and tests a relation's parts.
use mathlib.Core.Path.{◌≡◌, refl, sym, ap, ◌∙◌}
use mathlib.Core.List.{List}
use Prim.Native.Nat.{ℕ}
use lib.IntN.{pos}
use Rattle.std.specs.Prelude.{Ok, Err}
use Rattle.protobuf.proofs.laws.Read.{handed_on}
use Rattle.protobuf.specs.declared.column.Column.{Column}
use Rattle.fields.specs.Outcome.{Outcome}
use Rattle.elements.specs.declared.members.RelMemberIter.TheVariants as iter
use Rattle.start_calls.specs.declared.kind.ElementKind.{ElementKind}
use Rattle.start_calls.specs.Starts.{kind_in, members_start_in}
use Rattle.start_calls.proofs.laws.Starts.{members_by, members-by, no-relation, relation_with, relation_without}
use Rattle.start_calls.proofs.starts.members_of.Goals as goal

-- the start by the kind that was found
by_kind : (s : List ℕ) {r : Outcome ElementKind} {k known : ElementKind} → r ≡ kind_in s → r ≡ Ok k → k ≡ known → members_start_in s ≡ members_by s (Ok known)
by_kind s e g h = members-by s ∙ ap (members_by s) (sym e ∙ g ∙ ap Ok h)

pub returns-in_err-kind_in : goal.returns-in_err-kind_in
returns-in_err-kind_in c = handed_on _ c.from_residual.ensures ∙ sym (members-by _ ∙ ap (members_by _) (sym c.kind_in.ensures ∙ c.in_err-kind_in.was))

pub returns-then-not-are_parts : goal.returns-then-not-are_parts
returns-then-not-are_parts c = sym (by_kind _ c.kind_in.ensures c.in_ok-kind_in.was c.in-Relation.is ∙ relation_without _ (sym c.are_parts.ensures ∙ c.if-not-are_parts.true))

pub returns-else-not-are_parts : goal.returns-else-not-are_parts
returns-else-not-are_parts c =
    (λ i.
    Ok
    (iter.Members
    (record { roles = c.start_at.ensures i; memids = record { column = c.start_at-in-Relation.ensures i; sum = pos 0 }; types = c.start_at-in-Relation-2.ensures i })))
    ∙ sym (by_kind _ c.kind_in.ensures c.in_ok-kind_in.was c.in-Relation.is ∙ relation_with _ (sym c.are_parts.ensures ∙ c.if-not-are_parts.false))

pub returns-in_default : goal.returns-in_default
returns-in_default c = sym (by_kind _ c.kind_in.ensures c.in_ok-kind_in.was refl ∙ no-relation _ _ c.in_default.not-Relation)
