-- `refs_of` goes by the kind, and tests a way's part.
use mathlib.Core.Path.{◌≡◌, refl, sym, ap, ◌∙◌}
use mathlib.Core.List.{List}
use Prim.Native.Nat.{ℕ}
use lib.IntN.{pos}
use Rattle.std.specs.Prelude.{Ok, Err}
use Rattle.protobuf.proofs.laws.Read.{handed_on}
use Rattle.protobuf.specs.declared.column.Column.{Column}
use Rattle.fields.specs.Outcome.{Outcome}
use Rattle.elements.specs.declared.references.WayRefIter.TheVariants as iter
use Rattle.start_calls.specs.declared.kind.ElementKind.{ElementKind}
use Rattle.start_calls.specs.Starts.{kind_in, refs_start_in}
use Rattle.start_calls.proofs.laws.Starts.{refs_by, refs-by, no-way, way_with, way_without}
use Rattle.start_calls.proofs.starts.refs_of.Goals as goal

-- the start by the kind that was found
by_kind : (s : List ℕ) {r : Outcome ElementKind} {k known : ElementKind} → r ≡ kind_in s → r ≡ Ok k → k ≡ known → refs_start_in s ≡ refs_by s (Ok known)
by_kind s e g h = refs-by s ∙ ap (refs_by s) (sym e ∙ g ∙ ap Ok h)

pub returns-in_err-kind_in : goal.returns-in_err-kind_in
returns-in_err-kind_in c = handed_on _ c.from_residual.ensures ∙ sym (refs-by _ ∙ ap (refs_by _) (sym c.kind_in.ensures ∙ c.in_err-kind_in.was))

pub returns-then-not-is_part : goal.returns-then-not-is_part
returns-then-not-is_part c = sym (by_kind _ c.kind_in.ensures c.in_ok-kind_in.was c.in-Way.is ∙ way_without _ (sym c.is_part.ensures ∙ c.if-not-is_part.true))

pub returns-else-not-is_part : goal.returns-else-not-is_part
returns-else-not-is_part c =
    ap (λ (x : Column). Ok (iter.Refs (record { column = x; sum = pos 0 }))) c.start_at.ensures
    ∙ sym (by_kind _ c.kind_in.ensures c.in_ok-kind_in.was c.in-Way.is ∙ way_with _ (sym c.is_part.ensures ∙ c.if-not-is_part.false))

pub returns-in_default : goal.returns-in_default
returns-in_default c = sym (by_kind _ c.kind_in.ensures c.in_ok-kind_in.was refl ∙ no-way _ _ c.in_default.not-Way)
