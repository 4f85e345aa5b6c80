-- `tags_of` goes by the kind.
use mathlib.Core.Path.{◌≡◌, refl, sym, ap, ◌∙◌}
use mathlib.Core.List.{List}
use Prim.Native.Nat.{ℕ}
use lib.IntN.{pos}
use Rattle.std.specs.Prelude.{Ok, Err}
use Rattle.protobuf.proofs.laws.Read.{handed_on}
use Rattle.protobuf.specs.declared.column.Column.{Column}
use Rattle.fields.specs.Outcome.{Outcome}
use Rattle.elements.specs.declared.tags.TagIter.TheVariants as iter
use Rattle.start_calls.specs.declared.kind.ElementKind.{ElementKind}
use Rattle.start_calls.specs.Starts.{kind_in, tags_start_in}
use Rattle.start_calls.proofs.laws.Starts.{tags_by, tags-by, way-or_relation}
use Rattle.start_calls.proofs.starts.tags_of.Goals as goal

-- the start by the kind that was found
by_kind : (s : List ℕ) {r : Outcome ElementKind} {k known : ElementKind} → r ≡ kind_in s → r ≡ Ok k → k ≡ known → tags_start_in s ≡ tags_by s (Ok known)
by_kind s e g h = tags-by s ∙ ap (tags_by s) (sym e ∙ g ∙ ap Ok h)

pub returns-in_err-kind_in : goal.returns-in_err-kind_in
returns-in_err-kind_in c = handed_on _ c.from_residual.ensures ∙ sym (tags-by _ ∙ ap (tags_by _) (sym c.kind_in.ensures ∙ c.in_err-kind_in.was))

pub returns-in-DenseNode : goal.returns-in-DenseNode
returns-in-DenseNode c = ap (λ (x : Column). Ok (iter.KeysVals x)) c.column_in.ensures ∙ sym (by_kind _ c.kind_in.ensures c.in_ok-kind_in.was c.in-DenseNode.is)

pub returns-in-Node : goal.returns-in-Node
returns-in-Node c = c.tags_of_columns.ensures ∙ sym (by_kind _ c.kind_in.ensures c.in_ok-kind_in.was c.in-Node.is)

pub returns-in_default : goal.returns-in_default
returns-in_default c = c.tags_of_columns-in_default.ensures ∙ sym (by_kind _ c.kind_in.ensures c.in_ok-kind_in.was refl ∙ way-or_relation _ _ c.in_default.not-DenseNode c.in_default.not-Node)
