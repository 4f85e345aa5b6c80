-- The kinds of an element by their numbers: a dense node 0, a node 1, a way 2 and a relation 3, as `layouts` puts them. Another number is 14.
use Rattle.std.specs.Prelude.{ℕ, eqb, Ok, Err}
use Rattle.numbers.specs.Choose.{choose}
use Rattle.protobuf.specs.declared.refusal.Refusal.TheVariants.{Outside}
use Rattle.fields.specs.Outcome.{Outcome}
use Rattle.start_calls.specs.declared.kind.ElementKind.{ElementKind}
use Rattle.start_calls.specs.declared.kind.ElementKind.TheVariants as kind

abbrev pub kind_of : ℕ → Outcome ElementKind
kind_of n =
    choose (eqb n 0) (Ok kind.DenseNode)
    (choose (eqb n 1) (Ok kind.Node)
    (choose (eqb n 2) (Ok kind.Way) (choose (eqb n 3) (Ok kind.Relation) (Err Outside))))
