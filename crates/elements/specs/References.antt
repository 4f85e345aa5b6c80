-- The references of a way (document 01, section 3): the running sums of refs, over any buffer and state. Another element has none.
use Rattle.std.specs.Prelude.{ℕ, List, ℤ, pos}
use Rattle.protobuf.specs.Stream.{end}
use Rattle.protobuf.specs.Column.{ended, Column}
use Rattle.fields.specs.declared.step.Step.{Step}
use Rattle.columns.specs.InStep.{start_of}
use Rattle.columns.specs.Zip.{sum64_ahead}
use Rattle.elements.specs.declared.element.Element.{Element}
use Rattle.elements.specs.declared.element.Element.TheVariants as element
use Rattle.elements.specs.declared.references.WayRefIter.{WayRefIter}
use Rattle.elements.specs.declared.references.WayRefIter.TheVariants as iter
use Rattle.elements.specs.Steps.{step_said, step_behind}

-- a column outside the buffer gives 14
abbrev pub refs_from : List ℕ → WayRefIter → Column ℤ
refs_from s iter.Ended = end ended
refs_from s (iter.Refs c) = sum64_ahead s c

abbrev pub ref_said : List ℕ → Step ℤ WayRefIter → Column ℤ
ref_said s = step_said (refs_from s)

abbrev pub ref_behind : Step ℤ WayRefIter → WayRefIter
ref_behind = step_behind iter.Ended

abbrev pub refs_start : Element → WayRefIter
refs_start (element.DenseNode d) = iter.Ended
refs_start (element.Node v) = iter.Ended
refs_start (element.Way v) = iter.Refs (record { column = start_of v.refs; sum = pos 0 })
refs_start (element.Relation v) = iter.Ended
