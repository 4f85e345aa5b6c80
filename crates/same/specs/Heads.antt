-- An element's group, kind, id and raw position as numbers.
use Rattle.std.specs.Prelude.{ℕ, List, pos}
use Rattle.fields.specs.declared.part.Part.{Part}
use Rattle.elements.specs.declared.element.Element.{Element}
use Rattle.elements.specs.declared.element.Element.TheVariants as element
use Rattle.elements.specs.Element.{item_of}
use Rattle.walk.specs.Walk.{Found}
use Rattle.same.specs.declared.items.Kind.TheVariants as kind
use Rattle.same.specs.declared.items.Head.{Head}

abbrev pub head_of : ℕ → Element → Head
head_of group (element.DenseNode d) = record { group = group; kind = kind.DenseNode; id = d.id; lat = d.lat; lon = d.lon }
head_of group (element.Node v) = record { group = group; kind = kind.Node; id = v.id; lat = v.lat; lon = v.lon }
head_of group (element.Way v) = record { group = group; kind = kind.Way; id = v.id; lat = pos 0; lon = pos 0 }
head_of group (element.Relation v) = record { group = group; kind = kind.Relation; id = v.id; lat = pos 0; lon = pos 0 }

-- an element as a walk has it ahead
abbrev pub found_by : List ℕ → ℕ → Part → Element → Found
found_by s group message element = record { group = group; message = message; item = item_of s element }
