-- What an occurrence of a field does to its slot, by the rule that a view answers to its tag. The code keeps the slots in an array, by
-- place.
use Rattle.std.specs.Prelude.{ℕ, List, [], ◌∷◌, false, eqb, Option, Some, None, Ok}
use Rattle.numbers.specs.Choose.{choose}
use Rattle.message.specs.declared.payload.Payload.{Payload}
use Rattle.protobuf.specs.declared.tag.Tag.{Tag}
use Rattle.fields.specs.declared.slot.Slot.{Slot}
use Rattle.fields.specs.declared.slot.Rule.{Rule}
use Rattle.fields.specs.declared.slot.Rule.TheVariants as rule
use Rattle.fields.specs.Outcome.{Outcome}
use Rattle.fields.specs.View.{scalar, column, submessage, bytes, Schema, Row, takes, put}
use Rattle.fields.specs.Schema.{row}

-- A field's place in the array is its number, but field 20 changes places with field 7, which no message here has, so that the array is
-- short. The same function gives the field at a place (`placed-back`), so no two fields have one place.
abbrev pub placed : ℕ → ℕ
placed k = choose (eqb k 20) 7 (choose (eqb k 7) 20 k)

-- the row that takes a tag, where there is one
unfoldable pub rule_for : Schema → Tag → List Row
rule_for [] t = []
rule_for (row ∷ rows) t =
    choose (choose (eqb t.field row.field) (takes row.kind t.wire) false) (row ∷ []) (rule_for rows t)

-- the row of a rule, which names the place
abbrev pub row_of : Rule → Row
row_of (rule.Scalar k) = row (placed k) scalar
row_of (rule.Column k) = row (placed k) column
row_of (rule.Message k) = row (placed k) submessage
row_of (rule.Bytes k) = row (placed k) bytes

-- the row of what a view answers: none where a field is passed over
abbrev pub rule_by : Option Rule → List Row
rule_by None = []
rule_by (Some t) = row_of t ∷ []

abbrev pub place_of : Rule → ℕ
place_of (rule.Scalar k) = k
place_of (rule.Column k) = k
place_of (rule.Message k) = k
place_of (rule.Bytes k) = k

abbrev pub put_by : Rule → Slot → Payload → Outcome Slot
put_by (rule.Scalar k) old p = put scalar old p
put_by (rule.Column k) old p = put column old p
put_by (rule.Message k) old p = put submessage old p
put_by (rule.Bytes k) old p = put bytes old p

-- the same of what a view answers: a field that is passed over has place 0, which no field has, and leaves its slot as it was
abbrev pub place_for : Option Rule → ℕ
place_for None = 0
place_for (Some t) = place_of t

abbrev pub put_for : Option Rule → Slot → Payload → Outcome Slot
put_for None old p = Ok old
put_for (Some t) old p = put_by t old p
