-- A view of a message: what stands in each field of its schema. A schema is a row for each field: its number, and what the view makes of
-- it. A view is a fold over the message's stream that stops at the first refusal, the stream's or its own. A field whose pair of number and
-- wire type no row takes is passed over.
use Rattle.std.specs.Prelude.{ℕ, ◌+◌, List, [], ◌∷◌, Bool, true, false, length, take, drop, eqb, leb, Ok, Err}
use Rattle.protobuf.specs.declared.refusal.Refusal.TheVariants.{Granularity, SecondColumn, SecondInfo, Outside}
use Rattle.numbers.specs.Choose.{choose}
use Rattle.numbers.specs.Signed.{is_int32}
use Rattle.message.specs.declared.payload.Payload.{Payload}
use Rattle.protobuf.specs.Stream.{end, more}
use Rattle.message.specs.Message.{Field, complete, cut, spoilt, Message, message}
use Rattle.fields.specs.declared.part.Part.{Part}
use Rattle.fields.specs.declared.slot.Slot.{Slot}
use Rattle.fields.specs.Outcome.{Outcome, onward, each}
use Rattle.fields.specs.Part.{part_by, no_part, moved}

-- what a view makes of a field
pub data Kind : Type 0 where
  scalar : Kind
  int32 : Kind
  column : Kind
  submessage : Kind
  bytes : Kind
  repeated : Kind

pub record Row : Type 0 where
  pub field : ℕ
  pub kind : Kind

abbrev pub Schema : Type 0
Schema = List Row

-- the wire types of each: a column may be packed or a single value
abbrev pub takes : Kind → ℕ → Bool
takes scalar wire = eqb wire 0
takes int32 wire = eqb wire 0
takes column wire = choose (eqb wire 0) true (eqb wire 2)
takes submessage wire = eqb wire 2
takes bytes wire = eqb wire 2
takes repeated wire = eqb wire 2

-- ---- a field's slot

-- a slot has the number that was read last (of a repeated field, how many there were), and the part that stands for the field
abbrev pub slot_by : ℕ → Part → Slot
slot_by value part = record { value = value; part = part }

-- a column's part is its one occurrence that is not empty
unfoldable pub column_part : Part → ℕ → ℕ → Outcome Part
column_part old start len =
    choose (eqb len 0) (Ok old) (choose old.present (Err SecondColumn) (Ok (part_by start len)))

-- an Info's part is its one occurrence that is not empty, else its last
unfoldable pub info_part : Part → ℕ → ℕ → Outcome Part
info_part old start len =
    choose (eqb old.len 0) (Ok (part_by start len)) (choose (eqb len 0) (Ok old) (Err SecondInfo))

unfoldable pub put : Kind → Slot → Payload → Outcome Slot
put scalar old p = Ok (slot_by p.value (part_by p.start p.len))
put int32 old p = choose (is_int32 p.value) (Ok (slot_by p.value (part_by p.start p.len))) (Err Granularity)
put column old p = each (slot_by p.value) (column_part old.part p.start p.len)
put submessage old p = each (slot_by p.value) (info_part old.part p.start p.len)
put bytes old p = Ok (slot_by p.value (part_by p.start p.len))
put repeated old p = Ok (slot_by (old.value + 1) (part_by p.start p.len))

-- ---- all slots of a message, by field number

abbrev pub Slots : Type 0
Slots = ℕ → Slot

abbrev pub empty : Slots
empty k = slot_by 0 no_part

abbrev pub with : Slots → ℕ → Slot → Slots
with slots k x j = choose (eqb j k) x (slots j)

unfoldable pub store : Schema → Slots → Field → Outcome Slots
store [] slots f = Ok slots
store (row ∷ rows) slots f =
    choose (choose (eqb f.tag.field row.field) (takes row.kind f.tag.wire) false)
    (each (with slots row.field) (put row.kind (slots row.field) f.payload))
    (store rows slots f)

unfoldable pub view_from : Schema → Slots → Message → Outcome Slots
view_from schema slots (end complete) = Ok slots
view_from schema slots (end (cut r)) = Err r
view_from schema slots (end (spoilt t r)) = Err r
view_from schema slots (more f rest) = onward (store schema slots f) λ next. view_from schema next rest

unfoldable pub view : Schema → List ℕ → Outcome Slots
view schema s = view_from schema empty (message s)

-- the view of a part of the bytes, where the part is inside them
unfoldable pub view_in : Schema → List ℕ → ℕ → ℕ → Outcome Slots
view_in schema s start len = choose (leb (start + len) (length s)) (view schema (take len (drop start s))) (Err Outside)

-- ---- what a view hands out

-- the slots of a message that begins at base, their parts as parts of the bytes around it
abbrev pub moved_slot : ℕ → Slot → Slot
moved_slot base x = slot_by x.value (moved base x.part)

abbrev pub moved_slots : ℕ → Slots → Slots
moved_slots base slots k = moved_slot base (slots k)
