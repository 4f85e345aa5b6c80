-- `write_entries` writes the entries of `entries` one behind the other; the message that it reads stands before them and stays as it was.
use native.Mathlib.Omega.{arith}
use lib.ListN.{length, length-take, length-drop}
use Rattle.fields.proofs.laws.Parts.{a_field, no_field}
use Rattle.wire.proofs.laws.Filling.{fill_begins, fill_ends, fill_length, fill_further, fill_within, fill_skips, fill_room, fill_writes}
use Prim.Native.Nat.{◌+◌, ◌≤◌}
use Rattle.wire.proofs.tables.write_entries.Goals as goal

pub overflow_add-offset : goal.overflow_add-offset
overflow_add-offset c =
    let w = c.loop-field.invariant in
    omega (arith, fill_within w _ (a_field c.next_field.result c.unwrap_or.ensures c.next_field.ensures c.in-Some.is), fill_length w, w.room.before, w.room.room)

pub loop-field-smaller-then-field-tag : goal.loop-field-smaller-then-field-tag
loop-field-smaller-then-field-tag c = omega (arith, fill_further c.loop-field.invariant _ (a_field c.next_field.result c.unwrap_or.ensures c.next_field.ensures c.in-Some.is))

pub loop-field-preserved-then-field-tag : goal.loop-field-preserved-then-field-tag
loop-field-preserved-then-field-tag c = fill_writes c.loop-field.invariant _ (a_field c.next_field.result c.unwrap_or.ensures c.next_field.ensures c.in-Some.is) c.if-field-tag.true _ c.write_entry.ensures

pub loop-field-smaller : goal.loop-field-smaller
loop-field-smaller c = omega (arith, fill_further c.loop-field.invariant _ (a_field c.next_field.result c.unwrap_or.ensures c.next_field.ensures c.in-Some.is))

pub loop-field-preserved : goal.loop-field-preserved
loop-field-preserved c = fill_skips c.loop-field.invariant _ (a_field c.next_field.result c.unwrap_or.ensures c.next_field.ensures c.in-Some.is) c.if-field-tag.false

pub loop-field-init : goal.loop-field-init
loop-field-init c = fill_begins _ _ _ _ _ c.requires

pub returns : goal.returns
returns c = fill_ends c.loop-field.invariant (no_field c.next_field.result c.unwrap_or.ensures c.next_field.ensures c.in_default.is).1

pub write_entry-requires : goal.write_entry-requires
write_entry-requires c = let room : c.loop-field.place + 8 ≤ length c.loop-field.buffer =
    fill_room c.loop-field.invariant _ (a_field c.next_field.result c.unwrap_or.ensures c.next_field.ensures c.in-Some.is) c.if-field-tag.true in
    simp (length-take, length-drop) (omega (arith, room))
