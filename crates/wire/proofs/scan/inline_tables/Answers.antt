-- `inline_tables` tests the room and writes the strings' entries and then the groups'.
use Rattle.std.specs.Prelude.{Ok}
use Prim.Native.Nat.{◌+◌, ◌*◌, ◌≤◌}
use lib.ListN.{length}
use mathlib.Core.Path.{sym, ap, ◌∙◌}
use borrow.Author.Tests.{leb-true, leb-false}
use Rattle.fields.specs.Outcome.{each}
use Rattle.wire.specs.Scan.{meta, after_scan}
use Rattle.wire.proofs.laws.Scan.{no_room, with-room, strings-room, groups-room, both-written}
use Rattle.wire.proofs.scan.inline_tables.Goals as goal

pub write_entries-requires : goal.write_entries-requires
write_entries-requires c =
    let room : let a = c.args in a.block + 8 * (a.strings + a.top.groups) ≤ length a.buffer.now =
    leb-true _ _ (sym c.has_room.ensures ∙ c.if-has_room.true) in
    strings-room c.requires room

pub write_entries-requires-then-has_room : goal.write_entries-requires-then-has_room
write_entries-requires-then-has_room c =
    let room : let a = c.args in a.block + 8 * (a.strings + a.top.groups) ≤ length a.buffer.now =
    leb-true _ _ (sym c.has_room.ensures ∙ c.if-has_room.true) in
    groups-room c.requires room _
    c.write_entries.ensures

pub returns-then-has_room : goal.returns-then-has_room
unfolding each
returns-then-has_room c =
    let room : let a = c.args in a.block + 8 * (a.strings + a.top.groups) ≤ length a.buffer.now =
    leb-true _ _ (sym c.has_room.ensures ∙ c.if-has_room.true) in
    let r = c.requires in
    let h = room in
    record { answer = ap Ok c.record_of.ensures ∙ sym (ap (each meta) (with-room r h)); after = both-written r h _ c.write_entries.ensures _ c.write_entries-then-has_room.ensures ∙ sym (ap (after_scan _ _) (with-room r h)) }

pub returns-else-has_room : goal.returns-else-has_room
unfolding each
returns-else-has_room c =
    let r = c.requires in
    let h = leb-false _ _ (sym c.has_room.ensures ∙ c.if-has_room.false) in
    record { answer = sym (ap (each meta) (no_room r h)); after = sym (ap (after_scan _ _) (no_room r h)) }
