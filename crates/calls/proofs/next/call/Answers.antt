-- `call` goes by what the slot holds, and puts the state behind what it hands out.
use native.Mathlib.Omega.{arith}
use Prim.Native.Nat.{◌≤◌, ◌<◌}
use mathlib.Core.Path.{sym, ◌∙◌}
use lib.ListN.{length}
use Rattle.calls.proofs.laws.Items.{call_short, call_ended, call_leaves}
use Rattle.calls.proofs.next.call.Goals as goal

pub returns-then-slot-WIDTH-clause-called : goal.returns-then-slot-WIDTH-clause-called
returns-then-slot-WIDTH-clause-called g c =
    let short : length c.args.slot.now < g.S.Slot.WIDTH = omega (arith, c.WIDTH.ensures, c.if-slot-WIDTH.true) in
    (call_short _ _ _ _ g.S.Slot.state_at g.S.Slot.words g.S.Slot.over g.S.Slot.is_over g.S.Slot.WIDTH _ _ _ short).0

pub returns-then-is_over-clause-called : goal.returns-then-is_over-clause-called
returns-then-is_over-clause-called g c =
    let long : g.S.Slot.WIDTH ≤ length c.args.slot.now = omega (arith, c.WIDTH.ensures, c.if-slot-WIDTH.false) in
    (call_ended _ _ _ _ g.S.Slot.state_at g.S.Slot.words g.S.Slot.over g.S.Slot.is_over g.S.Slot.WIDTH _ _ _ long c.state_in-start.ensures (sym c.is_over.ensures ∙ c.if-is_over.true)).0

pub returns : goal.returns
returns g c =
    let long : g.S.Slot.WIDTH ≤ length c.args.slot.now = omega (arith, c.WIDTH.ensures, c.if-slot-WIDTH.false) in
    let said =
    call_leaves _ _ _ _ g.S.Slot.state_at g.S.Slot.words g.S.Slot.over g.S.Slot.is_over g.S.Slot.WIDTH _ _ _ long c.state_in-start.ensures (sym c.is_over.ensures ∙ c.if-is_over.false) c.fill_over-run.result
    c.leave.ensures.after (c.leave.ensures.back long) c.fill_over-run.ensures in
    rw c.leave.ensures.is (record { called = said.0; counts = said.1 })
