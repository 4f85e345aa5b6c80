-- `is_place_inside` tests the record, the group and the message.
use Prim.Native.Nat.{◌+◌}
use native.Mathlib.Omega.{arith}
use mathlib.Core.Path.{sym, ◌∙◌}
use mathlib.Core.Bool.{true≢false}
use lib.ListN.{length}
use lib.Dec.{leb}
use borrow.Author.Tests.{lt-ltb}
use Rattle.numbers.specs.Little.{number_at}
use Rattle.fields.proofs.laws.Part.{confirmed}
use Rattle.columns.proofs.laws.Inside.{also-true}
use Rattle.short_calls.proofs.short.is_place_inside.Goals as goal

pub returns-in_default : goal.returns-in_default
returns-in_default c e = absurd (true≢false (sym e))

pub returns-then-not-is_inside : goal.returns-then-not-is_inside
returns-then-not-is_inside c e = absurd (true≢false (sym e))

pub returns-then-block-read : goal.returns-then-block-read
returns-then-block-read c e = absurd (true≢false (sym e))

pub returns-then-not-part_fits : goal.returns-then-not-part_fits
returns-then-not-part_fits c e = absurd (true≢false (sym e))

pub returns : goal.returns
returns c e = let a = c.args in
    let s = a.buffer.now in
    let slot = a.slot.now in
    record {
      block = c.in-Ok.block;
      read = sym c.record_in-r.ensures ∙ c.in-Ok.is;
      tables = confirmed c.is_inside.ensures c.if-not-is_inside.false-raw;
      group = also-true (lt-ltb (number_at 8 slot 16) c.in-Ok.block.groups (omega (arith, c.if-block-read.false, c.read.ensures))) (sym (λ j. leb (c.read-2.ensures j + c.read-3.ensures j) (length s)) ∙ confirmed c.part_fits.ensures c.if-not-part_fits.false-raw);
      message = sym (λ j. leb (c.read-4.ensures j + c.read-5.ensures j) (length s)) ∙ sym c.part_fits-2.ensures ∙ e;
    }
