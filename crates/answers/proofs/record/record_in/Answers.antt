-- `record_in` makes the tests of `record_in` in its order, and reads the nine numbers where all of them hold.
use Rattle.std.specs.Prelude.{Ok}
use mathlib.Core.Path.{sym, ap, ◌∙◌}
use mir.Syntax.{w32, w64}
use Rattle.numbers.specs.Signed.{twos}
use Rattle.numbers.proofs.laws.Machine.{returned}
use Rattle.answers.proofs.laws.Record.{record-short, no-granularity, no-dategranularity, record-kept}
use Rattle.answers.proofs.record.record_in.Goals as goal

pub returns-then-s-lt72 : goal.returns-then-s-lt72
returns-then-s-lt72 c = record-short _ c.if-s-lt72.true

pub returns-then-not-is_int32 : goal.returns-then-not-is_int32
returns-then-not-is_int32 c = no-granularity _ c.if-s-lt72.false c.read-granularity.ensures c.read-dategranularity.ensures (sym c.is_int32.ensures ∙ c.if-not-is_int32.true)

pub returns-then-not-is_int32-2 : goal.returns-then-not-is_int32-2
returns-then-not-is_int32-2 c = no-dategranularity _ c.if-s-lt72.false c.read-granularity.ensures c.read-dategranularity.ensures
    (sym c.is_int32.ensures ∙ c.if-not-is_int32.false)
    (sym c.is_int32-2.ensures ∙ c.if-not-is_int32-2.true)

pub returns : goal.returns
returns c = let eg = c.read-granularity.ensures in
    let ed = c.read-dategranularity.ensures in
    ap Ok
    (λ i.
    record {
      block = c.read.ensures i;
      strings = c.read-2.ensures i;
      stringtable = c.read-3.ensures i;
      groups = c.read-4.ensures i;
      grouptable = c.read-5.ensures i;
      granularity = returned w32 c.of_bits.type_inv (c.of_bits.ensures ∙ ap (twos 32) eg) i;
      dategranularity = returned w32 c.of_bits-2.type_inv (c.of_bits-2.ensures ∙ ap (twos 32) ed) i;
      latoffset = returned w64 c.of_bits-3.type_inv (c.of_bits-3.ensures ∙ ap (twos 64) c.read-6.ensures) i;
      lonoffset = returned w64 c.of_bits-4.type_inv (c.of_bits-4.ensures ∙ ap (twos 64) c.read-7.ensures) i;
    })
    ∙ record-kept _ c.if-s-lt72.false eg ed (sym c.is_int32.ensures ∙ c.if-not-is_int32.false) (sym c.is_int32-2.ensures ∙ c.if-not-is_int32-2.false)
