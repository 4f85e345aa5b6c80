-- `put_texts` makes the tests of a lookup of each number, of a table that is inside the buffer.
use Prim.Native.Nat.{◌+◌}
use native.Mathlib.Omega.{arith}
use mathlib.Core.Path.{sym, ◌∙◌}
use mathlib.Core.List.{[], ◌∷◌}
use lib.Dec.{leb}
use lib.ListN.{length}
use Rattle.fields.proofs.laws.Part.{confirmed}
use Rattle.answers.specs.Words.{filled_at}
use Rattle.tag_calls.proofs.tags.put_texts.Goals as goal

-- the entries of both numbers, as they were read
pub returns : goal.returns
returns c =
    let a = c.args in
    let start = c.read-key_start.ensures in
    let len = c.read-key_len.ensures in
    let start-2 = c.read-value_start.ensures in
    let len-2 = c.read-value_len.ensures in
    record {
      by =
          record {
            key-there = omega arith;
            value_there = omega arith;
            key-inside = (λ i. leb (sym start i + sym len i) (length a.buffer.now)) ∙ confirmed c.part_fits.ensures c.if-not-part_fits.false-raw;
            value-inside = (λ i. leb (sym start-2 i + sym len-2 i) (length a.buffer.now)) ∙ confirmed c.part_fits-2.ensures c.if-not-part_fits-2.false-raw;
            put = c.put_at.ensures ∙ λ i. filled_at a.out.now a.at (a.key ∷ a.value ∷ start i ∷ len i ∷ start-2 i ∷ len-2 i ∷ []);
          };
    }
