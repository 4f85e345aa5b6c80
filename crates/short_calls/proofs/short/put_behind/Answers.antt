-- `put_behind` puts the slot's own numbers again, with the places and the sums behind the node.
use Prim.Native.Nat.{◌+◌, ◌%◌}
use native.Mathlib.Omega.{arith}
use mathlib.Core.Path.{◌∙◌}
use mathlib.Core.List.{[], ◌∷◌}
use Rattle.answers.specs.Words.{filled}
use Rattle.short_calls.proofs.short.put_behind.Goals as goal

pub overflow_add-read-4 : goal.overflow_add-read-4
overflow_add-read-4 c = omega (arith, c.read-12.ensures, c.requires.1.1.1)

pub returns : goal.returns
returns c = let a = c.args in
    record {
      after = c.put_numbers.ensures
          ∙ (λ i.
          filled a.slot.now
          (2 ∷ 0 ∷ c.read.ensures i ∷ c.read-2.ensures i ∷ c.read-3.ensures i ∷ c.read-4.ensures i ∷ c.read-5.ensures i ∷ (c.read-6.ensures i + a.id % 16) ∷ c.read-7.ensures i ∷ a.ids ∷ (c.read-8.ensures i + a.lat % 16) ∷ c.read-9.ensures i ∷ a.lats
          ∷ (c.read-10.ensures i + a.lon % 16) ∷ c.read-11.ensures i ∷ a.lons ∷ (c.read-12.ensures i + 1) ∷ c.read-13.ensures i ∷ []));
      held = record {
        of = record { group = omega (arith, c.read.type_inv, c.read.ensures); start = omega (arith, c.read-2.type_inv, c.read-2.ensures); len = omega (arith, c.read-3.type_inv, c.read-3.ensures) };
        start = omega (arith, c.read-4.type_inv, c.read-4.ensures);
        len = omega (arith, c.read-5.type_inv, c.read-5.ensures);
        ids = omega (arith, c.read-7.type_inv, c.read-7.ensures);
        lats = omega (arith, c.read-9.type_inv, c.read-9.ensures);
        lons = omega (arith, c.read-11.type_inv, c.read-11.ensures);
        keyvals = omega (arith, c.read-13.type_inv, c.read-13.ensures);
      };
    }
