-- `kind_in` tests the range; then the kind is that of the bytes there.
use Rattle.std.proofs.Common.{rules}
use native.Mathlib.Omega.{arith}
use Prim.Native.Nat.{◌+◌}
use mathlib.Core.Bool.{true, false}
use mathlib.Core.Path.{◌≡◌, sym, ap, ◌∙◌}
use lib.Dec.{leb}
use lib.ListN.{length}
use borrow.Author.Tests.{leb-true}
use Rattle.groups.specs.Classify.{block_type}
use Rattle.fields.proofs.laws.Part.{lent_is}
use Rattle.nuorpyts.proofs.laws.Group.{kind-outside, kind-kept}
use Rattle.nuorpyts.proofs.group.kind_in.Goals as goal

pub returns-then-not-part_fits : goal.returns-then-not-part_fits
returns-then-not-part_fits c =
    let outside : let a = c.args in leb (a.start + a.len) (length a.buffer.now) ≡ false = search rules in
    sym (kind-outside _ _ _ outside)

pub overflow_add-end : goal.overflow_add-end
overflow_add-end c =
    let fits : let a = c.args in leb (a.start + a.len) (length a.buffer.now) ≡ true = search rules in
    omega (arith, leb-true _ _ fits)

pub slice_bounds-classify_group-end : goal.slice_bounds-classify_group-end
slice_bounds-classify_group-end c =
    let fits : let a = c.args in leb (a.start + a.len) (length a.buffer.now) ≡ true = search rules in
    omega (arith, leb-true _ _ fits)

pub returns : goal.returns
returns c =
    let a = c.args in
    let fits : let a = c.args in leb (a.start + a.len) (length a.buffer.now) ≡ true = search rules in
    sym (kind-kept a.buffer.now a.start a.len fits (c.classify_group.ensures ∙ ap block_type (lent_is a.buffer.now a.start a.len)))
