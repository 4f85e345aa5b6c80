-- Laws of numbers that the machine holds: what is told of a struct, field by field, says it of the struct. What is told of a field stands
-- behind what owning it is, which is nothing here.
use lib.IntN.{ℤ}
use Prim.Native.Nat.{◌^◌, ◌<◌}
use lib.Signed.{mag}
use Rattle.protobuf.specs.declared.column.Column.{Column}
use Rattle.columns.specs.declared.sums.Sum.{Sum}
use Rattle.kinds.specs.declared.state.GroupRangeAt.{GroupRangeAt}
use Rattle.walk_slots.specs.Held.{ColumnHeld, SumHeld, Sum32Held, RangeHeld}

abbrev ColumnTold : (A : Type 0) (B C D : A → Type 0) → Type 0 → Column → Type 0
ColumnTold A B C D E c = (a : A) × (B a × ((C a × (c.at < 2 ^ 64)) × ((D a × (c.end < 2 ^ 64)) × E)))

module _ {A : Type 0} {B C D : A → Type 0} {E : Type 0} where
  pub column-told : {c : Column} → ColumnTold A B C D E c → ColumnHeld c
  column-told t = record { at = t.1.1.0.1; end = t.1.1.1.0.1 }

  module _ {F G : Type 0} where
    pub sum_told : {x : Sum ℤ} → ColumnTold A B C D E x.column × ((F × (mag x.sum < 2 ^ 63)) × G) → SumHeld x
    sum_told t = record { column = column-told t.0; sum = t.1.0.1 }

    pub sum32-told : {x : Sum ℤ} → ColumnTold A B C D E x.column × ((F × (mag x.sum < 2 ^ 31)) × G) → Sum32Held x
    sum32-told t = record { column = column-told t.0; sum = t.1.0.1 }

pub range-told : {A B C D : Type 0} {of : GroupRangeAt} →
    (A × (of.group < 2 ^ 64)) × ((B × (of.start < 2 ^ 64)) × ((C × (of.len < 2 ^ 64)) × D)) →
    RangeHeld of
range-told t = record { group = t.0.1; start = t.1.0.1; len = t.1.1.0.1 }
