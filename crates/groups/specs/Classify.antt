-- What kind of elements a group holds, by its first byte: none is Empty; low three bits other than 2 is Mixed; then the rest of the byte is
-- the field number (document 01, section 4).
use Rattle.std.specs.Prelude.{ℕ, zero, suc, ◌/◌, ◌%◌, List, [], ◌∷◌, eqb}
use Rattle.numbers.specs.Choose.{choose}
use Rattle.groups.specs.declared.classify.BlockType.{BlockType}
use Rattle.groups.specs.declared.classify.BlockType.TheVariants.{Empty, Nodes, DenseNodes, Ways, Relations, Mixed}

abbrev pub by_field : ℕ → BlockType
by_field zero = Mixed
by_field (suc zero) = Nodes
by_field (suc (suc zero)) = DenseNodes
by_field (suc (suc (suc zero))) = Ways
by_field (suc (suc (suc (suc zero)))) = Relations
by_field (suc (suc (suc (suc (suc n))))) = Mixed

unfoldable pub block_type : List ℕ → BlockType
block_type [] = Empty
block_type (b ∷ rest) = choose (eqb (b % 8) 2) (by_field (b / 8)) Mixed

-- each kind's number, by which C knows it
abbrev pub kind_number : BlockType → ℕ
kind_number Empty = 0
kind_number Nodes = 1
kind_number DenseNodes = 2
kind_number Ways = 3
kind_number Relations = 4
kind_number Mixed = 5
