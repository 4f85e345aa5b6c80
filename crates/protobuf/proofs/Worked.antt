-- Worked values: every clause of document 01, section 1, and of the Protocol Buffers text beside it, at concrete bytes. They are proved by
-- computing the definitions, so a definition that says something else does not pass, however the code and the laws are changed with it.
-- Bytes are hexadecimal; `negsuc n` is −(n + 1).
use Rattle.std.specs.Prelude.{ℕ, suc, ◌+◌, ◌-◌, ◌^◌, true, false, ◌≡◌, refl, List, [], ◌∷◌, ◌++◌, map, replicate, pos, negsuc, Ok, Err, Some, None}
use Rattle.std.proofs.Common.{arith}
use Rattle.protobuf.specs.declared.refusal.Refusal.TheVariants.{BlockTooLong, VarintCut, VarintLong, TagValue, WireType as BadWireType, PastEnd, GroupDepth, Granularity, SecondColumn, SecondInfo, SecondDense, Counts, NoRoom, Outside}
use Rattle.protobuf.specs.Refusal.{number}
use Rattle.protobuf.specs.Read.{and_then}
use Rattle.protobuf.specs.Varint.{digits, varint}
use Rattle.protobuf.specs.Tag.{tag_by, legal, tag, tag_at}
use Rattle.protobuf.specs.Stream.{Stream, Item, end, more, last, item, unrolled, mapped}
use Rattle.protobuf.specs.Short.{Short}
use Rattle.numbers.specs.Signed.{signed, twos, unzigzag, zigzag, residue, wrap}
use Rattle.protobuf.specs.Column.{ColumnEnd, ended, cut, value_at, column_from, column, int32s, uint32s, sint32s, sint64s, bools, sums_from, sums, step_at}
use Rattle.protobuf.specs.Answers.{step_by, told_by}

-- the table of numbers that come back
pub record Numbers : Type 0 where
  pub in_order : map number (BlockTooLong ∷ VarintCut ∷ VarintLong ∷ TagValue ∷ BadWireType ∷ PastEnd ∷ GroupDepth ∷ Granularity ∷ SecondColumn ∷ SecondInfo ∷ SecondDense ∷ Counts ∷ NoRoom ∷ Outside ∷ []) ≡ 1 ∷ 2 ∷ 3 ∷ 4 ∷ 5 ∷ 6 ∷ 7 ∷ 8 ∷ 9 ∷ 10 ∷ 11 ∷ 12 ∷ 13 ∷ 14 ∷ []

pub numbers-worked : Numbers
numbers-worked = record { in_order = refl }

-- one to ten bytes, low seven bits first, modulo 2^64
pub record Varints : Type 0 where
  pub one_byte : varint (0x7F ∷ []) 0 ≡ Ok (127, 1)
  pub two_bytes : varint (0x96 ∷ 0x01 ∷ []) 0 ≡ Ok (150, 2)
  pub at_a_place : varint (0xFF ∷ 0x96 ∷ 0x01 ∷ 0xFF ∷ []) 1 ≡ Ok (150, 3)
  pub overlong : varint (0x81 ∷ 0x80 ∷ 0x00 ∷ []) 0 ≡ Ok (1, 3)
  pub largest : varint (replicate 9 0xFF ++ 0x01 ∷ []) 0 ≡ Ok (2 ^ 64 - 1, 10)
  pub tenth_byte_odd : varint (replicate 9 0xFF ++ 0x03 ∷ []) 0 ≡ Ok (2 ^ 64 - 1, 10)
  pub tenth_byte_even : varint (replicate 9 0xFF ++ 0x7E ∷ []) 0 ≡ Ok (2 ^ 63 - 1, 10)
  pub ten_top-bits : varint (replicate 10 0xFF) 0 ≡ Err VarintLong
  pub eleventh_unread : varint (replicate 10 0x80 ++ 0x00 ∷ []) 0 ≡ Err VarintLong
  pub cut : varint (0x96 ∷ []) 0 ≡ Err VarintCut
  pub cut_in_the_tenth : varint (replicate 9 0xFF) 0 ≡ Err VarintCut
  pub at_the_end : varint (0x01 ∷ []) 1 ≡ Err VarintCut
  pub behind_the_end : varint (0x01 ∷ []) 2 ≡ Err Outside

pub varints_worked : Varints
unfolding and_then digits varint
varints_worked =
    record {
      one_byte = refl;
      two_bytes = refl;
      at_a_place = refl;
      overlong = refl;
      largest = refl;
      tenth_byte_odd = refl;
      tenth_byte_even = refl;
      ten_top-bits = refl;
      eleventh_unread = refl;
      cut = refl;
      cut_in_the_tenth = refl;
      at_the_end = refl;
      behind_the_end = refl;
    }

-- the field number times 8 plus the wire type
pub record Tags : Type 0 where
  pub smallest : tag (0x08 ∷ []) 0 ≡ Ok (tag_by 1 0, 1)
  pub two_bytes : tag (0x8A ∷ 0x01 ∷ []) 0 ≡ Ok (tag_by 17 2, 2)
  pub largest : tag (0xFF ∷ 0xFF ∷ 0xFF ∷ 0xFF ∷ 0x0F ∷ []) 0 ≡ Ok (tag_by 536870911 7, 5)
  pub too_large : tag (0x80 ∷ 0x80 ∷ 0x80 ∷ 0x80 ∷ 0x10 ∷ []) 0 ≡ Err TagValue
  pub field-zero : tag (0x07 ∷ []) 0 ≡ Err TagValue
  pub zero : tag (0x00 ∷ []) 0 ≡ Err TagValue
  pub cut : tag (0x88 ∷ []) 0 ≡ Err VarintCut
  pub long : tag (replicate 10 0xFF) 0 ≡ Err VarintLong
  pub here : tag_at (0x08 ∷ 0x01 ∷ []) 0 ≡ Ok (Some (tag_by 1 0, 1))
  pub not-legal-here : tag_at (0x07 ∷ []) 0 ≡ Err TagValue
  pub done-at_the_end : tag_at (0x08 ∷ 0x01 ∷ []) 2 ≡ Ok None
  pub behind_the_end : tag_at (0x08 ∷ 0x01 ∷ []) 3 ≡ Err Outside

pub tags-worked : Tags
unfolding and_then digits varint legal tag tag_at
tags-worked =
    record {
      smallest = refl;
      two_bytes = refl;
      largest = refl;
      too_large = refl;
      field-zero = refl;
      zero = refl;
      cut = refl;
      long = refl;
      here = refl;
      not-legal-here = refl;
      done-at_the_end = refl;
      behind_the_end = refl;
    }

-- a stream of these items with this end
abbrev ending : {A E : Type 0} → List A → E → Stream A E
ending [] e = end e
ending (a ∷ rest) e = more a (ending rest e)

-- varints up to the end; one that is cut has an end of its own
pub record Columns : Type 0 where
  pub empty : column [] ≡ ending [] ended
  pub values : column (0x02 ∷ 0x96 ∷ 0x01 ∷ 0x00 ∷ []) ≡ ending (2 ∷ 150 ∷ 0 ∷ []) ended
  pub from_the_second : column_from (0x02 ∷ 0x96 ∷ 0x01 ∷ 0x00 ∷ []) 1 ≡ ending (150 ∷ 0 ∷ []) ended
  pub cut_in_a_value : column (0x02 ∷ 0x96 ∷ []) ≡ ending (2 ∷ []) (cut VarintCut)
  pub long : column (0x02 ∷ replicate 10 0xFF) ≡ ending (2 ∷ []) (cut VarintLong)
  pub next-value : step_at (0x02 ∷ 0x96 ∷ 0x01 ∷ 0x00 ∷ []) 1 4 ≡ item 150 3
  pub next-at_the_end : step_at (0x02 ∷ 0x96 ∷ 0x01 ∷ 0x00 ∷ []) 3 3 ≡ last ended
  pub next-cut-at_the_end : step_at (0x02 ∷ 0x96 ∷ 0x01 ∷ 0x00 ∷ []) 1 2 ≡ last (cut VarintCut)
  pub next-behind_its_end : step_at (0x02 ∷ 0x96 ∷ 0x01 ∷ 0x00 ∷ []) 3 2 ≡ last (cut Outside)
  pub end-behind_the_bytes : step_at (0x02 ∷ []) 0 2 ≡ last (cut Outside)
  pub ended-behind_the_bytes : step_at (0x02 ∷ []) 2 2 ≡ last (cut Outside)

pub columns-worked : Columns
unfolding and_then digits varint unrolled value_at column_from step_at
columns-worked =
    record {
      empty = refl;
      values = refl;
      from_the_second = refl;
      cut_in_a_value = refl;
      long = refl;
      next-value = refl;
      next-at_the_end = refl;
      next-cut-at_the_end = refl;
      next-behind_its_end = refl;
      end-behind_the_bytes = refl;
      ended-behind_the_bytes = refl;
    }

-- what the type of a column makes of its values, and running sums
pub record Types : Type 0 where
  pub int32 : int32s (ending ((2 ^ 32 + 5) ∷ 2 ^ 31 ∷ (2 ^ 64 - 1) ∷ []) ended) ≡ ending (pos 5 ∷ negsuc (2 ^ 31 - 1) ∷ negsuc 0 ∷ []) ended
  pub uint32 : uint32s (ending ((2 ^ 32 + 5) ∷ (2 ^ 64 - 1) ∷ []) ended) ≡ ending (5 ∷ (2 ^ 32 - 1) ∷ []) ended
  pub sint32 : sint32s (ending ((2 ^ 32 + 3) ∷ (2 ^ 64 - 1) ∷ []) ended) ≡ ending (negsuc 1 ∷ negsuc (2 ^ 31 - 1) ∷ []) ended
  pub sint64 : sint64s (ending ((2 ^ 32 + 3) ∷ (2 ^ 64 - 1) ∷ []) ended) ≡ ending (negsuc (2 ^ 31 + 1) ∷ negsuc (2 ^ 63 - 1) ∷ []) ended
  pub bool : bools (ending (0 ∷ 1 ∷ 2 ∷ 2 ^ 63 ∷ []) ended) ≡ ending (false ∷ true ∷ true ∷ true ∷ []) ended
  pub cut_stays : bools (ending (0 ∷ []) (cut VarintCut)) ≡ ending (false ∷ []) (cut VarintCut)
  pub running_sums : sums 64 (ending (pos 1 ∷ pos 1 ∷ negsuc 0 ∷ []) ended) ≡ ending (pos 1 ∷ pos 2 ∷ pos 1 ∷ []) ended
  pub sums-wrap-at_64 : sums 64 (ending (pos (2 ^ 63 - 1) ∷ pos 1 ∷ []) ended) ≡ ending (pos (2 ^ 63 - 1) ∷ negsuc (2 ^ 63 - 1) ∷ []) ended
  pub sums-wrap-at_32 : sums 32 (ending (negsuc (2 ^ 31 - 1) ∷ negsuc 0 ∷ []) ended) ≡ ending (negsuc (2 ^ 31 - 1) ∷ pos (2 ^ 31 - 1) ∷ []) ended
  pub sums-of_a_cut-one : sums 64 (ending (pos 1 ∷ []) (cut VarintLong)) ≡ ending (pos 1 ∷ []) (cut VarintLong)

pub types-worked : Types
unfolding mapped signed twos unzigzag zigzag residue wrap sums_from
types-worked =
    record {
      int32 = refl;
      uint32 = refl;
      sint32 = refl;
      sint64 = refl;
      bool = refl;
      cut_stays = refl;
      running_sums = refl;
      sums-wrap-at_64 = refl;
      sums-wrap-at_32 = refl;
      sums-of_a_cut-one = refl;
    }

-- what the code's answers say
pub record Said : Type 0 where
  pub a_step : step_by 9 (item 150 2) ≡ Ok (Some (150, record { at = 2; end = 9 }))
  pub a_refused-value : step_by 9 (last (cut VarintCut)) ≡ Err VarintCut
  pub a_refused_step : told_by (step_by 9 (last (cut VarintCut))) ≡ record { said = Err VarintCut; next = record { at = 0; end = 0 } }
  pub an_ended_step : step_by 9 (last ended) ≡ Ok None
  pub an_ended-state : told_by (step_by 9 (last ended)) ≡ record { said = Ok None; next = record { at = 0; end = 0 } }
  pub a_step-goes-on : told_by (step_by 9 (item 150 2)) ≡ record { said = Ok (Some 150); next = record { at = 2; end = 9 } }
  pub a_word : (i : Item ℕ ColumnEnd) → Short i 3 82 → i ≡ item 5 5
  pub a_word-of-one_byte : (word : ℕ) → Short (item 5 4) 3 word → word ≡ 81
  pub no_word-at_the_end : (word : ℕ) → Short (last ended) 3 (suc word) → ⊥

pub said-worked : Said
said-worked =
    record {
      a_step = refl;
      a_refused-value = refl;
      a_refused_step = refl;
      an_ended_step = refl;
      an_ended-state = refl;
      a_step-goes-on = refl;
      a_word = λ i h. h.says (λ z. omega arith);
      a_word-of-one_byte = λ word h. h.serves 5 refl;
      no_word-at_the_end = λ word h. let e = h.says (λ z. omega arith) in let z : ◌≡◌ {A = ℕ} 0 1 = cc in omega arith;
    }
