-- Worked values: what the definitions here say of concrete numbers, at both ends of each width. They are proved by computing, so a definition
-- that is changed breaks the row of its clause, whatever the code does.
use Rattle.std.specs.Prelude.{◌≡◌, ◌+◌, ◌-◌, ◌^◌, true, false, [], ◌∷◌, map, pos, negsuc, refl}
use Rattle.numbers.specs.Signed.{signed, twos, unzigzag, zigzag, residue, wrap, wrapping_add, wrapping_mul, nanodegrees_of, is_int32}
use Rattle.numbers.specs.Little.{little, bytes, number_at, written_at}

-- both ends of each width
pub record SignedNumbers : Type 0 where
  pub twos_32 : map (twos 32) ((2 ^ 31 - 1) ∷ 2 ^ 31 ∷ (2 ^ 32 - 1) ∷ 2 ^ 32 ∷ []) ≡ pos (2 ^ 31 - 1) ∷ negsuc (2 ^ 31 - 1) ∷ negsuc 0 ∷ pos 0 ∷ []
  pub twos_64 : map (twos 64) ((2 ^ 63 - 1) ∷ 2 ^ 63 ∷ (2 ^ 64 - 1) ∷ []) ≡ pos (2 ^ 63 - 1) ∷ negsuc (2 ^ 63 - 1) ∷ negsuc 0 ∷ []
  pub zigzag_64 : map (zigzag 64) (0 ∷ 1 ∷ 2 ∷ 3 ∷ (2 ^ 64 - 2) ∷ (2 ^ 64 - 1) ∷ []) ≡ pos 0 ∷ negsuc 0 ∷ pos 1 ∷ negsuc 1 ∷ pos (2 ^ 63 - 1) ∷ negsuc (2 ^ 63 - 1) ∷ []
  pub zigzag_32 : map (zigzag 32) ((2 ^ 32 - 2) ∷ (2 ^ 32 - 1) ∷ 2 ^ 32 ∷ []) ≡ pos (2 ^ 31 - 1) ∷ negsuc (2 ^ 31 - 1) ∷ pos 0 ∷ []
  pub residue_8 : map (residue 8) (pos 255 ∷ pos 256 ∷ negsuc 0 ∷ negsuc 255 ∷ negsuc 256 ∷ []) ≡ 255 ∷ 0 ∷ 255 ∷ 0 ∷ 255 ∷ []
  pub residue_64 : residue 64 (negsuc (2 ^ 63 - 1)) ≡ 2 ^ 63
  pub wrap_8 : map (wrap 8) (pos 127 ∷ pos 128 ∷ negsuc 127 ∷ negsuc 128 ∷ []) ≡ pos 127 ∷ negsuc 127 ∷ negsuc 127 ∷ pos 127 ∷ []
  pub sum_32 : wrapping_add 32 (pos (2 ^ 31 - 1)) (pos 1) ≡ negsuc (2 ^ 31 - 1)
  pub sum_64 : wrapping_add 64 (negsuc (2 ^ 63 - 1)) (negsuc 0) ≡ pos (2 ^ 63 - 1)
  pub product : wrapping_mul 64 (pos 3) (negsuc 4) ≡ negsuc 14
  pub product_wraps : wrapping_mul 64 (negsuc (2 ^ 63 - 1)) (negsuc 0) ≡ negsuc (2 ^ 63 - 1)
  pub position : nanodegrees_of (pos 5) (pos 100) (pos 7) ≡ pos 705
  pub position-negative : nanodegrees_of (pos 5) (negsuc 99) (pos 7) ≡ negsuc 694
  pub position_wraps : nanodegrees_of (pos 1) (pos 2) (pos (2 ^ 62)) ≡ negsuc (2 ^ 63 - 2)
  pub int32-or-not : map is_int32 ((2 ^ 31 - 1) ∷ 2 ^ 31 ∷ (2 ^ 64 - 2 ^ 31 - 1) ∷ (2 ^ 64 - 2 ^ 31) ∷ []) ≡ true ∷ false ∷ false ∷ true ∷ []

pub signed-worked : SignedNumbers
unfolding signed twos unzigzag zigzag residue wrap
signed-worked =
    record {
      twos_32 = refl;
      twos_64 = refl;
      zigzag_64 = refl;
      zigzag_32 = refl;
      residue_8 = refl;
      residue_64 = refl;
      wrap_8 = refl;
      sum_32 = refl;
      sum_64 = refl;
      product = refl;
      product_wraps = refl;
      position = refl;
      position-negative = refl;
      position_wraps = refl;
      int32-or-not = refl;
    }

-- the first byte is the lowest; nothing passes the end
pub record LittleEndian : Type 0 where
  pub read : little (0x78 ∷ 0x56 ∷ 0x34 ∷ 0x12 ∷ []) ≡ 0x12345678
  pub lowest_bytes : bytes 4 (2 ^ 32 + 0x12345678) ≡ 0x78 ∷ 0x56 ∷ 0x34 ∷ 0x12 ∷ []
  pub read-at_a_place : number_at 4 (0xFF ∷ 0x78 ∷ 0x56 ∷ 0x34 ∷ 0x12 ∷ []) 1 ≡ 0x12345678
  pub read-past_the_end : number_at 4 (0xFF ∷ 0x78 ∷ 0x56 ∷ 0x34 ∷ 0x12 ∷ []) 2 ≡ 0
  pub written-at_a_place : written_at 4 (0x01 ∷ 0x02 ∷ 0x03 ∷ 0x04 ∷ 0x05 ∷ 0x06 ∷ []) 1 0x12345678 ≡ 0x01 ∷ 0x78 ∷ 0x56 ∷ 0x34 ∷ 0x12 ∷ 0x06 ∷ []
  pub written-to_the_end : written_at 4 (0x01 ∷ 0x02 ∷ 0x03 ∷ 0x04 ∷ 0x05 ∷ 0x06 ∷ []) 2 0x12345678 ≡ 0x01 ∷ 0x02 ∷ 0x78 ∷ 0x56 ∷ 0x34 ∷ 0x12 ∷ []
  pub written-past_the_end : written_at 4 (0x01 ∷ 0x02 ∷ 0x03 ∷ 0x04 ∷ 0x05 ∷ 0x06 ∷ []) 3 0x12345678 ≡ 0x01 ∷ 0x02 ∷ 0x03 ∷ 0x04 ∷ 0x05 ∷ 0x06 ∷ []

pub little-worked : LittleEndian
unfolding little bytes number_at written_at
little-worked =
    record {
      read = refl;
      lowest_bytes = refl;
      read-at_a_place = refl;
      read-past_the_end = refl;
      written-at_a_place = refl;
      written-to_the_end = refl;
      written-past_the_end = refl;
    }
