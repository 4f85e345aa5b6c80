-- Worked values: what the definitions here say of concrete bytes and columns, one row for each clause of document 01, section 3, that they
-- carry. They are proved by computing, so a definition that is changed breaks the row of its clause, whatever the code does. Bytes are
-- hexadecimal.
use Rattle.std.specs.Prelude.{ℕ, ◌+◌, ◌-◌, ◌*◌, ◌^◌, ◌≡◌, refl, List, [], ◌∷◌, true, false, pos, negsuc, Ok, Err, Option, Some, None, ℤ}
use Rattle.protobuf.specs.declared.refusal.Refusal.{Refusal}
use Rattle.protobuf.specs.declared.refusal.Refusal.TheVariants.{VarintCut, VarintLong, Counts, Outside}
use Rattle.protobuf.specs.declared.column.Column as state
use Rattle.protobuf.specs.Read.{and_then}
use Rattle.protobuf.specs.Varint.{digits, varint}
use Rattle.protobuf.specs.Answers.{step_by}
use Rattle.numbers.specs.Signed.{signed, twos, unzigzag, zigzag, residue, wrap}
use Rattle.protobuf.specs.Stream.{end, more, last, item, unrolled, mapped}
use Rattle.fields.specs.Outcome.{Outcome}
use Rattle.protobuf.specs.Column.{ColumnEnd, ended, cut, Column, value_at, column_from, sums_from}
use Rattle.fields.specs.Part.{part_by}
use Rattle.block.specs.Infos as info
use Rattle.columns.specs.declared.sums.Sum.{Sum}
use Rattle.columns.specs.declared.info_rows.InfoColumns.{InfoColumns}
use Rattle.columns.specs.InStep.{said_by, in_step, ahead, start_of}
use Rattle.columns.specs.Inside.{step_inside, column_inside, tags_inside, members_inside, rows_inside, infos_inside, tag_inside, behind_inside, info_inside}
use Rattle.columns.specs.KeysVals.{next_tag, tag_said, behind_of}
use Rattle.columns.specs.Zip.{both, zip, sum64_ahead, sum64_said, moved_sum, sum32_ahead, sum32_said, tags_ahead, tags_said, members_ahead, members_said, rows_ahead, rows_said, infos_ahead, info_said}

-- a column of these values and this end
abbrev ending : {A : Type 0} → List A → ColumnEnd → Column A
ending [] e = end e
ending (x ∷ xs) e = more x (ending xs e)

abbrev numbers : List ℕ → ColumnEnd → Column ℕ
numbers = ending

abbrev place : ℕ → ℕ → state.Column
place at e = record { at = at; end = e }

abbrev summing : ℕ → ℕ → ℕ → Sum ℤ
summing at e sum = record { column = place at e; sum = pos sum }

abbrev summing32 : ℕ → ℕ → ℕ → Sum ℤ
summing32 at e sum = record { column = place at e; sum = pos sum }

-- 2, 4 and 1, and a varint that is cut
abbrev bytes : List ℕ
bytes = 0x02 ∷ 0x04 ∷ 0x01 ∷ 0x80 ∷ []

-- what one reader has before it: 14 where it stands behind its end or its end behind the bytes, and ended where it stands at it; where it
-- starts; and what its step tells
pub record Readers : Type 0 where
  pub values : ahead bytes (place 0 3) ≡ ending (2 ∷ 4 ∷ 1 ∷ []) ended
  pub from_the_second : ahead bytes (place 1 2) ≡ ending (4 ∷ []) ended
  pub cut_in_a_value : ahead bytes (place 2 4) ≡ ending (1 ∷ []) (cut VarintCut)
  pub cut-at_its_end : ahead (0x80 ∷ 0x01 ∷ []) (place 0 1) ≡ end (cut VarintCut)
  pub at_its_end : ahead bytes (place 3 3) ≡ end ended
  pub behind_its_end : ahead bytes (place 2 1) ≡ end (cut Outside)
  pub end-behind_the_bytes : ahead bytes (place 0 5) ≡ end (cut Outside)
  pub ended-behind_the_bytes : ahead bytes (place 5 5) ≡ end (cut Outside)
  pub start : start_of (part_by 3 2) ≡ place 3 5
  pub start-absent : start_of (record { present = false; start = 3; len = 2 }) ≡ place 0 0
  pub start-to_the_last : start_of (part_by 1 (2 ^ 64 - 2)) ≡ place 1 (2 ^ 64 - 1)
  pub start-past-all-bytes : start_of (part_by 1 (2 ^ 64 - 1)) ≡ place 1 0
  pub read-value : step_by 5 (item 7 3) ≡ Ok (Some (7, place 3 5))
  pub read-ended : step_by 5 (last ended) ≡ Ok None
  pub read-refused : step_by 5 (last (cut VarintLong)) ≡ Err VarintLong

pub readers_worked : Readers
unfolding and_then digits varint unrolled value_at column_from ahead start_of
readers_worked =
    record {
      values = refl;
      from_the_second = refl;
      cut_in_a_value = refl;
      cut-at_its_end = refl;
      at_its_end = refl;
      behind_its_end = refl;
      end-behind_the_bytes = refl;
      ended-behind_the_bytes = refl;
      start = refl;
      start-absent = refl;
      start-to_the_last = refl;
      start-past-all-bytes = refl;
      read-value = refl;
      read-ended = refl;
      read-refused = refl;
    }

-- what a reader of numbers answers
abbrev value : ℕ → Outcome (Option ℕ)
value n = Ok (Some n)

abbrev no_value : Outcome (Option ℕ)
no_value = Ok None

abbrev refused : Refusal → Outcome (Option ℕ)
refused r = Err r

abbrev then_nine : ℕ → Column ℕ
then_nine n = numbers (9 ∷ []) ended

-- two in step: 12 only where one has ended and the other has not, a refusal before 12, and the first one's before the second's
pub record Steps : Type 0 where
  pub both_values : in_step (value 7) (value 8) ≡ Ok (Some (7, 8))
  pub both-ended : in_step no_value no_value ≡ Ok None
  pub second_ended : in_step (value 7) no_value ≡ Err Counts
  pub first_ended : in_step no_value (value 8) ≡ Err Counts
  pub refusal_at_an_end : in_step no_value (refused VarintCut) ≡ Err VarintCut
  pub refusal_at_a_value : in_step (value 7) (refused VarintCut) ≡ Err VarintCut
  pub first_refusal : in_step (refused VarintLong) (refused VarintCut) ≡ Err VarintLong
  pub refusal_before_an_end : in_step (refused VarintLong) no_value ≡ Err VarintLong
  pub said-value : said_by (λ n. n) then_nine (value 7) ≡ ending (7 ∷ 9 ∷ []) ended
  pub said-ended : said_by (λ n. n) then_nine no_value ≡ end ended
  pub said-refused : said_by (λ n. n) then_nine (refused VarintCut) ≡ end (cut VarintCut)
  pub zip-pairs : zip (numbers (1 ∷ 2 ∷ []) ended) (numbers (3 ∷ 4 ∷ []) ended) ≡ ending (both 1 3 ∷ both 2 4 ∷ []) ended
  pub zip-second-short : zip (numbers (1 ∷ 2 ∷ []) ended) (numbers (3 ∷ []) ended) ≡ ending (both 1 3 ∷ []) (cut Counts)
  pub zip-first-short : zip (numbers (1 ∷ []) ended) (numbers (3 ∷ 4 ∷ []) ended) ≡ ending (both 1 3 ∷ []) (cut Counts)
  pub zip-cut-at_an_end : zip (numbers (1 ∷ []) ended) (numbers (3 ∷ []) (cut VarintCut)) ≡ ending (both 1 3 ∷ []) (cut VarintCut)
  pub zip-cut-at_a_value : zip (numbers (1 ∷ 2 ∷ []) ended) (numbers (3 ∷ []) (cut VarintCut)) ≡ ending (both 1 3 ∷ []) (cut VarintCut)
  pub zip-first-cut : zip (numbers (1 ∷ []) (cut VarintLong)) (numbers (3 ∷ []) (cut VarintCut)) ≡ ending (both 1 3 ∷ []) (cut VarintLong)

pub steps-worked : Steps
unfolding zip
steps-worked =
    record {
      both_values = refl;
      both-ended = refl;
      second_ended = refl;
      first_ended = refl;
      refusal_at_an_end = refl;
      refusal_at_a_value = refl;
      first_refusal = refl;
      refusal_before_an_end = refl;
      said-value = refl;
      said-ended = refl;
      said-refused = refl;
      zip-pairs = refl;
      zip-second-short = refl;
      zip-first-short = refl;
      zip-cut-at_an_end = refl;
      zip-cut-at_a_value = refl;
      zip-first-cut = refl;
    }

-- 2 and 32 bits more, then 7; −1 in 32 bits, then 2 and 9
abbrev long : List ℕ
long = 0x82 ∷ 0x80 ∷ 0x80 ∷ 0x80 ∷ 0x10 ∷ 0x07 ∷ []

abbrev minus : List ℕ
minus = 0xFF ∷ 0xFF ∷ 0xFF ∷ 0xFF ∷ 0x0F ∷ 0x02 ∷ 0x09 ∷ []

-- running sums at 64 and 32 bits; keys and vals cut to 32 bits; roles and types signed at 32 bits; each in its place, and told with the next
-- state's sum
pub record Columns : Type 0 where
  pub sums : sum64_ahead bytes (summing 0 3 5) ≡ ending (pos 6 ∷ pos 8 ∷ pos 7 ∷ []) ended
  pub sums-at_64 : sum64_ahead bytes (summing 0 1 (2 ^ 63 - 1)) ≡ ending (negsuc (2 ^ 63 - 1) ∷ []) ended
  pub sums-past_32 : sum64_ahead bytes (summing 0 1 (2 ^ 31 - 1)) ≡ ending (pos (2 ^ 31) ∷ []) ended
  pub sums-at_32 : sum32_ahead bytes (summing32 0 1 (2 ^ 31 - 1)) ≡ ending (negsuc (2 ^ 31 - 1) ∷ []) ended
  pub difference_at_64 : sum64_ahead long (summing 0 5 0) ≡ ending (pos (2 ^ 31 + 1) ∷ []) ended
  pub difference_at_32 : sum32_ahead long (summing32 0 5 0) ≡ ending (pos 1 ∷ []) ended
  pub moved : moved_sum (summing 2 9 5) (16 * 4 + 2) ≡ summing 4 9 7
  pub sum_said : sum64_said bytes (Ok (Some (summing 1 3 6))) ≡ ending (pos 6 ∷ pos 8 ∷ pos 7 ∷ []) ended
  pub sum32-said : sum32_said bytes (Ok (Some (summing32 1 3 6))) ≡ ending (pos 6 ∷ pos 8 ∷ pos 7 ∷ []) ended
  pub key-cut : tags_ahead long (record { keys = place 0 5; vals = place 5 6 }) ≡ ending (both 2 7 ∷ []) ended
  pub value-cut : tags_ahead long (record { keys = place 5 6; vals = place 0 5 }) ≡ ending (both 7 2 ∷ []) ended
  pub tag-said : tags_said bytes (Ok (Some ((8, 9), record { keys = place 0 1; vals = place 1 2 }))) ≡ ending (both 8 9 ∷ both 2 4 ∷ []) ended
  pub role-signed : members_ahead minus (record { roles = place 0 5; memids = summing 5 6 3; types = place 6 7 }) ≡ ending (both (negsuc 0) (both (pos 4) (pos 9)) ∷ []) ended
  pub type_signed : members_ahead minus (record { roles = place 6 7; memids = summing 5 6 3; types = place 0 5 }) ≡ ending (both (pos 9) (both (pos 4) (negsuc 0)) ∷ []) ended
  pub member-said : members_said minus (Ok (Some ((pos 1, pos 2), record { roles = place 7 7; memids = summing 7 7 3; types = place 7 7 }))) ≡ ending (both (pos 1) (both (pos 3) (pos 2)) ∷ []) ended
  pub row : rows_ahead bytes (record { ids = summing 0 1 10; lats = summing 1 2 20; lons = summing 2 3 30 }) ≡ ending (both (pos 11) (both (pos 22) (pos 29)) ∷ []) ended
  pub row-short : rows_ahead bytes (record { ids = summing 0 1 10; lats = summing 1 2 20; lons = summing 3 3 30 }) ≡ end (cut Counts)
  pub row-said : rows_said bytes (Ok (Some (record { ids = summing 3 3 1; lats = summing 3 3 2; lons = summing 3 3 3 }))) ≡ ending (both (pos 1) (both (pos 2) (pos 3)) ∷ []) ended

pub columns-worked : Columns
unfolding and_then digits varint unrolled value_at column_from ahead zip signed twos unzigzag zigzag residue wrap mapped sums_from
columns-worked =
    record {
      sums = refl;
      sums-at_64 = refl;
      sums-past_32 = refl;
      sums-at_32 = refl;
      difference_at_64 = refl;
      difference_at_32 = refl;
      moved = refl;
      sum_said = refl;
      sum32-said = refl;
      key-cut = refl;
      value-cut = refl;
      tag-said = refl;
      role-signed = refl;
      type_signed = refl;
      member-said = refl;
      row = refl;
      row-short = refl;
      row-said = refl;
    }

-- keys_vals: a node's pairs end at a key 0 and at the end; 0 is a value; a value that is due and missing is 2; a key is not cut to 32 bits
pub record KeysVals : Type 0 where
  pub key-and-value : next_tag (ending (1 ∷ 2 ∷ 3 ∷ []) ended) ≡ Ok (Some (1, 2), ending (3 ∷ []) ended)
  pub value-zero : next_tag (ending (1 ∷ 0 ∷ 3 ∷ []) ended) ≡ Ok (Some (1, 0), ending (3 ∷ []) ended)
  pub key-zero : next_tag (ending (0 ∷ 1 ∷ []) ended) ≡ Ok (None, ending (1 ∷ []) ended)
  pub key-of_33_bits : next_tag (ending (2 ^ 32 ∷ 1 ∷ []) ended) ≡ Ok (Some (2 ^ 32, 1), end ended)
  pub no_key : next_tag (end ended) ≡ Ok (None, end ended)
  pub no_value : next_tag (ending (1 ∷ []) ended) ≡ Err VarintCut
  pub key-refused : next_tag (end (cut VarintLong)) ≡ Err VarintLong
  pub value-refused : next_tag (ending (1 ∷ []) (cut VarintLong)) ≡ Err VarintLong
  pub said-pair : tag_said bytes (Ok (Some (8, 9), place 1 2)) ≡ Ok (Some (8, 9), ending (4 ∷ []) ended)
  pub said-done : tag_said bytes (Ok (None, place 1 2)) ≡ Ok (None, ending (4 ∷ []) ended)
  pub said-refused : tag_said bytes (Err VarintLong) ≡ Err VarintLong
  pub behind-said : behind_of bytes (Ok (place 1 2)) ≡ Ok (ending (4 ∷ []) ended)
  pub behind-refused : behind_of bytes (Err VarintLong) ≡ Err VarintLong

pub keys-vals-worked : KeysVals
unfolding and_then digits varint unrolled value_at column_from ahead
keys-vals-worked =
    record {
      key-and-value = refl;
      value-zero = refl;
      key-zero = refl;
      key-of_33_bits = refl;
      no_key = refl;
      no_value = refl;
      key-refused = refl;
      value-refused = refl;
      said-pair = refl;
      said-done = refl;
      said-refused = refl;
      behind-said = refl;
      behind-refused = refl;
    }

-- columns of one value each, with sums at the edge of 32 bits; and columns that have ended
abbrev first : InfoColumns
first =
    record {
      version = place 0 1;
      timestamp = summing 0 1 (2 ^ 31 - 1);
      changeset = summing 1 2 (2 ^ 31 - 1);
      uid = summing32 0 1 (2 ^ 31 - 1);
      user = summing32 1 2 (2 ^ 31 - 1);
      visible = place 1 2;
    }

abbrev past : InfoColumns
past =
    record {
      version = place 3 3;
      timestamp = summing 3 3 1;
      changeset = summing 3 3 2;
      uid = summing32 3 3 3;
      user = summing32 3 3 4;
      visible = place 3 3;
    }

-- the info of a dense node: the columns' types, sums of 64 and of 32 bits, and told with the next state's sums
pub record Infos : Type 0 where
  pub ahead-of_it : infos_ahead bytes first ≡ record { versions = ending (pos 2 ∷ []) ended; timestamps = ending (pos (2 ^ 31) ∷ []) ended; changesets = ending (pos (2 ^ 31 + 1) ∷ []) ended; uids = ending (negsuc (2 ^ 31 - 1) ∷ []) ended; users = ending (negsuc (2 ^ 31 - 2) ∷ []) ended; visibles = ending (true ∷ []) ended }
  pub said_row : info_said bytes (Ok (Some (record { version = pos 7; visible = false }), past)) ≡ info.present (record { version = pos 7; timestamp = pos 1; changeset = pos 2; uid = pos 3; user = pos 4; visible = false }) (infos_ahead bytes past)
  pub said-missing : info_said bytes (Ok (None, past)) ≡ info.missing (record { versions = end ended; timestamps = end ended; changesets = end ended; uids = end ended; users = end ended; visibles = end ended })
  pub said-refused : info_said bytes (Err VarintLong) ≡ info.stopped VarintLong

pub infos-worked : Infos
unfolding and_then digits varint unrolled value_at column_from ahead signed twos unzigzag zigzag residue wrap mapped sums_from
infos-worked =
    record {
      ahead-of_it = refl;
      said_row = refl;
      said-missing = refl;
      said-refused = refl;
    }

abbrev good : state.Column
good = place 0 4

abbrev bad : state.Column
bad = place 0 5

abbrev sums : state.Column → Sum ℤ
sums c = record { column = c; sum = pos 0 }

abbrev six : state.Column → state.Column → state.Column → state.Column → state.Column → state.Column → InfoColumns
six v t c i u b =
    record { version = v; timestamp = sums t; changeset = sums c; uid = record { column = i; sum = pos 0 }; user = record { column = u; sum = pos 0 }; visible = b }

-- whether a state is inside: each of its columns, and of an answer the state that it hands back
pub record Insides : Type 0 where
  pub column-to_the_end : column_inside bytes (place 4 4) ≡ true
  pub column-behind_its_end : column_inside bytes (place 3 2) ≡ false
  pub column-end-behind_the_bytes : column_inside bytes (place 0 5) ≡ false
  pub tags : tags_inside bytes (record { keys = good; vals = good }) ≡ true
  pub keys-outside : tags_inside bytes (record { keys = bad; vals = good }) ≡ false
  pub vals-outside : tags_inside bytes (record { keys = good; vals = bad }) ≡ false
  pub members : members_inside bytes (record { roles = good; memids = sums good; types = good }) ≡ true
  pub roles-outside : members_inside bytes (record { roles = bad; memids = sums good; types = good }) ≡ false
  pub memids-outside : members_inside bytes (record { roles = good; memids = sums bad; types = good }) ≡ false
  pub types-outside : members_inside bytes (record { roles = good; memids = sums good; types = bad }) ≡ false
  pub nodes : rows_inside bytes (record { ids = sums good; lats = sums good; lons = sums good }) ≡ true
  pub ids-outside : rows_inside bytes (record { ids = sums bad; lats = sums good; lons = sums good }) ≡ false
  pub lats-outside : rows_inside bytes (record { ids = sums good; lats = sums bad; lons = sums good }) ≡ false
  pub lons-outside : rows_inside bytes (record { ids = sums good; lats = sums good; lons = sums bad }) ≡ false
  pub six-columns : infos_inside bytes (six good good good good good good) ≡ true
  pub versions-outside : infos_inside bytes (six bad good good good good good) ≡ false
  pub timestamps-outside : infos_inside bytes (six good bad good good good good) ≡ false
  pub changesets-outside : infos_inside bytes (six good good bad good good good) ≡ false
  pub uids-outside : infos_inside bytes (six good good good bad good good) ≡ false
  pub users-outside : infos_inside bytes (six good good good good bad good) ≡ false
  pub visibles-outside : infos_inside bytes (six good good good good good bad) ≡ false
  pub step-hands-back : step_inside (column_inside bytes) (Ok (Some bad)) ≡ false
  pub step_ended : step_inside (column_inside bytes) (Ok None) ≡ true
  pub step-refused : step_inside (column_inside bytes) (Err VarintCut) ≡ true
  pub pair-hands-back : tag_inside bytes (Ok (Some (1, 2), bad)) ≡ false
  pub done-hands-back : tag_inside bytes (Ok (None, bad)) ≡ false
  pub tag-refused : tag_inside bytes (Err VarintCut) ≡ true
  pub behind-hands-back : behind_inside bytes (Ok bad) ≡ false
  pub behind-refused : behind_inside bytes (Err VarintCut) ≡ true
  pub row-hands-back : info_inside bytes (Ok (Some (record { version = pos 1; visible = true }), six bad good good good good good)) ≡ false
  pub missing-hands-back : info_inside bytes (Ok (None, six bad good good good good good)) ≡ false
  pub info-refused : info_inside bytes (Err VarintCut) ≡ true

pub insides_worked : Insides
insides_worked =
    record {
      column-to_the_end = refl;
      column-behind_its_end = refl;
      column-end-behind_the_bytes = refl;
      tags = refl;
      keys-outside = refl;
      vals-outside = refl;
      members = refl;
      roles-outside = refl;
      memids-outside = refl;
      types-outside = refl;
      nodes = refl;
      ids-outside = refl;
      lats-outside = refl;
      lons-outside = refl;
      six-columns = refl;
      versions-outside = refl;
      timestamps-outside = refl;
      changesets-outside = refl;
      uids-outside = refl;
      users-outside = refl;
      visibles-outside = refl;
      step-hands-back = refl;
      step_ended = refl;
      step-refused = refl;
      pair-hands-back = refl;
      done-hands-back = refl;
      tag-refused = refl;
      behind-hands-back = refl;
      behind-refused = refl;
      row-hands-back = refl;
      missing-hands-back = refl;
      info-refused = refl;
    }
