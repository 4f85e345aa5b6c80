-- Worked values: what the definitions here say of concrete bytes. They are proved by computing, so a definition that is changed breaks a row,
-- whatever the code does. Bytes are hexadecimal.
use Rattle.std.specs.Prelude.{ℕ, ◌<◌, ◌≡◌, refl, List, [], ◌∷◌, ◌++◌, true, false, length, take, replicate, Ok, Err, Some, None}
use Rattle.std.proofs.Common.{arith, ap}
use Rattle.protobuf.specs.declared.refusal.Refusal.TheVariants.{SecondDense, Outside}
use Rattle.protobuf.specs.Read.{and_then}
use Rattle.numbers.specs.Little.{little, bytes, number_at}
use Rattle.numbers.specs.Signed.{signed, twos, residue, wrap}
use Rattle.protobuf.specs.Varint.{digits, varint}
use Rattle.protobuf.specs.Tag.{legal, tag, tag_at}
use Rattle.message.specs.Payload.{raw_varint, fixed, counted, length_delimited, value_by, field_in, fields_of, group_by, payload}
use Rattle.protobuf.specs.Stream.{unrolled, mapped}
use Rattle.message.specs.Message.{field_at, message_from}
use Rattle.protobuf.specs.Column.{value_at, column_from, sums_from}
use Rattle.fields.specs.Outcome.{onward, each}
use Rattle.fields.specs.Part.{part_by}
use Rattle.fields.specs.Parts.{parts_of, messages_of}
use Rattle.fields.specs.View.{column_part, info_part, put, store, view_from, view, view_in}
use Rattle.wire.specs.Block.{last_of, chosen_table}
use Rattle.wire.specs.Tables.{entries}
use Rattle.wire.specs.Scan.{tables_stage, strings_stage, fields_stage, scanned}
use Rattle.lookup.specs.Lookup.{get_at, group_at, string_parts}
use Rattle.groups.specs.declared.classify.BlockType.TheVariants.{Empty, Nodes, DenseNodes}
use Rattle.groups.specs.Classify.{block_type}
use Rattle.groups.specs.Group.{dense_from, dense_in}
use Rattle.block.specs.Columns.{column_in, count_of}
use Rattle.block.specs.Check.{all, agreed, element_by, check_group}
use Rattle.columns.specs.InStep.{ahead, start_of}
use Rattle.columns.specs.Zip.{zip}
use Rattle.elements.specs.Tags.{found_tags, raw_tags_from, tags_by}
use Rattle.accept.specs.Accept.{parts_at, checked_in}
use Rattle.kinds.specs.Loose.{viewed_all}
use Rattle.walk.specs.Walk.{◌then◌, groups_from, tested_from}
use Rattle.walk.specs.Same.{same_stream, same_walks}
use Rattle.same.specs.Listing.{same_listing}
use Rattle.answers.specs.Words.{words}
use Rattle.answers.specs.Codes.{answer_after}
use Rattle.answers.specs.Record.{record_in}
use Rattle.walk_calls.specs.Chain.{Answer, Each, none, also, HandsAll, asks_none, hands-some, hands_end}
use Rattle.nuorpyts.specs.Block.{scan_after, get_in, got_code, got_after, group_in}
use Rattle.nuorpyts.specs.Group.{kind_in}
use Rattle.nuorpyts.specs.Check.{check_code}
use Rattle.nuorpyts.specs.Walks.{role_in, own_role, nano_in}
use Rattle.nuorpyts.specs.Same.{same_in, same_words}

-- a slice of n bytes that nothing was written to
abbrev blank : ℕ → List ℕ
blank n = replicate n 0xEE

-- ---- a record's slice, by the block's length, the string count, the group count and where their tables begin

abbrev record_bytes : ℕ → ℕ → ℕ → ℕ → ℕ → List ℕ
record_bytes block strings stringtable groups grouptable =
    words (block ∷ strings ∷ stringtable ∷ groups ∷ grouptable ∷ 100 ∷ 1000 ∷ 0 ∷ 0 ∷ [])

-- a table's entry
abbrev entry : ℕ → ℕ → List ℕ
entry start len = bytes 4 start ++ bytes 4 len

-- four bytes; then two strings, of which the second passes the buffer, and two groups, of which the second does
abbrev buffer : List ℕ
buffer = 0x0A ∷ 0x01 ∷ 0x12 ∷ 0x00 ∷ (entry 1 2 ++ (entry 3 34 ++ (entry 0 3 ++ entry 36 1)))

abbrev rec : List ℕ
rec = record_bytes 4 2 4 2 20

-- a block of one string, of one byte
abbrev named : List ℕ
named = 0x0A ∷ 0x03 ∷ 0x0A ∷ 0x01 ∷ 0x61 ∷ []

-- a record of granularity 10, with offsets 3 and −4
abbrev shifted : List ℕ
shifted = words (0 ∷ 0 ∷ 0 ∷ 0 ∷ 0 ∷ 10 ∷ 1000 ∷ 3 ∷ 0xFFFFFFFFFFFFFFFC ∷ [])

-- blocks as scans leave them, with their records: one of no groups; one of a way, by its id; and one that the check refuses, of two dense
-- messages
abbrev empty : List ℕ
empty = record_bytes 0 0 0 0 0

abbrev way_of : ℕ → List ℕ
way_of id = 0x12 ∷ 0x04 ∷ 0x1A ∷ 0x02 ∷ 0x08 ∷ id ∷ entry 2 4

abbrev two_dense : List ℕ
two_dense = 0x12 ∷ 0x04 ∷ 0x12 ∷ 0x00 ∷ 0x12 ∷ 0x00 ∷ entry 2 4

abbrev one_group : List ℕ
one_group = record_bytes 6 0 6 1 6

pub record Worked : Type 0 where
  -- a scan writes the tables right behind the block, where there is room for the record
  pub scan-tables : scan_after (0x12 ∷ 0x00 ∷ blank 9) 2 (blank 72) ≡ 0x12 ∷ 0x00 ∷ (entry 2 0 ++ blank 1)
  pub scan-no-tables : scan_after (0x12 ∷ 0x00 ∷ blank 7) 2 (blank 72) ≡ 0x12 ∷ 0x00 ∷ blank 7
  pub scan-no-room : scan_after (0x12 ∷ 0x00 ∷ blank 9) 2 (blank 71) ≡ 0x12 ∷ 0x00 ∷ blank 9
  -- strings and groups by number, through the record in a slice
  pub get_text : get_in buffer rec 0 ≡ Ok (Some (part_by 1 2))
  pub get_outside : get_in buffer rec 1 ≡ Err Outside
  pub get_none : get_in buffer rec 2 ≡ Ok None
  pub get_no-record : get_in buffer (take 71 rec) 0 ≡ Err Outside
  pub get_no-record-first : get_in buffer (take 71 rec) 2 ≡ Err Outside
  pub got_text : got_code (Ok (Some (part_by 1 2))) ≡ 0
  pub got_none : got_code (Ok None) ≡ 100
  pub got_outside : got_code (Err Outside) ≡ 14
  pub after_text : got_after (blank 17) (Ok (Some (part_by 1 2))) ≡ words (1 ∷ 2 ∷ []) ++ blank 1
  pub after_text-short : got_after (blank 15) (Ok (Some (part_by 1 2))) ≡ blank 15
  pub after_none : got_after (blank 17) (Ok None) ≡ blank 17
  pub after-outside : got_after (blank 17) (Err Outside) ≡ blank 17
  pub group-range : group_in buffer rec 0 ≡ Ok (part_by 0 3)
  pub group-outside : group_in buffer rec 1 ≡ Err Outside
  pub group-at-count : group_in buffer rec 2 ≡ Err Outside
  pub group-no-record : group_in buffer (take 71 rec) 0 ≡ Err Outside
  -- the kind of the group in a range, which may end where the buffer does
  pub kind-of-range : kind_in buffer 2 2 ≡ Ok DenseNodes
  pub kind-at-start : kind_in buffer 0 1 ≡ Ok Nodes
  pub kind-at-end : kind_in (0x0A ∷ []) 1 0 ≡ Ok Empty
  pub kind-outside : kind_in (0x0A ∷ []) 1 1 ≡ Err Outside
  -- the check, through the record in a slice
  pub check-accepts : check_code [] (record_bytes 0 0 0 0 0) ≡ 0
  pub check-refuses : check_code (0x12 ∷ 0x04 ∷ 0x12 ∷ 0x00 ∷ 0x12 ∷ 0x00 ∷ entry 2 4) (record_bytes 6 0 6 1 6) ≡ 11
  pub check-outside : check_code [] (record_bytes 1 0 0 0 0) ≡ 14
  pub check-no-record : check_code [] (take 71 (record_bytes 0 0 0 0 0)) ≡ 14
  -- the text of a role, whose number is an int32 as its two's complement at 64 bits
  pub role_text_lem : role_in buffer rec 0 ≡ Ok (Some (part_by 1 2))
  pub role-outside : role_in buffer rec 1 ≡ Err Outside
  pub role-none : role_in buffer rec 2 ≡ Ok None
  pub role_greatest : role_in buffer rec 0x7FFFFFFF ≡ Ok None
  pub role_above : role_in buffer rec 0x80000000 ≡ Err Outside
  pub role-wide : role_in buffer rec 0x100000000 ≡ Err Outside
  pub role-minus-one : role_in buffer rec 0xFFFFFFFFFFFFFFFF ≡ Ok None
  pub role_least : role_in buffer rec 0xFFFFFFFF80000000 ≡ Ok None
  pub role-below : role_in buffer rec 0xFFFFFFFF7FFFFFFF ≡ Err Outside
  pub role-no-record : role_in buffer (take 71 rec) 0 ≡ Err Outside
  pub role-no-record-first : role_in buffer (take 71 rec) 0xFFFFFFFFFFFFFFFF ≡ Err Outside
  pub own-role_text : own_role named 0 ≡ Ok (Some (part_by 4 1))
  pub own-role-none : own_role named 1 ≡ Ok None
  pub own-role-minus-one : own_role named 0xFFFFFFFFFFFFFFFF ≡ Ok None
  pub own-role-wide : own_role named 0x100000000 ≡ Err Outside
  -- positions, by the record's granularity and its two offsets
  pub nano_scaled : nano_in rec 5 7 ≡ Ok (500 ∷ 700 ∷ [])
  pub nano_offsets : nano_in shifted 1 1 ≡ Ok (13 ∷ 6 ∷ [])
  pub nano_negative : nano_in shifted 0xFFFFFFFFFFFFFFFF 0 ≡ Ok (0xFFFFFFFFFFFFFFF9 ∷ 0xFFFFFFFFFFFFFFFC ∷ [])
  pub nano_wraps : nano_in rec 0x7FFFFFFFFFFFFFFF 0x4000000000000001 ≡ Ok (0xFFFFFFFFFFFFFF9C ∷ 100 ∷ [])
  pub nano_no-record : nano_in (take 71 rec) 5 7 ≡ Err Outside
  -- whether two blocks list the same, through the records in two slices: what is no record is 14, before any number of the check
  pub same_way : same_in (way_of 7) one_group (way_of 7) one_group ≡ Ok true
  pub another_way : same_in (way_of 7) one_group (way_of 8) one_group ≡ Ok false
  pub another_granularity : same_in [] empty [] shifted ≡ Ok false
  pub first-refused : same_in two_dense one_group [] empty ≡ Err SecondDense
  pub second-refused : same_in [] empty two_dense one_group ≡ Err SecondDense
  pub first-no-record : same_in [] (take 71 empty) two_dense one_group ≡ Err Outside
  pub second-no-record : same_in two_dense one_group [] (take 71 empty) ≡ Err Outside
  pub first-outside : same_in [] one_group two_dense one_group ≡ Err Outside
  pub second-outside : same_in two_dense one_group [] one_group ≡ Err Outside
  pub same-is-one : answer_after same_words (blank 9) (Ok true) ≡ words (1 ∷ []) ++ blank 1
  pub other-is-zero : answer_after same_words (blank 9) (Ok false) ≡ words (0 ∷ []) ++ blank 1

pub worked : Worked
unfolding little bytes number_at column_part info_part put store view_from view entries tables_stage strings_stage fields_stage scanned signed twos residue wrap and_then digits varint legal tag tag_at raw_varint fixed counted length_delimited value_by field_in fields_of group_by payload unrolled field_at message_from onward each parts_of messages_of last_of chosen_table get_at group_at string_parts block_type dense_from all check_group parts_at checked_in words record_in kind_in mapped value_at column_from sums_from view_in dense_in column_in count_of agreed element_by ahead start_of zip found_tags raw_tags_from tags_by viewed_all ◌then◌ groups_from tested_from same_stream same_walks same_listing
worked =
    record {
      scan-tables = refl;
      scan-no-tables = refl;
      scan-no-room = refl;
      get_text = refl;
      get_outside = refl;
      get_none = refl;
      get_no-record = refl;
      get_no-record-first = refl;
      got_text = refl;
      got_none = refl;
      got_outside = refl;
      after_text = refl;
      after_text-short = refl;
      after_none = refl;
      after-outside = refl;
      group-range = refl;
      group-outside = refl;
      group-at-count = refl;
      group-no-record = refl;
      kind-of-range = refl;
      kind-at-start = refl;
      kind-at-end = refl;
      kind-outside = refl;
      check-accepts = refl;
      check-refuses = refl;
      check-outside = refl;
      check-no-record = refl;
      role_text_lem = refl;
      role-outside = refl;
      role-none = refl;
      role_greatest = refl;
      role_above = refl;
      role-wide = refl;
      role-minus-one = refl;
      role_least = refl;
      role-below = refl;
      role-no-record = refl;
      role-no-record-first = refl;
      own-role_text = refl;
      own-role-none = refl;
      own-role-minus-one = refl;
      own-role-wide = refl;
      nano_scaled = refl;
      nano_offsets = refl;
      nano_negative = refl;
      nano_wraps = refl;
      nano_no-record = refl;
      same_way = refl;
      another_way = refl;
      another_granularity = refl;
      first-refused = refl;
      second-refused = refl;
      first-no-record = refl;
      second-no-record = refl;
      first-outside = refl;
      second-outside = refl;
      same-is-one = refl;
      other-is-zero = refl;
    }

-- ---- chains: what answers hand out a list, and what answers do not

abbrev answer : ℕ → List ℕ → Answer ℕ
answer code items = record { code = code; items = items; slot = [] }

abbrev Handing : List (Answer ℕ) → List ℕ → Type 0
Handing = HandsAll ◌≡◌

-- the first of answers that hand out a list: some items, and then others, or the end
data First (a : Answer ℕ) (answers : List (Answer ℕ)) (items : List ℕ) : Type 0 where
  gives : (shown rest : List ℕ) → a.code ≡ 0 → 0 < length shown → Each ◌≡◌ a.items shown → items ≡ shown ++ rest → First a answers items
  ends : a.code ≡ 101 → a.items ≡ [] → items ≡ [] → Handing answers [] → First a answers items

opened : {a : Answer ℕ} {answers : List (Answer ℕ)} {items : List ℕ} → Handing (a ∷ answers) items → First a answers items
opened (hands-some {shown = shown} {rest = rest} code some each others) = gives shown rest code some each refl
opened (hands_end code none-given others) = ends code none-given refl others

pub in_batches : Handing (answer 0 (1 ∷ 2 ∷ []) ∷ answer 0 (3 ∷ []) ∷ answer 101 [] ∷ answer 101 [] ∷ []) (1 ∷ 2 ∷ 3 ∷ [])
in_batches = hands-some {shown = 1 ∷ 2 ∷ []} refl (omega arith) (also refl (also refl none)) (hands-some {shown = 3 ∷ []} refl (omega arith) (also refl none) (hands_end refl refl (hands_end refl refl asks_none)))

pub not-ended_early : Handing (answer 101 [] ∷ []) (1 ∷ []) → ⊥
not-ended_early h = by (opened h)
  where
    by : First (answer 101 []) [] (1 ∷ []) → ⊥
    by (gives shown rest code some each is) = omega (arith, code)
    by (ends code given is others) = omega (arith, ap length is)

pub not_another : Handing (answer 0 (2 ∷ []) ∷ []) (1 ∷ []) → ⊥
not_another h = by (opened h)
  where
    by : First (answer 0 (2 ∷ [])) [] (1 ∷ []) → ⊥
    by (gives shown rest code some (also e none) is) = let z : ◌≡◌ {A = ℕ} 2 1 = cc in omega arith
    by (ends code given is others) = omega (arith, code)

pub not-one-left-out : Handing (answer 0 (1 ∷ 3 ∷ []) ∷ []) (1 ∷ 2 ∷ 3 ∷ []) → ⊥
not-one-left-out h = by (opened h)
  where
    by : First (answer 0 (1 ∷ 3 ∷ [])) [] (1 ∷ 2 ∷ 3 ∷ []) → ⊥
    by (gives shown rest code some (also e (also g none)) is) = let z : ◌≡◌ {A = ℕ} 3 2 = cc in omega arith
    by (ends code given is others) = omega (arith, code)

pub not-one-more : Handing (answer 0 (1 ∷ []) ∷ []) [] → ⊥
not-one-more h = by (opened h)
  where
    by : First (answer 0 (1 ∷ [])) [] [] → ⊥
    by (gives shown rest code some (also e none) is) = omega (arith, ap length is)
    by (ends code given is others) = omega (arith, code)

pub not-none-with_0 : Handing (answer 0 [] ∷ []) (1 ∷ []) → ⊥
not-none-with_0 h = by (opened h)
  where
    by : First (answer 0 []) [] (1 ∷ []) → ⊥
    by (gives shown rest code some none is) = omega (arith, some)
    by (ends code given is others) = omega (arith, code)

pub not-some-with_the_end : Handing (answer 101 (1 ∷ []) ∷ []) [] → ⊥
not-some-with_the_end h = by (opened h)
  where
    by : First (answer 101 (1 ∷ [])) [] [] → ⊥
    by (gives shown rest code some each is) = omega (arith, code)
    by (ends code given is others) = omega (arith, ap length given)

pub not-refused : (items : List ℕ) → Handing (answer 14 [] ∷ []) items → ⊥
not-refused items h = by (opened h)
  where
    by : First (answer 14 []) [] items → ⊥
    by (gives shown rest code some each is) = omega (arith, code)
    by (ends code given is others) = omega (arith, code)

pub not_again : Handing (answer 101 [] ∷ answer 0 (1 ∷ []) ∷ []) [] → ⊥
not_again h = by (opened h)
  where
    by : First (answer 101 []) (answer 0 (1 ∷ []) ∷ []) [] → ⊥
    by (gives shown rest code some each is) = omega (arith, code)
    by (ends code given is others) = not-one-more others
