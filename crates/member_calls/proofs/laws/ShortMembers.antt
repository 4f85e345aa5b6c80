-- Laws of members that go by a short way: the words of a role, of a memid and of a type tell the next member, and a role and a type that are
-- small numbers are put as they stand.
use Rattle.std.specs.Prelude.{Ok, Some}
use Prim.Native.Nat.{ℕ, zero, suc, ◌/◌, ◌^◌, ◌≤◌, ◌<◌}
use native.Mathlib.Nat.{mod-eq_of_lt}
use native.Mathlib.Omega.{arith}
use mathlib.Core.Path.{◌≡◌, refl, sym, ap, ◌∙◌}
use mathlib.Core.List.{List, [], ◌∷◌}
use mathlib.Core.Bool.{true}
use lib.IntN.{ℤ, pos}
use borrow.Author.Tests.{lt-ltb}
use Rattle.numbers.specs.Signed.{signed, twos, zigzag, residue, wrapping_add}
use Rattle.protobuf.specs.declared.column.Column.{Column}
use Rattle.protobuf.specs.Column.{step_at}
use Rattle.protobuf.specs.Short.{Short}
use Rattle.wire.specs.declared.record.WireBlock.{WireBlock}
use Rattle.lookup.specs.Lookup.{is_record_inside}
use Rattle.columns.specs.declared.zip.MemberColumns.{MemberColumns}
use Rattle.columns.specs.Zip.{both}
use Rattle.columns.proofs.laws.Inside.{also-true}
use Rattle.columns.proofs.laws.Zip.{mapped-more, summed-more, zipped-more}
use Rattle.columns.proofs.laws.Short.{behind_word, word_tells, word_stands, word_inside}
use Rattle.elements.specs.declared.members.RelMemberIter.TheVariants as iter
use Rattle.elements.specs.Members.{id_by, member_of, members_from}
use Rattle.elements.proofs.laws.Members.{member-told}
use Rattle.answers.specs.Words.{signed_word, filled_at}
use Rattle.calls.specs.Items.{ItemPut}
use Rattle.calls.proofs.laws.Items.{puts-item}
use Rattle.member_calls.specs.Members.{member_item_by, member_item}

-- ---- small numbers

-- an int32 below 2^31 is the number that its varint spells, and is put as that number
small-int32 : (n : ℕ) → n < 2 ^ 31 → pos n ≡ twos 32 n
unfolding twos signed
small-int32 n h = let own : n < 2 ^ 32 = omega arith in rw (mod-eq_of_lt own, lt-ltb n (2 ^ 31) h)

small_word : (n : ℕ) → n < 2 ^ 31 → n ≡ signed_word (pos n)
unfolding residue
small_word n h = let full : n < 2 ^ 64 = omega arith in sym (mod-eq_of_lt full)

-- a type of 0, 1 or 2 is the number of its case
small_type : (role kind : ℕ) (i : ℤ) → kind ≤ 2 → role ∷ kind ∷ kind ∷ signed_word i ∷ [] ≡ member_item_by role (id_by (pos kind) i)
small_type role zero i h = refl
small_type role (suc zero) i h = refl
small_type role (suc (suc zero)) i h = refl
small_type role (suc (suc (suc n))) i h = absurd (omega arith)

-- ---- a member by three words

-- a word that tells a reader's next value
pub record Word (s : List ℕ) (c : Column) (word : ℕ) : Type 0 where
  pub some : word ≡ 0 → ⊥
  pub tells : Short (step_at s c.at c.end) c.at word

-- the sum is the one behind its memid, and the four numbers are those of the member
module _ (s : List ℕ) (b : WireBlock) (h : is_record_inside s b ≡ true) (c : MemberColumns) {role id kind : ℕ} (r : Word s c.roles role) (i : Word s c.memids.column id) (k : Word s c.types kind) where
  pub member-put : (sum : ℤ) {out : List ℕ} {at : ℕ} {after : List ℕ} → role / 16 < 2 ^ 31 → kind / 16 ≤ 2 → sum ≡ wrapping_add 64 c.memids.sum (zigzag 64 (id / 16))
      → after ≡ filled_at out at (role / 16 ∷ kind / 16 ∷ kind / 16 ∷ signed_word sum ∷ [])
      → ItemPut (λ member. member) member_item (members_from s b) (iter.Members c) out at (Ok (iter.Members (record { roles = behind_word c.roles role; memids = record { column = behind_word c.memids.column id; sum = sum }; types = behind_word c.types kind }))) after
  member-put sum {out} {at} small known added put =
      let next : MemberColumns = record { roles = behind_word c.roles role; memids = record { column = behind_word c.memids.column id; sum = sum }; types = behind_word c.types kind } in
      let member = Ok (Some ((pos (role / 16), pos (kind / 16)), next)) in
      let roles = mapped-more (twos 32) (word_tells s c.roles r.some r.tells) (small-int32 (role / 16) small) in
      let memids = summed-more 64 c.memids.sum (mapped-more (zigzag 64) (word_tells s c.memids.column i.some i.tells) refl) added in
      let types = mapped-more (twos 32) (word_tells s c.types k.some k.tells) (small-int32 (kind / 16) (omega arith)) in
      let here = also-true (word_stands s c.roles r.some r.tells) (also-true (word_stands s c.memids.column i.some i.tells) (word_stands s c.types k.some k.tells)) in
      let behind = also-true (word_inside s c.roles r.some r.tells) (also-true (word_inside s c.memids.column i.some i.tells) (word_inside s c.types k.some k.tells)) in
      puts-item member_item (members_from s b) (member_of (both (pos (role / 16)) (both sum (pos (kind / 16)))))
      (member-told s b h c {r = member} {known = member} here (sym (zipped-more roles (zipped-more memids types))) behind refl)
      (put ∙ ap (filled_at out at) (small_type (role / 16) (kind / 16) sum known ∙ ap (λ (n : ℕ). member_item_by n (id_by (pos (kind / 16)) sum)) (small_word (role / 16) small)))
