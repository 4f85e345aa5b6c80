-- The members of a relation, on what a scan left: roles, ids and types of one count are read in step to their end, each member with the role's
-- text and the id that the listing has.
use Rattle.std.specs.Prelude.{Ok}
use Prim.Native.Nat.{ℕ, zero, suc}
use mathlib.Core.Path.{◌≡◌, refl, sym, subst}
use mathlib.Core.List.{List}
use lib.IntN.{ℤ, pos, negsuc}
use Rattle.protobuf.specs.Stream.{mapped}
use Rattle.protobuf.specs.Column.{Column, int32s, sint64s, sums}
use Rattle.fields.specs.declared.part.Part.{Part}
use Rattle.wire.specs.declared.record.WireBlock.{WireBlock}
use Rattle.block.specs.Strings.{Text, role_text}
use Rattle.block.specs.Stored.{values_of}
use Rattle.block.specs.Listing.{member_id}
use Rattle.block.specs.Listing as listed
use Rattle.columns.specs.declared.zip.MemberColumns.{MemberColumns}
use Rattle.columns.specs.InStep.{start_of}
use Rattle.columns.specs.Zip.{zip}
use Rattle.elements.specs.declared.members.RelMember.{RelMember}
use Rattle.elements.specs.declared.members.RelMemberIter.TheVariants as iter
use Rattle.elements.specs.Members.{id_by, member_of, members_by, members_from, role_at}
use Rattle.walk.specs.Shows.{Streams, all-out, one_more, text_of, id_of, MemberShows}
use Rattle.walk.proofs.claim.Whole.{Whole, no-values, one_value, whole-mapped, whole-summed}
use Rattle.walk.proofs.claim.Place.{Begins}
use Rattle.walk.proofs.claim.Texts.{Left}

-- 0, 1 and 2 are a node, a way and a relation in both
same_id : (type id : ℤ) → id_of (id_by type id) ≡ member_id type id
same_id (pos zero) id = refl
same_id (pos (suc zero)) id = refl
same_id (pos (suc (suc zero))) id = refl
same_id (pos (suc (suc (suc n)))) id = refl
same_id (negsuc n) id = refl

module _ {s : List ℕ} {r : WireBlock} {n : ℕ} {strings : List Text} (l : Left s r n strings) where
  same-role : (role : ℤ) → text_of s (role_at s r role) ≡ Ok (role_text strings role)
  unfolding role_text
  same-role (pos i) = l.texts i
  same-role (negsuc i) = refl

  members_in_step : {count : ℕ} {roles ids types : Column ℤ} → Whole count roles → Whole count ids → Whole count types
      → Streams (MemberShows s r) (mapped member_of (zip roles (zip ids types))) (listed.members_by strings (values_of roles) (values_of ids) (values_of types))
  unfolding mapped zip values_of listed.members_by
  members_in_step no-values no-values no-values = all-out
  members_in_step (one_value {a = role} u) (one_value {a = id} v) (one_value {a = type} w) =
      one_more (record { role = same-role role; id = same_id type id }) (members_in_step u v w)

  abbrev columns_at : Part → Part → Part → MemberColumns
  columns_at roles memids types = record { roles = start_of roles; memids = record { column = start_of memids; sum = pos 0 }; types = start_of types }

  -- by readers at the three parts
  pub members-shown : {roles memids types : Part} {a b c : Column ℕ} {count : ℕ} → Begins s roles a → Begins s memids b → Begins s types c → Whole count a → Whole count b → Whole count c
      → Streams (MemberShows s r) (members_from s r (iter.Members (columns_at roles memids types))) (listed.members_by strings (values_of (int32s a)) (values_of (sums 64 (sint64s b))) (values_of (int32s c)))
  unfolding members_by
  members-shown {roles} {memids} {types} {a} {b} {c} x y z u v w =
      let members = listed.members_by strings (values_of (int32s a)) (values_of (sums 64 (sint64s b))) (values_of (int32s c)) in
      let ahead-is : members_by s r (columns_at roles memids types) ≡ mapped member_of (zip (int32s a) (zip (sums 64 (sint64s b)) (int32s c))) =
      simp (l.stands, x.inside, y.inside, z.inside, x.ahead-is, y.ahead-is, z.ahead-is) in
      subst (λ (ms : Column RelMember). Streams (MemberShows s r) ms members) (sym ahead-is)
      (members_in_step (whole-mapped _ u) (whole-summed v) (whole-mapped _ w))
