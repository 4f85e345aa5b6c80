-- Worked values: where concrete elements start, with all fields different. They are proved by computing, so a definition that is changed
-- breaks a row, whatever the code does.
use Rattle.std.specs.Prelude.{ℕ, ◌≡◌, refl, List, [], ◌∷◌, ◌++◌, take, replicate, pos, Ok, Err}
use Rattle.protobuf.specs.declared.refusal.Refusal.TheVariants.{Outside}
use Rattle.numbers.specs.Little.{little, bytes, number_at}
use Rattle.numbers.specs.Signed.{signed, twos, residue}
use Rattle.fields.specs.Part.{part_by, no_part}
use Rattle.columns.specs.InStep.{start_of}
use Rattle.elements.specs.declared.references.WayRefIter.TheVariants as refs
use Rattle.elements.specs.declared.tags.TagIter.TheVariants as tags
use Rattle.elements.specs.declared.members.RelMemberIter.TheVariants as members
use Rattle.elements.specs.declared.element.NodeInfo.TheVariants as info
use Rattle.elements.specs.declared.element.Element.{Element}
use Rattle.elements.specs.declared.element.Element.TheVariants as element
use Rattle.answers.specs.Words.{words}
use Rattle.layouts.specs.Element.{element_words}
use Rattle.calls.proofs.Worked.{blank, place, refs_with}
use Rattle.tag_calls.proofs.Worked.{columns_by}
use Rattle.member_calls.proofs.Worked.{members_with}
use Rattle.start_calls.specs.Starts.{refs_start_in, tags_start_in, members_start_in}

abbrev of_numbers : List ℕ → List ℕ
of_numbers ns = take 208 (words ns ++ replicate 208 0)

abbrev in_bytes : Element → List ℕ
in_bytes e = words (element_words 21 (part_by 22 23) e) ++ blank 208

abbrev a_dense : Element
a_dense = element.DenseNode (record { id = pos 5; lat = pos 6; lon = pos 7; tags = place 2 4; info = info.Missing })

abbrev a_node : Element
a_node = element.Node (record { id = pos 5; lat = pos 6; lon = pos 7; keys = part_by 5 6; vals = part_by 7 8; info = no_part })

abbrev a_way : Element
a_way =
    element.Way (record { id = pos 5; keys = part_by 5 6; vals = part_by 7 8; info = no_part; refs = part_by 9 10; lat = part_by 1 2; lon = part_by 3 4; pins = no_part })

abbrev a_relation : Element
a_relation =
    element.Relation (record { id = pos 5; keys = part_by 5 6; vals = part_by 7 8; info = no_part; roles = part_by 9 10; memids = part_by 11 12; types = part_by 13 14 })

-- where an element starts
pub record Starts : Type 0 where
  -- from the bytes of an element of each kind
  pub refs-of_a_way : refs_start_in (in_bytes a_way) ≡ Ok (refs_with 9 19 (pos 0))
  pub refs-of_a_dense-node : refs_start_in (in_bytes a_dense) ≡ Ok refs.Ended
  pub refs-of_a_node : refs_start_in (in_bytes a_node) ≡ Ok refs.Ended
  pub refs-of_a_relation : refs_start_in (in_bytes a_relation) ≡ Ok refs.Ended
  pub tags-of_a_dense-node : tags_start_in (in_bytes a_dense) ≡ Ok (tags.KeysVals (place 2 4))
  pub tags-of_a_node : tags_start_in (in_bytes a_node) ≡ Ok (columns_by 5 11 7 15)
  pub tags-of_a_way : tags_start_in (in_bytes a_way) ≡ Ok (columns_by 5 11 7 15)
  pub tags-of_a_relation : tags_start_in (in_bytes a_relation) ≡ Ok (columns_by 5 11 7 15)
  pub members-of_a_relation : members_start_in (in_bytes a_relation) ≡ Ok (members_with 9 19 11 23 (pos 0) 13 27)
  pub members-of_a_dense-node : members_start_in (in_bytes a_dense) ≡ Ok members.Ended
  pub members-of_a_node : members_start_in (in_bytes a_node) ≡ Ok members.Ended
  pub members-of_a_way : members_start_in (in_bytes a_way) ≡ Ok members.Ended
  -- 14: too short, another kind, and a part that is neither there nor not
  pub refs-short : refs_start_in (take 207 (in_bytes a_node)) ≡ Err Outside
  pub tags-short : tags_start_in (take 207 (in_bytes a_node)) ≡ Err Outside
  pub members-short : members_start_in (take 207 (in_bytes a_node)) ≡ Err Outside
  pub refs-of-kind_four : refs_start_in (of_numbers (4 ∷ [])) ≡ Err Outside
  pub tags-of-kind_four : tags_start_in (of_numbers (4 ∷ [])) ≡ Err Outside
  pub members-of-kind_four : members_start_in (of_numbers (4 ∷ [])) ≡ Err Outside
  pub refs-flag-two : refs_start_in (of_numbers (2 ∷ 0 ∷ 0 ∷ 0 ∷ 0 ∷ 0 ∷ 0 ∷ 0 ∷ 0 ∷ 0 ∷ 0 ∷ 0 ∷ 0 ∷ 0 ∷ 2 ∷ [])) ≡ Err Outside
  pub keys-flag-two : tags_start_in (of_numbers (2 ∷ 0 ∷ 0 ∷ 0 ∷ 0 ∷ 2 ∷ [])) ≡ Err Outside
  pub vals-flag-two : tags_start_in (of_numbers (1 ∷ 0 ∷ 0 ∷ 0 ∷ 0 ∷ 0 ∷ 0 ∷ 0 ∷ 0 ∷ 0 ∷ 2 ∷ [])) ≡ Err Outside
  pub types-flag-two : members_start_in (of_numbers (3 ∷ 0 ∷ 0 ∷ 0 ∷ 0 ∷ 0 ∷ 0 ∷ 0 ∷ 0 ∷ 0 ∷ 0 ∷ 0 ∷ 0 ∷ 0 ∷ 0 ∷ 0 ∷ 0 ∷ 0 ∷ 0 ∷ 0 ∷ 2 ∷ [])) ≡ Err Outside
  pub part-not-there : tags_start_in (of_numbers (2 ∷ [])) ≡ Ok (columns_by 0 0 0 0)

pub starts-worked : Starts
unfolding little bytes number_at signed twos residue words start_of refs_start_in tags_start_in members_start_in
starts-worked =
    record {
      refs-of_a_way = refl;
      refs-of_a_dense-node = refl;
      refs-of_a_node = refl;
      refs-of_a_relation = refl;
      tags-of_a_dense-node = refl;
      tags-of_a_node = refl;
      tags-of_a_way = refl;
      tags-of_a_relation = refl;
      members-of_a_relation = refl;
      members-of_a_dense-node = refl;
      members-of_a_node = refl;
      members-of_a_way = refl;
      refs-short = refl;
      tags-short = refl;
      members-short = refl;
      refs-of-kind_four = refl;
      tags-of-kind_four = refl;
      members-of-kind_four = refl;
      refs-flag-two = refl;
      keys-flag-two = refl;
      vals-flag-two = refl;
      types-flag-two = refl;
      part-not-there = refl;
    }
