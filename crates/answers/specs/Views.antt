-- The numbers of each view's answer, in their order.
use Rattle.std.specs.Prelude.{ℕ, List, [], ◌∷◌, ◌++◌, Bool, false, ℤ, pos, Option, is_some, unwrap_or}
use Rattle.fields.specs.declared.part.Part.{Part}
use Rattle.views.specs.declared.node.WireNode.{WireNode}
use Rattle.views.specs.declared.way.WireWay.{WireWay}
use Rattle.views.specs.declared.relation.WireRelation.{WireRelation}
use Rattle.views.specs.declared.dense_nodes.WireDenseNodes.{WireDenseNodes}
use Rattle.views.specs.declared.dense_info.WireDenseInfo.{WireDenseInfo}
use Rattle.views.specs.declared.info.WireInfo.{WireInfo}
use Rattle.answers.specs.Words.{flag, signed_word}
use Rattle.answers.specs.Group.{part_words}

-- several parts, one behind the other
abbrev pub parts_words : List Part → List ℕ
parts_words [] = []
parts_words (p ∷ rest) = part_words p ++ parts_words rest

abbrev pub node_words : WireNode → List ℕ
node_words v = signed_word v.id ∷ signed_word v.lat ∷ signed_word v.lon ∷ parts_words (v.keys ∷ v.vals ∷ v.info ∷ [])

abbrev pub way_words : WireWay → List ℕ
way_words v =
    signed_word v.id ∷ parts_words (v.keys ∷ v.vals ∷ v.info ∷ v.refs ∷ v.lat ∷ v.lon ∷ v.pins ∷ [])

abbrev pub relation_words : WireRelation → List ℕ
relation_words v =
    signed_word v.id ∷ parts_words (v.keys ∷ v.vals ∷ v.info ∷ v.roles ∷ v.memids ∷ v.types ∷ [])

abbrev pub dense_nodes_words : WireDenseNodes → List ℕ
dense_nodes_words v = parts_words (v.id ∷ v.info ∷ v.lat ∷ v.lon ∷ v.keyvals ∷ [])

abbrev pub dense_info_words : WireDenseInfo → List ℕ
dense_info_words v = parts_words (v.version ∷ v.timestamp ∷ v.changeset ∷ v.uid ∷ v.user ∷ v.visible ∷ [])

-- ---- a number that may be absent is two: whether it is present, and it, 0 where it is not

abbrev pub number_words : Option ℤ → List ℕ
number_words n = flag (is_some n) ∷ signed_word (unwrap_or n (pos 0)) ∷ []

-- the same of a flag

abbrev pub flag_words : Option Bool → List ℕ
flag_words n = flag (is_some n) ∷ flag (unwrap_or n false) ∷ []

abbrev pub info_words : WireInfo → List ℕ
info_words v =
    number_words v.version ++ (number_words v.timestamp ++ (number_words v.changeset ++ (number_words v.uid ++ (number_words v.user ++ flag_words v.visible))))
