-- The numbers of an element: its kind, its group's number, its message's start and length, then those of its kind. It takes 208 bytes,
-- which are a way's 26 numbers; the bytes behind the numbers of another kind are not written.
use Rattle.std.specs.Prelude.{ℕ, ◌+◌, List, [], ◌∷◌, length, leb}
use Rattle.numbers.specs.Choose.{choose}
use Rattle.numbers.specs.Little.{written}
use Rattle.fields.specs.declared.part.Part.{Part}
use Rattle.elements.specs.declared.element.NodeInfo.{NodeInfo}
use Rattle.elements.specs.declared.element.NodeInfo.TheVariants as info
use Rattle.elements.specs.declared.element.DenseNode.{DenseNode}
use Rattle.elements.specs.declared.element.Element.{Element}
use Rattle.elements.specs.declared.element.Element.TheVariants as element
use Rattle.answers.specs.Words.{words, flag, signed_word}
use Rattle.answers.specs.Views.{node_words, way_words, relation_words}

-- a dense node's metadata: 0 not read, 1 none for this node, 2 and its row
abbrev pub node_info_words : NodeInfo → List ℕ
node_info_words info.Unread = 0 ∷ []
node_info_words info.Missing = 1 ∷ []
node_info_words (info.Row i) =
    2
    ∷ signed_word i.version
    ∷ signed_word i.timestamp
    ∷ signed_word i.changeset
    ∷ signed_word i.uid
    ∷ signed_word i.user
    ∷ flag i.visible
    ∷ []

-- a dense node: its sums, where the reader of its pairs stands and ends, and its metadata
abbrev pub dense_node_words : DenseNode → List ℕ
dense_node_words d =
    signed_word d.id ∷ signed_word d.lat ∷ signed_word d.lon ∷ d.tags.at ∷ d.tags.end ∷ node_info_words d.info

abbrev pub kind_word : Element → ℕ
kind_word (element.DenseNode d) = 0
kind_word (element.Node v) = 1
kind_word (element.Way v) = 2
kind_word (element.Relation v) = 3

abbrev pub own_words : Element → List ℕ
own_words (element.DenseNode d) = dense_node_words d
own_words (element.Node v) = node_words v
own_words (element.Way v) = way_words v
own_words (element.Relation v) = relation_words v

abbrev pub element_words : ℕ → Part → Element → List ℕ
element_words group message e = kind_word e ∷ group ∷ message.start ∷ message.len ∷ own_words e

-- the slice after an element was put at a place
abbrev pub element_put : List ℕ → ℕ → ℕ → Part → Element → List ℕ
element_put out at group message e = choose (leb (at + 208) (length out)) (written out at (words (element_words group message e))) out
