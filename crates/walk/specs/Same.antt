-- Whether two blocks list the same, over any two buffers and records: the records' granularity, offsets and group count, and then what the two
-- plain walks have ahead, element by element, in step, up to the first difference or number. Of an element: group, kind, id and raw position;
-- then its tags, its references and its members, each in step. Where both sides meet a number the first one's is told. Texts count by
-- their bytes, roles by their texts.
use Rattle.std.specs.Prelude.{ℕ, List, [], ◌∷◌, Bool, true, false, eqb, ℤ, pos, negsuc, Ok, Err}
use Rattle.std.proofs.Math.Option.{Option, none, some}
use Rattle.protobuf.specs.Stream.{end, more}
use Rattle.protobuf.specs.Column.{ended, cut, Column}
use Rattle.fields.specs.Outcome.{Outcome, onward}
use Rattle.fields.specs.Part.{bytes_in}
use Rattle.wire.specs.declared.record.WireBlock.{WireBlock}
use Rattle.block.specs.Strings.{Text}
use Rattle.block.specs.Listing.{Kind, dense_node, loose_node, a_way, a_relation, Position, MemberId, of_node, of_way, of_relation, unknown}
use Rattle.columns.specs.Inside.{also}
use Rattle.elements.specs.declared.tags.Tag.{Tag}
use Rattle.elements.specs.declared.members.RelMember.{RelMember}
use Rattle.elements.specs.Members.{role_at}
use Rattle.elements.specs.Element.{Item}
use Rattle.walk.specs.Walk.{Found, elements_from, fresh}
use Rattle.walk.specs.Shows.{text_of, id_of, kind_of, item_id, position_of, tags_of, references_of, members_of}

-- ---- equal values

abbrev pub same_number : ℤ → ℤ → Bool
same_number (pos m) (pos n) = eqb m n
same_number (pos m) (negsuc n) = false
same_number (negsuc m) (pos n) = false
same_number (negsuc m) (negsuc n) = eqb m n

unfoldable pub same_text : Text → Text → Bool
same_text [] [] = true
same_text [] (y ∷ ys) = false
same_text (x ∷ xs) [] = false
same_text (x ∷ xs) (y ∷ ys) = also (eqb x y) (same_text xs ys)

abbrev pub same_role : Option Text → Option Text → Bool
same_role none none = true
same_role none (some t) = false
same_role (some t) none = false
same_role (some t) (some u) = same_text t u

abbrev pub same_kind : Kind → Kind → Bool
same_kind dense_node dense_node = true
same_kind dense_node loose_node = false
same_kind dense_node a_way = false
same_kind dense_node a_relation = false
same_kind loose_node dense_node = false
same_kind loose_node loose_node = true
same_kind loose_node a_way = false
same_kind loose_node a_relation = false
same_kind a_way dense_node = false
same_kind a_way loose_node = false
same_kind a_way a_way = true
same_kind a_way a_relation = false
same_kind a_relation dense_node = false
same_kind a_relation loose_node = false
same_kind a_relation a_way = false
same_kind a_relation a_relation = true

abbrev pub same_position : Option Position → Option Position → Bool
same_position none none = true
same_position none (some p) = false
same_position (some p) none = false
same_position (some p) (some q) = also (same_number p.lat q.lat) (same_number p.lon q.lon)

-- the case and the id of a member
abbrev pub same_member_id : MemberId → MemberId → Bool
same_member_id (of_node i) (of_node j) = same_number i j
same_member_id (of_node i) (of_way j) = false
same_member_id (of_node i) (of_relation j) = false
same_member_id (of_node i) (unknown k j) = false
same_member_id (of_way i) (of_node j) = false
same_member_id (of_way i) (of_way j) = same_number i j
same_member_id (of_way i) (of_relation j) = false
same_member_id (of_way i) (unknown k j) = false
same_member_id (of_relation i) (of_node j) = false
same_member_id (of_relation i) (of_way j) = false
same_member_id (of_relation i) (of_relation j) = same_number i j
same_member_id (of_relation i) (unknown k j) = false
same_member_id (unknown k i) (of_node j) = false
same_member_id (unknown k i) (of_way j) = false
same_member_id (unknown k i) (of_relation j) = false
same_member_id (unknown k i) (unknown l j) = also (same_number k l) (same_number i j)

-- ---- in step

-- one comparison, and where it finds no difference another
abbrev pub and_same : Outcome Bool → Outcome Bool → Outcome Bool
and_same (Err r) others = Err r
and_same (Ok false) others = Ok false
and_same (Ok true) others = others

unfoldable pub same_stream : {A B : Type 0} → (A → B → Outcome Bool) → Column A → Column B → Outcome Bool
same_stream same (end (cut r)) d = Err r
same_stream same (end ended) (end (cut r)) = Err r
same_stream same (end ended) (end ended) = Ok true
same_stream same (end ended) (more y ys) = Ok false
same_stream same (more x xs) (end (cut r)) = Err r
same_stream same (more x xs) (end ended) = Ok false
same_stream same (more x xs) (more y ys) = and_same (same x y) (same_stream same xs ys)

-- ---- two blocks

module _ (s : List ℕ) (r : WireBlock) (t : List ℕ) (q : WireBlock) where
  abbrev pub same_tag : Tag → Tag → Outcome Bool
  same_tag a b = Ok (also (same_text (bytes_in s a.key) (bytes_in t b.key)) (same_text (bytes_in s a.value) (bytes_in t b.value)))

  abbrev pub same_ref : ℤ → ℤ → Outcome Bool
  same_ref i j = Ok (same_number i j)

  -- the first's role text, then the second's
  abbrev pub same_member : RelMember → RelMember → Outcome Bool
  same_member a b =
      onward (text_of s (role_at s r a.role)) λ x.
      onward (text_of t (role_at t q b.role)) λ y. Ok (also (same_role x y) (same_member_id (id_of a.id) (id_of b.id)))

  abbrev pub same_head : Found → Found → Bool
  same_head f g =
      also (eqb f.group g.group)
      (also (same_kind (kind_of f.item) (kind_of g.item))
      (also (same_number (item_id f.item) (item_id g.item)) (same_position (position_of f.item) (position_of g.item))))

  abbrev pub same_item : Item → Item → Outcome Bool
  same_item i j =
      and_same (same_stream same_tag (tags_of s r i) (tags_of t q j))
      (and_same (same_stream same_ref (references_of s i) (references_of t j)) (same_stream same_member (members_of s r i) (members_of t q j)))

  abbrev pub same_element : Found → Found → Outcome Bool
  same_element f g = and_same (Ok (same_head f g)) (same_item f.item g.item)

  abbrev pub same_record : Bool
  same_record =
      also (same_number r.granularity q.granularity)
      (also (same_number r.latoffset q.latoffset) (also (same_number r.lonoffset q.lonoffset) (eqb r.groups q.groups)))

  unfoldable pub same_walks : Outcome Bool
  same_walks = and_same (Ok same_record) (same_stream same_element (elements_from s r (fresh false)) (elements_from t q (fresh false)))
