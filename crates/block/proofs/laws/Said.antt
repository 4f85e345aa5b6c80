-- What one element says in the listing it says in the content, and the other way round: for a loose node and a way always, for a relation
-- and a dense message where their columns have equal counts.
use Prim.Native.Nat.{ℕ, zero, suc}
use mathlib.Core.Path.{◌≡◌, refl, sym, ap, ◌∙◌}
use mathlib.Core.List.{List, [], ◌∷◌, map}
use mathlib.Core.Option.{Option, none, some}
use native.Mathlib.Omega.{arith}
use lib.ListN.{length}
use lib.IntN.{ℤ, pos, negsuc}
use Rattle.std.proofs.lemmas.List.{length-map}
use Rattle.protobuf.specs.Column.{int32s, sint64s, sums}
use Rattle.numbers.proofs.laws.Signed.{InRange}
use Rattle.fields.specs.Schema.{way, relation}
use Rattle.block.specs.Columns.{column_in}
use Rattle.block.specs.Tags.{Pair}
use Rattle.block.specs.Strings.{Text, Tag, shown, role_text}
use Rattle.block.specs.Stored.{slots_of, values_of, Dense}
use Rattle.block.specs.Listing.{Position, MemberId, of_node, of_way, of_relation, unknown, member_id, Member, Element, a_way, a_relation, loose_node, dense_node, node_by, members_by, node_element, way_element, relation_element, dense_by_sums, dense_elements}
use Rattle.block.specs.Content.{DenseContent, NodeContent, WayContent, RelationContent, dense_content, node_content, way_content, relation_content}
use Rattle.block.proofs.laws.Lists.{Each}
use Rattle.block.proofs.laws.Sums.{sum_list, values-of-sums, sums-length, sums_determine, zigzag-values}

lat_of : Option Position → ℤ
lat_of none = pos 0
lat_of (some p) = p.lat

lon_of : Option Position → ℤ
lon_of none = pos 0
lon_of (some p) = p.lon

-- ---- a loose node

module _ (group : ℕ) where
  node_back : Element → NodeContent
  node_back e = record { id = e.id; lat = lat_of e.position; lon = lon_of e.position; tags = e.tags }

  node_from : NodeContent → Element
  node_from c = node_by group loose_node c.id c.lat c.lon c.tags

  module _ (strings strings' : List Text) (s t : List ℕ) where
    pub node-told : node_element group strings s ≡ node_element group strings' t → node_content strings s ≡ node_content strings' t
    unfolding node_element node_content node_back lat_of lon_of
    node-told p = ap node_back p

    pub node-listed : node_content strings s ≡ node_content strings' t → node_element group strings s ≡ node_element group strings' t
    unfolding node_element node_content node_from
    node-listed p = ap node_from p

-- ---- a way

module _ (group : ℕ) where
  way_from : WayContent → Element
  way_from c =
      record {
        group = group;
        kind = a_way;
        id = c.id;
        position = none;
        tags = c.tags;
        references = sum_list 64 (pos 0) c.references;
        members = [];
      }

  way-is : (strings : List Text) (s : List ℕ) → way_element group strings s ≡ way_from (way_content strings s)
  unfolding way_element way_content way_from
  way-is strings s =
      let refs = values-of-sums 64 (pos 0) (sint64s (column_in s (slots_of way s) 8)) in
      (λ i. record { group = group; kind = a_way; id = (way_content strings s).id; position = none; tags = (way_content strings s).tags; references = refs i; members = [] })

  module _ (strings strings' : List Text) (s t : List ℕ) where
    pub way-listed : way_content strings s ≡ way_content strings' t → way_element group strings s ≡ way_element group strings' t
    way-listed p = way-is strings s ∙ ap way_from p ∙ sym (way-is strings' t)

    pub way-told : way_element group strings s ≡ way_element group strings' t → way_content strings s ≡ way_content strings' t
    unfolding way_content way_from
    way-told p =
        let q = sym (way-is strings s) ∙ p ∙ way-is strings' t in
        let refs = sums_determine 64 (pos 0) _ _ (zigzag-values 64 (column_in s (slots_of way s) 8)) (zigzag-values 64 (column_in t (slots_of way t) 8)) (ap (λ (e : Element). e.references) q) in
        (λ i. record { id = (q i).id; tags = (q i).tags; references = refs i })

-- ---- members

type_of : MemberId → ℤ
type_of (of_node id) = pos 0
type_of (of_way id) = pos 1
type_of (of_relation id) = pos 2
type_of (unknown type id) = type

number_of : MemberId → ℤ
number_of (of_node id) = id
number_of (of_way id) = id
number_of (of_relation id) = id
number_of (unknown type id) = id

type_back : (t i : ℤ) → type_of (member_id t i) ≡ t
unfolding type_of
type_back (pos zero) i = refl
type_back (pos (suc zero)) i = refl
type_back (pos (suc (suc zero))) i = refl
type_back (pos (suc (suc (suc n)))) i = ap pos (omega arith)
type_back (negsuc n) i = refl

number-back : (t i : ℤ) → number_of (member_id t i) ≡ i
unfolding number_of
number-back (pos zero) i = refl
number-back (pos (suc zero)) i = refl
number-back (pos (suc (suc zero))) i = refl
number-back (pos (suc (suc (suc n)))) i = refl
number-back (negsuc n) i = refl

-- members by their roles' texts
members_of : List (Option Text) → List ℤ → List ℤ → List Member
members_of (r ∷ roles) (i ∷ ids) (t ∷ types) = record { role = r; id = member_id t i } ∷ members_of roles ids types
members_of (r ∷ roles) (i ∷ ids) [] = []
members_of (r ∷ roles) [] types = []
members_of [] ids types = []

members_are : (strings : List Text) (roles ids types : List ℤ) → members_by strings roles ids types ≡ members_of (map (role_text strings) roles) ids types
unfolding members_by members_of
members_are strings (r ∷ roles) (i ∷ ids) (t ∷ types) =
    ap (λ (l : List Member). record { role = role_text strings r; id = member_id t i } ∷ l) (members_are strings roles ids types)
members_are strings (r ∷ roles) (i ∷ ids) [] = refl
members_are strings (r ∷ roles) [] types = refl
members_are strings [] ids types = refl

-- what is read off the members of three lists of one length
record MembersBack (r : List (Option Text)) (i t : List ℤ) : Type 0 where
  roles : map (λ (m : Member). m.role) (members_of r i t) ≡ r
  ids : map (λ (m : Member). number_of m.id) (members_of r i t) ≡ i
  types : map (λ (m : Member). type_of m.id) (members_of r i t) ≡ t

members-back : (r : List (Option Text)) (i t : List ℤ) → length r ≡ length i → length i ≡ length t → MembersBack r i t
unfolding members_of
members-back (r ∷ roles) (i ∷ ids) (t ∷ types) h k =
    let b = members-back roles ids types (omega arith) (omega arith) in
    let number = number-back t i in
    let type = type_back t i in
    record {
      roles = ap (λ (l : List (Option Text)). r ∷ l) b.roles;
      ids = (λ j. number j ∷ b.ids j);
      types = (λ j. type j ∷ b.types j);
    }
members-back (r ∷ roles) (i ∷ ids) [] h k = absurd (omega arith)
members-back (r ∷ roles) [] types h k = absurd (omega arith)
members-back [] [] [] h k = record { roles = refl; ids = refl; types = refl }
members-back [] [] (t ∷ types) h k = absurd (omega arith)
members-back [] (i ∷ ids) types h k = absurd (omega arith)

-- ---- a relation

abbrev role_numbers : List ℕ → List ℤ
role_numbers s = values_of (int32s (column_in s (slots_of relation s) 8))

abbrev member_ids : List ℕ → List ℤ
member_ids s = values_of (sint64s (column_in s (slots_of relation s) 9))

abbrev member_types : List ℕ → List ℤ
member_types s = values_of (int32s (column_in s (slots_of relation s) 10))

-- roles, member ids and types have equal counts
pub record EvenRelation (s : List ℕ) : Type 0 where
  pub ids : length (role_numbers s) ≡ length (member_ids s)
  pub types : length (member_ids s) ≡ length (member_types s)

module _ (group : ℕ) where
  relation_from : RelationContent → Element
  relation_from c =
      record {
        group = group;
        kind = a_relation;
        id = c.id;
        position = none;
        tags = c.tags;
        references = [];
        members = members_of c.members.roles (sum_list 64 (pos 0) c.members.ids) c.members.types;
      }

  relation-is : (strings : List Text) (s : List ℕ) → relation_element group strings s ≡ relation_from (relation_content strings s)
  unfolding relation_element relation_content relation_from
  relation-is strings s =
      let roles = role_numbers s in
      let types = member_types s in
      let ids = values-of-sums 64 (pos 0) (sint64s (column_in s (slots_of relation s) 9)) in
      let all = members_are strings roles (values_of (sums 64 (sint64s (column_in s (slots_of relation s) 9)))) types ∙ ap (λ (l : List ℤ). members_of (map (role_text strings) roles) l types) ids in
      (λ i. record { group = group; kind = a_relation; id = (relation_content strings s).id; position = none; tags = (relation_content strings s).tags; references = []; members = all i })

  module _ (strings strings' : List Text) (s t : List ℕ) where
    pub relation-listed : relation_content strings s ≡ relation_content strings' t → relation_element group strings s ≡ relation_element group strings' t
    relation-listed p = relation-is strings s ∙ ap relation_from p ∙ sym (relation-is strings' t)

    pub relation-told : EvenRelation s → EvenRelation t → relation_element group strings s ≡ relation_element group strings' t → relation_content strings s ≡ relation_content strings' t
    unfolding relation_content relation_from
    relation-told hs ht p =
        let q = sym (relation-is strings s) ∙ p ∙ relation-is strings' t in
        let sums-s = sum_list 64 (pos 0) (member_ids s) in
        let sums-t = sum_list 64 (pos 0) (member_ids t) in
        let roles-s = map (role_text strings) (role_numbers s) in
        let roles-t = map (role_text strings') (role_numbers t) in
        let e1 : length roles-s ≡ length sums-s = length-map (role_numbers s) (role_text strings) ∙ hs.ids ∙ sym (sums-length 64 (pos 0) (member_ids s)) in
        let e2 : length sums-s ≡ length (member_types s) = sums-length 64 (pos 0) (member_ids s) ∙ hs.types in
        let f1 : length roles-t ≡ length sums-t = length-map (role_numbers t) (role_text strings') ∙ ht.ids ∙ sym (sums-length 64 (pos 0) (member_ids t)) in
        let f2 : length sums-t ≡ length (member_types t) = sums-length 64 (pos 0) (member_ids t) ∙ ht.types in
        let same = ap (λ (e : Element). e.members) q in
        let b = members-back roles-s sums-s (member_types s) e1 e2 in
        let c = members-back roles-t sums-t (member_types t) f1 f2 in
        let roles = sym b.roles ∙ ap (map (λ (m : Member). m.role)) same ∙ c.roles in
        let summed = sym b.ids ∙ ap (map (λ (m : Member). number_of m.id)) same ∙ c.ids in
        let types = sym b.types ∙ ap (map (λ (m : Member). type_of m.id)) same ∙ c.types in
        let ids = sums_determine 64 (pos 0) _ _ (zigzag-values 64 (column_in s (slots_of relation s) 9)) (zigzag-values 64 (column_in t (slots_of relation t) 9)) summed in
        (λ i. record { id = (q i).id; tags = (q i).tags; members = record { roles = roles i; ids = ids i; types = types i } })

-- ---- a dense message

module _ (group : ℕ) where
  -- dense nodes by the tags that are shown
  dense_by : List ℤ → List ℤ → List ℤ → List (List Tag) → List Element
  dense_by (i ∷ ids) (y ∷ lats) (x ∷ lons) (t ∷ tags) = node_by group dense_node i y x t ∷ dense_by ids lats lons tags
  dense_by (i ∷ ids) (y ∷ lats) (x ∷ lons) [] = []
  dense_by (i ∷ ids) (y ∷ lats) [] tags = []
  dense_by (i ∷ ids) [] lons tags = []
  dense_by [] lats lons tags = []

  dense-shown : (strings : List Text) (ids lats lons : List ℤ) (tags : List (List Pair)) → dense_by_sums group strings ids lats lons tags ≡ dense_by ids lats lons (map (shown strings) tags)
  unfolding dense_by_sums dense_by
  dense-shown strings (i ∷ ids) (y ∷ lats) (x ∷ lons) (t ∷ tags) =
      ap (λ (l : List Element). node_by group dense_node i y x (shown strings t) ∷ l) (dense-shown strings ids lats lons tags)
  dense-shown strings (i ∷ ids) (y ∷ lats) (x ∷ lons) [] = refl
  dense-shown strings (i ∷ ids) (y ∷ lats) [] tags = refl
  dense-shown strings (i ∷ ids) [] lons tags = refl
  dense-shown strings [] lats lons tags = refl

  -- four lists of one length
  record Even (i y x : List ℤ) (t : List (List Tag)) : Type 0 where
    lats : length i ≡ length y
    lons : length i ≡ length x
    tags : length i ≡ length t

  -- what is read off the elements of even lists
  record Back (i y x : List ℤ) (t : List (List Tag)) : Type 0 where
    ids : map (λ (e : Element). e.id) (dense_by i y x t) ≡ i
    lats : map (λ (e : Element). lat_of e.position) (dense_by i y x t) ≡ y
    lons : map (λ (e : Element). lon_of e.position) (dense_by i y x t) ≡ x
    tags : map (λ (e : Element). e.tags) (dense_by i y x t) ≡ t

  dense-back : (ids lats lons : List ℤ) (tags : List (List Tag)) → Even ids lats lons tags → Back ids lats lons tags
  unfolding dense_by lat_of lon_of
  dense-back (i ∷ ids) (y ∷ lats) (x ∷ lons) (t ∷ tags) h =
      let b = dense-back ids lats lons tags (record { lats = omega (arith, h.lats); lons = omega (arith, h.lons); tags = omega (arith, h.tags) }) in
      record {
        ids = ap (λ (l : List ℤ). i ∷ l) b.ids;
        lats = ap (λ (l : List ℤ). y ∷ l) b.lats;
        lons = ap (λ (l : List ℤ). x ∷ l) b.lons;
        tags = ap (λ (l : List (List Tag)). t ∷ l) b.tags;
      }
  dense-back (i ∷ ids) (y ∷ lats) (x ∷ lons) [] h = absurd (omega (arith, h.tags))
  dense-back (i ∷ ids) (y ∷ lats) [] tags h = absurd (omega (arith, h.lons))
  dense-back (i ∷ ids) [] lons tags h = absurd (omega (arith, h.lats))
  dense-back [] [] [] [] h = record { ids = refl; lats = refl; lons = refl; tags = refl }
  dense-back [] [] [] (t ∷ tags) h = absurd (omega (arith, h.tags))
  dense-back [] [] (x ∷ lons) tags h = absurd (omega (arith, h.lons))
  dense-back [] (y ∷ lats) lons tags h = absurd (omega (arith, h.lats))

-- the columns of a dense message have equal counts, and one list of tags for each node; their values are of 64 bits
pub record EvenDense (d : Dense) : Type 0 where
  pub lats : length (values_of d.ids) ≡ length (values_of d.lats)
  pub lons : length (values_of d.ids) ≡ length (values_of d.lons)
  pub tags : length (values_of d.ids) ≡ length d.tags
  pub ids-held : Each (InRange 64) (values_of d.ids)
  pub lats-held : Each (InRange 64) (values_of d.lats)
  pub lons-held : Each (InRange 64) (values_of d.lons)

module _ (group : ℕ) where
  abbrev summed : List ℤ → List ℤ
  summed = sum_list 64 (pos 0)

  dense_from : DenseContent → List Element
  dense_from c = dense_by group (summed c.ids) (summed c.lats) (summed c.lons) c.tags

  dense-is : (strings : List Text) (d : Dense) → dense_elements group strings d ≡ dense_from (dense_content strings d)
  unfolding dense_elements dense_content dense_from
  dense-is strings d =
      dense-shown group strings (values_of (sums 64 d.ids)) (values_of (sums 64 d.lats)) (values_of (sums 64 d.lons)) d.tags
      ∙ (λ i. dense_by group (values-of-sums 64 (pos 0) d.ids i) (values-of-sums 64 (pos 0) d.lats i) (values-of-sums 64 (pos 0) d.lons i) (map (shown strings) d.tags))

  even : (strings : List Text) (d : Dense) → EvenDense d → Even group (summed (values_of d.ids)) (summed (values_of d.lats)) (summed (values_of d.lons)) (map (shown strings) d.tags)
  even strings d h =
      let own = sums-length 64 (pos 0) (values_of d.ids) in
      record {
        lats = own ∙ h.lats ∙ sym (sums-length 64 (pos 0) (values_of d.lats));
        lons = own ∙ h.lons ∙ sym (sums-length 64 (pos 0) (values_of d.lons));
        tags = own ∙ h.tags ∙ sym (length-map d.tags (shown strings));
      }

  module _ (strings strings' : List Text) (d e : Dense) where
    pub dense-listed : dense_content strings d ≡ dense_content strings' e → dense_elements group strings d ≡ dense_elements group strings' e
    dense-listed p = dense-is strings d ∙ ap dense_from p ∙ sym (dense-is strings' e)

    pub dense-told : EvenDense d → EvenDense e → dense_elements group strings d ≡ dense_elements group strings' e → dense_content strings d ≡ dense_content strings' e
    unfolding dense_content dense_from
    dense-told hd he p =
        let q = sym (dense-is strings d) ∙ p ∙ dense-is strings' e in
        let b = dense-back group _ _ _ _ (even strings d hd) in
        let c = dense-back group _ _ _ _ (even strings' e he) in
        let ids = sums_determine 64 (pos 0) _ _ hd.ids-held he.ids-held (sym b.ids ∙ ap (map (λ (x : Element). x.id)) q ∙ c.ids) in
        let lats = sums_determine 64 (pos 0) _ _ hd.lats-held he.lats-held (sym b.lats ∙ ap (map (λ (x : Element). lat_of x.position)) q ∙ c.lats) in
        let lons = sums_determine 64 (pos 0) _ _ hd.lons-held he.lons-held (sym b.lons ∙ ap (map (λ (x : Element). lon_of x.position)) q ∙ c.lons) in
        let tags = sym b.tags ∙ ap (map (λ (x : Element). x.tags)) q ∙ c.tags in
        (λ i. record { ids = ids i; lats = lats i; lons = lons i; tags = tags i })
