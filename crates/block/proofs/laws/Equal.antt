-- Blocks whose columns have equal counts have equal listings exactly when they have equal contents.
use Prim.Native.Nat.{ℕ, suc, ◌+◌, ◌*◌, ◌<◌}
use mathlib.Core.Path.{◌≡◌, refl, sym, ap, ◌∙◌}
use mathlib.Core.Logic.{◌↔◌}
use mathlib.Core.List.{List, [], ◌∷◌, ◌++◌, map, append_assoc}
use native.Mathlib.Omega.{arith}
use lib.ListN.{length}
use lib.IntN.{ℤ}
use Rattle.std.proofs.lemmas.List.{length-map}
use Rattle.fields.specs.Parts.{messages_of}
use Rattle.block.specs.Tags.{Pair}
use Rattle.block.specs.Strings.{Text}
use Rattle.block.specs.Stored.{strings_of, Dense, dense_of}
use Rattle.block.specs.Listing.{Element, Listing, node_element, way_element, relation_element, dense_by_sums, dense_elements, group_elements, elements_from, listing}
use Rattle.block.specs.Content.{GroupContent, Content, node_content, way_content, relation_content, group_content, content}
use Rattle.block.proofs.laws.Lists.{Each, no_more, and-also, head_or, tail_or, map_through}
use Rattle.block.proofs.laws.Split.{rank, Of, Behind, split, all-behind, still_behind, both_behind}
use Rattle.block.proofs.laws.Said.{node-told, node-listed, way-told, way-listed, EvenRelation, relation-told, relation-listed, EvenDense, dense-told, dense-listed}

-- every column of a group that the check compares has the count of its neighbours
pub record EvenGroup (s : List ℕ) : Type 0 where
  pub dense : EvenDense (dense_of s)
  pub relations : Each EvenRelation (messages_of 4 s)

any : {A : Type 0} (xs : List A) → Each (λ (a : A). Unit) xs
any [] = no_more
any (x ∷ xs) = and-also tt (any xs)

-- ---- ranks

all_of : {r : ℕ} (f : List ℕ → Element) → ((m : List ℕ) → rank (f m) ≡ r) → (ms : List (List ℕ)) → Of r (map f ms)
all_of f h [] = no_more
all_of f h (m ∷ ms) = and-also (h m) (all_of f h ms)

module _ (group : ℕ) (strings : List Text) where
  dense-rank : (ids lats lons : List ℤ) (tags : List (List Pair)) → Of (4 * group + 0) (dense_by_sums group strings ids lats lons tags)
  unfolding dense_by_sums
  dense-rank (i ∷ ids) (y ∷ lats) (x ∷ lons) (t ∷ tags) = and-also refl (dense-rank ids lats lons tags)
  dense-rank (i ∷ ids) (y ∷ lats) (x ∷ lons) [] = no_more
  dense-rank (i ∷ ids) (y ∷ lats) [] tags = no_more
  dense-rank (i ∷ ids) [] lons tags = no_more
  dense-rank [] lats lons tags = no_more

  dense-of : (d : Dense) → Of (4 * group + 0) (dense_elements group strings d)
  unfolding dense_elements
  dense-of d = dense-rank _ _ _ _

  nodes-of : (ms : List (List ℕ)) → Of (4 * group + 1) (map (node_element group strings) ms)
  unfolding node_element
  nodes-of = all_of (node_element group strings) (λ m. refl)

  ways-of : (ms : List (List ℕ)) → Of (4 * group + 2) (map (way_element group strings) ms)
  unfolding way_element
  ways-of = all_of (way_element group strings) (λ m. refl)

  relations-of : (ms : List (List ℕ)) → Of (4 * group + 3) (map (relation_element group strings) ms)
  unfolding relation_element
  relations-of = all_of (relation_element group strings) (λ m. refl)

-- ---- a group, and what is behind it

module _ (group : ℕ) (strings : List Text) (s : List ℕ) where
  abbrev denses : List Element
  denses = dense_elements group strings (dense_of s)

  abbrev nodes : List Element
  nodes = map (node_element group strings) (messages_of 1 s)

  abbrev ways : List Element
  ways = map (way_element group strings) (messages_of 3 s)

  abbrev relations : List Element
  relations = map (relation_element group strings) (messages_of 4 s)

  parts : (others : List Element) → group_elements group strings s ++ others ≡ denses ++ (nodes ++ (ways ++ (relations ++ others)))
  unfolding group_elements
  parts others =
      append_assoc denses (nodes ++ (ways ++ relations)) others
      ∙ ap (λ (l : List Element). denses ++ l) (append_assoc nodes (ways ++ relations) others ∙ ap (λ (l : List Element). nodes ++ l) (append_assoc ways relations others))

  behind-relations : (q : ℕ) → q < 4 * group + 3 → (others : List Element) → Behind q others → Behind q (relations ++ others)
  behind-relations q h others o =
      both_behind q relations others (all-behind q (4 * group + 3) h relations (relations-of group strings (messages_of 4 s))) o

  behind-ways : (q : ℕ) → q < 4 * group + 2 → (others : List Element) → Behind q others → Behind q (ways ++ (relations ++ others))
  behind-ways q h others o =
      both_behind q ways (relations ++ others) (all-behind q (4 * group + 2) h ways (ways-of group strings (messages_of 3 s))) (behind-relations q (omega arith) others o)

  behind-nodes : (q : ℕ) → q < 4 * group + 1 → (others : List Element) → Behind q others → Behind q (nodes ++ (ways ++ (relations ++ others)))
  behind-nodes q h others o =
      both_behind q nodes (ways ++ (relations ++ others)) (all-behind q (4 * group + 1) h nodes (nodes-of group strings (messages_of 1 s))) (behind-ways q (omega arith) others o)

  behind-denses : (q : ℕ) → q < 4 * group → (others : List Element) → Behind q others → Behind q (denses ++ (nodes ++ (ways ++ (relations ++ others))))
  behind-denses q h others o =
      both_behind q denses (nodes ++ (ways ++ (relations ++ others))) (all-behind q (4 * group + 0) (omega arith) denses (dense-of group strings (dense_of s))) (behind-nodes q (omega arith) others o)

from-behind : (q group : ℕ) (strings : List Text) (gs : List (List ℕ)) → q < 4 * group → Behind q (elements_from group strings gs)
unfolding elements_from
from-behind q group strings [] h = no_more
from-behind q group strings (s ∷ gs) h =
    rw (parts group strings s (elements_from (suc group) strings gs)) (behind-denses group strings s q h _ (from-behind q (suc group) strings gs (omega arith)))

-- ---- two blocks

module _ (strings strings' : List Text) where
  -- one group of each, with what is behind it
  module _ (group : ℕ) (s t : List ℕ) (hs : EvenGroup s) (ht : EvenGroup t) (xs ys : List Element) (hx : Behind (4 * group + 3) xs) (hy : Behind (4 * group + 3) ys) (p : group_elements group strings s ++ xs ≡ group_elements group strings' t ++ ys) where
    all-parts : denses group strings s ++ (nodes group strings s ++ (ways group strings s ++ (relations group strings s ++ xs))) ≡ denses group strings' t ++ (nodes group strings' t ++ (ways group strings' t ++ (relations group strings' t ++ ys)))
    all-parts = sym (parts group strings s xs) ∙ p ∙ parts group strings' t ys

    far : (q : ℕ) → q < 4 * group + 3 → Behind q xs
    far q h = still_behind q (4 * group + 3) (omega arith) xs hx

    far' : (q : ℕ) → q < 4 * group + 3 → Behind q ys
    far' q h = still_behind q (4 * group + 3) (omega arith) ys hy

    -- the dense nodes, and what is behind them; then each kind in its turn
    dense-split : (denses group strings s ≡ denses group strings' t) × (nodes group strings s ++ (ways group strings s ++ (relations group strings s ++ xs)) ≡ nodes group strings' t ++ (ways group strings' t ++ (relations group strings' t ++ ys)))
    dense-split =
        let q = 4 * group + 0 in
        split q (dense-of group strings (dense_of s)) (dense-of group strings' (dense_of t))
        (behind-nodes group strings s q (omega arith) xs (far q (omega arith)))
        (behind-nodes group strings' t q (omega arith) ys (far' q (omega arith)))
        all-parts

    node-split : (nodes group strings s ≡ nodes group strings' t) × (ways group strings s ++ (relations group strings s ++ xs) ≡ ways group strings' t ++ (relations group strings' t ++ ys))
    node-split =
        let q = 4 * group + 1 in
        split q (nodes-of group strings (messages_of 1 s)) (nodes-of group strings' (messages_of 1 t))
        (behind-ways group strings s q (omega arith) xs (far q (omega arith)))
        (behind-ways group strings' t q (omega arith) ys (far' q (omega arith)))
        dense-split.1

    way-split : (ways group strings s ≡ ways group strings' t) × (relations group strings s ++ xs ≡ relations group strings' t ++ ys)
    way-split =
        let q = 4 * group + 2 in
        split q (ways-of group strings (messages_of 3 s)) (ways-of group strings' (messages_of 3 t))
        (behind-relations group strings s q (omega arith) xs (far q (omega arith)))
        (behind-relations group strings' t q (omega arith) ys (far' q (omega arith)))
        node-split.1

    relation-split : (relations group strings s ≡ relations group strings' t) × (xs ≡ ys)
    relation-split = split (4 * group + 3) (relations-of group strings (messages_of 4 s)) (relations-of group strings' (messages_of 4 t)) hx hy way-split.1

    group-told : group_content strings s ≡ group_content strings' t
    unfolding group_content
    group-told =
        let dense = dense-told group strings strings' (dense_of s) (dense_of t) hs.dense ht.dense dense-split.0 in
        let nodes = map_through (node_element group strings) (node_element group strings') (node_content strings) (node_content strings') (λ a b ha hb e. node-told group strings strings' a b e) (messages_of 1 s) (messages_of 1 t) (any _) (any _) node-split.0 in
        let ways = map_through (way_element group strings) (way_element group strings') (way_content strings) (way_content strings') (λ a b ha hb e. way-told group strings strings' a b e) (messages_of 3 s) (messages_of 3 t) (any _) (any _) way-split.0 in
        let relations = map_through (relation_element group strings) (relation_element group strings') (relation_content strings) (relation_content strings') (λ a b ha hb e. relation-told group strings strings' a b ha hb e) (messages_of 4 s) (messages_of 4 t) hs.relations ht.relations relation-split.0 in
        (λ i. record { dense = dense i; nodes = nodes i; ways = ways i; relations = relations i })

  group-listed : (group : ℕ) (s t : List ℕ) → group_content strings s ≡ group_content strings' t → group_elements group strings s ≡ group_elements group strings' t
  unfolding group_content group_elements
  group-listed group s t p =
      let d = dense-listed group strings strings' (dense_of s) (dense_of t) (ap (λ (c : GroupContent). c.dense) p) in
      let n = map_through (node_content strings) (node_content strings') (node_element group strings) (node_element group strings') (λ a b ha hb e. node-listed group strings strings' a b e) (messages_of 1 s) (messages_of 1 t) (any _) (any _) (ap (λ (c : GroupContent). c.nodes) p) in
      let w = map_through (way_content strings) (way_content strings') (way_element group strings) (way_element group strings') (λ a b ha hb e. way-listed group strings strings' a b e) (messages_of 3 s) (messages_of 3 t) (any _) (any _) (ap (λ (c : GroupContent). c.ways) p) in
      let r = map_through (relation_content strings) (relation_content strings') (relation_element group strings) (relation_element group strings') (λ a b ha hb e. relation-listed group strings strings' a b e) (messages_of 4 s) (messages_of 4 t) (any _) (any _) (ap (λ (c : GroupContent). c.relations) p) in
      (λ i. d i ++ (n i ++ (w i ++ r i)))

  told : (group : ℕ) (gs hs : List (List ℕ)) → Each EvenGroup gs → Each EvenGroup hs → length gs ≡ length hs → elements_from group strings gs ≡ elements_from group strings' hs → map (group_content strings) gs ≡ map (group_content strings') hs
  unfolding elements_from
  told group [] [] eg eh l p = refl
  told group [] (h ∷ hs) eg eh l p = absurd (omega arith)
  told group (g ∷ gs) [] eg eh l p = absurd (omega arith)
  told group (g ∷ gs) (h ∷ hs) (and-also eg egs) (and-also eh ehs) l p =
      let xs = elements_from (suc group) strings gs in
      let ys = elements_from (suc group) strings' hs in
      let hx = from-behind (4 * group + 3) (suc group) strings gs (omega arith) in
      let hy = from-behind (4 * group + 3) (suc group) strings' hs (omega arith) in
      let first = group-told group g h eg eh xs ys hx hy p in
      let others = told (suc group) gs hs egs ehs (omega arith) (relation-split group g h eg eh xs ys hx hy p).1 in
      (λ i. first i ∷ others i)

  listed : (group : ℕ) (gs hs : List (List ℕ)) → map (group_content strings) gs ≡ map (group_content strings') hs → elements_from group strings gs ≡ elements_from group strings' hs
  unfolding elements_from head_or tail_or
  listed group [] [] p = refl
  listed group [] (h ∷ hs) p = absurd (let z : ◌≡◌ {A = ℕ} 0 1 = cc in omega arith)
  listed group (g ∷ gs) [] p = absurd (let z : ◌≡◌ {A = ℕ} 0 1 = cc in omega arith)
  listed group (g ∷ gs) (h ∷ hs) p =
      let first = group-listed group g h (ap (head_or (group_content strings g)) p) in
      let others = listed (suc group) gs hs (ap (tail_or []) p) in
      (λ i. first i ++ others i)

-- ---- the blocks

module _ (a b : List ℕ) (ha : Each EvenGroup (messages_of 2 a)) (hb : Each EvenGroup (messages_of 2 b)) where
  content-told : listing a ≡ listing b → content a ≡ content b
  unfolding listing content
  content-told p =
      let groups = told (strings_of a) (strings_of b) 0 (messages_of 2 a) (messages_of 2 b) ha hb (ap (λ (l : Listing). l.groups) p) (ap (λ (l : Listing). l.elements) p) in
      (λ i. record { granularity = (p i).granularity; latoffset = (p i).latoffset; lonoffset = (p i).lonoffset; groups = groups i })

  content-listed : content a ≡ content b → listing a ≡ listing b
  unfolding listing content
  content-listed p =
      let same = ap (λ (c : Content). c.groups) p in
      let counts = sym (length-map (messages_of 2 a) (group_content (strings_of a))) ∙ ap length same ∙ length-map (messages_of 2 b) (group_content (strings_of b)) in
      let elements = listed (strings_of a) (strings_of b) 0 (messages_of 2 a) (messages_of 2 b) same in
      (λ i. record { granularity = (p i).granularity; latoffset = (p i).latoffset; lonoffset = (p i).lonoffset; groups = counts i; elements = elements i })

  pub even-equal : (listing a ≡ listing b) ↔ (content a ≡ content b)
  even-equal = (content-told, content-listed)
