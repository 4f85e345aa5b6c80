-- What `put_element` wrote starts the element's own sub-walks: `refs-started`, `tags-started`, `members-started`. They speak of bytes that
-- begin with the element; those of an element in a batch do (`element_in_batch`).
use Rattle.std.specs.Prelude.{Ok}
use Prim.Native.Nat.{ℕ, ◌+◌, ◌-◌, ◌*◌, ◌^◌, ◌≤◌, ◌<◌}
use native.Mathlib.Omega.{arith}
use mathlib.Core.Path.{◌≡◌, refl, sym, ap, ◌∙◌}
use mathlib.Core.List.{List, ◌++◌}
use mathlib.Core.Bool.{Bool, true, false}
use lib.ListN.{length, get_or, take, drop}
use lib.Seq.{take-append-add, drop_at, drop-drop, length-take-le}
use lib.Dec.{lit<, leb, eqb}
use lib.IntN.{pos}
use borrow.Author.Tests.{le-leb}
use Rattle.numbers.specs.Little.{number_at, written}
use Rattle.numbers.proofs.laws.Little.{written-length}
use Rattle.numbers.proofs.laws.Choose.{drop-take}
use Rattle.fields.specs.declared.part.Part.{Part}
use Rattle.columns.specs.InStep.{start_of}
use Rattle.elements.specs.declared.references.WayRefIter.TheVariants as refs
use Rattle.elements.specs.declared.tags.TagIter.TheVariants as tags
use Rattle.elements.specs.declared.members.RelMemberIter.TheVariants as members
use Rattle.elements.specs.declared.element.Element.{Element}
use Rattle.elements.specs.declared.element.Element.TheVariants as element
use Rattle.elements.specs.References.{refs_start}
use Rattle.elements.specs.Tags.{keys_and_vals, tags_start}
use Rattle.elements.specs.Members.{members_start}
use Rattle.answers.specs.Words.{words, flag}
use Rattle.answers.proofs.laws.Words.{words-length, word_back}
use Rattle.layouts.specs.Element.{kind_word, element_words, element_put}
use Rattle.layouts.proofs.laws.Element.{own_most}
use Rattle.start_calls.specs.Starts.{kind_at, part_at, refs_start_in, columns_start_in, tags_start_in, members_start_in}
use Rattle.member_calls.proofs.laws.Members.{Placed}
use Rattle.start_calls.proofs.laws.Starts.{keys-and-vals, refs-of-way, no-refs, tags-of-dense, tags-of-node, tags-of-others, members-of-relation, no-members}

-- ---- numbers that the machine holds

abbrev pub PartHeld : Part → Type 0
PartHeld p = (p.start < 2 ^ 64) × (p.len < 2 ^ 64)

abbrev pub ElementHeld : Element → Type 0
ElementHeld (element.DenseNode d) = Placed d.tags
ElementHeld (element.Node v) = PartHeld v.keys × PartHeld v.vals
ElementHeld (element.Way v) = PartHeld v.keys × (PartHeld v.vals × PartHeld v.refs)
ElementHeld (element.Relation v) =
    PartHeld v.keys × (PartHeld v.vals × (PartHeld v.roles × (PartHeld v.memids × PartHeld v.types)))

-- ---- numbers and parts that were written

flag_small : (b : Bool) → flag b < 2 ^ 64
flag_small true = lit< tt
flag_small false = lit< tt

flag_least : (b : Bool) → leb (flag b) 1 ≡ true
flag_least true = refl
flag_least false = refl

flag_is : (b : Bool) → eqb (flag b) 1 ≡ b
flag_is true = refl
flag_is false = refl

module _ (s ws : List ℕ) (room : 8 * length ws ≤ length s) where
  abbrev put : List ℕ
  put = written s 0 (words ws)

  number-there : (i at : ℕ) {n : ℕ} → at ≡ 8 * i → i < length ws → get_or ws i 0 ≡ n → n < 2 ^ 64 → number_at 8 put at ≡ n
  number-there i at e h g k = ap (number_at 8 put) e ∙ word_back s ws i room h (rw g k) ∙ g

  record PartThere (at : ℕ) (p : Part) : Type 0 where
    pub whole : leb (number_at 8 put at) 1 ≡ true
    pub is : part_at put at ≡ p

  part-there : (i : ℕ) (p : Part) → i + 2 < length ws → get_or ws i 0 ≡ flag p.present → get_or ws (i + 1) 0 ≡ p.start → get_or ws (i + 2) 0 ≡ p.len → PartHeld p → PartThere (8 * i) p
  part-there i p h present start len held =
      let first = number-there i (8 * i) refl (omega arith) present (flag_small p.present) in
      record {
        whole = ap (λ (n : ℕ). leb n 1) first ∙ flag_least p.present;
        is =
            λ j.
            record {
              present = (ap (λ (n : ℕ). eqb n 1) first ∙ flag_is p.present) j;
              start = number-there (i + 1) (8 * i + 8) (omega arith) (omega arith) start held.0 j;
              len = number-there (i + 2) (8 * i + 16) (omega arith) (omega arith) len held.1 j;
            };
      }

-- ---- an element at the start of a slice

module _ (s : List ℕ) (long : 208 ≤ length s) (group : ℕ) (message : Part) where
  abbrev bytes : Element → List ℕ
  bytes e = written s 0 (words (element_words group message e))

  fits : (e : Element) → 8 * length (element_words group message e) ≤ length s
  fits e = omega (arith, own_most e)

  all_there : (e : Element) → 208 ≤ length (bytes e)
  all_there e =
      let ws = element_words group message e in
      omega (arith, fits e, words-length ws, written-length s 0 (words ws) (omega (arith, fits e, words-length ws)))

  kind-there : (e : Element) {kind : ℕ} → kind_word e ≡ kind → kind < 2 ^ 64 → kind_at (bytes e) ≡ kind
  kind-there e g k = number-there s (element_words group message e) (fits e) 0 0 refl (omega arith) g k

  pub refs-started : (e : Element) → ElementHeld e → refs_start_in (bytes e) ≡ Ok (refs_start e)
  refs-started (element.DenseNode d) held =
      let e = element.DenseNode d in
      let kind = kind-there e refl (lit< tt) in
      no-refs (bytes e) (all_there e) refl (λ z. omega (arith, kind, z)) (omega (arith, kind))
  refs-started (element.Node v) held =
      let e = element.Node v in
      let kind = kind-there e refl (lit< tt) in
      no-refs (bytes e) (all_there e) refl (λ z. omega (arith, kind, z)) (omega (arith, kind))
  refs-started (element.Way v) held =
      let e = element.Way v in
      let ws = element_words group message e in
      let kind = kind-there e refl (lit< tt) in
      let part = part-there s ws (fits e) 14 v.refs (lit< tt) refl refl refl held.1.1 in
      refs-of-way (bytes e) (all_there e) refl kind part.whole ∙ ap (λ (p : Part). Ok (refs.Refs (record { column = start_of p; sum = pos 0 }))) part.is
  refs-started (element.Relation v) held =
      let e = element.Relation v in
      let kind = kind-there e refl (lit< tt) in
      no-refs (bytes e) (all_there e) refl (λ z. omega (arith, kind, z)) (omega (arith, kind))

  -- keys and vals at their places
  columns-started : (e : Element) (i j : ℕ) (keys vals : Part) → PartThere s (element_words group message e) (fits e) (8 * i) keys → PartThere s (element_words group message e) (fits e) (8 * j) vals
      → columns_start_in (bytes e) (8 * i) (8 * j) ≡ Ok (keys_and_vals keys vals)
  columns-started e i j keys vals a b =
      keys-and-vals (bytes e) (8 * i) (8 * j) a.whole b.whole ∙ (λ k. Ok (keys_and_vals (a.is k) (b.is k)))

  pub tags-started : (e : Element) → ElementHeld e → tags_start_in (bytes e) ≡ Ok (tags_start e)
  tags-started (element.DenseNode d) held =
      let e = element.DenseNode d in
      let ws = element_words group message e in
      let at = number-there s ws (fits e) 7 56 refl (omega arith) refl held.0 in
      let end = number-there s ws (fits e) 8 64 refl (omega arith) refl held.1 in
      tags-of-dense (bytes e) (all_there e) refl (kind-there e refl (lit< tt)) ∙ (λ k. Ok (tags.KeysVals (record { at = at k; end = end k })))
  tags-started (element.Node v) held =
      let e = element.Node v in
      let ws = element_words group message e in
      let kind = kind-there e refl (lit< tt) in
      tags-of-node (bytes e) (all_there e) refl (λ z. omega (arith, kind, z)) kind
      ∙ columns-started e 7 10 v.keys v.vals (part-there s ws (fits e) 7 v.keys (lit< tt) refl refl refl held.0) (part-there s ws (fits e) 10 v.vals (lit< tt) refl refl refl held.1)
  tags-started (element.Way v) held =
      let e = element.Way v in
      let ws = element_words group message e in
      let kind = kind-there e refl (lit< tt) in
      tags-of-others (bytes e) (all_there e) refl (λ z. omega (arith, kind, z)) (λ z. omega (arith, kind, z)) (omega (arith, kind))
      ∙ columns-started e 5 8 v.keys v.vals (part-there s ws (fits e) 5 v.keys (lit< tt) refl refl refl held.0) (part-there s ws (fits e) 8 v.vals (lit< tt) refl refl refl held.1.0)
  tags-started (element.Relation v) held =
      let e = element.Relation v in
      let ws = element_words group message e in
      let kind = kind-there e refl (lit< tt) in
      tags-of-others (bytes e) (all_there e) refl (λ z. omega (arith, kind, z)) (λ z. omega (arith, kind, z)) (omega (arith, kind))
      ∙ columns-started e 5 8 v.keys v.vals (part-there s ws (fits e) 5 v.keys (lit< tt) refl refl refl held.0) (part-there s ws (fits e) 8 v.vals (lit< tt) refl refl refl held.1.0)

  pub members-started : (e : Element) → ElementHeld e → members_start_in (bytes e) ≡ Ok (members_start e)
  members-started (element.DenseNode d) held =
      let e = element.DenseNode d in
      let kind = kind-there e refl (lit< tt) in
      no-members (bytes e) (all_there e) refl (λ z. omega (arith, kind, z)) (omega (arith, kind))
  members-started (element.Node v) held =
      let e = element.Node v in
      let kind = kind-there e refl (lit< tt) in
      no-members (bytes e) (all_there e) refl (λ z. omega (arith, kind, z)) (omega (arith, kind))
  members-started (element.Way v) held =
      let e = element.Way v in
      let kind = kind-there e refl (lit< tt) in
      no-members (bytes e) (all_there e) refl (λ z. omega (arith, kind, z)) (omega (arith, kind))
  members-started (element.Relation v) held =
      let e = element.Relation v in
      let ws = element_words group message e in
      let kind = kind-there e refl (lit< tt) in
      let roles = part-there s ws (fits e) 14 v.roles (lit< tt) refl refl refl held.1.1.0 in
      let memids = part-there s ws (fits e) 17 v.memids (lit< tt) refl refl refl held.1.1.1.0 in
      let types = part-there s ws (fits e) 20 v.types (lit< tt) refl refl refl held.1.1.1.1 in
      members-of-relation (bytes e) (all_there e) refl kind (rw (roles.whole, memids.whole) types.whole)
      ∙ (λ k.
      Ok
      (members.Members
      (record {
        roles = start_of (roles.is k);
        memids = record { column = start_of (memids.is k); sum = pos 0 };
        types = start_of (types.is k);
      })))

-- ---- an element in a batch

-- a part of what was written there, which is as long or longer
written-part : (s : List ℕ) (at : ℕ) (new : List ℕ) (k : ℕ) → at + length new ≤ length s → take (length new + k) (drop at (written s at new)) ≡ written (take (length new + k) (drop at s)) 0 new
written-part s at new k room =
    let behind = drop (at + length new) s in
    let none : length new ≡ 0 + length new = omega arith in
    ap (take (length new + k)) (drop_at (take at s) (new ++ behind) at (length-take-le at s (omega arith)))
    ∙ take-append-add new behind k
    ∙ ap (λ (l : List ℕ). new ++ l) (ap (take k) (sym (drop-drop (length new) at s)) ∙ sym (drop-take (length new) k (drop at s)) ∙ ap (λ (n : ℕ). drop n (take (length new + k) (drop at s))) none)

pub element_in_batch : (out : List ℕ) (at group : ℕ) (message : Part) (e : Element) → at + 208 ≤ length out
    → take 208 (drop at (element_put out at group message e)) ≡ written (take 208 (drop at out)) 0 (words (element_words group message e))
element_in_batch out at group message e h =
    let ws = element_words group message e in
    let new = words ws in
    let size : length new ≤ 208 = omega (arith, words-length ws, own_most e) in
    let all : 208 ≡ length new + (208 - length new) = omega arith in
    rw (le-leb (at + 208) (length out) h)
    (ap (λ (n : ℕ). take n (drop at (written out at new))) all
    ∙ written-part out at new (208 - length new) (omega arith)
    ∙ ap (λ (n : ℕ). written (take n (drop at out)) 0 new) (sym all))
