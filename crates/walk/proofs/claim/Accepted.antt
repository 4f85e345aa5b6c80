-- What acceptance gives of a message, in the terms that the listing reads it by: its slots are those of its view, and its columns are read
-- whole. Of a node, a way or a relation: keys and vals have one count, and what is its own passes.
use Rattle.std.specs.Prelude.{Ok}
use Prim.Native.Nat.{ℕ}
use mathlib.Core.Path.{◌≡◌, sym, ap, ◌∙◌, subst}
use mathlib.Core.List.{List, [], ◌∷◌}
use lib.IntN.{ℤ, pos}
use Rattle.protobuf.specs.Column.{Column, sums_from}
use Rattle.protobuf.specs.Stream.{mapped}
use Rattle.fields.specs.Outcome.{Outcome}
use Rattle.fields.specs.Part.{bytes_in}
use Rattle.fields.specs.Schema.{info, dense_nodes, dense_info}
use Rattle.fields.specs.View.{Schema, Slots, empty, view}
use Rattle.fields.proofs.laws.Outcome.{went}
use Rattle.block.specs.Columns.{column_in}
use Rattle.block.specs.Tags.{Pair, dense_pairs}
use Rattle.block.specs.Check.{passed, same_counts, same_three, read_whole, check_info, check_common, element_by, check_rows, check_dense}
use Rattle.block.specs.Stored.{kept_or, slots_of}
use Rattle.block.specs.Metadata.{infos_of}
use Rattle.block.proofs.laws.Accepted.{all-passed}
use Rattle.block.proofs.laws.Lists.{Each, no_more, and-also}
use Rattle.walk.proofs.claim.Whole.{Whole, Ends, Three, whole-mapped, whole-sums, read_whole_lem, whole-two, whole-three}
use Rattle.walk.proofs.claim.Infos.{AllEnd}

-- a view that was kept has the slots that the listing reads
pub slots_kept : (schema : Schema) (t : List ℕ) {slots : Slots} → view schema t ≡ Ok slots → slots ≡ slots_of schema t
slots_kept schema t e = ap (kept_or empty) (sym e)

-- an accepted element's message, by its slots
pub record Accepted (schema : Schema) (own : List ℕ → Slots → Outcome Unit) (t : List ℕ) (slots : Slots) : Type 0 where
  pub viewed : view schema t ≡ Ok slots
  pub infos : Slots
  pub info : view info (bytes_in t (slots 4).part) ≡ Ok infos
  pub pairs : ℕ
  pub keys : Whole pairs (column_in t slots 2)
  pub vals : Whole pairs (column_in t slots 3)
  pub rest : own t slots ≡ passed

pub accepted : (schema : Schema) (own : List ℕ → Slots → Outcome Unit) (t : List ℕ) → element_by schema own t ≡ passed → Accepted schema own t (slots_of schema t)
unfolding element_by
accepted schema own t e =
    let message = went (view schema t) _ e in
    let slots = message.value in
    let common = went (check_common (bytes_in t (slots 4).part) (column_in t slots 2) (column_in t slots 3)) _ message.on in
    let infos = went (check_info (bytes_in t (slots 4).part)) _ common.is in
    let viewed = went (view info (bytes_in t (slots 4).part)) _ infos.is in
    let pairs = went (same_counts (column_in t slots 2) (column_in t slots 3)) _ infos.on in
    let columns = whole-two (column_in t slots 2) (column_in t slots 3) pairs.is in
    subst (Accepted schema own t) (slots_kept schema t message.is)
    (record {
      viewed = message.is;
      infos = viewed.value;
      info = viewed.is;
      pairs = pairs.value;
      keys = columns.0;
      vals = columns.1;
      rest = common.on;
    })

-- ---- a dense message

mapped-ends : {A B : Type 0} (f : A → B) {c : Column A} → Ends c → Ends (mapped f c)
mapped-ends f h = record { count = h.count; whole = whole-mapped f h.whole }

sums-end : (width : ℕ) {c : Column ℤ} → Ends c → Ends (sums_from width (pos 0) c)
sums-end width h = record { count = h.count; whole = whole-sums width (pos 0) h.whole }

-- the six columns of a DenseInfo with bytes t
infos-end : (t : List ℕ) → Each (λ (k : ℕ). read_whole (column_in t (slots_of dense_info t) k) ≡ passed) (1 ∷ 2 ∷ 3 ∷ 4 ∷ 5 ∷ 6 ∷ []) → AllEnd (infos_of t)
unfolding infos_of
infos-end t (and-also version (and-also timestamp (and-also changeset (and-also uid (and-also user (and-also visible no_more)))))) =
    record {
      versions = mapped-ends _ (read_whole_lem _ version);
      timestamps = sums-end 64 (mapped-ends _ (read_whole_lem _ timestamp));
      changesets = sums-end 64 (mapped-ends _ (read_whole_lem _ changeset));
      uids = sums-end 32 (mapped-ends _ (read_whole_lem _ uid));
      users = sums-end 32 (mapped-ends _ (read_whole_lem _ user));
      visibles = mapped-ends _ (read_whole_lem _ visible);
    }

-- the bytes of its DenseInfo
abbrev pub info_bytes : List ℕ → Slots → List ℕ
info_bytes t slots = bytes_in t (slots 5).part

pub record AcceptedDense (t : List ℕ) (slots : Slots) : Type 0 where
  pub viewed : view dense_nodes t ≡ Ok slots
  pub info : view dense_info (info_bytes t slots) ≡ Ok (slots_of dense_info (info_bytes t slots))
  pub infos : AllEnd (infos_of (info_bytes t slots))
  pub count : ℕ
  pub rows : Three count (column_in t slots 1) (column_in t slots 8) (column_in t slots 9)
  pub tags : List (List Pair)
  pub pairs : dense_pairs count (column_in t slots 10) ≡ Ok tags

pub accepted-dense : (t : List ℕ) → check_dense t ≡ passed → AcceptedDense t (slots_of dense_nodes t)
unfolding check_dense
accepted-dense t e =
    let message = went (view dense_nodes t) _ e in
    let slots = message.value in
    let info = went (view dense_info (info_bytes t slots)) _ message.on in
    let same = slots_kept dense_info (info_bytes t slots) info.is in
    let checked = went (check_rows (column_in t slots 1) (column_in t slots 8) (column_in t slots 9) (column_in t slots 10)) _ info.on in
    let rows = went (same_three (column_in t slots 1) (column_in t slots 8) (column_in t slots 9)) _ checked.is in
    let pairs = went (dense_pairs rows.value (column_in t slots 10)) _ rows.on in
    let columns = all-passed (λ (k : ℕ). read_whole (column_in (info_bytes t slots) info.value k)) (1 ∷ 2 ∷ 3 ∷ 4 ∷ 5 ∷ 6 ∷ []) checked.on in
    subst (AcceptedDense t) (slots_kept dense_nodes t message.is)
    (record {
      viewed = message.is;
      info = info.is ∙ ap Ok same;
      infos = infos-end (info_bytes t slots) (subst (λ (x : Slots). Each (λ (k : ℕ). read_whole (column_in (info_bytes t slots) x k) ≡ passed) (1 ∷ 2 ∷ 3 ∷ 4 ∷ 5 ∷ 6 ∷ [])) same columns);
      count = rows.value;
      rows = whole-three (column_in t slots 1) (column_in t slots 8) (column_in t slots 9) rows.is;
      tags = pairs.value;
      pairs = pairs.is;
    })
