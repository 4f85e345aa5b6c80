-- A dense message, by what the views of it and of its DenseInfo hand out.
use Rattle.std.specs.Prelude.{Ok, Err}
use Prim.Native.Nat.{ℕ, ◌^◌, ◌<◌}
use mathlib.Core.Path.{◌≡◌, refl, sym, ap, ◌∙◌}
use mathlib.Core.List.{List, [], ◌∷◌}
use lib.ListN.{length}
use Rattle.protobuf.specs.declared.refusal.Refusal.{Refusal}
use Rattle.views.specs.declared.dense_nodes.WireDenseNodes.{WireDenseNodes}
use Rattle.views.specs.declared.dense_info.WireDenseInfo.{WireDenseInfo}
use Rattle.fields.specs.Outcome.{Outcome, onward, each}
use Rattle.fields.specs.View.{Slots, view, view_in}
use Rattle.fields.specs.Schema.{dense_nodes, dense_info}
use Rattle.views.specs.DenseNodes.{dense_nodes_at}
use Rattle.views.specs.DenseInfo.{dense_info_at}
use Rattle.columns.specs.InStep.{ahead, start_of}
use Rattle.block.specs.Columns.{column_in}
use Rattle.block.specs.Check.{passed, all, read_whole, check_rows, check_dense}
use Rattle.block.proofs.laws.Onward.{on-refused, on-kept}
use Rattle.fields.proofs.laws.Whole.{not-viewed, slots_in, viewed, part_bytes}
use Rattle.passes.proofs.laws.Whole.{part-column}
use Rattle.fields.specs.Part.{bytes_of}

-- the rows and the six info columns of what the two views hand out, where the DenseInfo is t
abbrev pub rows_of : List ℕ → WireDenseNodes → Outcome Unit
rows_of s v = check_rows (ahead s (start_of v.id)) (ahead s (start_of v.lat)) (ahead s (start_of v.lon)) (ahead s (start_of v.keyvals))

abbrev pub info_columns_of : List ℕ → WireDenseInfo → Outcome Unit
info_columns_of t w =
    all read_whole
    (ahead t (start_of w.version)
    ∷ ahead t (start_of w.timestamp)
    ∷ ahead t (start_of w.changeset)
    ∷ ahead t (start_of w.uid)
    ∷ ahead t (start_of w.user)
    ∷ ahead t (start_of w.visible)
    ∷ [])

module _ (s : List ℕ) where
  pub dense-refused : {n : Refusal} → each (dense_nodes_at 0) (view_in dense_nodes s 0 (length s)) ≡ Err n → check_dense s ≡ Err n
  unfolding check_dense
  dense-refused e = on-refused _ (not-viewed dense_nodes_at dense_nodes s e)

  module _ {v : WireDenseNodes} (e : each (dense_nodes_at 0) (view_in dense_nodes s 0 (length s)) ≡ Ok v) where
    abbrev slots : Slots
    slots = slots_in dense_nodes_at dense_nodes s e

    -- what is read behind the message, where its DenseInfo has these bytes
    abbrev behind : List ℕ → Outcome Unit
    behind t =
        onward (view dense_info t) λ columns.
        onward (check_rows (column_in s slots 1) (column_in s slots 8) (column_in s slots 9) (column_in s slots 10)) λ u.
        all (λ k. read_whole (column_in t columns k)) (1 ∷ 2 ∷ 3 ∷ 4 ∷ 5 ∷ 6 ∷ [])

    module _ {t : List ℕ} (is : t ≡ bytes_of s v.info) where
      then : check_dense s ≡ behind t
      unfolding check_dense
      then =
          on-kept _ (viewed dense_nodes_at dense_nodes s e)
          ∙ ap behind (sym (is ∙ part_bytes dense_nodes_at dense_nodes s e (λ x. x.info) 5 (λ slots. refl)))

      pub info-refused : {n : Refusal} → each (dense_info_at 0) (view_in dense_info t 0 (length t)) ≡ Err n → check_dense s ≡ Err n
      info-refused g = then ∙ on-refused _ (not-viewed dense_info_at dense_info t g)

      module _ (small : length s < 2 ^ 64) (small-info : length t < 2 ^ 64) {w : WireDenseInfo} (g : each (dense_info_at 0) (view_in dense_info t 0 (length t)) ≡ Ok w) where
        handed : check_dense s ≡ onward (rows_of s v) λ u. info_columns_of t w
        unfolding all
        handed =
            then
            ∙ on-kept _ (viewed dense_info_at dense_info t g)
            ∙ λ j.
            onward
            (check_rows
            (sym (part-column dense_nodes_at dense_nodes s e small (λ x. x.id) 1 (λ slots. refl)) j)
            (sym (part-column dense_nodes_at dense_nodes s e small (λ x. x.lat) 8 (λ slots. refl)) j)
            (sym (part-column dense_nodes_at dense_nodes s e small (λ x. x.lon) 9 (λ slots. refl)) j)
            (sym (part-column dense_nodes_at dense_nodes s e small (λ x. x.keyvals) 10 (λ slots. refl)) j)) λ u.
            all read_whole
            (sym (part-column dense_info_at dense_info t g small-info (λ x. x.version) 1 (λ slots. refl)) j
            ∷ sym (part-column dense_info_at dense_info t g small-info (λ x. x.timestamp) 2 (λ slots. refl)) j
            ∷ sym (part-column dense_info_at dense_info t g small-info (λ x. x.changeset) 3 (λ slots. refl)) j
            ∷ sym (part-column dense_info_at dense_info t g small-info (λ x. x.uid) 4 (λ slots. refl)) j
            ∷ sym (part-column dense_info_at dense_info t g small-info (λ x. x.user) 5 (λ slots. refl)) j
            ∷ sym (part-column dense_info_at dense_info t g small-info (λ x. x.visible) 6 (λ slots. refl)) j
            ∷ [])

        pub rows-refused : {n : Refusal} → rows_of s v ≡ Err n → check_dense s ≡ Err n
        rows-refused h = handed ∙ on-refused _ h

        pub rows-passed : rows_of s v ≡ passed → check_dense s ≡ info_columns_of t w
        rows-passed h = handed ∙ on-kept _ h
