-- The full listing (document 02, note 14): the plain listing, the date granularity, and beside each element, in the same order, its metadata.
-- So the plain listing is a part of the full one, and whatever is said of it holds in both.
use Rattle.std.specs.Prelude.{ℕ, zero, suc, List, [], ◌∷◌, ◌++◌, map, length, ℤ}
use Rattle.std.proofs.Math.Option.{Option, none, some}
use Rattle.numbers.specs.Signed.{twos}
use Rattle.protobuf.specs.Column.{int32s, sint32s, sint64s, bools, sums}
use Rattle.views.specs.declared.info.WireInfo.{WireInfo}
use Rattle.fields.specs.View.{Schema}
use Rattle.fields.specs.Schema.{primitive_block, node, way, relation, dense_nodes, dense_info, info}
use Rattle.views.specs.Info.{info_of}
use Rattle.wire.specs.Block.{block_fields}
use Rattle.block.specs.Columns.{column_in}
use Rattle.block.specs.Infos.{Info, Infos, NextInfo, present, missing, stopped, next_info}
use Rattle.block.specs.Stored.{slots_of, values_of, dense_bytes}
use Rattle.block.specs.Listing.{Listing, listing}
use Rattle.fields.specs.Part.{bytes_in}
use Rattle.fields.specs.Parts.{messages_of}

pub data Metadata : Type 0 where
  -- of a node, a way or a relation: its Info as viewed; an absent one is an empty one
  viewed : WireInfo → Metadata
  -- of a dense node, where it has info
  in_step : Option Info → Metadata

pub record Full : Type 0 where
  pub plain : Listing
  pub dategranularity : ℤ
  pub metadata : List Metadata

unfoldable pub element_info : Schema → List ℕ → Metadata
element_info schema s = viewed (info_of (slots_of info (bytes_in s (slots_of schema s 4).part)))

-- the six columns of a DenseInfo; those that are stored as differences are summed
unfoldable pub infos_of : List ℕ → Infos
infos_of s =
    let columns = slots_of dense_info s in
    record {
      versions = int32s (column_in s columns 1);
      timestamps = sums 64 (sint64s (column_in s columns 2));
      changesets = sums 64 (sint64s (column_in s columns 3));
      uids = sums 32 (sint32s (column_in s columns 4));
      users = sums 32 (sint32s (column_in s columns 5));
      visibles = bools (column_in s columns 6);
    }

-- a node's info, and then others of the columns behind it
abbrev pub info_then : NextInfo → (Infos → List Metadata) → List Metadata
info_then (present i rest) others = in_step (some i) ∷ others rest
info_then (missing rest) others = in_step none ∷ others rest
info_then (stopped r) others = []

-- the infos of n nodes
unfoldable pub node_infos : ℕ → Infos → List Metadata
node_infos zero x = []
node_infos (suc n) x = info_then (next_info x) (node_infos n)

unfoldable pub dense_infos : List ℕ → List Metadata
dense_infos s =
    let slots = slots_of dense_nodes s in
    node_infos (length (values_of (column_in s slots 1))) (infos_of (bytes_in s (slots 5).part))

unfoldable pub group_metadata : List ℕ → List Metadata
group_metadata s =
    dense_infos (dense_bytes s)
    ++ (map (element_info node) (messages_of 1 s)
    ++ (map (element_info way) (messages_of 3 s) ++ map (element_info relation) (messages_of 4 s)))

unfoldable pub metadata_of : List (List ℕ) → List Metadata
metadata_of [] = []
metadata_of (s ∷ rest) = group_metadata s ++ metadata_of rest

unfoldable pub full_listing : List ℕ → Full
full_listing block =
    record {
      plain = listing block;
      dategranularity = twos 32 (block_fields (slots_of primitive_block block)).dategranularity;
      metadata = metadata_of (messages_of 2 block);
    }
