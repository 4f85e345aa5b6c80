-- DenseInfo: the metadata of dense nodes. Its slots by name, and what the view hands out of them: parts as parts of the bytes around the
-- message.
use Rattle.std.specs.Prelude.{ℕ}
use Rattle.views.specs.declared.dense_info.WireDenseInfo.{WireDenseInfo}
use Rattle.fields.specs.View.{Slots, moved_slots}

abbrev pub dense_info_of : Slots → WireDenseInfo
dense_info_of slots =
    record {
      version = (slots 1).part;
      timestamp = (slots 2).part;
      changeset = (slots 3).part;
      uid = (slots 4).part;
      user = (slots 5).part;
      visible = (slots 6).part;
    }

abbrev pub dense_info_at : ℕ → Slots → WireDenseInfo
dense_info_at base slots = dense_info_of (moved_slots base slots)
