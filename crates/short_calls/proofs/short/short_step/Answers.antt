-- `short_step` tests what a call tests, and goes by the words of a row; where one is 0, nothing was written.
use Prim.Native.Nat.{ℕ, ◌+◌, ◌%◌}
use native.Mathlib.Omega.{arith}
use mathlib.Core.Path.{◌≡◌, refl, sym, ◌∙◌}
use mathlib.Core.Bool.{true}
use mathlib.Core.List.{[], ◌∷◌}
use Rattle.numbers.specs.Little.{number_at}
use Rattle.fields.proofs.laws.Part.{confirmed}
use Rattle.columns.proofs.laws.Short.{word_within}
use Rattle.kinds.specs.Said.{zero_next}
use Rattle.kinds.proofs.laws.Dense.{byte_within}
use Rattle.kinds.proofs.laws.Short.{Word}
use Rattle.answers.specs.Words.{filled}
use Rattle.walk_slots.specs.Slot.{nodes_at}
use Rattle.short_calls.proofs.laws.Short.{short_call}
use Rattle.short_calls.proofs.short.short_step.Goals as goal

pub put_behind-requires : goal.put_behind-requires
put_behind-requires c = let words : let a = c.args in
    Word a.buffer.now (nodes_at a.slot.now).columns.rows.ids c.word_at-id.result
    × (Word a.buffer.now (nodes_at a.slot.now).columns.rows.lats c.word_at-lat.result
    × Word a.buffer.now (nodes_at a.slot.now).columns.rows.lons c.word_at-lon.result) =
    (c.word_at-id.ensures, (c.word_at-lat.ensures, c.word_at-lon.ensures)) in
    let no_pairs : let a = c.args in zero_next a.buffer.now (nodes_at a.slot.now).columns.keyvals ≡ true =
    let a = c.args in
    sym (λ i. zero_next a.buffer.now (record { at = c.read.ensures i; end = c.read-2.ensures i })) ∙ confirmed c.has_no_pairs.ensures c.if-not-has_no_pairs.false-raw in
    let s = c.args.buffer.now in
    let d = nodes_at c.args.slot.now in (
      omega (arith, c.well_formed.0.0, word_within s d.columns.rows.ids.column c.if-id-eq0.false words.0),
      (
        omega (arith, c.well_formed.0.0, word_within s d.columns.rows.lats.column c.if-lat-eq0.false words.1.0),
        (omega (arith, c.well_formed.0.0, word_within s d.columns.rows.lons.column c.if-lon-eq0.false words.1.1), omega (arith, c.well_formed.0.0, byte_within s d.columns.keyvals no_pairs)),
      ),
    )

pub returns : goal.returns
returns c = let words : let a = c.args in
    Word a.buffer.now (nodes_at a.slot.now).columns.rows.ids c.word_at-id.result
    × (Word a.buffer.now (nodes_at a.slot.now).columns.rows.lats c.word_at-lat.result
    × Word a.buffer.now (nodes_at a.slot.now).columns.rows.lons c.word_at-lon.result) =
    (c.word_at-id.ensures, (c.word_at-lat.ensures, c.word_at-lon.ensures)) in
    let no_pairs : let a = c.args in zero_next a.buffer.now (nodes_at a.slot.now).columns.keyvals ≡ true =
    let a = c.args in
    sym (λ i. zero_next a.buffer.now (record { at = c.read.ensures i; end = c.read-2.ensures i })) ∙ confirmed c.has_no_pairs.ensures c.if-not-has_no_pairs.false-raw in
    let s = c.args.buffer.now in
    let slot = c.args.slot.now in
    let d = nodes_at slot in
    let w = words in
    let holds = c.holds_nodes.ensures (confirmed refl c.if-not-holds_nodes.false-raw) in
    let place = c.is_place_inside.ensures (confirmed refl c.if-not-is_place_inside.false-raw) in
    let ids = c.sum_behind-ids.ensures in
    let lats = c.sum_behind-lats.ensures in
    let lons = c.sum_behind-lons.ensures in
    let put = c.put_behind.ensures in
    let held = put.held in
    let at : ℕ → ℕ = λ k. number_at 8 slot k in
    let id = c.word_at-id.result in
    let lat = c.word_at-lat.result in
    let lon = c.word_at-lon.result in
    let in_ids = word_within s d.columns.rows.ids.column c.if-id-eq0.false w.0 in
    let in-lats = word_within s d.columns.rows.lats.column c.if-lat-eq0.false w.1.0 in
    let in-lons = word_within s d.columns.rows.lons.column c.if-lon-eq0.false w.1.1 in
    record {
      by =
          short_call s _ slot _ holds.0 c.if-out-lt208.false holds.1 place w.0 c.if-id-eq0.false w.1.0 c.if-lat-eq0.false w.1.1 c.if-lon-eq0.false no_pairs
          (record {
            of = held.of;
            start = held.start;
            len = held.len;
            ids = record { column = record { at = omega (arith, c.well_formed.0.0, in_ids); end = held.ids }; sum = ids.held };
            lats = record { column = record { at = omega (arith, c.well_formed.0.0, in-lats); end = held.lats }; sum = lats.held };
            lons = record { column = record { at = omega (arith, c.well_formed.0.0, in-lons); end = held.lons }; sum = lons.held };
            keyvals = record { at = omega (arith, c.well_formed.0.0, byte_within s d.columns.keyvals no_pairs); end = held.keyvals };
          })
          (put.after
          ∙ (λ i.
          filled slot
          (2 ∷ 0 ∷ at 16 ∷ at 24 ∷ at 32 ∷ at 40 ∷ at 48 ∷ (at 56 + id % 16) ∷ at 64 ∷ ids.bits i ∷ (at 80 + lat % 16) ∷ at 88 ∷ lats.bits i ∷ (at 104 + lon % 16) ∷ at 112 ∷ lons.bits i ∷ (at 128 + 1) ∷ at 136 ∷ [])))
          (c.put_node.ensures ∙ (λ i. filled c.args.out.now (0 ∷ at 16 ∷ at 40 ∷ at 48 ∷ ids.bits i ∷ lats.bits i ∷ lons.bits i ∷ at 128 ∷ at 136 ∷ 0 ∷ [])));
    }
