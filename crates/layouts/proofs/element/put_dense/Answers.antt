-- `put_dense` gives `dense_node_words`, the metadata behind the other numbers.
use native.Mathlib.Omega.{arith}
use mathlib.Core.List.{[], ◌∷◌}
use mir.Syntax.{w64}
use Rattle.answers.specs.Words.{signed_word}
use Rattle.answers.proofs.laws.Signed.{as_word}
use Rattle.answers.proofs.laws.Words.{put-behind}
use Rattle.layouts.specs.Element.{node_info_words}
use Rattle.layouts.proofs.laws.Element.{info_most}
use Rattle.layouts.proofs.element.put_dense.Goals as goal

pub put_info-requires : goal.put_info-requires
put_info-requires c = omega (arith, c.put_at.auto.out, c.requires)

pub returns : goal.returns
returns c = let a = c.args in
    let d = a.d in
    let told = c.struct_told-1.given in
    put-behind a.out.now a.at (signed_word d.id ∷ signed_word d.lat ∷ signed_word d.lon ∷ d.tags.at ∷ d.tags.end ∷ []) (node_info_words d.info) (omega (arith, c.requires, info_most d.info))
    (rw (
      as_word w64 d.id told.0.1 c.bits.ensures,
      as_word w64 d.lat told.1.0.1 c.bits-2.ensures,
      as_word w64 d.lon told.1.1.0.1 c.bits-3.ensures,
    ) at c.put_at.ensures)
    c.put_info.ensures
