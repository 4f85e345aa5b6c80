-- `put_info` gives `node_info_words`, by the metadata's case; a signed number is passed as its bits.
use native.Mathlib.Omega.{arith}
use mir.Syntax.{w32, w64}
use Rattle.elements.specs.declared.element.NodeInfo.TheVariants as info
use Rattle.answers.proofs.laws.Signed.{as_word}
use Rattle.layouts.specs.Element.{node_info_words}
use Rattle.layouts.proofs.laws.Element.{put_case}
use Rattle.layouts.proofs.element.put_info.Goals as goal

pub returns-in-Unread : goal.returns-in-Unread
returns-in-Unread c = let a = c.args in put_case node_info_words a.out.now a.at {known = info.Unread} (omega arith) c.put_at.ensures c.in-Unread.is

pub returns-in-Missing : goal.returns-in-Missing
returns-in-Missing c = let a = c.args in put_case node_info_words a.out.now a.at {known = info.Missing} (omega arith) c.put_at-in-Missing.ensures c.in-Missing.is

pub returns-in-Row : goal.returns-in-Row
returns-in-Row c = let i = c.in-Row.i in
    let told = c.struct_told-1.given in
    put_case node_info_words c.args.out.now c.args.at {known = info.Row i} (omega (arith, c.requires))
    (rw (
      as_word w32 i.version told.0.1 c.bits.ensures,
      as_word w64 i.timestamp told.1.0.1 c.bits-in-Row.ensures,
      as_word w64 i.changeset told.1.1.0.1 c.bits-in-Row-2.ensures,
      as_word w32 i.uid told.1.1.1.0.1 c.bits-in-Row-3.ensures,
      as_word w32 i.user told.1.1.1.1.0.1 c.bits-in-Row-4.ensures,
    ) at c.put_at-in-Row.ensures)
    c.in-Row.is
