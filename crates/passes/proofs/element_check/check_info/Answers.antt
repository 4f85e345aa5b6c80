-- `check_info` is the view of an Info without what it hands out.
use mathlib.Core.Path.{sym, ◌∙◌}
use Prim.Native.Nat.{ℕ}
use Rattle.fields.specs.View.{Slots}
use Rattle.views.specs.declared.info.WireInfo.{WireInfo}
use Rattle.fields.specs.Schema.{info}
use Rattle.views.specs.Info.{info_of}
use Rattle.protobuf.proofs.laws.Read.{handed_on}
use Rattle.block.proofs.laws.Onward.{on-refused, on-kept}
use Rattle.fields.proofs.laws.Whole.{not-viewed, viewed}
use Rattle.passes.proofs.element_check.check_info.Goals as goal

abbrev handed : ℕ → Slots → WireInfo
handed base slots = info_of slots

pub returns-in_err-parse : goal.returns-in_err-parse
returns-in_err-parse c = handed_on _ c.from_residual.ensures ∙ sym (on-refused _ (not-viewed handed info _ (sym c.parse.ensures ∙ c.in_err-parse.was)))

pub returns : goal.returns
returns c = sym (on-kept _ (viewed handed info _ (sym c.parse.ensures ∙ c.in_ok-parse.was)))
