-- `same_text` compares the bytes of the two parts.
use mathlib.Core.Path.{◌∙◌}
use Rattle.walk.specs.Same.{same_text}
use Rattle.same.proofs.laws.Texts.{texts-same}
use Rattle.same.proofs.texts.same_text.Goals as goal

pub returns : goal.returns
returns c = c.eq.ensures ∙ texts-same _ _ ∙ λ i. same_text (c.bytes_of.ensures.bytes i) (c.bytes_of-2.ensures.bytes i)
