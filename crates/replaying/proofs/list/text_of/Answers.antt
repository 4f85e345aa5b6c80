-- A line with an end is its text and that end, and in one way alone. Assumes nothing.
use Rattle.std.proofs.Common.{sym, ◌∙◌, codes}
use Rattle.std.proofs.lemmas.Bool.Decides.{Decides-eqb}
use Rattle.std.proofs.lemmas.List.{append_cancel_right}
use Rattle.std.proofs.lemmas.Slice.Eq.{strip_suffix_is}
use Rattle.replaying.proofs.list.text_of.Goals as goal

pub returns-in-Some-clause-ended : goal.returns-in-Some-clause-ended
returns-in-Some-clause-ended c s e =
    let is = rw c.in-Some.is at (strip_suffix_is Decides-eqb c.args.line.now (codes "\n") c.strip_suffix.result c.strip_suffix.ensures.cases) in
    append_cancel_right _ _ _ (sym is ∙ e)

pub returns-in-Some-clause-last : goal.returns-in-Some-clause-last
returns-in-Some-clause-last c other =
    let is = rw c.in-Some.is at (strip_suffix_is Decides-eqb c.args.line.now (codes "\n") c.strip_suffix.result c.strip_suffix.ensures.cases) in
    absurd (other _ is)

pub returns-in-None-clause-ended : goal.returns-in-None-clause-ended
returns-in-None-clause-ended c s e =
    let never = rw c.in-None.is at (strip_suffix_is Decides-eqb c.args.line.now (codes "\n") c.strip_suffix.result c.strip_suffix.ensures.cases) in
    absurd (never s e)
