-- Some bytes more are their digits more. Assumes nothing.
use Rattle.std.proofs.Common.{rules, ap, sym, ◌∙◌, [], ◌++◌, codes, append_assoc, append-nil, flat_map}
use Rattle.std.proofs.Output.{has_written_append, has_written_of_eq}
use Rattle.std.proofs.lemmas.Grind.{flat_map-append}
use Rattle.std.proofs.lemmas.List.{nil_from_length}
use Rattle.replaying.specs.Words.{two_digits}
use Rattle.replaying.proofs.words.HexDisplay.fmt.Goals as goal

pub loop-bytes-init : goal.loop-bytes-init
loop-bytes-init g c = (search rules, tt, search rules, λ plain. ([], search rules, search rules))

pub loop-bytes-preserved : goal.loop-bytes-preserved
loop-bytes-preserved g c =
    let steps = c.in-Some.ensures.steps in (
      search rules,
      tt,
      steps.0 ∙ c.loop-bytes.invariant.2,
      λ plain.
          let so_far = c.loop-bytes.invariant.3 plain in
          let bytes = c.in-Some.bytes.now in (
            so_far.0 ++ bytes,
            has_written_of_eq _ _ _ _ _
                (append_assoc (codes "x") (flat_map two_digits so_far.0) _ ∙ ap (λ ds. codes "x" ++ ds) (sym (flat_map-append two_digits so_far.0 bytes)))
                (has_written_append _ _ _ _ _ _ so_far.1 (search rules)),
            append_assoc so_far.0 _ _ ∙ ap (λ t. so_far.0 ++ t) (sym steps.1.0) ∙ so_far.2,
          ),
    )

pub returns-clause-writes : goal.returns-clause-writes
returns-clause-writes g c plain ok =
    let so_far = c.loop-bytes.invariant.3 plain in
    let none = nil_from_length _ c.in-None.ensures.steps.1.0 in
    has_written_of_eq _ _ _ _ _ (ap (λ xs. codes "x" ++ flat_map two_digits xs) (rw (none, append-nil) at so_far.2)) so_far.1
