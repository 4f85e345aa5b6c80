-- `short_columns` puts the tag of each two words, and stops before what no words tell or has no texts.
use native.Mathlib.Omega.{arith}
use mathlib.Core.Path.{refl, ◌∙◌}
use lib.Dec.{lit≤}
use Rattle.elements.specs.Tags.{tags_from}
use Rattle.elements.specs.declared.tags.TagIter.TheVariants as iter
use Rattle.tag_calls.specs.Tags.{tag_item}
use Rattle.calls.proofs.laws.Items.{run-begins, run-same, run_on}
use Rattle.columns.proofs.laws.Short.{word_within}
use Rattle.tag_calls.proofs.laws.ShortTags.{texts-found, texts-missing, table-inside, columns-put}
use Rattle.tag_calls.proofs.tags.short_columns.Goals as goal

-- one tag more
pub loop-count-preserved : goal.loop-count-preserved
loop-count-preserved c = (
  c.put_texts.auto.out ∙ c.loop-count.invariant.0,
  run_on tag_item (tags_from _ _) 48 c.loop-count.invariant.1 (λ x. lit≤ tt) c.loop-count-test.true
      (columns-put _ _ c.requires.block_value (record { keys = c.loop-count.keys; vals = c.loop-count.vals }) c.if-k-eq0.false c.if-v-eq0.false c.wide_value-k.ensures c.wide_value-v.ensures
      (texts-found c.put_texts.ensures c.if-not-put_texts.false-raw)),
)

pub loop-count-init : goal.loop-count-init
loop-count-init c = (refl, run-begins tag_item (tags_from _ _) 48)

pub overflow_mul-count : goal.overflow_mul-count
overflow_mul-count c = omega (arith, c.loop-count.invariant.0, c.requires.most_in_bounds)

pub put_texts-requires : goal.put_texts-requires
put_texts-requires c = table-inside c.args.buffer.now c.args.block c.requires.block_value

pub overflow_add-keys : goal.overflow_add-keys
overflow_add-keys c = omega (arith, word_within _ _ c.if-k-eq0.false c.wide_value-k.ensures)

pub overflow_add-vals : goal.overflow_add-vals
overflow_add-vals c = omega (arith, word_within _ _ c.if-v-eq0.false c.wide_value-v.ensures)

pub shape_of-out-then-not-put_texts : goal.shape_of-out-then-not-put_texts
shape_of-out-then-not-put_texts c = c.put_texts.auto.out ∙ c.loop-count.invariant.0

pub returns-then-not-put_texts : goal.returns-then-not-put_texts
returns-then-not-put_texts c = run-same tag_item (tags_from _ _) 48 (texts-missing c.put_texts.ensures c.if-not-put_texts.true-raw) c.loop-count.invariant.1
