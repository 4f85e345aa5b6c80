-- `store_block`'s match is the schema of PrimitiveBlock, row by row.
use native.Mathlib.Omega.{arith}
use mathlib.Core.Path.{refl, sym, ◌∙◌}
use Rattle.protobuf.proofs.laws.Read.{handed_on}
use Rattle.fields.specs.Outcome.{each}
use Rattle.fields.specs.View.{store, put}
use Rattle.fields.specs.Schema.{primitive_block}
use Rattle.wire.specs.Block.{block_fields}
use Rattle.fields.proofs.laws.View.{int32-said, passed_over}
use Rattle.wire.proofs.primitive_block.store_block.Goals as goal

pub returns-in-10-clause-stores : goal.returns-in-10-clause-stores
unfolding store put each
returns-in-10-clause-stores c = λ slots e. rw (e, c.in-10.is)

pub returns-in-18-clause-stores : goal.returns-in-18-clause-stores
unfolding store put each
returns-in-18-clause-stores c = λ slots e. rw (e, c.in-18.is)

pub returns-in_ok-granularity-in-136-clause-stores : goal.returns-in_ok-granularity-in-136-clause-stores
unfolding each
returns-in_ok-granularity-in-136-clause-stores c = λ slots e. rw e (int32-said block_fields primitive_block slots 17 _ _ _ _ refl c.in-136.is (sym c.granularity.ensures ∙ c.in_ok-granularity-in-136.was))

pub returns-in_err-granularity-in-136-clause-stores : goal.returns-in_err-granularity-in-136-clause-stores
unfolding each
returns-in_err-granularity-in-136-clause-stores c = λ slots e. handed_on _ c.from_residual.ensures ∙ int32-said block_fields primitive_block slots 17 _ _ _ _ refl c.in-136.is (sym c.granularity.ensures ∙ c.in_err-granularity-in-136.was)

pub returns-in_ok-granularity-in-144-clause-stores : goal.returns-in_ok-granularity-in-144-clause-stores
unfolding each
returns-in_ok-granularity-in-144-clause-stores c = λ slots e. rw e (int32-said block_fields primitive_block slots 18 _ _ _ _ refl c.in-144.is (sym c.granularity-in-144.ensures ∙ c.in_ok-granularity-in-144.was))

pub returns-in_err-granularity-in-144-clause-stores : goal.returns-in_err-granularity-in-144-clause-stores
unfolding each
returns-in_err-granularity-in-144-clause-stores c = λ slots e. handed_on _ c.from_residual-in_err-granularity-in-144.ensures ∙ int32-said block_fields primitive_block slots 18 _ _ _ _ refl c.in-144.is (sym c.granularity-in-144.ensures ∙ c.in_err-granularity-in-144.was)

pub returns-in-152-clause-stores : goal.returns-in-152-clause-stores
unfolding store put each
returns-in-152-clause-stores c = λ slots e. rw (e, c.in-152.is)

pub returns-in-160-clause-stores : goal.returns-in-160-clause-stores
unfolding store put each
returns-in-160-clause-stores c = λ slots e. rw (e, c.in-160.is)

pub returns-in_default-clause-stores : goal.returns-in_default-clause-stores
returns-in_default-clause-stores c = λ slots e. rw e (sym (passed_over block_fields primitive_block slots _ _ _ _ ((((((tt, λ k. omega arith), λ k. omega arith), λ k. omega arith), λ k. omega arith), λ k. omega arith), λ k. omega arith)))
