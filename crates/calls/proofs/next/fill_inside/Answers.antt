-- `fill_inside` puts run after run of items, with a step of its own between two of them, until there is no more room or none more; that none is left is
-- mostly seen without a step.
use native.Mathlib.Omega.{arith}
use Prim.Native.Nat.{◌+◌, ◌*◌, ◌≤◌}
use mathlib.Core.Path.{◌≡◌, refl, ap, ◌∙◌}
use lib.ListN.{length}
use Rattle.calls.proofs.laws.Items.{place-within, run_on, run-behind, up-full, up-whole, up-ended, up-ends, put_by}
use Rattle.calls.proofs.next.fill_inside.Goals as goal

pub returns-then-run-most : goal.returns-then-run-most
returns-then-run-most g c =
    up-whole _ _ _ (run-behind _ _ _ c.loop-count.invariant.1 c.put_short-run.ensures) c.if-run-most.true (λ z. omega (arith, z, c.loop-count-test.true)) refl

pub returns-then-has_ended : goal.returns-then-has_ended
returns-then-has_ended g c =
    up-ended _ _ _ (run-behind _ _ _ c.loop-count.invariant.1 c.put_short-run.ensures) c.if-run-most.false (c.has_ended.ensures c.if-has_ended.true) c.stopped.ensures

pub overflow_mul-SIZE : goal.overflow_mul-SIZE
overflow_mul-SIZE g c =
    let before = g.I.Items.SIZE * c.put_short-run.result.count in
    let same : c.SIZE.result * c.put_short-run.result.count ≡ before = ap (λ n. n * c.put_short-run.result.count) c.SIZE.ensures in
    let within = c.put_short-run.ensures.within (c.loop-count.invariant.1.within c.requires.0) in
    let place : before + g.I.Items.SIZE ≤ length c.args.out.now = place-within _ _ _ _ (omega (arith, within, c.if-run-most.false)) c.requires.1 in
    omega (arith, place)

pub put_one-requires : goal.put_one-requires
put_one-requires g c =
    let before = g.I.Items.SIZE * c.put_short-run.result.count in
    let same : c.SIZE.result * c.put_short-run.result.count ≡ before = ap (λ n. n * c.put_short-run.result.count) c.SIZE.ensures in
    let within = c.put_short-run.ensures.within (c.loop-count.invariant.1.within c.requires.0) in
    let place : before + g.I.Items.SIZE ≤ length c.args.out.now = place-within _ _ _ _ (omega (arith, within, c.if-run-most.false)) c.requires.1 in
    omega (arith, place, c.put_short-run.auto.out, c.loop-count.invariant.0)

pub returns-in-Err : goal.returns-in-Err
returns-in-Err g c =
    up-ends _ _ _ (run-behind _ _ _ c.loop-count.invariant.1 c.put_short-run.ensures) c.if-run-most.false
    (put_by (ap (λ n. n * c.put_short-run.result.count) c.SIZE.ensures) c.in-Err.is c.put_one.ensures) c.stopped-in-Err.ensures

pub overflow_add-count : goal.overflow_add-count
overflow_add-count g c = omega (arith, c.put_short-run.ensures.within (c.loop-count.invariant.1.within c.requires.0), c.if-run-most.false)

pub loop-count-preserved : goal.loop-count-preserved
loop-count-preserved g c = (
  c.put_one.auto.out ∙ c.put_short-run.auto.out ∙ c.loop-count.invariant.0,
  run_on _ _ _ (run-behind _ _ _ c.loop-count.invariant.1 c.put_short-run.ensures) g.met.I.Items.small
      (omega (arith, c.put_short-run.ensures.within (c.loop-count.invariant.1.within c.requires.0), c.if-run-most.false))
      (put_by (ap (λ n. n * c.put_short-run.result.count) c.SIZE.ensures) c.in-Ok.is c.put_one.ensures),
)

pub returns : goal.returns
returns g c = up-full _ _ _ c.loop-count.invariant.1 c.loop-count-test.false c.stopped-2.ensures
