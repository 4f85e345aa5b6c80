-- `bytes_at` copies the bytes where they do not pass the end; zeros are the number 0.
use Rattle.std.proofs.Common.{◌≡◌, ◌+◌, ◌-◌, ◌<◌, ℕ, ◌∙◌, sym, ap, take, drop, length, arith}
use Rattle.std.proofs.lemmas.List.{length-replicate}
use Rattle.numbers.specs.Little.{little}
use Rattle.numbers.proofs.laws.Little.{number-inside, number-outside, little-zeros}
use Rattle.numbers.proofs.little.bytes_at.Goals as goal

pub returns-then-s-at-clause-value : goal.returns-then-s-at-clause-value
returns-then-s-at-clause-value g c =
    little-zeros g.row.N ∙ sym (number-outside g.row.N c.args.s.now c.args.at (omega (arith, c.if-s-at.true)))

pub returns-then-s-at-2-clause-value : goal.returns-then-s-at-2-clause-value
returns-then-s-at-2-clause-value g c =
    little-zeros g.row.N ∙ sym (number-outside g.row.N c.args.s.now c.args.at (omega (arith, c.if-s-at.false, c.if-s-at-2.true)))

pub returns-clause-value : goal.returns-clause-value
returns-clause-value g c =
    let many : c.args.at + g.row.N - c.args.at ≡ g.row.N = omega arith in
    ap little (c.copy_from_slice.ensures.after ∙ ap (λ (n : ℕ). take n (drop c.args.at c.args.s.now)) many)
    ∙ sym (number-inside g.row.N c.args.s.now c.args.at (omega (arith, c.if-s-at.false, c.if-s-at-2.false)))

pub returns-clause-size : goal.returns-clause-size
returns-clause-size g c = c.copy_from_slice.ensures.len ∙ length-replicate _ _
