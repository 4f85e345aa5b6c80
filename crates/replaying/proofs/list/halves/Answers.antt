-- Two bytes that were not the sign are not where a line is parted: none before the place that was found, and none at all where none was.
-- Assumes nothing.
use borrow.Author.Tests.{tests}
use Rattle.std.proofs.Common.{rules, arith, refl, ap, ◌∙◌, ◌≡◌, false, eqb, length, ◌<◌, inl, inr, codes}
use Rattle.std.proofs.lemmas.Bool.{cases_lt}
use Rattle.std.specs.Cmp.Lexicographic.{pointwise}
use Rattle.replaying.proofs.laws.Parted.{sign_at, sign_fits, both_hold, both_there}
use Rattle.replaying.proofs.list.halves.Goals as goal

pub returns-clause-first : goal.returns-clause-first
returns-clause-first c words text e =
    let line = c.args.line.now in
    let runs = c.position.ensures.runs in
    let run = runs.0 in
    let found = rw c.in_ok-at.was at (runs.2) in
    let windows = rw (runs.1, c.windows.ensures.size, c.windows.ensures.rest) at (c.windows.ensures.runs run run.seen) in
    let shape = windows (omega arith) in
    let gives = found.1 (λ a r f called. refl) in
    let cut = c.in_ok-words.ensures.cases in
    elim (cases_lt (length words) c.in_ok-at.at) [
      | inl before ↦
          absurd (both_there _ _ (run.at (length words)) (shape.2 (length words)) (gives.1 (length words) before)
          (λ x p q.
          let seen : false ≡ pointwise eqb x.now (codes " =") = search (rules, tests) in
          cc (seen ∙ ap (λ l. pointwise eqb l (codes " =")) (p.2.0 ∙ sign_at line words text e))))
      | inr behind ↦ omega (arith, cut.3, behind)
    ]

pub returns-in_err-at-clause-none : goal.returns-in_err-at-clause-none
returns-in_err-at-clause-none c none words text e =
    let line = c.args.line.now in
    let runs = c.position.ensures.runs in
    let run = runs.0 in
    let none_of = rw c.in_err-at.was at (runs.2) in
    let windows = rw (runs.1, c.windows.ensures.size, c.windows.ensures.rest) at (c.windows.ensures.runs run run.seen) in
    let shape = windows (omega arith) in
    let fits = sign_fits line words text e in
    let all = shape.1 none_of.0 in
    let inside : length words < run.len = omega (arith, fits, all) in
    both_hold _ _ _ _ (run.at (length words)) (shape.3 (length words) 0 inside) (shape.2 (length words)) (none_of.1 (λ a r f called. refl) (length words))
    (λ x p q.
    let seen : false ≡ pointwise eqb x.now (codes " =") = search (rules, tests) in
    cc (seen ∙ ap (λ l. pointwise eqb l (codes " =")) (p.2.0 ∙ sign_at line words text e)))
