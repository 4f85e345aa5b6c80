-- The law of streams: the stream from p is the item at p and the stream from the next place, where each item ends behind its place and
-- within a bound. How many items may still come does not matter then.
use Prim.Native.Nat.{ℕ, zero, suc, ◌+◌, ◌≤◌, ◌<◌}
use mathlib.Core.Path.{◌≡◌, refl, ap, ◌∙◌}
use native.Mathlib.Omega.{arith}
use Rattle.protobuf.specs.Stream.{Stream, end, more, Item, last, item, follow, unrolled}

-- each item ends behind its place and within the bound
pub record Forward {A E : Type 0} (at : ℕ → Item A E) (bound : ℕ) : Type 0 where
  pub moves : (p q : ℕ) (a : A) → at p ≡ item a q → (p < q) × (q ≤ bound)

module _ {A E : Type 0} where
  -- what follows counts only where there is a next item
  follow-same : (i : Item A E) (from from' : ℕ → Stream A E) → ((a : A) (q : ℕ) → i ≡ item a q → from q ≡ from' q) → follow i from ≡ follow i from'
  follow-same (last e) from from' h = refl
  follow-same (item a q) from from' h = ap (more a) (h a q refl)

  module _ {at : ℕ → Item A E} {bound : ℕ} (f : Forward at bound) (e : E) where
    any-count : (n m p : ℕ) → bound ≤ n + p → bound ≤ m + p → unrolled at e (suc n) p ≡ unrolled at e (suc m) p
    unfolding unrolled
    any-count zero m p h k = follow-same (at p) _ _ (λ a q i. absurd (omega (arith, f.moves p q a i)))
    any-count (suc n) zero p h k = follow-same (at p) _ _ (λ a q i. absurd (omega (arith, f.moves p q a i)))
    any-count (suc n) (suc m) p h k =
        follow-same (at p) _ _
        (λ a q i. let g = f.moves p q a i in any-count n m q (omega arith) (omega arith))

    all-count : (n p : ℕ) → bound ≡ n → 1 ≤ p → p ≤ n → unrolled at e n p ≡ unrolled at e (suc bound) p
    all-count zero p b h k = absurd (omega arith)
    all-count (suc n) p b h k = any-count n bound p (omega arith) (omega arith)

    pub unroll : (p : ℕ) → unrolled at e (suc bound) p ≡ follow (at p) (unrolled at e (suc bound))
    unfolding unrolled
    unroll p =
        follow-same (at p) _ _
        (λ a q i. let g = f.moves p q a i in all-count bound q refl (omega arith) g.1)

-- the same items at places shifted by a are the same stream
abbrev pub later : {A E : Type 0} → ℕ → Item A E → Item A E
later a (last e) = last e
later a (item x q) = item x (a + q)

module _ {A E : Type 0} (at at' : ℕ → Item A E) (a : ℕ) (same : (p : ℕ) → at (a + p) ≡ later a (at' p)) (e : E) where
  follow-later : (i : Item A E) (from from' : ℕ → Stream A E) → ((q : ℕ) → from (a + q) ≡ from' q) → follow (later a i) from ≡ follow i from'
  follow-later (last x) from from' h = refl
  follow-later (item x q) from from' h = ap (more x) (h q)

  shifted-count : (n p : ℕ) → unrolled at e n (a + p) ≡ unrolled at' e n p
  unfolding unrolled
  shifted-count zero p = refl
  shifted-count (suc n) p = ap (λ (i : Item A E). follow i (unrolled at e n)) (same p) ∙ follow-later (at' p) _ _ (shifted-count n)

  pub shifted : {bound bound' : ℕ} → Forward at' bound' → bound' ≤ bound → (p : ℕ) → unrolled at e (suc bound) (a + p) ≡ unrolled at' e (suc bound') p
  shifted {bound} {bound'} f h p = shifted-count (suc bound) p ∙ any-count f e bound bound' p (omega arith) (omega arith)

-- ---- what holds of every item

pub data Every {A E : Type 0} (P : A → Type 0) : Stream A E → Type 0 where
  none_left : {e : E} → Every P (end e)
  this-and : {a : A} {rest : Stream A E} → P a → Every P rest → Every P (more a rest)

every-follow : {A E : Type 0} (P : A → Type 0) (i : Item A E) (from : ℕ → Stream A E) → ((a : A) (q : ℕ) → i ≡ item a q → P a) → ((q : ℕ) → Every P (from q)) → Every P (follow i from)
every-follow P (last e) from h on = none_left
every-follow P (item a q) from h on = this-and (h a q refl) (on q)

pub every : {A E : Type 0} (P : A → Type 0) (at : ℕ → Item A E) (e : E) → ((p : ℕ) (a : A) (q : ℕ) → at p ≡ item a q → P a) → (n p : ℕ) → Every P (unrolled at e n p)
unfolding unrolled
every P at e h zero p = none_left
every P at e h (suc n) p = every-follow P (at p) (unrolled at e n) (h p) (every P at e h n)
