-- Numbers that agree modulo m: sums and products of such agree, a summand may be cancelled, and a product may be made of halves.
use Rattle.std.proofs.Common.{◌≡◌, ℕ, ◌+◌, ◌-◌, ◌*◌, ◌/◌, ◌%◌, ◌^◌, ◌<◌, sym, refl, ap, ◌∙◌, le_of_lt, mod-eq_of_lt, mul_assoc, mul_comm, add-mul, mul-le-mul_left, mul-lt-mul_of_pos_right, div-add-mod', mul-add, mul_left_comm, arith, pow_pos, pow-add}
use native.Mathlib.Nat.{add-mod, mod-mod, mod-add-div, add-mul-mod_self_left}

-- a record, so that the numbers can be inferred from a hypothesis
pub record Agree (m a b : ℕ) : Type 0 where
  pub same : a % m ≡ b % m

pub agree_is : {m a b : ℕ} → a ≡ b → Agree m a b
agree_is {m} e = record { same = ap (λ (n : ℕ). n % m) e }

pub agree_sym : {m a b : ℕ} → Agree m a b → Agree m b a
agree_sym p = record { same = sym p.same }

pub agree_trans : {m a b c : ℕ} → Agree m a b → Agree m b c → Agree m a c
agree_trans p q = record { same = p.same ∙ q.same }

pub agree_by : {m n a b : ℕ} → m ≡ n → Agree m a b → Agree n a b
agree_by {a = a} {b} e p = record { same = rw (← e) p.same }

pub agree_mod : (m a : ℕ) → Agree m (a % m) a
agree_mod m a = record { same = mod-mod a m }

pub agree_more : (m a k : ℕ) → Agree m (a + m * k) a
agree_more m a k = record { same = add-mul-mod_self_left a m k }

-- numbers that agree modulo m * k agree modulo m
pub agree_narrow : (m k : ℕ) {a b : ℕ} → Agree (m * k) a b → Agree m a b
agree_narrow m k {a} {b} p = agree_trans (agree_sym (part a)) (agree_trans (agree_is p.same) (part b))
  where
    part : (x : ℕ) → Agree m (x % (m * k)) x
    part x =
        agree_trans (agree_sym (agree_more m (x % (m * k)) (k * (x / (m * k)))))
        (agree_is (ap (λ (n : ℕ). x % (m * k) + n) (sym (mul_assoc m k _)) ∙ mod-add-div x (m * k)))

pub agree_add : {m a b c d : ℕ} → Agree m a b → Agree m c d → Agree m (a + c) (b + d)
agree_add {m} {a} {b} {c} {d} p q =
    record { same = add-mod a c m ∙ rw (p.same, q.same) (sym (add-mod b d m)) }

-- the factor a is its remainder and a multiple of m
left_factor : (m a c : ℕ) → Agree m (a * c) (a % m * c)
left_factor m a c =
    let parts : a % m * c + m * (a / m) * c ≡ a * c = sym (add-mul (a % m) (m * (a / m)) c) ∙ ap (λ (n : ℕ). n * c) (mod-add-div a m) in
    agree_trans (agree_is (sym parts ∙ ap (λ (n : ℕ). a % m * c + n) (mul_assoc m (a / m) c))) (agree_more m (a % m * c) (a / m * c))

pub agree_mul : {m a b c d : ℕ} → Agree m a b → Agree m c d → Agree m (a * c) (b * d)
agree_mul {m} {a} {b} {c} {d} p q = agree_trans (change c p) (agree_trans (agree_is (mul_comm b c)) (agree_trans (change b q) (agree_is (mul_comm d b))))
  where
    change : {x y : ℕ} (z : ℕ) → Agree m x y → Agree m (x * z) (y * z)
    change {x} {y} z e = agree_trans (left_factor m x z) (agree_trans (agree_is (ap (λ (n : ℕ). n * z) e.same)) (agree_sym (left_factor m y z)))

pub agree_cancel : {m a b : ℕ} (k : ℕ) → 0 < m → Agree m (a + k) (b + k) → Agree m a b
agree_cancel {m} {a} {b} k h p =
    agree_trans (agree_sym (whole a)) (agree_trans (agree_add p (agree_is refl)) (whole b))
  where
    back : k + (m - 1) * k ≡ m * k
    back = let one_more : 1 + (m - 1) ≡ m = omega arith in omega (arith, ap (λ (n : ℕ). n * k) one_more, add-mul 1 (m - 1) k)

    whole : (x : ℕ) → Agree m (x + k + (m - 1) * k) x
    whole x = agree_trans (agree_is (omega (arith, back))) (agree_more m x k)

-- below m, numbers that agree are the same
pub agree_below : {m a b : ℕ} → a < m → b < m → Agree m a b → a ≡ b
agree_below {m} {a} {b} h k p = sym (mod-eq_of_lt h) ∙ p.same ∙ mod-eq_of_lt k

-- the four products of two numbers of two digits
four_products : (B p x q y : ℕ) → (p * B + x) * (q * B + y) ≡ (x * q + y * p) * B + x * y + B * B * (p * q)
four_products B p x q y =
    let high : p * B * (q * B) ≡ B * B * (p * q) =
    mul_assoc p B (q * B) ∙ ap (λ (n : ℕ). p * n) (mul_left_comm B q B) ∙ sym (mul_assoc p q (B * B)) ∙ mul_comm (p * q) (B * B) in
    let cross : y * p * B ≡ p * B * y = mul_assoc y p B ∙ mul_comm y (p * B) in
    omega (arith, mul-add (p * B + x) (q * B) y, add-mul (p * B) x (q * B), add-mul (p * B) x y, add-mul (x * q) (y * p) B, mul_assoc x q B)

pub product-below : (h : ℕ) {x y : ℕ} → x < 2 ^ h → y < 2 ^ h → x * y < 2 ^ (h + h)
product-below h {x} {y} hx hy =
    omega (arith, mul-le-mul_left x (le_of_lt hy), mul-lt-mul_of_pos_right {m = x} {n = 2 ^ h} hx (pow_pos h), pow-add 2 h h)

-- of the four products of two numbers' halves, the highest is a multiple of 2^(h + h)
pub product-of_halves : (h a b : ℕ) {cross : ℕ} → cross ≡ (a % 2 ^ h * (b / 2 ^ h) + b % 2 ^ h * (a / 2 ^ h)) % 2 ^ (h + h) → (cross * 2 ^ h % 2 ^ (h + h) + a % 2 ^ h * (b % 2 ^ h)) % 2 ^ (h + h) ≡ a * b % 2 ^ (h + h)
product-of_halves h a b e =
    let whole : (a % 2 ^ h * (b / 2 ^ h) + b % 2 ^ h * (a / 2 ^ h)) * 2 ^ h + a % 2 ^ h * (b % 2 ^ h) + 2 ^ (h + h) * (a / 2 ^ h * (b / 2 ^ h)) ≡ a * b =
    rw (pow-add 2 h h, ← four_products (2 ^ h) (a / 2 ^ h) (a % 2 ^ h) (b / 2 ^ h) (b % 2 ^ h), div-add-mod' a (2 ^ h), div-add-mod' b (2 ^ h)) in
    (agree_trans (agree_add (agree_trans (agree_mod _ _) (agree_mul (agree_trans (agree_is e) (agree_mod _ _)) (agree_is refl))) (agree_is refl))
    (agree_trans (agree_sym (agree_more (2 ^ (h + h)) _ (a / 2 ^ h * (b / 2 ^ h)))) (agree_is whole))
    ).same
