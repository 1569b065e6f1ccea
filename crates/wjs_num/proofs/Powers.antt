-- Powers of 0, 1 and -1 go by parity, and other powers soon leave the range.
use Rattle.std.proofs.Common.{◌≡◌, ℕ, zero, suc, ◌-◌, ◌%◌, ◌^◌, ◌<◌, ◌≤◌, min, ◌⊎◌, inl, inr, refl, sym, ◌∙◌, ap, arith, Bool, true, false, cond, eqb, ℤ, pos, negsuc, neg_ℤ}
use Rattle.std.specs.Int.{int_pow}
use Rattle.std.specs.Prelude.{unsigned_abs}
use Rattle.std.proofs.lemmas.Bool.{cases_lt}
use Rattle.std.proofs.Math.Nat.{pow-suc, pow-le-pow_left, pow-le-pow_right}
use Rattle.wjs_num.specs.Exact.{exact}
use Rattle.wjs_num.proofs.Ranges.{unsigned_abs-neg, both_out}

zero_pow : (n : ℕ) → 0 ^ suc n ≡ 0
zero_pow n = pow-suc 0 n ∙ omega arith

one_pow : (n : ℕ) → 1 ^ n ≡ 1
one_pow zero = refl
one_pow (suc n) = let e = one_pow n in omega (arith, pow-suc 1 n)

zero_pow_of : (e : ℕ) → 0 < e → 0 ^ e ≡ 0
zero_pow_of zero h = absurd (omega arith)
zero_pow_of (suc n) h = zero_pow n

pub small_powers : (x : ℤ) (e : ℕ) → unsigned_abs x < 2 → 0 < e → int_pow x (2 - e % 2) ≡ int_pow x e
small_powers (pos zero) e h p = ap pos (zero_pow_of (2 - e % 2) (omega arith) ∙ sym (zero_pow_of e p))
small_powers (pos (suc zero)) e h p = ap pos (one_pow (2 - e % 2) ∙ sym (one_pow e))
small_powers (pos (suc (suc n))) e h p = absurd (omega arith)
small_powers (negsuc zero) e h p =
    let parity : (2 - e % 2) % 2 ≡ e % 2 = omega arith in
    let powers : 1 ^ (2 - e % 2) ≡ 1 ^ e = one_pow (2 - e % 2) ∙ sym (one_pow e) in
    rw (parity, powers) refl
small_powers (negsuc (suc n)) e h p = absurd (omega arith)

-- 2 to the 64 and beyond
large : (m e : ℕ) → 2 ≤ m → 64 ≤ e → 2 ^ 64 ≤ m ^ e
large m e h k =
    let low : 2 ^ e ≤ m ^ e = pow-le-pow_left h e in
    let two : 0 < 2 = omega arith in
    let up : 2 ^ 64 ≤ 2 ^ e = pow-le-pow_right two k in
    omega (arith, low, up)

abs_by : (b : Bool) (n : ℕ) → unsigned_abs (cond b (pos n) (neg_ℤ (pos n))) ≡ n
abs_by true n = refl
abs_by false n = unsigned_abs-neg n

unsigned_abs-int_pow : (x : ℤ) (e : ℕ) → unsigned_abs (int_pow x e) ≡ unsigned_abs x ^ e
unsigned_abs-int_pow (pos n) e = refl
unsigned_abs-int_pow (negsuc n) e = abs_by (eqb (e % 2) 0) (suc n ^ e)

capped : (x : ℤ) (e : ℕ) → 2 ≤ unsigned_abs x → (e < 64) ⊎ (64 ≤ e) → exact (int_pow x (min e 64)) ≡ exact (int_pow x e)
capped x e h (inl small) = let k : min e 64 ≡ e = omega arith in rw k refl
capped x e h (inr big) =
    let k : min e 64 ≡ 64 = omega arith in
    let p = large (unsigned_abs x) 64 h (omega arith) in
    let q = large (unsigned_abs x) e h big in
    rw k (both_out (int_pow x 64) (int_pow x e) (omega (arith, p, unsigned_abs-int_pow x 64)) (omega (arith, q, unsigned_abs-int_pow x e)))

pub large_powers : (x : ℤ) (e : ℕ) → 2 ≤ unsigned_abs x → exact (int_pow x (min e 64)) ≡ exact (int_pow x e)
large_powers x e h = capped x e h (cases_lt e 64)
