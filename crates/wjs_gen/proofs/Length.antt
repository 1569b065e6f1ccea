-- The generated script is short.
use Rattle.std.proofs.Common.{◌≡◌, ℕ, ◌+◌, ◌≤◌, ◌++◌, length, codes, refl, arith, length-append}
use Rattle.std.specs.Fmt.{decimal}
use Rattle.std.proofs.lemmas.Fmt.{length-decimal-le}
use Rattle.wjs_gen.specs.Script.{rest, script}

length_rest : length rest ≡ 449
unfolding rest
length_rest = refl

sum_of : (a b p q c : ℕ) → a ≤ 5 → b ≡ 449 → p ≡ 8 → q ≡ a + b → c ≡ p + q → c ≤ 1000
sum_of a b p q c h1 h2 h3 h4 h5 = omega (arith, h1, h2, h3, h4, h5)

length_front : length (codes "var n = ") ≡ 8
length_front = refl

pub short : (n : ℕ) → n ≤ 50000 → length (script n) ≤ 1000
short n h =
    let digits = length-decimal-le 5 n (omega arith) (omega (arith, h)) (omega (arith, h)) in
    sum_of _ _ _ _ _ digits length_rest length_front (length-append (decimal n) rest) (length-append (codes "var n = ") (decimal n ++ rest))
