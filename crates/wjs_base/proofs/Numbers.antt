-- Numbers and their tests.
use Rattle.std.proofs.Common.{◌≡◌, ℕ, ◌<◌, ◌≤◌, true, false, nat_le, ◌==◌, arith}
use Rattle.std.proofs.lemmas.Bool.Decides.{nat_tests}

pub equal_from_test : (a b : ℕ) → (a == b) ≡ true → a ≡ b
equal_from_test a b h = grind (arith, nat_tests)

pub test_from_equal : (a b : ℕ) → a ≡ b → (a == b) ≡ true
test_from_equal a b h = grind (arith, nat_tests)

pub equals_itself : (a : ℕ) → (a == a) ≡ true
equals_itself a = grind (arith, nat_tests)

pub of_le : (a b : ℕ) → a ≤ b → nat_le a b ≡ true
of_le a b h = grind (arith, nat_tests)

pub le_of : (a b : ℕ) → nat_le a b ≡ true → a ≤ b
le_of a b h = grind (arith, nat_tests)

pub not_le : (a b : ℕ) → nat_le a b ≡ false → b < a
not_le a b h = grind (arith, nat_tests)

pub lt_not : (a b : ℕ) → b < a → nat_le a b ≡ false
lt_not a b h = grind (arith, nat_tests)
