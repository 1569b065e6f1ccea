-- What is told of a result, where it is known.
use Rattle.std.proofs.Common.{◌≡◌, subst}
use Rattle.std.specs.Prelude.{Result, Ok, Err, MatchResult}

module _ {A E : Type 0} (P : A → Type 0) (Q : E → Type 0) (r : Result A E) where
  pub told_ok : (a : A) → r ≡ Ok a → MatchResult r P Q → P a
  told_ok a e h = subst (λ (x : Result A E). MatchResult x P Q) e h

  pub told_err : (x : E) → r ≡ Err x → MatchResult r P Q → Q x
  told_err x e h = subst (λ (y : Result A E). MatchResult y P Q) e h
