-- How tightly `new` without arguments binds.
use Rattle.std.proofs.Common.{◌≡◌, ◌≤◌, ◌⊎◌, inl, inr, true, refl, arith}
use Rattle.wjs_tree.specs.Trees.{Expr, NewBare}
use Rattle.wjs_tree.specs.Levels.{level, is_bare}

pub bare_level : (e : Expr) → is_bare e ≡ true → level e ≡ 15
bare_level (NewBare f) h = refl
bare_level _ h = cc

-- what stands behind `new` binds more tightly than any operator
pub new_level : (e : Expr) → (17 ≤ level e) ⊎ (is_bare e ≡ true) → 15 ≤ level e
new_level e (inl h) = omega arith
new_level e (inr h) = let b = bare_level e h in omega arith
