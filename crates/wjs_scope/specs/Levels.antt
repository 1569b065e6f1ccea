-- Scopes as the code keeps them, each with the number of the one around it; number 0 is that of no scope.
use Rattle.std.specs.Prelude.{◌≡◌, ℕ, suc, ◌≤◌, List, [], ◌∷◌, length, Option, Some, slice_get}
use Rattle.wjs_base.specs.declared.ids.TextId.{TextId}
use Rattle.wjs_tree.specs.declared.node.Handler.{Handler}
use Rattle.wjs_scope.specs.declared.levels.Level.{Level}
use Rattle.wjs_scope.specs.Scopes.{Scope, with_own_name}

-- under this number stand these scopes, the nearest first
abbrev pub Nests : List Level → ℕ → List Scope → Type 0
Nests levels at [] = at ≡ 0
Nests levels at (names ∷ outer) = (i : ℕ) × (level : Level) × (at ≡ suc i) × (slice_get levels i ≡ Some level) × (level.names ≡ names) × (level.outer ≤ i) × Nests levels level.outer outer

-- scopes stand under the number, and no more than 400
abbrev pub IsNest : List Level → ℕ → Type 0
IsNest levels at = (scopes : List Scope) × Nests levels at scopes × (length scopes ≤ 400)

-- what stands under a number stands there still
abbrev pub StaysNested : List Level → List Level → Type 0
StaysNested old new = (at : ℕ) (scopes : List Scope) → Nests old at scopes → Nests new at scopes

-- a scope of these names has been put within the scopes of a number
pub record Opens (old new : List Level) (at inner : ℕ) (names : List TextId) : Type 0 where
  pub stays : StaysNested old new
  pub opens : (scopes : List Scope) → Nests old at scopes → Nests new inner (names ∷ scopes)

-- a scope of a function's own name has been put there, if it has one
pub record OpensOwn (old new : List Level) (at inner : ℕ) (name : Option TextId) : Type 0 where
  pub stays : StaysNested old new
  pub opens : (scopes : List Scope) → Nests old at scopes → Nests new inner (with_own_name name scopes)

-- a scope of the name of a `catch` has been put there, if there is one
pub record OpensCaught (old new : List Level) (at inner : ℕ) (handler : Option Handler) : Type 0 where
  pub stays : StaysNested old new
  pub opens : (h : Handler) (scopes : List Scope) → handler ≡ Some h → Nests old at scopes → Nests new inner ((h.name ∷ []) ∷ scopes)
