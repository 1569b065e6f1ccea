-- Lines for standard error.
use Rattle.std.specs.Prelude.{◌≡◌, ◌≢◌, ◌++◌, ◌∷◌, ℕ, List, [], codes}
use Rattle.std.specs.List.{All}

abbrev pub HasNoLineFeed : List ℕ → Type 0
HasNoLineFeed = All (λ b. b ≢ 10)

-- one line that begins with `usage: `
abbrev pub IsUsageLine : List ℕ → Type 0
IsUsageLine line =
    (said : List ℕ) × (line ≡ codes "usage: " ++ said ++ 10 ∷ []) × HasNoLineFeed said
