-- Parts by their places.
use Rattle.std.specs.Prelude.{◌≡◌, ℕ, ◌-◌, ◌≤◌, List, ◌∷◌, ◌++◌, All, length, take, drop, map as each}
use Rattle.wjs_division.specs.Division.{Part, divided}
use Rattle.wjs_division.specs.declared.division.Piece.{Piece}
use Rattle.wjs_division.specs.declared.division.Division.{Division}

abbrev pub piece_of : ℕ → ℕ → Piece
piece_of from to = record { from = from; to = to }

-- it stands within the bytes
pub record IsInside (bytes : List ℕ) (p : Piece) : Type 0 where
  pub order : p.from ≤ p.to
  pub within : p.to ≤ length bytes

-- the part at a place among bytes
abbrev pub piece_in : List ℕ → Piece → Part
piece_in bytes p = record { front = take p.from bytes; bytes = take (p.to - p.from) (drop p.from bytes) }

abbrev pub pieces_in : List ℕ → List Piece → List Part
pieces_in bytes pieces = each (piece_in bytes) pieces

-- all parts of an input, of which these were found; the one at hand goes up to a place, and behind it stand these lines
abbrev pub all_parts : List ℕ → Division → ℕ → List (List ℕ) → List Part
all_parts bytes d place lines = pieces_in bytes d.pieces.items ++ divided (take d.from bytes) (take (place - d.from) (drop d.from bytes)) lines

-- the line between two places was taken in: the parts are what they were with it among the lines that are left
pub record TakesIn (bytes : List ℕ) (line next : ℕ) (old new : Division) : Type 0 where
  pub order : new.from ≤ next
  pub inside : All (IsInside bytes) old.pieces.items → All (IsInside bytes) new.pieces.items
  pub same : (lines : List (List ℕ)) → all_parts bytes new next lines ≡ all_parts bytes old line (take (next - line) (drop line bytes) ∷ lines)
