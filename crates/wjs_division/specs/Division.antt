-- The parts of a play's input: it is divided at each line that is `---`. A line ends at LF or at the end of the input, and at nothing
-- else: a line `---` before CR LF divides nothing.
use Rattle.std.specs.Prelude.{ℕ, ◌-◌, Bool, ◌||◌, cond, ◌==◌, List, [], ◌∷◌, ◌++◌, length, codes}
use Rattle.std.specs.Str.{bytes_eq, chars}
use Rattle.wjs_lexer.specs.Places.{line_at}

-- a byte in front of the first line
abbrev pub onto_first : ℕ → List (List ℕ) → List (List ℕ)
onto_first b [] = (b ∷ []) ∷ []
onto_first b (line ∷ lines) = (b ∷ line) ∷ lines

-- the lines of bytes, each with the LF that ends it; the last one may end at the end
abbrev pub lines_of : List ℕ → List (List ℕ)
lines_of [] = []
lines_of (b ∷ bytes) = cond (b == 10) ((10 ∷ []) ∷ lines_of bytes) (onto_first b (lines_of bytes))

-- `---`, with its LF or at the end
abbrev pub divides : List ℕ → Bool
divides line = bytes_eq line (codes "---") || bytes_eq line (codes "---" ++ 10 ∷ [])

-- a part, and what stands before it in the input
pub record Part : Type 0 where
  pub front : List ℕ
  pub bytes : List ℕ

abbrev pub part_behind : List ℕ → List ℕ → Part
part_behind front bytes = record { front = front; bytes = bytes }

-- the parts of lines, the first of which begins behind this with these bytes
abbrev pub divided : List ℕ → List ℕ → List (List ℕ) → List Part
divided front bytes [] = part_behind front bytes ∷ []
divided front bytes (line ∷ lines) = cond (divides line)
    (part_behind front bytes ∷ divided (front ++ (bytes ++ line)) [] lines)
    (divided front (bytes ++ line) lines)

-- no part is left out, and an empty one is an empty script
abbrev pub parts_of : List ℕ → List Part
parts_of bytes = divided [] [] (lines_of bytes)

-- how many lines end before a part, counted as a script's lines are: a line of a script ends at each line terminator, CR LF being one
-- (ECMA-262, 3rd edition, section 7.3)
abbrev pub lines_before : Part → ℕ
lines_before p = line_at (chars p.front) (length (chars p.front)) - 1
