-- What holds of the answers that bytes have.
use Rattle.std.specs.Prelude.{◌≡◌, ℕ, List, Option}
use Rattle.wjs_meaning.specs.Trees.{Tree}
use Rattle.wjs_programs.specs.Programs.{IsProgram}
use Rattle.wjs_load.specs.declared.tokens.Refusal.{Refusal}
use Rattle.wjs_load.specs.Loading.{Refuses, IsProgramOrNot}

-- bytes are refused for one reason at most
abbrev pub OneRefusal : Type 0
OneRefusal = (bytes : List ℕ) (r s : Refusal) → Refuses bytes r → Refuses bytes s → s ≡ r

-- bytes that spell a program are not refused
abbrev pub ProgramOrRefusal : Type 0
ProgramOrRefusal = (bytes : List ℕ) (tree : Tree) (r : Refusal) → IsProgram bytes tree → Refuses bytes r → ⊥

-- bytes have one tree, or none
abbrev pub OneAnswer : Type 0
OneAnswer = (bytes : List ℕ) (a b : Option Tree) → IsProgramOrNot bytes a → IsProgramOrNot bytes b → b ≡ a
