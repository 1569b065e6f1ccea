-- The program that bytes spell, and where none is spelled.
use Rattle.std.specs.Prelude.{◌≡◌, ℕ, List}
use Rattle.wjs_base.specs.Text.{Table, IsTable}
use Rattle.wjs_tree.specs.declared.tokens.Tok.{Tok}
use Rattle.wjs_tree.specs.Trees.{Elements}
use Rattle.wjs_lexer.specs.Lexing.{HasTokens}
use Rattle.wjs_parse.specs.Readings.{ProgramReading}
use Rattle.wjs_meaning.specs.Trees.{Tree}
use Rattle.wjs_programs.specs.Numbered.{tree_of}

-- by a table of texts the bytes are tokens, and these spell one well-formed program, whose tree this is
pub record IsProgram (bytes : List ℕ) (tree : Tree) : Type 0 where
  pub texts : Table
  pub table : IsTable texts
  pub toks : List Tok
  pub tokens : HasTokens bytes texts toks
  pub program : Elements
  pub reading : ProgramReading toks program
  pub only : (other : Elements) → ProgramReading toks other → other ≡ program
  pub is : tree ≡ tree_of texts program

-- by a table of texts the bytes are tokens, and these spell no well-formed program
pub record IsNoProgram (bytes : List ℕ) : Type 0 where
  pub texts : Table
  pub table : IsTable texts
  pub toks : List Tok
  pub tokens : HasTokens bytes texts toks
  pub none : (program : Elements) → ProgramReading toks program → ⊥
