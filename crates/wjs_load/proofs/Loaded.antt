-- The unit that is read from bytes.
use Rattle.std.specs.Prelude.{ℕ, List, Result, Ok, Err, IfOk}
use Rattle.wjs_base.specs.Text.{Table, IsTable}
use Rattle.wjs_tree.specs.declared.tokens.Tok.{Tok}
use Rattle.wjs_lexer.specs.Lexing.{HasTokens}
use Rattle.wjs_model.specs.declared.loaded.LoadedProgram.{LoadedProgram as Program}
use Rattle.wjs_model.specs.Texts.{KnowsUnit, PlacesUnit}
use Rattle.wjs_model.specs.Units.{unit_in}
use Rattle.wjs_programs.specs.Programs.{IsProgram}
use Rattle.wjs_programs.proofs.Knowing.{nodes_are_known}
use Rattle.wjs_programs.proofs.Whole.{units_are_trees}
use Rattle.wjs_load.specs.declared.tokens.LoadFault.{LoadFault}
use Rattle.wjs_load.specs.Reading.{IsRead, ReadAnswers}

module _ (bytes : List ℕ) (texts : Table) (toks : List Tok) (unit : Program) (tokens : HasTokens bytes texts toks) (read : IsRead texts toks unit) where
  knows_texts : KnowsUnit texts unit
  knows_texts = nodes_are_known bytes texts toks read.program unit.program.nodes unit.program.body tokens read.reading.stands read.numbered

  spelled : IsTable texts → IsProgram bytes (unit_in texts unit)
  spelled table = record {
    texts = texts;
    table = table;
    toks = toks;
    tokens = tokens;
    program = read.program;
    reading = read.reading;
    only = read.only;
    is = units_are_trees texts unit read.program read.placed.arguments table read.numbered knows_texts read.placed.found read.placed.places;
  }

-- the same of what reading answers
module _ (bytes : List ℕ) (texts : Table) (toks : List Tok) (tokens : HasTokens bytes texts toks) where
  pub read_known : (r : Result Program LoadFault) → ReadAnswers texts toks r → IfOk r (KnowsUnit texts)
  read_known (Ok unit) h = knows_texts bytes texts toks unit tokens h
  read_known (Err fault) h = tt

  pub read_spelled : IsTable texts → (r : Result Program LoadFault) → ReadAnswers texts toks r → IfOk r (λ unit. IsProgram bytes (unit_in texts unit))
  read_spelled table (Ok unit) h = spelled bytes texts toks unit tokens h table
  read_spelled table (Err fault) h = tt

  pub read_placed : (r : Result Program LoadFault) → ReadAnswers texts toks r → IfOk r (PlacesUnit texts)
  read_placed (Ok unit) h = h.placed
  read_placed (Err fault) h = tt
