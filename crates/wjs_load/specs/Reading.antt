-- What reading tokens answers.
use Rattle.std.specs.Prelude.{◌≡◌, List}
use Rattle.std.specs.declared.result.Result.{Result}
use Rattle.std.specs.declared.result.Result.TheVariants.{Ok, Err}
use Rattle.wjs_base.specs.Text.{Table}
use Rattle.wjs_tree.specs.declared.nodes.Program.{Program as Parsed}
use Rattle.wjs_tree.specs.declared.tokens.Tok.{Tok}
use Rattle.wjs_tree.specs.Trees.{Elements}
use Rattle.wjs_parse.specs.Answers.{FindsProgram}
use Rattle.wjs_parse.specs.Readings.{ProgramReading}
use Rattle.wjs_order.specs.Order.{IsNumbered}
use Rattle.wjs_model.specs.declared.loaded.LoadedProgram.{LoadedProgram as Program}
use Rattle.wjs_model.specs.Texts.{PlacesUnit}
use Rattle.wjs_offend.specs.declared.answer.Offence.TheVariants as offences
use Rattle.wjs_offend.specs.Offences.{IsOffence}
use Rattle.wjs_load.specs.declared.tokens.Refusal.{Refusal}
use Rattle.wjs_load.specs.declared.tokens.Refusal.TheVariants as refusals
use Rattle.wjs_load.specs.declared.tokens.LoadFault.{LoadFault}
use Rattle.wjs_load.specs.declared.tokens.LoadFault.TheVariants as faults
use Rattle.wjs_load.specs.Stops.{StopsOn}

-- the loaded program is the one that the tokens spell: its nodes in order, with the place of each name
pub record IsRead (texts : Table) (toks : List Tok) (unit : Program) : Type 0 where
  pub program : Elements
  pub reading : ProgramReading toks program
  pub only : (other : Elements) → ProgramReading toks other → other ≡ program
  pub numbered : IsNumbered unit.program.nodes program unit.program.body
  pub placed : PlacesUnit texts unit

-- no well-formed program is spelled
abbrev pub SpellsNone : List Tok → Type 0
SpellsNone toks = (program : Elements) → ProgramReading toks program → ⊥

-- where the tokens can't go on, or that none is at fault
abbrev pub Offends : List Tok → Refusal → Type 0
Offends toks (refusals.Unexpected line) = StopsOn toks line
Offends toks refusals.NotAScript = IsOffence toks offences.NoToken
Offends toks refusals.NotUtf8 = ⊥
Offends toks (refusals.NotAToken line) = ⊥

-- when each fault of tokens comes; want of memory may come at any time
abbrev pub HasFault : List Tok → LoadFault → Type 0
HasFault toks (faults.Refused r) = SpellsNone toks × Offends toks r
HasFault toks faults.OutOfMemory = Unit {0}

abbrev pub ParsedAnswers : List Tok → Result Parsed LoadFault → Type 0
ParsedAnswers toks (Ok program) = FindsProgram toks program.nodes program.body
ParsedAnswers toks (Err fault) = HasFault toks fault

abbrev pub ReadAnswers : Table → List Tok → Result Program LoadFault → Type 0
ReadAnswers texts toks (Ok unit) = IsRead texts toks unit
ReadAnswers texts toks (Err fault) = HasFault toks fault
