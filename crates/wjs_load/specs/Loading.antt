-- The program that bytes spell, or why they spell none.
use Rattle.std.specs.Prelude.{ℕ, List, Option, None, Some}
use Rattle.wjs_lexer.specs.Lexing.{HasNoToken, IsNoText}
use Rattle.wjs_meaning.specs.Trees.{Tree}
use Rattle.wjs_programs.specs.Programs.{IsProgram, IsNoProgram}
use Rattle.wjs_offend.specs.declared.answer.Offence.TheVariants as offences
use Rattle.wjs_offend.specs.Offences.{IsOffence}
use Rattle.wjs_load.specs.declared.tokens.Refusal.{Refusal}
use Rattle.wjs_load.specs.declared.tokens.Refusal.TheVariants as refusals
use Rattle.wjs_load.specs.declared.tokens.LoadFault.{LoadFault}
use Rattle.wjs_load.specs.declared.tokens.LoadFault.TheVariants as faults
use Rattle.wjs_load.specs.Stops.{StopsOn}

-- the bytes are no text; they are, and on a line stands a place up to which pieces stand and where none begins; they are tokens
-- that spell no program, and can't go on on a line; or that spell none, though no token is at fault
abbrev pub Refuses : List ℕ → Refusal → Type 0
Refuses bytes refusals.NotUtf8 = (byte : ℕ) × IsNoText bytes byte
Refuses bytes (refusals.NotAToken line) = (byte : ℕ) × HasNoToken bytes byte line
Refuses bytes (refusals.Unexpected line) = (none : IsNoProgram bytes) × StopsOn none.toks line
Refuses bytes refusals.NotAScript = (none : IsNoProgram bytes) × IsOffence none.toks offences.NoToken

-- when each fault comes; want of memory may come at any time
abbrev pub IsRefused : List ℕ → LoadFault → Type 0
IsRefused bytes (faults.Refused r) = Refuses bytes r
IsRefused bytes faults.OutOfMemory = Unit {0}

-- the tree of the program that the bytes spell; none where they are refused
abbrev pub IsProgramOrNot : List ℕ → Option Tree → Type 0
IsProgramOrNot bytes (Some tree) = IsProgram bytes tree
IsProgramOrNot bytes None = (r : Refusal) × Refuses bytes r
