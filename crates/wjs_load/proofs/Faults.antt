-- Why tokens and their bytes are refused.
use Rattle.std.proofs.Common.{◌≡◌, ℕ, zero, suc, ◌-◌, ◌<◌, List, [], ◌∷◌, length, None, IfErr, Result, Ok, Err, refl, sym, arith}
use Rattle.std.proofs.lemmas.Option.{none-some}
use Rattle.wjs_base.specs.Text.{Table, IsTable}
use Rattle.wjs_tree.specs.declared.tokens.Tok.{Tok}
use Rattle.wjs_tree.specs.Trees.{NoElement}
use Rattle.wjs_lexer.specs.Lexing.{HasTokens}
use Rattle.wjs_model.specs.declared.loaded.LoadedProgram.{LoadedProgram as Program}
use Rattle.wjs_forms.specs.Spells.{Spells}
use Rattle.wjs_offend.specs.declared.answer.Offence.{Offence}
use Rattle.wjs_offend.specs.declared.answer.Offence.TheVariants as offences
use Rattle.wjs_offend.specs.Offences.{IsOffence}
use Rattle.wjs_load.specs.declared.tokens.Refusal.TheVariants as refusals
use Rattle.wjs_load.specs.declared.tokens.LoadFault.{LoadFault}
use Rattle.wjs_load.specs.declared.tokens.LoadFault.TheVariants as faults
use Rattle.wjs_load.specs.Loading.{IsRefused}
use Rattle.wjs_load.specs.Reading.{ReadAnswers}
use Rattle.wjs_load.specs.Stops.{line_at, line_of}

-- a token that is there has a line
line_within : (toks : List Tok) (k : ℕ) → k < length toks → line_at toks k ≡ None → ⊥
line_within [] k lt e = absurd (omega arith)
line_within (t ∷ ts) zero lt e = none-some t.line (sym e)
line_within (t ∷ ts) (suc k) lt e = line_within ts k (omega arith) e

-- no tokens are the program without elements
none_spelled : Spells []
none_spelled = record { body = NoElement; shaped = tt; stands = refl }

-- an offence without a line is that no token is at fault
pub no_line : (toks : List Tok) (o : Offence) → IsOffence toks o → line_of toks o ≡ None → IsOffence toks offences.NoToken
no_line toks (offences.At k) h e = absurd (line_within toks k h.0 e)
no_line [] offences.End h e = absurd (h.1 none_spelled)
no_line (t ∷ ts) offences.End h e = absurd (line_within (t ∷ ts) (length (t ∷ ts) - 1) (omega arith) e)
no_line toks offences.NoToken h e = h

-- the bytes of tokens that are refused are refused for the same reason
pub refused_so : (bytes : List ℕ) (texts : Table) (toks : List Tok) → IsTable texts → HasTokens bytes texts toks → (r : Result Program LoadFault) → ReadAnswers texts toks r → IfErr r (IsRefused bytes)
refused_so bytes texts toks table tokens (Ok unit) h = tt
refused_so bytes texts toks table tokens (Err faults.OutOfMemory) h = tt
refused_so bytes texts toks table tokens (Err (faults.Refused refusals.NotUtf8)) h = absurd h.1
refused_so bytes texts toks table tokens (Err (faults.Refused (refusals.NotAToken line))) h = absurd h.1
refused_so bytes texts toks table tokens (Err (faults.Refused (refusals.Unexpected line))) h = (record { texts = texts; table = table; toks = toks; tokens = tokens; none = h.0 }, h.1)
refused_so bytes texts toks table tokens (Err (faults.Refused refusals.NotAScript)) h = (record { texts = texts; table = table; toks = toks; tokens = tokens; none = h.0 }, h.1)
