-- The statement `switch`: what is left of it from one of its cases or statements on (ECMA-262, 3rd edition, section 12.11).
use Rattle.std.specs.Prelude.{◌≡◌, ℕ, List, Option, None, Some, drop, slice_get}
use Rattle.std.specs.Option.{option_and_then}
use Rattle.wjs_base.specs.declared.ids.NodeId.{NodeId}
use Rattle.wjs_base.specs.declared.values.Value.{Value as Numbered}
use Rattle.wjs_base.specs.Text.{Table}
use Rattle.wjs_by_content.specs.Tables.{value_in}
use Rattle.wjs_by_content.specs.Values.{Value}
use Rattle.wjs_tree.specs.declared.node.Clause.{Clause}
use Rattle.wjs_meaning.specs.Deeds.{Act, Completion, Env, then_value}
use Rattle.wjs_meaning.specs.Reading.{node_in}
use Rattle.wjs_meaning.specs.Statements.{from_default, statements_of, switch_cases, switch_from, switch_next, switch_value}
use Rattle.wjs_model.specs.declared.config.Config.{Config}
use Rattle.wjs_model.specs.declared.frame.Activation.{Activation as Frame}
use Rattle.wjs_model.specs.declared.frame.Completion.{Completion as Said}
use Rattle.wjs_model.specs.declared.frame.Completion.TheVariants as completions
use Rattle.wjs_model.specs.Lists.{clauses_of}
use Rattle.wjs_model.specs.Waiting.{after_case}
use Rattle.wjs_frames.specs.Parts.{node_among}
use Rattle.wjs_step_common.specs.Lists.{clauses_in}
use Rattle.wjs_blocks.specs.declared.clauses.Case.{Case}
use Rattle.wjs_blocks.specs.Switches.{case_goes}

module _ {S : Type 0} (c : Config S) (f : Frame) (node : NodeId) where
  -- the clauses of the `switch`
  abbrev pub clauses_here : Table → List (Option ℕ × List ℕ)
  clauses_here t = clauses_of (node_in t (node_among c.units.items f.tree node))

  -- ---- its cases

  -- the clause of this number is a case, and this is its expression
  abbrev pub IsCase : ℕ → NodeId → Type 0
  IsCase at test = option_and_then (λ (x : Clause). x.test) (slice_get (clauses_in (node_among c.units.items f.tree node)) at) ≡ Some test

  -- this is the first case from the clause of a number on; without one the clauses from `default` on come
  abbrev pub NextCase : ℕ → Option Case → Type 0
  NextCase from o = (t : Table) (v : Value) (env : Env) → switch_cases v (clauses_here t) (drop from (clauses_here t)) env ≡ case_goes v (clauses_here t) o env

  -- what follows the value of the `switch`: all cases
  abbrev pub sought_then : Table → Env → Completion → Act
  sought_then t env = then_value (switch_value (clauses_here t) env)

  -- what is left while no case before the clause of a number was equal: the cases from there on
  abbrev pub cases_left : Numbered → ℕ → Table → Env → Act
  cases_left v at t env = switch_cases (value_in t v) (clauses_here t) (drop at (clauses_here t)) env

  -- what follows the value of the case of a number: its comparison with the value of the `switch`
  abbrev pub case_then : Numbered → ℕ → Table → Env → Completion → Act
  case_then v at t env = then_value (after_case (value_in t v) (clauses_here t) (drop at (clauses_here t)) env)

  -- ---- its statements

  -- what is left once the case of a number was equal: the statements of the clauses from there on
  abbrev pub clauses_left : ℕ → Table → Env → Act
  clauses_left at t env = switch_from (statements_of (drop at (clauses_here t))) env

  -- what is left once no case was equal: the statements of the clauses from `default` on
  abbrev pub default_left : Table → Env → Act
  default_left t env = switch_from (statements_of (from_default (clauses_here t))) env

  -- among the statements of all clauses those from the one of a number on
  abbrev pub statements_left : ℕ → Table → Env → Act
  statements_left at t env = switch_from (drop at (statements_of (clauses_here t))) env

  -- what follows a statement: those from the one of a number on, if it ends normally
  abbrev pub statement_then : ℕ → Table → Env → Completion → Act
  statement_then next t env = switch_next (statements_left next t env)

  -- among the statements of all clauses the first one from a clause on has this number
  abbrev pub BeginsAt : ℕ → ℕ → Type 0
  BeginsAt clause at = (t : Table) (env : Env) → clauses_left clause t env ≡ statements_left at t env

  -- among the statements of all clauses the first one from `default` on has this number
  abbrev pub DefaultsAt : ℕ → Type 0
  DefaultsAt at = (t : Table) (env : Env) → default_left t env ≡ statements_left at t env

-- how a `switch` ends by a statement that didn't end normally: a `break` without a label ends it
abbrev pub switch_end : Said → Said
switch_end (completions.Breaks None) = completions.Normal
switch_end e = e
