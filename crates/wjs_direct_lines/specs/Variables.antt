-- The variables that a node declares: what is left of them behind one.
use Rattle.std.specs.Prelude.{◌≡◌, ℕ, List, Option, Some, Result, drop, slice_get}
use Rattle.wjs_base.specs.Text.{Table}
use Rattle.wjs_base.specs.declared.ids.NodeId.{NodeId}
use Rattle.wjs_by_content.specs.Values.{Value}
use Rattle.wjs_store.specs.Meaning.{Meaning}
use Rattle.wjs_tree.specs.declared.node.Declarator.{Declarator}
use Rattle.wjs_tree.specs.declared.node.ForInit.TheVariants as inits
use Rattle.wjs_tree.specs.declared.node.Node.TheVariants as nodes
use Rattle.wjs_meaning.specs.Deeds.{Act, Completion, Env, then_normal}
use Rattle.wjs_meaning.specs.Reading.{node_in}
use Rattle.wjs_meaning.specs.Statements.{vars_from}
use Rattle.wjs_model.specs.declared.config.Config.{Config}
use Rattle.wjs_model.specs.declared.frame.Activation.{Activation as Frame}
use Rattle.wjs_model.specs.declared.frame.Completion.{Completion as Said}
use Rattle.wjs_model.specs.declared.frame.Phase.{Phase}
use Rattle.wjs_model.specs.Contents.{completion_in}
use Rattle.wjs_model.specs.Lists.{variables_of}
use Rattle.wjs_model.specs.Waiting.{after_variable}
use Rattle.wjs_frames.specs.Parts.{node_among}
use Rattle.wjs_effects.specs.Variables.{declarators_in}
use Rattle.wjs_stopping.specs.declared.ends.Broken.{Broken}
use Rattle.wjs_direct_lines.specs.Deeds.{ComesTo, IsNode, line_here}

module _ {S : Type 0} (c : Config S) (f : Frame) (node : NodeId) where
  -- the variable of a number among those that the node declares
  abbrev pub Declares : ℕ → Declarator → Type 0
  Declares at variable = slice_get (declarators_in (node_among c.units.items f.tree node)) at ≡ Some variable

  -- the variables from one of a number on
  abbrev pub variables_left : ℕ → Table → Env → Act
  variables_left at t env = vars_from node.0 at (drop at (variables_of (node_in t (node_among c.units.items f.tree node)))) env

  -- what follows the value of the one of a number
  abbrev pub variable_valued : ℕ → Table → Env → Value → Act
  variable_valued at t env = after_variable node.0 (variables_of (node_in t (node_among c.units.items f.tree node))) at env

module _ {S : Type 0} (meaning : S → Meaning) where
  -- a `for` that begins with variables
  abbrev pub DeclaresFirst : Config S → Frame → NodeId → Option NodeId → Option NodeId → NodeId → Type 0
  DeclaresFirst c f node test update body = (variables : List Declarator) × IsNode meaning c f node (nodes.For (inits.Var variables) test update body)

  -- the deeds came to this, before what is due where they end normally
  abbrev pub GoesNext : (Table → (Completion → Act) → Act) → Frame → (Table → Env → Act) → Result Said Broken → List Frame → Option (Frame × Phase) → Config S → Config S → Type 0
  GoesNext deeds f next done waits top old new = ComesTo meaning deeds (λ end. line_here meaning old f (λ t env. then_normal (next t env) (completion_in t end))) done waits top old new
