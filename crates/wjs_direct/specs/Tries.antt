-- Exceptions: what a statement throws, what catches it, and what is left of a `try` behind its block.
use Rattle.std.specs.Prelude.{Option, Result, Ok, Err}
use Rattle.wjs_base.specs.Text.{Table}
use Rattle.wjs_base.specs.declared.ids.NodeId.{NodeId}
use Rattle.wjs_meaning.specs.Deeds.{Act, Completion, Env}
use Rattle.wjs_meaning.specs.Reading.{node_in, number}
use Rattle.wjs_meaning.specs.Statements.{try_block}
use Rattle.wjs_model.specs.declared.config.Config.{Config}
use Rattle.wjs_model.specs.declared.frame.Activation.{Activation as Frame}
use Rattle.wjs_model.specs.declared.frame.Completion.{Completion as Said}
use Rattle.wjs_model.specs.declared.frame.Completion.TheVariants as completions
use Rattle.wjs_model.specs.Lists.{handler_of}
use Rattle.wjs_frames.specs.Parts.{node_among}
use Rattle.wjs_stopping.specs.declared.ends.Broken.{Broken}
use Rattle.wjs_stopping.specs.declared.ends.Broken.TheVariants as ends

-- how a `throw` ends by the completion of its expression
abbrev pub thrown_by : Said → Said
thrown_by (completions.Gives v) = completions.Throws v
thrown_by e = e

-- what was thrown is an end like every other
abbrev pub ended_by : Result Said Broken → Result Said Broken
ended_by (Ok e) = Ok e
ended_by (Err (ends.Throws v)) = Ok (completions.Throws v)
ended_by (Err ends.Stopped) = Err ends.Stopped
ended_by (Err ends.OutOfMemory) = Err ends.OutOfMemory

-- so that nothing is thrown past it
abbrev pub IsCaught : Result Said Broken → Type 0
IsCaught (Ok e) = Unit {0}
IsCaught (Err (ends.Throws v)) = ⊥
IsCaught (Err ends.Stopped) = Unit {0}
IsCaught (Err ends.OutOfMemory) = Unit {0}

-- how a `try` ends by its `finally`
abbrev pub last_by : Said → Said → Said
last_by earlier completions.Normal = earlier
last_by earlier e = e

module _ {S : Type 0} where
  -- what follows the block of a `try`
  abbrev pub caught_here : Config S → Frame → NodeId → Option NodeId → Table → Env → Completion → Act
  caught_here c f node last t env = try_block (handler_of (node_in t (node_among c.units.items f.tree node))) (number last) env
