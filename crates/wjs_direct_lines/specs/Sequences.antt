-- What a frame does behind an element of a sequence.
use Rattle.std.specs.Prelude.{ℕ, drop}
use Rattle.wjs_base.specs.Text.{Table}
use Rattle.wjs_store.specs.Meaning.{Meaning}
use Rattle.wjs_meaning.specs.Deeds.{Act, Completion, Env}
use Rattle.wjs_meaning.specs.Reading.{node_in}
use Rattle.wjs_model.specs.declared.config.Config.{Config}
use Rattle.wjs_model.specs.declared.frame.Activation.{Activation as Frame}
use Rattle.wjs_frames.specs.Parts.{node_now}
use Rattle.wjs_effects.specs.declared.elements.Sequence.{Sequence}
use Rattle.wjs_effects.specs.Sequences.{element_next, elements_from, elements_in}

-- the elements from a number on, behind the end of the one before it
abbrev pub behind : {S : Type 0} → (S → Meaning) → Config S → Frame → Sequence → ℕ → Table → Env → Completion → Act
behind meaning c f kind next t env = element_next kind (elements_from kind (drop next (elements_in kind (node_in t (node_now meaning c f)))) env)
