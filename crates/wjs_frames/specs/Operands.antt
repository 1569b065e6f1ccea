-- Parts that are operands.
use Rattle.std.specs.Prelude.{◌≡◌, ℕ}
use Rattle.wjs_base.specs.Text.{Table}
use Rattle.wjs_store.specs.Meaning.{Meaning}
use Rattle.wjs_meaning.specs.Deeds.{St, Completion, Act, Sub, interp}
use Rattle.wjs_meaning.specs.Programs.{eval, entry}
use Rattle.wjs_model.specs.declared.config.Config.{Config}
use Rattle.wjs_model.specs.declared.operand.Operand.{Operand}
use Rattle.wjs_model.specs.declared.frame.Activation.{Activation as Frame}
use Rattle.wjs_model.specs.Contents.{operand_in}
use Rattle.wjs_model.specs.Operands.{with_operand}
use Rattle.wjs_model.specs.Soundness.{HasOperand}
use Rattle.wjs_frames.specs.declared.part.Part.{Part}
use Rattle.wjs_frames.specs.Parts.{goal_of, env_in}

module _ {S : Type 0} (meaning : S → Meaning) (c : Config S) (f : Frame) (p : Part) where
  -- where the frame is run the entry of the part does what the operand does, with whatever follows
  pub record IsOperand (o : Operand) : Type 0 where
    pub has : HasOperand c o
    pub does : (t : Table) (go : Completion → Act) (st : St) (n : ℕ)
        → let env = env_in meaning c t f in interp eval (Sub (entry (goal_of p) env) go) st n ≡ interp eval (with_operand (operand_in t o) env go) st n
