use Rattle.wjs_step_common.proofs.Following.{follows_as}
use Rattle.wjs_by_content.specs.Tables.{value_in}
use Rattle.wjs_meaning.specs.Deeds.{Gives}
use Rattle.wjs_model.specs.Contents.{value_held}
use Rattle.wjs_frames.specs.Parts.{env_in}
use Rattle.wjs_operators.proofs.Operators.{first_calculates}
use Rattle.wjs_operators.proofs.operations.operand_first.Goals as goal

pub returns-in_default : goal.returns-in_default
returns-in_default g c =
    let t = c.calculate_left.new.config.heap.texts in
    let env = env_in g.S.WorldStore.meaning c.args.config.now t c.args.frame in
    follows_as _ _ _ _ _ _ (λ grows. first_calculates (value_in t (value_held c.args.frame.held)) env (Gives (value_in t c.args.value)) c.args.operator (record {
      add = c.in_default.not-Add;
      less = c.in_default.not-Less;
      greater = c.in_default.not-Greater;
      less_equal = c.in_default.not-LessEqual;
      greater_equal = c.in_default.not-GreaterEqual;
      equal = c.in_default.not-Equal;
      not_equal = c.in_default.not-NotEqual;
      among = c.in_default.not-In;
    })) c.calculate_left.ensures
