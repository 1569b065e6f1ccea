-- Where `for` and `while` are, and what is left of them there.
use Rattle.std.specs.Prelude.{ℕ, drop, Option}
use Rattle.wjs_base.specs.Text.{Table}
use Rattle.wjs_base.specs.declared.ids.NodeId.{NodeId}
use Rattle.wjs_store.specs.Meaning.{Meaning}
use Rattle.wjs_meaning.specs.Deeds.{Env, Act, Ret, Eval, Sub, AtStmt, Completion as Said, node_here, then_value, then_normal}
use Rattle.wjs_meaning.specs.Expressions.{expr_at}
use Rattle.wjs_meaning.specs.Loops.{loop_again, loop_body, loop_test, loop_update}
use Rattle.wjs_meaning.specs.Reading.{number}
use Rattle.wjs_meaning.specs.Statements.{block_from}
use Rattle.wjs_model.specs.declared.config.Config.{Config}
use Rattle.wjs_model.specs.declared.frame.Activation.{Activation as Frame}
use Rattle.wjs_model.specs.Contents.{completion_in}
use Rattle.wjs_model.specs.Lists.{block_items}
use Rattle.wjs_model.specs.Soundness.{HasCompletion, StandsHere, StandsIf}
use Rattle.wjs_frames.specs.Parts.{env_in}
use Rattle.wjs_loops.specs.declared.rounds.Position.{Position}
use Rattle.wjs_loops.specs.declared.rounds.Position.TheVariants.{Again, Test, Body, Within, Update, Ended}

-- the test was entered by the iteration's step; so was a body that the loop is within, or by a step of its own
abbrev pub position_in : Table → ℕ → Env → Position → Act
position_in t here env Again = loop_again here env
position_in t here env (Test e u s) = Sub (expr_at e.0 env) (then_value (loop_test here (number u) s.0 env))
position_in t here env (Body u s) = Eval (AtStmt s.0) env (loop_body here (number u) env)
position_in t here env (Within u s at) = Sub (block_from (drop at (block_items (node_here env s.0))) env) (loop_body here (number u) env)
position_in t here env (Update u) = loop_update here (number u) env
position_in t here env (Ended e) = Ret (completion_in t e)

-- where a frame is run
abbrev pub position_left : {S : Type 0} → (S → Meaning) → Config S → Frame → Position → Table → Act
position_left meaning c f at t = position_in t f.node.0 (env_in meaning c t f) at

-- after a statement of the body, a block, before the one of a number
abbrev pub within_after : {S : Type 0} → (S → Meaning) → Config S → Frame → Option NodeId → NodeId → ℕ → Table → Said → Act
within_after meaning c f u s next t e =
    let env = env_in meaning c t f in
    Sub (then_normal (block_from (drop next (block_items (node_here env s.0))) env) e) (loop_body f.node.0 (number u) env)

-- the parts that come next stand there, and an end names what is there
abbrev pub HasPosition : {S : Type 0} → Config S → Frame → Position → Type 0
HasPosition c f Again = Unit {0}
HasPosition c f (Test e u s) = StandsHere c f e × (StandsIf c f u × StandsHere c f s)
HasPosition c f (Body u s) = StandsIf c f u × StandsHere c f s
HasPosition c f (Within u s at) = StandsIf c f u × StandsHere c f s
HasPosition c f (Update u) = StandsIf c f u
HasPosition c f (Ended e) = HasCompletion c e
