-- What is left to do of a configuration, and in how many turns.
use Rattle.std.specs.Prelude.{ℕ, suc, ◌+◌, ◌-◌, List, [], ◌∷◌, ◌++◌, drop, Option, None, Some}
use Rattle.wjs_base.specs.declared.ids.ObjId.{ObjId}
use Rattle.wjs_by_content.specs.Values.{Value, Object, value_or_undefined}
use Rattle.wjs_by_content.specs.Names.{slot, index_name}
use Rattle.wjs_meaning.specs.Trees.{Node}
use Rattle.wjs_meaning.specs.Deeds.{St, Env, Completion, Normal, Act, Ret, Tick, Eval, Sub, Do, Read, Outcome, Ends, interp, then_do, answer_of, state_after, node_here}
use Rattle.wjs_meaning.specs.Properties.{get_value}
use Rattle.wjs_meaning.specs.Calls.{call}
use Rattle.wjs_meaning.specs.Conversions.{HintString, HintNumber, to_primitive, to_number, to_text, to_integer}
use Rattle.wjs_meaning.specs.Functions.{body_of, program_of}
use Rattle.wjs_meaning.specs.Operators.{operate}
use Rattle.wjs_meaning.specs.Expressions.{expr_of, target_of}
use Rattle.wjs_meaning.specs.Statements.{vars_from, stmt_of, again_of}
use Rattle.wjs_meaning.specs.NativesOfObjects.{apply_from, text_of, value_at}
use Rattle.wjs_meaning.specs.NativesOfTexts.{glue_from, joined}
use Rattle.wjs_meaning.specs.Natives.{native_of}
use Rattle.wjs_meaning.specs.Programs.{eval, Ending, Done, run_next}
use Rattle.wjs_model.specs.declared.point.Conversion.{Conversion}
use Rattle.wjs_model.specs.declared.point.Conversion.TheVariants as to
use Rattle.wjs_model.specs.declared.point.Start.{Start}
use Rattle.wjs_model.specs.declared.point.Start.TheVariants as starts
use Rattle.wjs_model.specs.declared.point.Point.{Point}
use Rattle.wjs_model.specs.Frames.{last, front}
use Rattle.wjs_model.specs.Contents.{Frame, Holding, Moment, Due, Ready, Waiting, Given, Entering, Run, env_of}
use Rattle.wjs_model.specs.Operands.{with_operand}
use Rattle.wjs_model.specs.Lists.{variables_of}
use Rattle.wjs_model.specs.Waiting.{after}

-- ---- what a frame begins with, after the step that is due or at once

abbrev pub call_if : Value → Value → List Value → Env → Act
call_if (Object f) this args env = call f this args env
call_if v this args env = Ret Normal

abbrev pub begin_conversion : Conversion → Value → Env → Act
begin_conversion to.TextFirst v env = to_primitive HintString v env
begin_conversion to.NumberFirst v env = to_primitive HintNumber v env
begin_conversion to.Number v env = to_number v env
begin_conversion to.Text v env = to_text v env
begin_conversion to.Integer v env = to_integer v env

-- `apply` reads element i
abbrev pub apply_next_to : ℕ → Value → Value → List Value → ObjId → ℕ → Env → Act
apply_next_to i (Object f) this vs o count env = get_value o (index_name i) env (λ v. apply_from (count - (i + 1)) (i + 1) (vs ++ v ∷ []) o f this env)
apply_next_to i v this vs o count env = Ret Normal

abbrev pub apply_next : ℕ → Holding → Env → Act
apply_next i held env = apply_next_to i held.callee.0 held.callee.1 held.values held.elements.0 held.elements.1 env

-- `glue` reads slot i; the separator is held, and then what was read, with the separator behind each
abbrev pub glue_next : ℕ → Holding → Env → Act
glue_next i held env = Do (Read env.world (slot held.elements.0 (index_name i))) (λ found.
    glue_from (held.elements.1 - (i + 1)) (i + 1) (joined (drop 1 (held.values ++ value_or_undefined found ∷ []))) (text_of held.value) held.elements.0 env)

-- one line per start
abbrev pub begin_at : Start → ℕ → Node → Holding → Env → Act
begin_at starts.Expr here node held env = expr_of here node env
begin_at starts.Target here node held env = target_of here node env
begin_at (starts.Operation op) here node held env = operate op (value_at held.values 0) (value_at held.values 1) env
begin_at starts.Stmt here node held env = stmt_of here node env
begin_at starts.Again here node held env = again_of here node env
begin_at starts.Variables here node held env = vars_from here 0 (variables_of node) env
begin_at starts.Program here node held env = program_of env
begin_at (starts.Body f) here node held env = body_of f held.values env
begin_at (starts.Convert conversion) here node held env = begin_conversion conversion held.value env
begin_at starts.Call here node held env = call_if held.callee.0 held.callee.1 held.values env
begin_at (starts.Native k new) here node held env = native_of k new held.values env
begin_at (starts.ApplyElement i) here node held env = apply_next i held env
begin_at (starts.GlueElement i) here node held env = glue_next i held env

abbrev pub begin : Run → Frame → Start → Act
begin run f start = begin_at start f.node (node_here (env_of run f) f.node) f.held (env_of run f)

-- ---- the frames

-- what a frame does at a point with a completion
abbrev pub given : Run → Frame → Point → Completion → Act
given run f point = after point f.node (node_here (env_of run f) f.node) f.held (env_of run f)

-- what a frame does next; on top none waits, and one that did would be given Normal
abbrev pub act_at : Run → Frame → Moment → Act
act_at run f (Due start) = Tick (begin run f start)
act_at run f (Ready start) = begin run f start
act_at run f (Waiting point) = given run f point Normal
act_at run f (Given point c) = given run f point c
act_at run f (Entering point o) = Tick (with_operand o (env_of run f) (given run f point))

-- the frame above has ended with a completion: what waited for it goes on with it, and all else as it was to
abbrev pub resumed : Moment → Completion → Moment
resumed (Waiting point) c = Given point c
resumed moment c = moment

abbrev pub act_after : Run → Frame → Completion → Act
act_after run f c = act_at run f (resumed f.moment c)

abbrev pub act_of : Run → Frame → Act
act_of run f = act_at run f f.moment

-- what follows a completion
abbrev pub Go : Type 0
Go = Completion → St → ℕ → Outcome

-- what the frames do with a completion, the last of them first
abbrev pub under : Run → List Frame → Go → Go
under run [] go = go
under run (f ∷ fs) go = under run fs (λ c st n. then_do (interp eval (act_after run f c) st n) go)

-- deeds above frames
abbrev pub rest_over : Run → Act → List Frame → St → ℕ → Outcome
rest_over run act fs st n = then_do (interp eval act st n) (under run fs Ends)

abbrev pub rest_top : Run → List Frame → Option Frame → St → ℕ → Outcome
rest_top run fs None st n = Ends Normal st n
rest_top run fs (Some f) st n = rest_over run (act_of run f) fs st n

-- what is left of a run whose frames these are, from a state with so many steps left
abbrev pub rest_of : Run → List Frame → St → ℕ → Ending × St
rest_of run fs st n = run_next (rest_top run (front fs) (last fs) st n) (λ st' n'. (Done, st'))

-- ---- turns before the next step that is due, or the end

abbrev pub Count : Type 0
Count = Completion → St → ℕ

-- each frame that ends and each that is put on top takes a turn
abbrev pub turns_act : Act → St → Count → ℕ
turns_act (Ret c) st go = suc (go c st)
turns_act (Tick a) st go = 0
turns_act (Eval goal env k) st go = 0
turns_act (Sub a k) st go = suc (turns_act a st (λ c st'. turns_act (k c) st' go))
turns_act (Do deed k) st go = turns_act (k (answer_of deed st)) (state_after deed st) go

abbrev pub turns_under : Run → List Frame → Count → Count
turns_under run [] go = go
turns_under run (f ∷ fs) go = turns_under run fs (λ c st. turns_act (act_after run f c) st go)

abbrev pub turns_over : Run → Act → List Frame → St → ℕ
turns_over run act fs st = turns_act act st (turns_under run fs (λ c st'. 0))

-- where a step is due none; else the frame's own turn, and those that follow
abbrev pub turns_at : Run → List Frame → Frame → Moment → St → ℕ
turns_at run fs f (Due start) st = 0
turns_at run fs f (Entering point o) st = 0
turns_at run fs f moment st = suc (turns_over run (act_at run f moment) fs st)

abbrev pub turns_top : Run → List Frame → Option Frame → St → ℕ
turns_top run fs None st = 1
turns_top run fs (Some f) st = turns_at run fs f f.moment st

abbrev pub turns_of : Run → List Frame → St → ℕ
turns_of run fs st = turns_top run (front fs) (last fs) st
