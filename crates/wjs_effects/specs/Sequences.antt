-- Statements and elements that follow one another: how far a block, a function's body or a program has come, and what is left of it.
use Rattle.std.specs.Prelude.{◌≡◌, ℕ, ◌+◌, List, [], ◌∷◌, drop, Option, None, Some}
use Rattle.wjs_base.specs.declared.ids.NodeId.{NodeId}
use Rattle.wjs_base.specs.declared.values.Value.{Value as Numbered}
use Rattle.wjs_base.specs.declared.values.Value.TheVariants as values
use Rattle.wjs_base.specs.Text.{Table}
use Rattle.wjs_store.specs.Meaning.{Meaning}
use Rattle.wjs_meaning.specs.Deeds.{Env, Act, Ret, Completion, then_normal}
use Rattle.wjs_meaning.specs.Functions.{body_from, body_next, program_from}
use Rattle.wjs_meaning.specs.Reading.{node_in}
use Rattle.wjs_meaning.specs.Statements.{block_from}
use Rattle.wjs_meaning.specs.Trees.{Node, elements_of}
use Rattle.wjs_model.specs.declared.config.Config.{Config}
use Rattle.wjs_model.specs.declared.frame.Activation.{Activation as Frame}
use Rattle.wjs_model.specs.declared.frame.Completion.{Completion as NumberedCompletion}
use Rattle.wjs_model.specs.declared.frame.Completion.TheVariants as completions
use Rattle.wjs_model.specs.declared.point.CallPoint.TheVariants as call
use Rattle.wjs_model.specs.declared.point.StmtPoint.TheVariants as stmt
use Rattle.wjs_model.specs.declared.point.Point.{Point}
use Rattle.wjs_model.specs.declared.point.Point.TheVariants as points
use Rattle.wjs_model.specs.Contents.{completion_in}
use Rattle.wjs_model.specs.Lists.{block_items, program_elements}
use Rattle.wjs_model.specs.Soundness.{HasCompletion}
use Rattle.wjs_model.specs.Standing.{IsFunction}
use Rattle.wjs_frames.specs.Parts.{env_in, node_now}
use Rattle.wjs_effects.specs.declared.elements.Sequence.{Sequence}
use Rattle.wjs_effects.specs.declared.elements.Sequence.TheVariants.{Block, Function, Program}
use Rattle.wjs_effects.specs.declared.sequences.Reached.{Reached}
use Rattle.wjs_effects.specs.declared.sequences.Reached.TheVariants.{Next, Ended}

-- ---- sequences of each kind

abbrev pub elements_in : Sequence → Node → List ℕ
elements_in Block node = block_items node
elements_in Function node = elements_of node
elements_in Program node = program_elements node

-- the elements in order
abbrev pub elements_from : Sequence → List ℕ → Env → Act
elements_from Block elements env = block_from elements env
elements_from Function elements env = body_from elements env
elements_from Program elements env = program_from elements env

-- after an element
abbrev pub element_next : Sequence → Act → Completion → Act
element_next Block rest = then_normal rest
element_next Function rest = body_next rest
element_next Program rest = then_normal rest

-- how one ends past its last element
abbrev pub sequence_end : Sequence → NumberedCompletion
sequence_end Block = completions.Normal
sequence_end Function = completions.Gives values.Undefined
sequence_end Program = completions.Normal

-- and how by a return
abbrev pub returned : Sequence → Numbered → NumberedCompletion
returned Block v = completions.Returns v
returned Function v = completions.Gives v
returned Program v = completions.Returns v

-- where its frame waits for the element before the one of a number
abbrev pub element_point : Sequence → ℕ → Point
element_point Block next = points.Stmt (stmt.BlockStatement next)
element_point Function next = points.Call (call.BodyElement next)
element_point Program next = points.Call (call.ProgramElement next)

-- a function's body runs in the scope that was made for it
abbrev pub SequenceStands : {S : Type 0} → Config S → Frame → Sequence → Type 0
SequenceStands c f Block = Unit {0}
SequenceStands c f Function = IsFunction c.units.items c.heap.arena f.tree f.node f.scope 1
SequenceStands c f Program = Unit {0}

-- ---- the elements from a number on

-- they begin with this one; none where there is none
abbrev pub NextIs : List ℕ → ℕ → Option NodeId → Type 0
NextIs elements at None = drop at elements ≡ []
NextIs elements at (Some s) = drop at elements ≡ s.0 ∷ drop (at + 1) elements

-- ---- how far one has come

abbrev pub reached_in : Sequence → Table → Node → Env → Reached → Act
reached_in kind t node env (Next at) = elements_from kind (drop at (elements_in kind node)) env
reached_in kind t node env (Ended e) = Ret (completion_in t e)

-- where a frame is run
abbrev pub sequence_left : {S : Type 0} → (S → Meaning) → Config S → Frame → Sequence → Reached → Table → Act
sequence_left meaning c f kind at t = reached_in kind t (node_in t (node_now meaning c f)) (env_in meaning c t f) at

-- an end names what is there
abbrev pub HasReached : {S : Type 0} → Config S → Reached → Type 0
HasReached c (Next at) = Unit {0}
HasReached c (Ended e) = HasCompletion c e
