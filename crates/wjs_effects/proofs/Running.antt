-- Sequences at their elements.
use Rattle.std.proofs.Common.{◌≡◌, ℕ, zero, suc, ◌+◌, List, [], ◌∷◌, Option, None, Some, refl, sym, ap, ◌∙◌, drop, arith}
use Rattle.std.specs.Prelude.{slice_get}
use Rattle.wjs_base.specs.declared.ids.NodeId.{NodeId}
use Rattle.wjs_base.specs.declared.values.Value.{Value}
use Rattle.wjs_base.specs.Text.{Table}
use Rattle.wjs_tree.specs.declared.node.Node.{Node as NumberedNode}
use Rattle.wjs_tree.specs.declared.node.Node.TheVariants as nodes
use Rattle.wjs_meaning.specs.Deeds.{Env, Act, Ret, Eval, AtStmt, then_normal}
use Rattle.wjs_meaning.specs.Functions.{program_from, body_from, body_next}
use Rattle.wjs_meaning.specs.Reading.{node_in, numbers}
use Rattle.wjs_meaning.specs.Statements.{block_from}
use Rattle.wjs_meaning.specs.Trees.{Node}
use Rattle.wjs_model.specs.declared.frame.Completion.{Completion}
use Rattle.wjs_model.specs.declared.frame.Completion.TheVariants as completions
use Rattle.wjs_model.specs.Contents.{Holding, completion_in}
use Rattle.wjs_model.specs.Lists.{block_items}
use Rattle.wjs_model.specs.Waiting.{after}
use Rattle.wjs_step_common.specs.Lists.{statements_in}
use Rattle.wjs_step_common.proofs.Parts.{each_at, each_past}
use Rattle.wjs_effects.specs.declared.elements.Sequence.{Sequence}
use Rattle.wjs_effects.specs.declared.elements.Sequence.TheVariants as kinds
use Rattle.wjs_effects.specs.Sequences.{elements_in, elements_from, element_next, sequence_end, returned, element_point, NextIs}

-- what stands at a number of a list is the next one
pub next_is : (ss : List NodeId) (i : ℕ) (o : Option NodeId) → o ≡ slice_get ss i → NextIs (numbers ss) i o
next_is ss i None e = each_past (λ (x : NodeId). x.0) ss i (sym e)
next_is ss i (Some s) e = let more : suc i ≡ i + 1 = omega arith in each_at (λ (x : NodeId). x.0) ss i s (sym e) ∙ ap (λ (j : ℕ). s.0 ∷ drop j (numbers ss)) more

-- a statement of a block
pub statement_is : (t : Table) (n : NumberedNode) (i : ℕ) (o : Option NodeId) → o ≡ slice_get (statements_in n) i → NextIs (block_items (node_in t n)) i o
statement_is t (nodes.Block ss) i o e = next_is ss i o e
statement_is t _ zero None e = refl
statement_is t _ (suc i) None e = refl
statement_is t _ i (Some s) e = absurd (cc)

-- the next element
pub element_goes : (kind : Sequence) (elements : List ℕ) (env : Env) (from next s : ℕ) → next ≡ from + 1 → drop from elements ≡ s ∷ drop (from + 1) elements
    → Eval (AtStmt s) env (element_next kind (elements_from kind (drop next elements) env)) ≡ elements_from kind (drop from elements) env
element_goes kinds.Block elements env from next s en es =
    ap (λ (n : ℕ). Eval (AtStmt s) env (then_normal (block_from (drop n elements) env))) en ∙ ap (λ (l : List ℕ). block_from l env) (sym es)
element_goes kinds.Function elements env from next s en es =
    ap (λ (n : ℕ). Eval (AtStmt s) env (body_next (body_from (drop n elements) env))) en ∙ ap (λ (l : List ℕ). body_from l env) (sym es)
element_goes kinds.Program elements env from next s en es =
    ap (λ (n : ℕ). Eval (AtStmt s) env (then_normal (program_from (drop n elements) env))) en ∙ ap (λ (l : List ℕ). program_from l env) (sym es)

-- there is none
pub elements_end : (kind : Sequence) (t : Table) (elements : List ℕ) (env : Env) (from : ℕ) → drop from elements ≡ [] → Ret (completion_in t (sequence_end kind)) ≡ elements_from kind (drop from elements) env
elements_end kinds.Block t elements env from e = ap (λ (l : List ℕ). block_from l env) (sym e)
elements_end kinds.Function t elements env from e = ap (λ (l : List ℕ). body_from l env) (sym e)
elements_end kinds.Program t elements env from e = ap (λ (l : List ℕ). program_from l env) (sym e)

-- what its frame does that waits for an element
pub element_waits : (kind : Sequence) (next here : ℕ) (node : Node) (held : Holding) (env : Env) → after (element_point kind next) here node held env ≡ element_next kind (elements_from kind (drop next (elements_in kind node)) env)
element_waits kinds.Block next here node held env = refl
element_waits kinds.Function next here node held env = refl
element_waits kinds.Program next here node held env = refl

-- after an element that ended normally
pub ends_normally : (kind : Sequence) (t : Table) (rest : Act) → element_next kind rest (completion_in t completions.Normal) ≡ rest
ends_normally kinds.Block t rest = refl
ends_normally kinds.Function t rest = refl
ends_normally kinds.Program t rest = refl

-- after a return
pub ends_returned : (kind : Sequence) (t : Table) (v : Value) (rest : Act) → element_next kind rest (completion_in t (completions.Returns v)) ≡ Ret (completion_in t (returned kind v))
ends_returned kinds.Block t v rest = refl
ends_returned kinds.Function t v rest = refl
ends_returned kinds.Program t v rest = refl

-- after an end that is none, and not normal
pub ends_so : (kind : Sequence) (t : Table) (e : Completion) (rest : Act) → (e ≡ completions.Normal → ⊥) → ((v : Value) → e ≡ completions.Returns v → ⊥) → element_next kind rest (completion_in t e) ≡ Ret (completion_in t e)
ends_so kinds.Block t completions.Normal rest h k = absurd (h refl)
ends_so kinds.Block t e rest h k = refl
ends_so kinds.Function t completions.Normal rest h k = absurd (h refl)
ends_so kinds.Function t (completions.Returns v) rest h k = absurd (k v refl)
ends_so kinds.Function t e rest h k = refl
ends_so kinds.Program t completions.Normal rest h k = absurd (h refl)
ends_so kinds.Program t e rest h k = refl
