-- Within the body of a loop, a block: its entry, its statements one after another, and its end.
use Rattle.std.proofs.Common.{◌≡◌, ℕ, suc, ◌+◌, None, Some, refl, sym, ap, subst, drop}
use Rattle.std.specs.Prelude.{OnOk, slice_get}
use Rattle.wjs_base.specs.declared.ids.NodeId.{NodeId}
use Rattle.wjs_base.specs.Text.{Table, Grows}
use Rattle.wjs_store.specs.Meaning.{Meaning}
use Rattle.wjs_tree.specs.declared.node.Node.{Node as NumberedNode}
use Rattle.wjs_tree.specs.declared.node.Node.TheVariants as nodes
use Rattle.wjs_meaning.specs.Deeds.{Env, Goal, AtStmt, Completion, Normal, Act, Ret, Eval, Sub, interp, node_here, then_normal}
use Rattle.wjs_meaning.specs.Programs.{eval, entry}
use Rattle.wjs_meaning.specs.Reading.{node_in}
use Rattle.wjs_meaning.specs.Statements.{block_from, stmt_of}
use Rattle.wjs_meaning.specs.Trees.{Node}
use Rattle.wjs_model.specs.declared.config.Config.{Config}
use Rattle.wjs_model.specs.declared.frame.Activation.{Activation as Frame}
use Rattle.wjs_model.specs.Contents.{holding_in}
use Rattle.wjs_model.specs.Lists.{block_items}
use Rattle.wjs_frames.specs.Doing.{Does}
use Rattle.wjs_frames.specs.Following.{Follows, Later}
use Rattle.wjs_frames.specs.Parts.{env_in, node_among}
use Rattle.wjs_frames.proofs.Handling.{env_later}
use Rattle.wjs_frames.proofs.Paying.{step_paid}
use Rattle.wjs_frames.proofs.Places.{node_same}
use Rattle.wjs_frames.proofs.Shorter.{follows_shorter, follows_ret}
use Rattle.wjs_step_common.specs.Lists.{statements_in}
use Rattle.wjs_step_common.proofs.Following.{follows_as}
use Rattle.wjs_step_common.proofs.Parts.{block_at, block_end}
use Rattle.wjs_quick.proofs.Coming.{shorten_goal}
use Rattle.wjs_effects.specs.Proceeding.{Proceeds}

-- a block begins with its first statement
block_first : (t : Table) (here : ℕ) (env : Env) (n : NumberedNode) (at : ℕ) (s : NodeId) → slice_get (statements_in n) at ≡ Some s
    → stmt_of here (node_in t n) env ≡ block_from (drop 0 (block_items (node_in t n))) env
block_first t here env (nodes.Block ss) at s e = refl
block_first t here env _ at s e = absurd (cc)

-- the lines of a block at hand
module _ {S : Type 0} (meaning : S → Meaning) (c : Config S) (f : Frame) (block : NodeId) (t : Table) where
  abbrev node : NumberedNode
  node = node_among c.units.items f.tree block

  abbrev env : Env
  env = env_in meaning c t f

  pub block_here : node_here env block.0 ≡ node_in t node
  block_here = node_same t c.units.items f.tree block

  -- its entry
  pub block_entry : (at : ℕ) (s : NodeId) → slice_get (statements_in node) at ≡ Some s → entry (AtStmt block.0) env ≡ block_from (drop 0 (block_items (node_here env block.0))) env
  block_entry at s e = subst (λ (n : Node). stmt_of block.0 n env ≡ block_from (drop 0 (block_items n)) env) (sym block_here) (block_first t block.0 env node at s e)

  -- the next statement is entered
  pub block_next : (at next : ℕ) (s : NodeId) → next ≡ at + 1 → slice_get (statements_in node) at ≡ Some s
      → Eval (AtStmt s.0) env (then_normal (block_from (drop next (block_items (node_here env block.0))) env)) ≡ block_from (drop at (block_items (node_here env block.0))) env
  block_next at next s en e =
      subst (λ (n : Node). Eval (AtStmt s.0) env (then_normal (block_from (drop next (block_items n)) env)) ≡ block_from (drop at (block_items n)) env) (sym block_here)
      (block_at t block.0 (holding_in t f.held) env node at next s en e)

  -- there is none
  pub block_past : (at : ℕ) → slice_get (statements_in node) at ≡ None → Ret Normal ≡ block_from (drop at (block_items (node_here env block.0))) env
  block_past at e = subst (λ (n : Node). Ret Normal ≡ block_from (drop at (block_items n)) env) (sym block_here) (block_end t block.0 (holding_in t f.held) env node at e)

module _ {S : Type 0} (meaning : S → Meaning) where
  -- nested deeds that are at their end
  pub proceeds_ended : (all rest : Table → Act) (answer : Table → Completion) (go : Table → Completion → Act) (c : Config S) → ((t : Table) → Grows c.heap.texts t → all t ≡ Sub (Ret (answer t)) (go t))
      → ((t : Table) → Grows c.heap.texts t → go t (answer t) ≡ rest t) → Proceeds meaning all rest c c
  proceeds_ended all rest answer go c at same = record {
    by = λ later r h.
        let t = later.heap.texts in
        follows_as meaning (Sub (Ret (answer t)) (go t)) (all t) c later r (λ grows. sym (at t grows))
        (follows_ret meaning (answer t) (go t) c later r (follows_as meaning (rest t) (go t (answer t)) c later r (λ grows. sym (same t grows)) h));
  }

  -- where a frame is run
  module _ (f : Frame) where
    -- a step, and then the entry of its goal, nested before what comes after it
    pub proceeds_entered : (goal : Goal) (act : Table → Env → Act) (go : Table → Env → Completion → Act) (old : Config S) (left : ℕ) → old.left ≡ suc left
        → ((t : Table) → entry goal (env_in meaning old t f) ≡ act t (env_in meaning old t f))
        → Proceeds meaning (λ t. Eval goal (env_in meaning old t f) (go t (env_in meaning old t f))) (λ t. Sub (act t (env_in meaning old t f)) (go t (env_in meaning old t f))) old (record old { left = left })
    proceeds_entered goal act go old left el is = record {
      by = λ later r h.
          let t = later.heap.texts in
          let env = env_in meaning old t f in
          step_paid meaning goal env (go t env) (Sub (act t env) (go t env)) old later left r el (λ st n. ap (λ (a : Act). interp eval (Sub a (go t env)) st n) (is t)) h;
    }

    -- a statement, and then what follows its end, nested
    pub proceeds_nested : (s : NodeId) (answer : Table → Completion) (more go : Table → Env → Completion → Act) (old mid : Config S)
        → Does meaning (λ t k. Eval (AtStmt s.0) (env_in meaning old t f) k) answer old mid → Later meaning old mid
        → Proceeds meaning (λ t. Sub (Eval (AtStmt s.0) (env_in meaning old t f) (more t (env_in meaning old t f))) (go t (env_in meaning old t f))) (λ t. Sub (more t (env_in meaning mid t f) (answer t)) (go t (env_in meaning mid t f))) old mid
    proceeds_nested s answer more go old mid d l = record {
      by = λ later r h.
          let t = later.heap.texts in
          let env = env_in meaning old t f in
          let P : Env → Type 0 = λ e. OnOk r (Follows meaning (Sub (more t e (answer t)) (go t e)) mid later) in
          follows_shorter meaning (Sub (Eval (AtStmt s.0) env (more t env)) (go t env)) (Eval (AtStmt s.0) env (λ e. Sub (more t env e) (go t env))) old later r (shorten_goal (AtStmt s.0) env (more t env) (go t env))
          (d.by (λ e. Sub (more t env e) (go t env)) later r (subst P (env_later meaning old mid t f l) h));
    }
