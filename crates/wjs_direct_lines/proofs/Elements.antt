-- Statements and elements that follow one another, evaluated one after the other.
use Rattle.std.proofs.Common.{◌≡◌, ℕ, ◌+◌, List, Vec, Global, refl, sym, ap, ◌∙◌, subst, drop}
use Rattle.std.specs.Prelude.{Option, None, Some, Result, Ok, OnOk}
use Rattle.wjs_base.specs.declared.ids.NodeId.{NodeId}
use Rattle.wjs_base.specs.Text.{Table}
use Rattle.wjs_store.specs.Meaning.{Meaning}
use Rattle.wjs_tree.specs.declared.node.Node.{Node}
use Rattle.wjs_tree.specs.declared.node.Node.TheVariants as nodes
use Rattle.wjs_meaning.specs.Deeds.{Env, AtStmt, Completion, Act, Ret, Eval, Sub, then_normal}
use Rattle.wjs_meaning.specs.Reading.{node_in}
use Rattle.wjs_meaning.specs.Statements.{block_from, stmt_of}
use Rattle.wjs_model.specs.declared.config.Config.{Config}
use Rattle.wjs_model.specs.declared.frame.Activation.{Activation as Frame}
use Rattle.wjs_model.specs.declared.frame.Completion.{Completion as Said}
use Rattle.wjs_model.specs.declared.frame.Completion.TheVariants as completions
use Rattle.wjs_model.specs.declared.loaded.LoadedProgram.{LoadedProgram as Program}
use Rattle.wjs_model.specs.declared.frame.Phase.{Phase}
use Rattle.wjs_model.specs.Contents.{completion_in}
use Rattle.wjs_model.specs.Lists.{block_items}
use Rattle.wjs_frames.specs.Following.{Follows, Later}
use Rattle.wjs_frames.specs.Parts.{env_in, node_among}
use Rattle.wjs_frames.specs.Shortening.{Shortens}
use Rattle.wjs_frames.proofs.Handling.{env_later}
use Rattle.wjs_quick.proofs.Coming.{shorten_goal}
use Rattle.wjs_effects.specs.declared.elements.Sequence.{Sequence}
use Rattle.wjs_effects.specs.Sequences.{NextIs, element_next, elements_from, elements_in, sequence_end}
use Rattle.wjs_effects.proofs.Leaving.{follows_when, shorten_as}
use Rattle.wjs_effects.proofs.Running.{element_goes, elements_end, ends_normally}
use Rattle.wjs_stopping.specs.declared.ends.Broken.{Broken}
use Rattle.wjs_stopping.specs.Evaluating.{Evaluates, Leaves}
use Rattle.wjs_stopping.proofs.Evaluating.{in_memory, leaves_all}
use Rattle.wjs_direct_lines.specs.Deeds.{form_here, goal_here, line_here}
use Rattle.wjs_direct_lines.proofs.Forming.{line_ended, line_moved}
use Rattle.wjs_direct_lines.proofs.Parts.{line_form}

-- after a statement of a block that ended otherwise than normally
pub not_normal : (t : Table) (e : Said) (rest : Act) → (e ≡ completions.Normal → ⊥) → then_normal rest (completion_in t e) ≡ Ret (completion_in t e)
not_normal t completions.Normal rest h = absurd (h refl)
not_normal t e rest h = refl

-- a block from its first statement on
pub block_begins : (t : Table) (n : Node) (statements : List NodeId) (here : ℕ) (env : Env) → n ≡ nodes.Block statements → stmt_of here (node_in t n) env ≡ block_from (drop 0 (block_items (node_in t n))) env
block_begins t n statements here env e = subst (λ (x : Node). stmt_of here (node_in t x) env ≡ block_from (drop 0 (block_items (node_in t x))) env) (sym e) refl

module _ {S : Type 0} (meaning : S → Meaning) (kind : Sequence) (f : Frame) (node : NodeId) where
  -- the elements from a number on
  abbrev pub rest_from : Config S → ℕ → Table → Env → Act
  rest_from c at t env = elements_from kind (drop at (elements_in kind (node_in t (node_among c.units.items f.tree node)))) env

  -- what is done of them is done of them where they began
  pub rest_moved : {A : Type 0} (said : Table → A → Completion) (old mid new : Config S) (at : ℕ) (done : Result A Broken) (w : List Frame) (p : Option (Frame × Phase)) → Later meaning old mid
      → Evaluates meaning (line_here meaning mid f (rest_from mid at)) said done w p mid new → Evaluates meaning (line_here meaning old f (rest_from old at)) said done w p mid new
  rest_moved said old mid new at done w p l d =
      subst (λ (us : Vec Program Global). Evaluates meaning (line_here meaning old f (λ t env. elements_from kind (drop at (elements_in kind (node_in t (node_among us.items f.tree node)))) env)) said done w p mid new) l.units
      (line_moved meaning said old mid new f (rest_from mid at) done w p l d)

  pub rest_all : {A : Type 0} (said : Table → A → Completion) (old mid new : Config S) (from at : ℕ) (done : Result A Broken) (w : List Frame) (p : Option (Frame × Phase)) → Later meaning old mid
      → Leaves meaning (line_here meaning old f (rest_from old from)) (line_here meaning old f (rest_from old at)) old mid
      → Evaluates meaning (line_here meaning mid f (rest_from mid at)) said done w p mid new → Evaluates meaning (line_here meaning old f (rest_from old from)) said done w p old new
  rest_all said old mid new from at done w p l first d = in_memory done (leaves_all meaning _ _ _ old mid new first) (rest_moved said old mid new at done w p l d)

  -- the element of a number
  module _ (c new : Config S) (at next : ℕ) (s : NodeId) (w : List Frame) (p : Option (Frame × Phase)) (en : next ≡ at + 1)
      (is : (t : Table) → NextIs (elements_in kind (node_in t (node_among c.units.items f.tree node))) at (Some s)) where
    abbrev pub element_then : Table → Env → Completion → Act
    element_then t env = element_next kind (rest_from c next t env)

    goes : (t : Table) (env : Env) → rest_from c at t env ≡ Eval (AtStmt s.0) env (element_then t env)
    goes t env = sym (element_goes kind (elements_in kind (node_in t (node_among c.units.items f.tree node))) env at next s.0 en (is t))

    pub element_form : {A : Type 0} (said : Table → A → Completion) (done : Result A Broken) → Evaluates meaning (form_here meaning c f (AtStmt s.0) element_then) said done w p c new
        → Evaluates meaning (line_here meaning c f (rest_from c at)) said done w p c new
    element_form said done d = line_form meaning said c new f (rest_from c at) done w p (AtStmt s.0) element_then (λ t more. goes t (env_in meaning c t f)) d

    -- it ended normally
    element_left : Evaluates meaning (goal_here meaning c f (AtStmt s.0)) completion_in (Ok completions.Normal) w p c new → Leaves meaning (line_here meaning c f (rest_from c at)) (line_here meaning c f (rest_from c next)) c new
    element_left d = record {
      by = λ go later r h.
          let t = later.heap.texts in
          let env = env_in meaning c t f in
          follows_when meaning c later r (Sub (rest_from c at t env) go) (Eval (AtStmt s.0) env (λ e. Sub (element_then t env e) go))
          (λ more. subst (λ (x : Act). Shortens (Sub x go) (Eval (AtStmt s.0) env (λ e. Sub (element_then t env e) go))) (sym (goes t env)) (shorten_goal (AtStmt s.0) env (element_then t env) go))
          (d.by (λ e. Sub (element_then t env e) go) later r
          (subst (λ (x : Act). OnOk r (Follows meaning (Sub x go) new later)) (sym (ends_normally kind t (rest_from c next t env))) h));
    }

    left_moved : (old : Config S) → Later meaning old c → Leaves meaning (line_here meaning c f (rest_from c at)) (line_here meaning c f (rest_from c next)) c new
        → Leaves meaning (line_here meaning old f (rest_from old at)) (line_here meaning old f (rest_from old next)) c new
    left_moved old l d =
        let R : Vec Program Global → ℕ → Table → Env → Act = λ us k t env. elements_from kind (drop k (elements_in kind (node_in t (node_among us.items f.tree node)))) env in
        subst (λ (us : Vec Program Global). Leaves meaning (line_here meaning old f (R us at)) (line_here meaning old f (R us next)) c new) l.units
        (subst (λ (env : Table → Env). Leaves meaning (λ t go. Sub (rest_from c at t (env t)) go) (λ t go. Sub (rest_from c next t (env t)) go) c new) (λ i t. env_later meaning old c t f l i) d)

    pub element_passed : (old : Config S) (from : ℕ) → Later meaning old c → Leaves meaning (line_here meaning old f (rest_from old from)) (line_here meaning old f (rest_from old at)) old c
        → Evaluates meaning (goal_here meaning c f (AtStmt s.0)) completion_in (Ok completions.Normal) w p c new
        → Leaves meaning (line_here meaning old f (rest_from old from)) (line_here meaning old f (rest_from old next)) old new
    element_passed old from l first d = leaves_all meaning _ _ _ old c new first (left_moved old l (element_left d))

    -- what follows it is done where it ended
    pub then_moved : {A : Type 0} (said : Table → A → Completion) (last : Config S) (e : Said) (done : Result A Broken) (w' : List Frame) (p' : Option (Frame × Phase)) → Later meaning c new
        → Evaluates meaning (line_here meaning new f (λ t env. element_next kind (rest_from new next t env) (completion_in t e))) said done w' p' new last
        → Evaluates meaning (line_here meaning new f (λ t env. element_then t env (completion_in t e))) said done w' p' new last
    then_moved said last e done w' p' l d =
        subst (λ (us : Vec Program Global). Evaluates meaning (line_here meaning new f (λ t env. element_next kind (elements_from kind (drop next (elements_in kind (node_in t (node_among us.items f.tree node)))) env) (completion_in t e))) said done w' p' new last) l.units d

    -- what its frame waits for that stopped
    pub waits_then : Later meaning c new → (t : Table) (env : Env) → element_next kind (rest_from new next t env) ≡ element_then t env
    waits_then l t env = ap (λ (us : Vec Program Global). element_next kind (elements_from kind (drop next (elements_in kind (node_in t (node_among us.items f.tree node)))) env)) l.units

  -- there is none
  pub rest_ended : {A : Type 0} (said : Table → A → Completion) (c : Config S) (at : ℕ) (v : A) (w : List Frame) (p : Option (Frame × Phase)) → ((t : Table) → NextIs (elements_in kind (node_in t (node_among c.units.items f.tree node))) at None)
      → ((t : Table) → said t v ≡ completion_in t (sequence_end kind)) → Evaluates meaning (line_here meaning c f (rest_from c at)) said (Ok v) w p c c
  rest_ended said c at v w p is e =
      line_ended meaning said c f (rest_from c at) v w p (λ t more env.
      shorten_as _ _ (sym (elements_end kind t (elements_in kind (node_in t (node_among c.units.items f.tree node))) env at (is t)) ∙ ap Ret (sym (e t))))
