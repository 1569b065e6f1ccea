-- The lines of calls and `new` from one argument to the next (ECMA-262, 3rd edition, section 11.2.4).
use Rattle.std.proofs.Common.{◌≡◌, ℕ, suc, ◌+◌, List, [], ◌∷◌, ◌++◌, None, Some, sym, ap, ◌∙◌, subst, drop, add-one}
use Rattle.std.specs.Prelude.{slice_get, OnOk}
use Rattle.wjs_base.specs.Text.{Table}
use Rattle.wjs_base.specs.declared.ids.NodeId.{NodeId}
use Rattle.wjs_base.specs.declared.values.Value.{Value as Numbered}
use Rattle.wjs_store.specs.Meaning.{Meaning}
use Rattle.wjs_tree.specs.declared.node.Node.{Node}
use Rattle.wjs_by_content.specs.Tables.{value_in}
use Rattle.wjs_by_content.specs.Values.{Value}
use Rattle.wjs_meaning.specs.Reading.{node_in}
use Rattle.wjs_meaning.specs.Deeds.{Env, Act, Gives, Eval, AtExpr, then_value}
use Rattle.wjs_meaning.specs.Expressions.{values_from, call_values}
use Rattle.wjs_meaning.specs.Constructions.{construct}
use Rattle.wjs_model.specs.declared.config.Config.{Config}
use Rattle.wjs_model.specs.declared.frame.Activation.{Activation as Frame}
use Rattle.wjs_model.specs.declared.frame.Held.TheVariants as holds
use Rattle.wjs_model.specs.Contents.{Holding, holding_in}
use Rattle.wjs_model.specs.Lists.{arguments_of}
use Rattle.wjs_model.specs.Soundness.{HasValue}
use Rattle.wjs_model.specs.Waiting.{call_argument, new_argument}
use Rattle.wjs_frames.specs.Doing.{Does}
use Rattle.wjs_frames.specs.Following.{Follows, Later}
use Rattle.wjs_frames.specs.Handling.{Runs}
use Rattle.wjs_frames.specs.Parts.{env_in, node_now}
use Rattle.wjs_frames.proofs.Handling.{runs_held, runs_later}
use Rattle.wjs_effects.specs.Proceeding.{Proceeds}
use Rattle.wjs_effects.proofs.Proceeding.{proceeds_same, proceeds_twice}
use Rattle.wjs_literals.specs.Arguments.{arguments_in, arguments_left, ArgumentsHeld}
use Rattle.wjs_literals.proofs.Lists.{arguments_at, arguments_past}

-- the values from an argument on
values_next : (args : List ℕ) (i e : ℕ) (vs : List Value) (env : Env) (go : List Value → Act) → drop i args ≡ e ∷ drop (suc i) args →
    values_from (drop i args) vs env go ≡ Eval (AtExpr e) env (then_value (λ v. values_from (drop (i + 1) args) (vs ++ v ∷ []) env go))
values_next args i e vs env go h =
    ap (λ l. values_from l vs env go) h ∙ ap (λ j. Eval (AtExpr e) env (then_value (λ v. values_from (drop j args) (vs ++ v ∷ []) env go))) (sym (add-one i))

module _ (t : Table) (n : Node) (i : ℕ) where
  pub values_end : (vs : List Value) (env : Env) (go : List Value → Act) → slice_get (arguments_in n) i ≡ None → values_from (drop i (arguments_of (node_in t n))) vs env go ≡ go vs
  values_end vs env go h = ap (λ l. values_from l vs env go) (arguments_past t n i h)

  -- a call enters an argument
  pub call_enters : (e : NodeId) (held : Holding) (env : Env) → slice_get (arguments_in n) i ≡ Some e → Eval (AtExpr e.0) env (then_value (call_argument (arguments_of (node_in t n)) i held env)) ≡
      values_from (drop i (arguments_of (node_in t n))) held.values env (call_values held.callee.0 held.callee.1 env)
  call_enters e held env h = sym (values_next (arguments_of (node_in t n)) i e.0 held.values env (call_values held.callee.0 held.callee.1 env) (arguments_at t n i e h))

  -- `new` enters an argument
  pub new_enters : (e : NodeId) (held : Holding) (env : Env) → slice_get (arguments_in n) i ≡ Some e → Eval (AtExpr e.0) env (then_value (new_argument (arguments_of (node_in t n)) i held env)) ≡
      values_from (drop i (arguments_of (node_in t n))) held.values env (construct held.callee.0 env)
  new_enters e held env h = sym (values_next (arguments_of (node_in t n)) i e.0 held.values env (construct held.callee.0 env) (arguments_at t n i e h))

-- ---- arguments that are had at once

module _ {S : Type 0} (meaning : S → Meaning) where
  -- none was
  pub held_same : (c : Config S) (f : Frame) (at : ℕ) → Runs meaning c f → ArgumentsHeld meaning c f at c f at
  held_same c f at r = record { runs = r; proceeds = λ go. proceeds_same meaning (arguments_left meaning go c f at) c }

  -- some, and then further ones
  pub held_on : (old mid new : Config S) (f g h : Frame) (from at next : ℕ) → ArgumentsHeld meaning old f from mid g at → ArgumentsHeld meaning mid g at new h next → ArgumentsHeld meaning old f from new h next
  held_on old mid new f g h from at next p q = record {
    runs = q.runs;
    proceeds = λ go. proceeds_twice meaning (arguments_left meaning go old f from) (arguments_left meaning go mid g at) (arguments_left meaning go new h next) old mid new (p.proceeds go) (q.proceeds go);
  }

  -- one was, and it is held
  module _ (old mid : Config S) (f : Frame) (at : ℕ) (e : NodeId) (v : Numbered) where
    abbrev holding : Frame
    holding = record f { held = holds.Value v ∷ f.held }

    one_proceeds : slice_get (arguments_in (node_now meaning old f)) at ≡ Some e → mid ≡ record old { left = mid.left } → Does meaning (λ t go. Eval (AtExpr e.0) (env_in meaning old t f) go) (λ t. Gives (value_in t v)) old mid
        → (go : Value → Value → Env → List Value → Act) → Proceeds meaning (arguments_left meaning go old f at) (arguments_left meaning go mid holding (at + 1)) old mid
    one_proceeds there only does go = record {
      by = λ later r h.
          let t = later.heap.texts in
          let n = node_now meaning old f in
          let env = env_in meaning old t f in
          let args = arguments_of (node_in t n) in
          let held = holding_in t f.held in
          let rest = go held.callee.0 held.callee.1 env in
          let F : Act → Type 0 = λ act. OnOk r (Follows meaning act old later) in
          let P : Config S → Type 0 = λ c. OnOk r (Follows meaning (arguments_left meaning go c holding (at + 1) t) mid later) in
          subst F (sym (values_next args at e.0 held.values env rest (arguments_at t n at e there)))
          (does.by (then_value (λ x. values_from (drop (at + 1) args) (held.values ++ x ∷ []) env rest)) later r (subst P only h));
    }

    one_held : Runs meaning old f → slice_get (arguments_in (node_now meaning old f)) at ≡ Some e → mid ≡ record old { left = mid.left } → Later meaning old mid → HasValue mid v → Does meaning (λ t go. Eval (AtExpr e.0) (env_in meaning old t f) go) (λ t. Gives (value_in t v)) old mid
        → ArgumentsHeld meaning old f at mid holding (at + 1)
    one_held r there only l found does =
        let runs = runs_later meaning old mid f r l in
        record { runs = runs_held meaning mid f (holds.Value v ∷ f.held) runs (found, runs.there.held); proceeds = one_proceeds there only does }

    pub argument_held : Runs meaning old f → slice_get (arguments_in (node_now meaning old f)) at ≡ Some e → mid ≡ record old { left = mid.left } → Later meaning old mid → HasValue mid v → Does meaning (λ t go. Eval (AtExpr e.0) (env_in meaning old t f) go) (λ t. Gives (value_in t v)) old mid
        → (g : Frame) (next : ℕ) → g ≡ record f { held = holds.Value v ∷ f.held } → next ≡ at + 1 → ArgumentsHeld meaning old f at mid g next
    argument_held r there only l found does g next is_held is_next =
        subst (λ (x : Frame). ArgumentsHeld meaning old f at mid x next) (sym is_held) (subst (λ k. ArgumentsHeld meaning old f at mid holding k) (sym is_next) (one_held r there only l found does))
