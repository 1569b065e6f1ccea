-- Operators before an operand that is entered for its value: where their frames wait.
use Rattle.std.proofs.Common.{◌≡◌, List, [], true, refl, sym, ap, ◌∙◌, subst}
use Rattle.std.specs.Prelude.{Option, Err}
use Rattle.wjs_base.specs.declared.ids.NodeId.{NodeId}
use Rattle.wjs_base.specs.Text.{Table}
use Rattle.wjs_base.specs.declared.values.Value.{Value as Numbered}
use Rattle.wjs_by_content.specs.Tables.{value_in}
use Rattle.wjs_store.specs.Meaning.{Meaning}
use Rattle.wjs_tree.specs.declared.operators.PrefixOperator.{PrefixOperator}
use Rattle.wjs_tree.specs.declared.operators.PrefixOperator.TheVariants as prefix
use Rattle.wjs_meaning.specs.Deeds.{Env, Completion, Act, Gives, then_value}
use Rattle.wjs_model.specs.declared.config.Config.{Config}
use Rattle.wjs_model.specs.declared.frame.Activation.{Activation as Frame}
use Rattle.wjs_model.specs.declared.frame.Completion.TheVariants as completions
use Rattle.wjs_model.specs.declared.frame.Phase.{Phase}
use Rattle.wjs_model.specs.declared.frame.Phase.TheVariants as phases
use Rattle.wjs_model.specs.declared.point.ExprPoint.{ExprPoint}
use Rattle.wjs_model.specs.declared.point.Point.TheVariants as points
use Rattle.wjs_model.specs.Soundness.{HasPoint}
use Rattle.wjs_frames.specs.Parts.{env_in, then_at}
use Rattle.wjs_quick.specs.Operating.{after_prefix, is_of_value}
use Rattle.wjs_stopping.specs.declared.ends.Broken.{Broken}
use Rattle.wjs_stopping.specs.Ends.{gives_in}
use Rattle.wjs_stopping.specs.Evaluating.{Evaluates}
use Rattle.wjs_stopping.specs.Waiting.{StopsAt, at_node}
use Rattle.wjs_direct_lines.specs.Deeds.{line_here, prefix_point}
use Rattle.wjs_direct_lines.proofs.Parts.{given_does, line_as}

module _ {S : Type 0} (meaning : S → Meaning) where
  -- such a point names nothing
  stands_by : (c : Config S) (f : Frame) (op : PrefixOperator) → HasPoint c f (points.Expr (prefix_point op))
  stands_by c f prefix.Plus = tt
  stands_by c f prefix.Minus = tt
  stands_by c f prefix.BitNot = tt
  stands_by c f prefix.Not = tt
  stands_by c f _ = tt

  pub prefix_stands : (c : Config S) (f : Frame) (op : PrefixOperator) (point : ExprPoint) → point ≡ prefix_point op → HasPoint c f (points.Expr point)
  prefix_stands c f op point e = subst (λ (p : ExprPoint). HasPoint c f (points.Expr p)) (sym e) (stands_by c f op)

  -- what is waited for there
  waits_by : (c : Config S) (f : Frame) (op : PrefixOperator) → is_of_value op ≡ true → (t : Table) (env : Env) → then_at meaning c f (points.Expr (prefix_point op)) t env ≡ then_value (after_prefix op env)
  waits_by c f prefix.Void k t env = refl
  waits_by c f prefix.Plus k t env = refl
  waits_by c f prefix.Minus k t env = refl
  waits_by c f prefix.BitNot k t env = refl
  waits_by c f prefix.Not k t env = refl
  waits_by c f _ k t env = absurd cc

  pub prefix_waits : (c : Config S) (f : Frame) (op : PrefixOperator) (point : ExprPoint) → point ≡ prefix_point op → is_of_value op ≡ true → (t : Table) (env : Env) → then_at meaning c f (points.Expr point) t env ≡ then_value (after_prefix op env)
  prefix_waits c f op point e k t env = ap (λ (p : ExprPoint). then_at meaning c f (points.Expr p) t env) e ∙ waits_by c f op k t env

  -- a frame goes on there with the value
  pub prefix_given : (c new : Config S) (f : Frame) (node : NodeId) (op : PrefixOperator) (point : ExprPoint) (v : Numbered) (end : Broken) (waits : List Frame) (top : Option (Frame × Phase)) → new ≡ c → point ≡ prefix_point op → is_of_value op ≡ true
      → StopsAt (at_node f node []) (phases.Given (points.Expr point) (completions.Gives v)) end waits top
      → Evaluates meaning (line_here meaning c f (λ t env. after_prefix op env (value_in t v))) gives_in (Err end) waits top c new
  prefix_given c new f node op point v end waits top same e k s =
      line_as meaning gives_in c new f (λ t env. after_prefix op env (value_in t v)) (Err end) waits top (λ t env. then_at meaning c (at_node f node []) (points.Expr point) t env (Gives (value_in t v)))
      (λ t more. let env = env_in meaning c t f in ap (λ (k : Completion → Act). k (Gives (value_in t v))) (sym (prefix_waits c (at_node f node []) op point e k t env)))
      (given_does meaning gives_in c new f end waits top same node [] (points.Expr point) (completions.Gives v) s)
