-- Function expressions: the deeds that make a function, within nested deeds.
use Rattle.std.proofs.Common.{ℕ, List, Option, None, Some, sym, subst}
use Rattle.std.specs.Prelude.{Ok, OnOk}
use Rattle.wjs_base.specs.declared.ids.NodeId.{NodeId}
use Rattle.wjs_base.specs.declared.ids.ObjId.{ObjId}
use Rattle.wjs_base.specs.declared.ids.TextId.{TextId}
use Rattle.wjs_base.specs.declared.values.Value.TheVariants as values
use Rattle.wjs_store.specs.Meaning.{Meaning}
use Rattle.wjs_tree.specs.declared.node.Node.TheVariants as nodes
use Rattle.wjs_by_content.specs.Values.{Text, Object}
use Rattle.wjs_meaning.specs.Deeds.{Env, AtExpr, Completion, Gives, Act, Sub, give}
use Rattle.wjs_meaning.specs.Functions.{make_function, make_function_in}
use Rattle.wjs_meaning.specs.Reading.{label_in}
use Rattle.wjs_model.specs.declared.config.Config.{Config}
use Rattle.wjs_model.specs.declared.frame.Activation.{Activation as Frame}
use Rattle.wjs_model.specs.declared.frame.Phase.{Phase}
use Rattle.wjs_frames.specs.Doing.{Does}
use Rattle.wjs_frames.specs.Following.{Follows}
use Rattle.wjs_frames.specs.Parts.{env_in}
use Rattle.wjs_frames.specs.Shortening.{Shortens}
use Rattle.wjs_frames.proofs.OperandLines.{expr_is}
use Rattle.wjs_frames.proofs.Shorter.{follows_ret, follows_shorter, shorten_deed, shorten_do, shorten_same, shorten_trans}
use Rattle.wjs_stopping.specs.Ends.{gives_in}
use Rattle.wjs_stopping.specs.Evaluating.{Evaluates}
use Rattle.wjs_direct_lines.specs.Deeds.{IsFunctionExpression, entry_here}

-- two objects are made and joined by two writes
in_goes : (body : ℕ) (scope : ObjId) (env : Env) (k : ObjId → Act) (go : Completion → Act) → Shortens (Sub (make_function_in body scope env k) go) (make_function_in body scope env (λ o. Sub (k o) go))
in_goes body scope env k go =
    shorten_trans _ _ _ (shorten_deed _ _ go) (shorten_do _ _ _ (λ f.
    shorten_trans _ _ _ (shorten_deed _ _ go) (shorten_do _ _ _ (λ p.
    shorten_trans _ _ _ (shorten_deed _ _ go) (shorten_do _ _ _ (λ one.
    shorten_trans _ _ _ (shorten_deed _ _ go) (shorten_do _ _ _ (λ two. shorten_same (Sub (k f) go)))))))))

function_goes : (body : ℕ) (name : Option Text) (env : Env) (k : ObjId → Act) (go : Completion → Act) → Shortens (Sub (make_function body name env k) go) (make_function body name env (λ o. Sub (k o) go))
function_goes body None env k go = in_goes body env.scope env k go
function_goes body (Some name) env k go =
    shorten_trans _ _ _ (shorten_deed _ _ go) (shorten_do _ _ _ (λ arena.
    shorten_trans _ _ _ (shorten_deed _ _ go) (shorten_do _ _ _ (λ s. in_goes body s env k go))))

module _ {S : Type 0} (meaning : S → Meaning) where
  -- the function is made, and is the value
  pub function_made : (c new : Config S) (f : Frame) (node : NodeId) (name : Option TextId) (made : ObjId) (waits : List Frame) (top : Option (Frame × Phase)) → IsFunctionExpression meaning c f node name
      → Does meaning (λ t. make_function node.0 (label_in t name) (env_in meaning c t f)) (λ t. made) c new
      → Evaluates meaning (entry_here meaning c f (AtExpr node.0)) gives_in (Ok (values.Object made)) waits top c new
  function_made c new f node name made waits top is d = record {
    by = λ go later r h.
        let t = later.heap.texts in
        let env = env_in meaning c t f in
        let named = label_in t name in
        let k : ObjId → Act = λ o. give (Object o) in
        subst (λ (a : Act). OnOk r (Follows meaning (Sub a go) c later)) (sym (expr_is meaning c f node (nodes.Function name is.0 is.1.0) t is.1.1))
        (follows_shorter meaning (Sub (make_function node.0 named env k) go) (make_function node.0 named env (λ o. Sub (k o) go)) c later r (function_goes node.0 named env k go)
        (d.by (λ o. Sub (k o) go) later r (follows_ret meaning (Gives (Object made)) go new later r h)));
  }
