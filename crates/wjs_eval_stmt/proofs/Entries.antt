-- A statement begins with what its node says.
use Rattle.std.proofs.Common.{◌≡◌, ℕ, None, Some, inl, inr, refl}
use Rattle.wjs_base.specs.Text.{Table}
use Rattle.wjs_tree.specs.declared.node.ForInit.TheVariants as inits
use Rattle.wjs_tree.specs.declared.node.Node.{Node}
use Rattle.wjs_tree.specs.declared.node.Node.TheVariants as nodes
use Rattle.wjs_store.specs.Meaning.{Meaning}
use Rattle.wjs_meaning.specs.Reading.{node_in}
use Rattle.wjs_meaning.specs.Deeds.{Env}
use Rattle.wjs_meaning.specs.Statements.{stmt_of}
use Rattle.wjs_model.specs.declared.config.Config.{Config}
use Rattle.wjs_model.specs.declared.frame.Activation.{Activation as Frame}
use Rattle.wjs_model.specs.Contents.{Holding}
use Rattle.wjs_model.specs.Soundness.{Base, IsThere}
use Rattle.wjs_model.specs.Texts.{KnowsNode}
use Rattle.wjs_frames.specs.Parts.{node_now}
use Rattle.wjs_frames.proofs.Places.{node_known}
use Rattle.wjs_eval_stmt.specs.Beginnings.{CanBegin, beginning_of, goes}
use Rattle.wjs_effects.proofs.Lines.{label_there}
use Rattle.wjs_loops.proofs.Parts.{part_stands, other_stands, last_stands}
use Rattle.wjs_effects.proofs.StandingFors.{for_stands}

pub begins_same : (t : Table) (here : ℕ) (n : Node) (held : Holding) (env : Env) → goes t here (node_in t n) held env (beginning_of n) ≡ stmt_of here (node_in t n) env
begins_same t here (nodes.Block ss) held env = refl
begins_same t here (nodes.Var xs end) held env = refl
begins_same t here (nodes.Expr e end) held env = refl
begins_same t here (nodes.If e s other) held env = refl
begins_same t here (nodes.DoWhile s e end) held env = refl
begins_same t here (nodes.While e s) held env = refl
begins_same t here (nodes.For inits.Nothing test u s) held env = refl
begins_same t here (nodes.For (inits.Expr e) test u s) held env = refl
begins_same t here (nodes.For (inits.Var xs) test u s) held env = refl
begins_same t here (nodes.ForIn target e s) held env = refl
begins_same t here (nodes.ForVarIn name e s) held env = refl
begins_same t here (nodes.Continue label end) held env = refl
begins_same t here (nodes.Break label end) held env = refl
begins_same t here (nodes.Return (Some e) end) held env = refl
begins_same t here (nodes.Return None end) held env = refl
begins_same t here (nodes.Throw e end) held env = refl
begins_same t here (nodes.Label name s) held env = refl
begins_same t here (nodes.Switch e clauses) held env = refl
begins_same t here (nodes.Try s handler last) held env = refl
begins_same t here (nodes.Within e s) held env = refl
begins_same t here _ held env = refl

module _ {S : Type 0} (meaning : S → Meaning) (c : Config S) (f : Frame) (base : Base meaning c) (here : IsThere meaning c f) where
  can_begin : (n : Node) → node_now meaning c f ≡ n → KnowsNode c.heap.texts n → CanBegin c f (beginning_of n)
  can_begin (nodes.Block ss) e k = tt
  can_begin (nodes.Var xs end) e k = tt
  can_begin (nodes.Expr a end) e k = (tt, part_stands meaning c f here _ a e (inl refl))
  can_begin (nodes.If a s other) e k = ((part_stands meaning c f here _ s e (inr (inl refl)), other_stands meaning c f here a s other e), part_stands meaning c f here _ a e (inl refl))
  can_begin (nodes.DoWhile s a end) e k = (part_stands meaning c f here _ a e (inr (inl refl)), part_stands meaning c f here _ s e (inl refl))
  can_begin (nodes.While a s) e k = (part_stands meaning c f here _ s e (inr (inl refl)), part_stands meaning c f here _ a e (inl refl))
  can_begin (nodes.For inits.Nothing t u s) e k = for_stands meaning c f here inits.Nothing t u s e
  can_begin (nodes.For (inits.Expr a) t u s) e k = (tt, part_stands meaning c f here _ a e (inl refl))
  can_begin (nodes.For (inits.Var xs) t u s) e k = tt
  can_begin (nodes.ForIn target a s) e k = (part_stands meaning c f here _ s e (inr (inr (inl refl))), part_stands meaning c f here _ a e (inr (inl refl)))
  can_begin (nodes.ForVarIn name a s) e k = (part_stands meaning c f here _ s e (inr (inl refl)), part_stands meaning c f here _ a e (inl refl))
  can_begin (nodes.Continue label end) e k = label_there c label k
  can_begin (nodes.Break label end) e k = label_there c label k
  can_begin (nodes.Return (Some a) end) e k = (tt, part_stands meaning c f here _ a e (inl refl))
  can_begin (nodes.Return None end) e k = tt
  can_begin (nodes.Throw a end) e k = (tt, part_stands meaning c f here _ a e (inl refl))
  can_begin (nodes.Label name s) e k = (tt, part_stands meaning c f here _ s e (inl refl))
  can_begin (nodes.Switch a clauses) e k = (tt, part_stands meaning c f here _ a e (inl refl))
  can_begin (nodes.Try s handler last) e k = (last_stands meaning c f here s handler last e, part_stands meaning c f here _ s e (inl refl))
  can_begin (nodes.Within a s) e k = (part_stands meaning c f here _ s e (inr (inl refl)), part_stands meaning c f here _ a e (inl refl))
  can_begin _ e k = tt

  pub begin_stands : CanBegin c f (beginning_of (node_now meaning c f))
  begin_stands = can_begin (node_now meaning c f) refl (node_known c.heap.texts c.units.items f.tree f.node (node_now meaning c f) base.units refl)
