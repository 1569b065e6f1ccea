-- Literals of objects: their lines from one property to the next, and where one stops.
use Rattle.std.proofs.Common.{◌≡◌, ℕ, ◌+◌, Bool, List, [], ◌∷◌, Option, None, Some, Vec, Global, refl, sym, ap, ◌∙◌, subst, drop}
use Rattle.std.specs.Prelude.{Result, Ok, Err, OnOk, slice_get}
use Rattle.wjs_base.specs.declared.ids.NodeId.{NodeId}
use Rattle.wjs_base.specs.declared.ids.ObjId.{ObjId}
use Rattle.wjs_base.specs.declared.values.Value.{Value as Numbered}
use Rattle.wjs_base.specs.declared.values.Value.TheVariants as values
use Rattle.wjs_base.specs.Text.{Table}
use Rattle.wjs_store.specs.Meaning.{Meaning}
use Rattle.wjs_tree.specs.declared.node.Node.{Node}
use Rattle.wjs_tree.specs.declared.node.Node.TheVariants as nodes
use Rattle.wjs_tree.specs.declared.node.Property.{Property}
use Rattle.wjs_by_content.specs.Names.{slot}
use Rattle.wjs_by_content.specs.Tables.{value_in}
use Rattle.wjs_by_content.specs.Values.{Object}
use Rattle.wjs_heap.specs.Means.{nothing}
use Rattle.wjs_meaning.specs.Deeds.{Env, AtExpr, Completion, Gives, Act, Eval, Sub, Do, Create, Write, then_value}
use Rattle.wjs_meaning.specs.Expressions.{expr_of, key_name, object_from}
use Rattle.wjs_meaning.specs.NewObjects.{plain_object}
use Rattle.wjs_meaning.specs.Programs.{entry}
use Rattle.wjs_meaning.specs.Reading.{node_in, key_in}
use Rattle.wjs_model.specs.declared.config.Config.{Config}
use Rattle.wjs_model.specs.declared.frame.Activation.{Activation as Frame}
use Rattle.wjs_model.specs.declared.frame.Held.TheVariants as holds
use Rattle.wjs_model.specs.declared.frame.Phase.{Phase}
use Rattle.wjs_model.specs.declared.loaded.LoadedProgram.{LoadedProgram as Program}
use Rattle.wjs_model.specs.declared.point.ExprPoint.TheVariants as exprs
use Rattle.wjs_model.specs.declared.point.Point.TheVariants as points
use Rattle.wjs_model.specs.Contents.{holding_in}
use Rattle.wjs_model.specs.Lists.{pairs_of}
use Rattle.wjs_model.specs.Soundness.{IsThere, StandsHere}
use Rattle.wjs_model.specs.Texts.{KnowsKey}
use Rattle.wjs_frames.specs.Doing.{Does}
use Rattle.wjs_frames.specs.Following.{Follows, Later}
use Rattle.wjs_frames.specs.Parts.{env_in, node_among, then_at}
use Rattle.wjs_frames.proofs.Handling.{env_later}
use Rattle.wjs_frames.proofs.Places.{node_same}
use Rattle.wjs_frames.proofs.Shorter.{follows_shorter, shorten_deed, shorten_ended}
use Rattle.wjs_quick.proofs.Coming.{shorten_goal}
use Rattle.wjs_effects.proofs.Leaving.{shorten_as}
use Rattle.wjs_literals.specs.Parts.{properties_in}
use Rattle.wjs_literals.proofs.Items.{key_known, object_ends, object_writes, property_next}
use Rattle.wjs_literals.proofs.Standing.{property_stands}
use Rattle.wjs_stopping.specs.declared.ends.Broken.{Broken}
use Rattle.wjs_stopping.specs.Ends.{gives_in}
use Rattle.wjs_stopping.specs.Waiting.{at_node, WaitsAt}
use Rattle.wjs_stopping.specs.Evaluating.{Evaluates, InMemory, Leaves}
use Rattle.wjs_stopping.proofs.Evaluating.{in_memory, leaves_all}
use Rattle.wjs_direct_lines.specs.Deeds.{entry_here, form_here, goal_here, line_here}
use Rattle.wjs_direct.specs.Literals.{IsObjectLiteral, pairs_left}
use Rattle.wjs_direct_lines.proofs.Forming.{node_there}
use Rattle.wjs_direct_lines.proofs.Nesting.{leaves_shorter}
use Rattle.wjs_direct_lines.proofs.Parts.{broke_does}

-- what a literal begins with
object_begins : (t : Table) (n : Node) (properties : List Property) (comma : Bool) (here : ℕ) (env : Env) → n ≡ nodes.ObjectLit properties comma
    → expr_of here (node_in t n) env ≡ Do (Create env.owner plain_object) (λ o. object_from (drop 0 (pairs_of (node_in t n))) o env)
object_begins t n properties comma here env e =
    subst (λ (x : Node). expr_of here (node_in t x) env ≡ Do (Create env.owner plain_object) (λ o. object_from (drop 0 (pairs_of (node_in t x))) o env)) (sym e) refl

module _ {S : Type 0} (meaning : S → Meaning) where
  -- the value of a property stands where the literal does
  pub value_stands : (c : Config S) (f : Frame) (node : NodeId) (at : ℕ) (p : Property) → IsThere meaning c f → StandsHere c f node
      → slice_get (properties_in (node_among c.units.items f.tree node)) at ≡ Some p → StandsHere c f p.value
  value_stands c f node at p there stands is = property_stands meaning c (at_node f node []) (node_there meaning c f node [] there stands tt) at p is

  -- its key is known
  pub key_there : (c new : Config S) (f : Frame) (node : NodeId) (at : ℕ) (p : Property) → Later meaning c new → slice_get (properties_in (node_among c.units.items f.tree node)) at ≡ Some p → KnowsKey new.heap.texts p.key
  key_there c new f node at p l is =
      key_known new.heap.texts new.units.items f.tree node at p l.base.units
      (subst (λ (us : Vec Program Global). slice_get (properties_in (node_among us.items f.tree node)) at ≡ Some p) (sym l.units) is)

  -- the object is made, and its properties come next
  pub object_made : (old mid new : Config S) (f : Frame) (node : NodeId) (o : ObjId) (done : Result Numbered Broken) (waits : List Frame) (top : Option (Frame × Phase)) → IsObjectLiteral meaning old f node
      → Does meaning (λ t go. Do (Create old.owner plain_object) go) (λ t. o) old mid → Later meaning old mid
      → Evaluates meaning (line_here meaning mid f (pairs_left mid f node o 0)) gives_in done waits top mid new
      → Evaluates meaning (entry_here meaning old f (AtExpr node.0)) gives_in done waits top old new
  object_made old mid new f node o done waits top is made l d =
      in_memory done (λ d'. record {
        by = λ go later r h.
            let t = later.heap.texts in
            let env = env_in meaning old t f in
            let left : ObjId → Act = λ x. object_from (drop 0 (pairs_of (node_in t (node_among old.units.items f.tree node)))) x env in
            let begins : entry (AtExpr node.0) env ≡ Do (Create env.owner plain_object) left =
            ap (λ n. expr_of node.0 n env) (node_same t old.units.items f.tree node) ∙ object_begins t (node_among old.units.items f.tree node) is.0 is.1.0 node.0 env is.1.1 in
            let next : OnOk r (Follows meaning (Sub (left o) go) mid later) =
            subst (λ (us : Vec Program Global). OnOk r (Follows meaning (Sub (object_from (drop 0 (pairs_of (node_in t (node_among us.items f.tree node)))) o env) go) mid later)) l.units
            (subst (λ (x : Env). OnOk r (Follows meaning (Sub (pairs_left mid f node o 0 t x) go) mid later)) (env_later meaning old mid t f l) (d'.by go later r h)) in
            subst (λ (a : Act). OnOk r (Follows meaning (Sub a go) old later)) (sym begins)
            (follows_shorter meaning (Sub (Do (Create env.owner plain_object) left) go) (Do (Create env.owner plain_object) (λ x. Sub (left x) go)) old later r (shorten_deed (Create env.owner plain_object) left go)
            (made.by (λ x. Sub (left x) go) later r next));
      }) d

  -- ---- from one property to the next

  module _ (old : Config S) (f : Frame) (node : NodeId) (o : ObjId) where
    -- after the value of a property
    abbrev after_value : ℕ → Property → Table → Env → Completion → Act
    after_value at p t env = then_value (λ v. Do (Write env.world (slot o (key_name (key_in t p.key))) (Some v)) (λ done. pairs_left old f node o (at + 1) t env))

    abbrev begun : Table → (Completion → Act) → Act
    begun = line_here meaning old f (pairs_left old f node o 0)

    module _ (mid : Config S) (l : Later meaning old mid) (at : ℕ) (left : Leaves meaning begun (line_here meaning old f (pairs_left old f node o at)) old mid) where
      module _ (p : Property) (is : slice_get (properties_in (node_among mid.units.items f.tree node)) at ≡ Some p) where
        here_is : slice_get (properties_in (node_among old.units.items f.tree node)) at ≡ Some p
        here_is = subst (λ (us : Vec Program Global). slice_get (properties_in (node_among us.items f.tree node)) at ≡ Some p) l.units is

        -- its value comes first
        value_first : (rest : Table → (Completion → Act) → Act) (new : Config S) → Leaves meaning (form_here meaning mid f (AtExpr p.value.0) (after_value at p)) rest mid new
            → Leaves meaning (line_here meaning old f (pairs_left old f node o at)) rest mid new
        value_first rest new d = record {
          by = λ go later r h.
              let t = later.heap.texts in
              let env = env_in meaning old t f in
              let F : Act → Type 0 = λ a. OnOk r (Follows meaning a mid later) in
              subst (λ (a : Act). F (Sub a go)) (property_next t (node_among old.units.items f.tree node) at p o env here_is)
              (follows_shorter meaning (Sub (Eval (AtExpr p.value.0) env (after_value at p t env)) go) (Eval (AtExpr p.value.0) env (λ c. Sub (after_value at p t env c) go)) mid later r (shorten_goal (AtExpr p.value.0) env (after_value at p t env) go)
              (subst (λ (x : Env). F (Eval (AtExpr p.value.0) x (λ c. Sub (after_value at p t x c) go))) (env_later meaning old mid t f l) (d.by go later r h)));
        }

        -- it has its value, which is written
        pub property_given : (v : Numbered) (w : List Frame) (q : Option (Frame × Phase)) (had new : Config S) → Evaluates meaning (goal_here meaning mid f (AtExpr p.value.0)) gives_in (Ok v) w q mid had
            → Does meaning (λ t go. Do (Write f.world (slot o (key_name (key_in t p.key))) (Some (value_in t v))) go) (λ t. nothing) had new
            → Leaves meaning begun (line_here meaning old f (pairs_left old f node o (at + 1))) old new
        property_given v w q had new d wrote =
            leaves_all meaning _ _ _ old mid new left (value_first _ new (record {
              by = λ go later r h.
                  let t = later.heap.texts in
                  let env = env_in meaning mid t f in
                  let deed = Write f.world (slot o (key_name (key_in t p.key))) (Some (value_in t v)) in
                  let rest : Act = pairs_left old f node o (at + 1) t env in
                  d.by (λ c. Sub (after_value at p t env c) go) later r
                  (follows_shorter meaning (Sub (Do deed (λ done. rest)) go) (Do deed (λ done. Sub rest go)) had later r (shorten_deed deed (λ done. rest) go)
                  (wrote.by (λ done. Sub rest go) later r
                  (subst (λ (x : Env). OnOk r (Follows meaning (Sub (pairs_left old f node o (at + 1) t x) go) new later)) (sym (env_later meaning old mid t f l)) h)));
            }))

        -- where it waits for its value
        value_point : (new : Config S) → Later meaning mid new → (t : Table) (env : Env) → then_at meaning new (at_node f node (holds.Value (values.Object o) ∷ [])) (points.Expr (exprs.PairValue at)) t env ≡ after_value at p t env
        value_point new m t env =
            let us = m.units ∙ l.units in
            let n = node_among new.units.items f.tree node in
            let there : slice_get (properties_in n) at ≡ Some p = subst (λ (x : Vec Program Global). slice_get (properties_in (node_among x.items f.tree node)) at ≡ Some p) (sym m.units) is in
            (λ i. then_value (λ v. object_writes t n at p (holding_in t (holds.Value (values.Object o) ∷ [])) env o v refl there i))
            ∙ ap (λ (x : Vec Program Global). then_value (λ v. Do (Write env.world (slot o (key_name (key_in t p.key))) (Some v)) (λ done. object_from (drop (at + 1) (pairs_of (node_in t (node_among x.items f.tree node)))) o env))) us

        -- it broke off
        pub property_broke : (end : Broken) (w : List Frame) (q : Option (Frame × Phase)) (end' : Broken) (waits : List Frame) (top : Option (Frame × Phase)) (new after : Config S) → after ≡ new → InMemory {A = Numbered} (Err end) (Later meaning mid new)
            → Evaluates meaning (goal_here meaning mid f (AtExpr p.value.0)) gives_in (Err end) w q mid new
            → WaitsAt (at_node f node (holds.Value (values.Object o) ∷ [])) (points.Expr (exprs.PairValue at)) end w q end' waits top → Evaluates meaning begun gives_in (Err end') waits top old after
        property_broke end w q end' waits top new after same m d s =
            in_memory {A = Numbered} (Err end') (λ x. leaves_all meaning _ _ _ old mid after left (value_first _ after x))
            (broke_does meaning Numbered Numbered mid new after f node (holds.Value (values.Object o) ∷ []) (points.Expr (exprs.PairValue at)) end w q end' waits top same s
            gives_in gives_in (AtExpr p.value.0) (after_value at p) (value_point new) (λ t env x. refl) m d)

      -- none is left
      pub properties_done : None ≡ slice_get (properties_in (node_among mid.units.items f.tree node)) at → Leaves meaning begun (λ t go. go (Gives (Object o))) old mid
      properties_done none =
          let past = subst (λ (us : Vec Program Global). None ≡ slice_get (properties_in (node_among us.items f.tree node)) at) l.units none in
          leaves_all meaning _ _ _ old mid mid left
          (leaves_shorter meaning (line_here meaning old f (pairs_left old f node o at)) (λ t go. go (Gives (Object o))) mid
          (λ t more go. shorten_ended _ (Gives (Object o)) go (shorten_as _ _ (object_ends t (node_among old.units.items f.tree node) at o (env_in meaning old t f) (sym past)))))
