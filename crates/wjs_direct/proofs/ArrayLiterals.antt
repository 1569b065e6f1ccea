-- Literals of arrays: their lines from one item to the next, and where one stops.
use Rattle.std.proofs.Common.{◌≡◌, ℕ, ◌+◌, Bool, List, [], ◌∷◌, Option, Some, Vec, Global, length, refl, sym, ap, ◌∙◌, subst, drop}
use Rattle.std.specs.Prelude.{Result, Ok, Err, OnOk, map as each, slice_get}
use Rattle.wjs_base.specs.declared.ids.NodeId.{NodeId}
use Rattle.wjs_base.specs.declared.ids.ObjId.{ObjId}
use Rattle.wjs_base.specs.declared.ids.WorldId.{WorldId}
use Rattle.wjs_base.specs.declared.values.Value.{Value as Numbered}
use Rattle.wjs_base.specs.declared.values.Value.TheVariants as values
use Rattle.wjs_base.specs.Text.{Table}
use Rattle.wjs_store.specs.Meaning.{Meaning}
use Rattle.wjs_tree.specs.declared.node.Node.{Node}
use Rattle.wjs_tree.specs.declared.node.Node.TheVariants as nodes
use Rattle.wjs_by_content.specs.Names.{slot, index_name, length_name}
use Rattle.wjs_by_content.specs.Tables.{value_in}
use Rattle.wjs_by_content.specs.Values.{Value, Object, whole}
use Rattle.wjs_heap.specs.Means.{nothing}
use Rattle.wjs_meaning.specs.Deeds.{Env, AtExpr, Completion, Gives, Act, Eval, Sub, Do, Create, Write, give, then_value, write_all}
use Rattle.wjs_meaning.specs.Expressions.{expr_of, array_from}
use Rattle.wjs_meaning.specs.NewObjects.{array_object}
use Rattle.wjs_meaning.specs.Programs.{entry}
use Rattle.wjs_meaning.specs.Reading.{node_in, number}
use Rattle.wjs_model.specs.declared.config.Config.{Config}
use Rattle.wjs_model.specs.declared.frame.Activation.{Activation as Frame}
use Rattle.wjs_model.specs.declared.frame.Held.TheVariants as holds
use Rattle.wjs_model.specs.declared.frame.Phase.{Phase}
use Rattle.wjs_model.specs.declared.loaded.LoadedProgram.{LoadedProgram as Program}
use Rattle.wjs_model.specs.declared.point.ExprPoint.TheVariants as exprs
use Rattle.wjs_model.specs.declared.point.Point.TheVariants as points
use Rattle.wjs_model.specs.Lists.{items_of}
use Rattle.wjs_model.specs.Soundness.{IsThere, StandsHere}
use Rattle.wjs_frames.specs.Doing.{Does, DoesFirst}
use Rattle.wjs_frames.specs.Following.{Follows, Later}
use Rattle.wjs_frames.specs.Parts.{env_in, node_among, then_at}
use Rattle.wjs_frames.specs.Shortening.{Shortens}
use Rattle.wjs_frames.proofs.Handling.{env_later}
use Rattle.wjs_frames.proofs.Places.{node_same}
use Rattle.wjs_frames.proofs.Shorter.{follows_shorter, shorten_deed, shorten_do, shorten_ret, shorten_trans}
use Rattle.wjs_quick.proofs.Coming.{shorten_goal}
use Rattle.wjs_literals.specs.Parts.{items_in}
use Rattle.wjs_literals.proofs.Items.{item_next, items_rest, none_after}
use Rattle.wjs_literals.proofs.Standing.{item_stands}
use Rattle.wjs_stopping.specs.declared.ends.Broken.{Broken}
use Rattle.wjs_stopping.specs.Ends.{gives_in}
use Rattle.wjs_stopping.specs.Waiting.{at_node, WaitsAt}
use Rattle.wjs_stopping.specs.Evaluating.{Evaluates, InMemory, Leaves}
use Rattle.wjs_stopping.proofs.Evaluating.{in_memory, leaves_all}
use Rattle.wjs_direct_lines.specs.Deeds.{entry_here, form_here, goal_here, line_here}
use Rattle.wjs_direct.specs.Literals.{IsArrayLiteral, items_left}
use Rattle.wjs_direct_lines.proofs.Forming.{node_there}
use Rattle.wjs_direct_lines.proofs.Nesting.{leaves_shorter}
use Rattle.wjs_direct_lines.proofs.Parts.{broke_does}

-- what a literal begins with
array_begins : (t : Table) (n : Node) (items : List (Option NodeId)) (comma : Bool) (here : ℕ) (env : Env) → n ≡ nodes.ArrayLit items comma
    → expr_of here (node_in t n) env ≡ Do (Create env.owner array_object) (λ o. array_from (drop 0 (items_of (node_in t n))) 0 o env)
array_begins t n items comma here env e =
    subst (λ (x : Node). expr_of here (node_in t x) env ≡ Do (Create env.owner array_object) (λ o. array_from (drop 0 (items_of (node_in t x))) 0 o env)) (sym e) refl

-- writes that are the last deeds
one_goes : (w : WorldId) (o : ObjId) (v : Value) (go : Completion → Act) → Shortens (Sub (write_all w ((slot o length_name, v) ∷ []) (give (Object o))) go) (write_all w ((slot o length_name, v) ∷ []) (go (Gives (Object o))))
one_goes w o v go = shorten_trans _ _ _ (shorten_deed _ _ go) (shorten_do _ _ _ (λ done. shorten_ret (Gives (Object o)) go))

two_goes : (w : WorldId) (o : ObjId) (i : ℕ) (x v : Value) (go : Completion → Act)
    → Shortens (Sub (write_all w ((slot o (index_name i), x) ∷ (slot o length_name, v) ∷ []) (give (Object o))) go) (write_all w ((slot o (index_name i), x) ∷ (slot o length_name, v) ∷ []) (go (Gives (Object o))))
two_goes w o i x v go = shorten_trans _ _ _ (shorten_deed _ _ go) (shorten_do _ _ _ (λ done. one_goes w o v go))

module _ {S : Type 0} (meaning : S → Meaning) where
  -- an item stands where the literal does
  pub item_there : (c : Config S) (f : Frame) (node : NodeId) (at : ℕ) (e : NodeId) → IsThere meaning c f → StandsHere c f node
      → slice_get (items_in (node_among c.units.items f.tree node)) at ≡ Some (Some e) → StandsHere c f e
  item_there c f node at e there stands is = item_stands meaning c (at_node f node []) (node_there meaning c f node [] there stands tt) at e is

  -- the array is made, and its items come next
  pub array_made : (old mid new : Config S) (f : Frame) (node : NodeId) (o : ObjId) (done : Result Numbered Broken) (waits : List Frame) (top : Option (Frame × Phase)) → IsArrayLiteral meaning old f node
      → Does meaning (λ t go. Do (Create old.owner array_object) go) (λ t. o) old mid → Later meaning old mid
      → Evaluates meaning (line_here meaning mid f (items_left mid f node o 0)) gives_in done waits top mid new
      → Evaluates meaning (entry_here meaning old f (AtExpr node.0)) gives_in done waits top old new
  array_made old mid new f node o done waits top is made l d =
      in_memory done (λ d'. record {
        by = λ go later r h.
            let t = later.heap.texts in
            let env = env_in meaning old t f in
            let left : ObjId → Act = λ x. array_from (drop 0 (items_of (node_in t (node_among old.units.items f.tree node)))) 0 x env in
            let begins : entry (AtExpr node.0) env ≡ Do (Create env.owner array_object) left =
            ap (λ n. expr_of node.0 n env) (node_same t old.units.items f.tree node) ∙ array_begins t (node_among old.units.items f.tree node) is.0 is.1.0 node.0 env is.1.1 in
            let next : OnOk r (Follows meaning (Sub (left o) go) mid later) =
            subst (λ (us : Vec Program Global). OnOk r (Follows meaning (Sub (array_from (drop 0 (items_of (node_in t (node_among us.items f.tree node)))) 0 o env) go) mid later)) l.units
            (subst (λ (x : Env). OnOk r (Follows meaning (Sub (items_left mid f node o 0 t x) go) mid later)) (env_later meaning old mid t f l) (d'.by go later r h)) in
            subst (λ (a : Act). OnOk r (Follows meaning (Sub a go) old later)) (sym begins)
            (follows_shorter meaning (Sub (Do (Create env.owner array_object) left) go) (Do (Create env.owner array_object) (λ x. Sub (left x) go)) old later r (shorten_deed (Create env.owner array_object) left go)
            (made.by (λ x. Sub (left x) go) later r next));
      }) d

  module _ (c : Config S) (f : Frame) (node : NodeId) (o : ObjId) where
    -- after the value of an item
    abbrev pub after_item : ℕ → Table → Env → Completion → Act
    after_item i t env = then_value (λ v. Do (Write env.world (slot o (index_name i)) (Some v)) (λ done. items_left c f node o (i + 1) t env))

    -- holes are left out
    pub left_as : (from at : ℕ) (t : Table) (env : Env)
        → array_from (drop from (each number (items_in (node_among c.units.items f.tree node)))) from o env ≡ array_from (drop at (each number (items_in (node_among c.units.items f.tree node)))) at o env
        → items_left c f node o from t env ≡ items_left c f node o at t env
    left_as from at t env skips = let n = node_among c.units.items f.tree node in sym (items_rest t n from o env) ∙ skips ∙ items_rest t n at o env

    pub left_ends : (from count : ℕ) (t : Table) (env : Env)
        → array_from (drop from (each number (items_in (node_among c.units.items f.tree node)))) from o env ≡ array_from [] count o env → items_left c f node o from t env ≡ array_from [] count o env
    left_ends from count t env skips = sym (items_rest t (node_among c.units.items f.tree node) from o env) ∙ skips

    -- the value of an item comes first
    pub item_begins : (at i : ℕ) (e : NodeId) → i ≡ at → slice_get (items_in (node_among c.units.items f.tree node)) at ≡ Some (Some e) → (t : Table) (env : Env)
        → items_left c f node o at t env ≡ Eval (AtExpr e.0) env (after_item i t env)
    item_begins at i e same is t env = sym (item_next t (node_among c.units.items f.tree node) at i e o env same is)

    -- where it waits for its value
    pub item_point : (new : Config S) (i : ℕ) → Later meaning c new → (t : Table) (env : Env) → then_at meaning new (at_node f node (holds.Value (values.Object o) ∷ [])) (points.Expr (exprs.ArrayItem i)) t env ≡ after_item i t env
    item_point new i m t env =
        ap (λ (us : Vec Program Global). then_value (λ v. Do (Write env.world (slot o (index_name i)) (Some v)) (λ done. array_from (drop (i + 1) (items_of (node_in t (node_among us.items f.tree node)))) (i + 1) o env))) m.units

    -- none is left: the length is written
    pub length_given : (from count : ℕ) (w : List Frame) (q : Option (Frame × Phase)) (new : Config S)
        → ((x : ObjId) (env : Env) → array_from (drop from (each number (items_in (node_among c.units.items f.tree node)))) from x env ≡ array_from [] count x env)
        → DoesFirst meaning (λ t. write_all f.world ((slot o length_name, whole count) ∷ [])) c new
        → Evaluates meaning {A = Numbered} (line_here meaning c f (items_left c f node o from)) gives_in (Ok (values.Object o)) w q c new
    length_given from count w q new skips wrote = record {
      by = λ go later r h.
          let t = later.heap.texts in
          let env = env_in meaning c t f in
          let rows = (slot o length_name, whole count) ∷ [] in
          subst (λ (a : Act). OnOk r (Follows meaning (Sub a go) c later)) (sym (left_ends from count t env (skips o env)))
          (follows_shorter meaning (Sub (write_all f.world rows (give (Object o))) go) (write_all f.world rows (go (Gives (Object o)))) c later r (one_goes f.world o (whole count) go)
          (wrote.by (go (Gives (Object o))) later r h));
    }

    -- the last is written with the length
    pub last_given : (at i : ℕ) (e : NodeId) (v : Numbered) (w : List Frame) (q : Option (Frame × Phase)) (w' : List Frame) (q' : Option (Frame × Phase)) (had new : Config S) → i ≡ at
        → slice_get (items_in (node_among c.units.items f.tree node)) at ≡ Some (Some e) → length (items_in (node_among c.units.items f.tree node)) ≡ i + 1
        → Evaluates meaning (goal_here meaning c f (AtExpr e.0)) gives_in (Ok v) w q c had
        → DoesFirst meaning (λ t. write_all f.world ((slot o (index_name i), value_in t v) ∷ (slot o length_name, whole (i + 1)) ∷ [])) had new
        → Evaluates meaning {A = Numbered} (line_here meaning c f (items_left c f node o at)) gives_in (Ok (values.Object o)) w' q' c new
    last_given at i e v w q w' q' had new same is last d wrote = record {
      by = λ go later r h.
          let t = later.heap.texts in
          let env = env_in meaning c t f in
          let n = node_among c.units.items f.tree node in
          let rows = (slot o (index_name i), value_in t v) ∷ (slot o length_name, whole (i + 1)) ∷ [] in
          let F : Act → Type 0 = λ a. OnOk r (Follows meaning a c later) in
          let written : OnOk r (Follows meaning (Sub (write_all f.world rows (give (Object o))) go) had later) =
          follows_shorter meaning (Sub (write_all f.world rows (give (Object o))) go) (write_all f.world rows (go (Gives (Object o)))) had later r (two_goes f.world o i (value_in t v) (whole (i + 1)) go)
          (wrote.by (go (Gives (Object o))) later r h) in
          subst (λ (a : Act). F (Sub a go)) (sym (item_begins at i e same is t env))
          (follows_shorter meaning (Sub (Eval (AtExpr e.0) env (after_item i t env)) go) (Eval (AtExpr e.0) env (λ x. Sub (after_item i t env x) go)) c later r (shorten_goal (AtExpr e.0) env (after_item i t env) go)
          (d.by (λ x. Sub (after_item i t env x) go) later r
          (subst (λ (l : List (Option ℕ)). OnOk r (Follows meaning (Sub (Do (Write f.world (slot o (index_name i)) (Some (value_in t v))) (λ done. array_from l (i + 1) o env)) go) had later)) (sym (none_after t n at i last)) written)));
    }

    -- or it broke off
    pub last_broke : (at i : ℕ) (e : NodeId) (end : Broken) (w : List Frame) (q : Option (Frame × Phase)) (end' : Broken) (waits : List Frame) (top : Option (Frame × Phase)) (new after : Config S) → i ≡ at
        → slice_get (items_in (node_among c.units.items f.tree node)) at ≡ Some (Some e) → after ≡ new → InMemory {A = Numbered} (Err end) (Later meaning c new)
        → Evaluates meaning (goal_here meaning c f (AtExpr e.0)) gives_in (Err end) w q c new
        → WaitsAt (at_node f node (holds.Value (values.Object o) ∷ [])) (points.Expr (exprs.ArrayItem i)) end w q end' waits top
        → Evaluates meaning (line_here meaning c f (items_left c f node o at)) gives_in (Err end') waits top c after
    last_broke at i e end w q end' waits top new after same is kept m d s =
        in_memory {A = Numbered} (Err end') (λ x. leaves_all meaning _ _ _ c c after
        (leaves_shorter meaning (line_here meaning c f (items_left c f node o at)) (form_here meaning c f (AtExpr e.0) (after_item i)) c
        (λ t more go. let env = env_in meaning c t f in
        subst (λ (a : Act). Shortens (Sub a go) (Eval (AtExpr e.0) env (λ y. Sub (after_item i t env y) go))) (sym (item_begins at i e same is t env)) (shorten_goal (AtExpr e.0) env (after_item i t env) go))) x)
        (broke_does meaning Numbered Numbered c new after f node (holds.Value (values.Object o) ∷ []) (points.Expr (exprs.ArrayItem i)) end w q end' waits top kept s
        gives_in gives_in (AtExpr e.0) (after_item i) (item_point new i) (λ t env x. refl) m d)

  -- ---- from one item to the next

  module _ (old : Config S) (f : Frame) (node : NodeId) (o : ObjId) where
    abbrev begun : Table → (Completion → Act) → Act
    begun = line_here meaning old f (items_left old f node o 0)

    -- where they are left, items are what they were
    items_moved : (mid : Config S) (at : ℕ) → Later meaning old mid → line_here meaning mid f (items_left mid f node o at) ≡ line_here meaning old f (items_left old f node o at)
    items_moved mid at l = λ i t go. Sub (array_from (drop at (items_of (node_in t (node_among (l.units i).items f.tree node)))) at o (env_later meaning old mid t f l i)) go

    module _ (mid : Config S) (l : Later meaning old mid) (from : ℕ) (left : Leaves meaning begun (line_here meaning old f (items_left old f node o from)) old mid) where
      -- what is left goes on
      pub items_done : (new : Config S) (done : Result Numbered Broken) (waits : List Frame) (top : Option (Frame × Phase)) → Evaluates meaning (line_here meaning mid f (items_left mid f node o from)) gives_in done waits top mid new
          → Evaluates meaning begun gives_in done waits top old new
      items_done new done waits top d =
          in_memory done (leaves_all meaning _ _ _ old mid new left) (subst (λ (x : Table → (Completion → Act) → Act). Evaluates meaning x gives_in done waits top mid new) (items_moved mid from l) d)

      pub items_passed : (new : Config S) (next : ℕ) → Later meaning mid new → Leaves meaning (line_here meaning mid f (items_left mid f node o from)) (line_here meaning mid f (items_left mid f node o next)) mid new
          → Leaves meaning begun (line_here meaning old f (items_left old f node o next)) old new
      items_passed new next m d =
          leaves_all meaning _ _ _ old mid new left
          (subst (λ (x : Table → (Completion → Act) → Act). Leaves meaning x (line_here meaning old f (items_left old f node o next)) mid new) (items_moved mid from l)
          (subst (λ (x : Table → (Completion → Act) → Act). Leaves meaning (line_here meaning mid f (items_left mid f node o from)) x mid new) (items_moved mid next l) d))

  -- one item is written
  module _ (c : Config S) (f : Frame) (node : NodeId) (o : ObjId) (from at i : ℕ) (e : NodeId) (same : i ≡ at) (is : slice_get (items_in (node_among c.units.items f.tree node)) at ≡ Some (Some e))
      (skips : (x : ObjId) (env : Env) → array_from (drop from (each number (items_in (node_among c.units.items f.tree node)))) from x env ≡ array_from (drop at (each number (items_in (node_among c.units.items f.tree node)))) at x env) where
    begins : (t : Table) (env : Env) → items_left c f node o from t env ≡ Eval (AtExpr e.0) env (after_item c f node o i t env)
    begins t env = left_as c f node o from at t env (skips o env) ∙ item_begins c f node o at i e same is t env

    first : Leaves meaning (line_here meaning c f (items_left c f node o from)) (form_here meaning c f (AtExpr e.0) (after_item c f node o i)) c c
    first =
        leaves_shorter meaning (line_here meaning c f (items_left c f node o from)) (form_here meaning c f (AtExpr e.0) (after_item c f node o i)) c
        (λ t more go. let env = env_in meaning c t f in
        subst (λ (a : Act). Shortens (Sub a go) (Eval (AtExpr e.0) env (λ y. Sub (after_item c f node o i t env y) go))) (sym (begins t env)) (shorten_goal (AtExpr e.0) env (after_item c f node o i t env) go))

    pub item_given : (v : Numbered) (w : List Frame) (q : Option (Frame × Phase)) (had new : Config S) → Evaluates meaning (goal_here meaning c f (AtExpr e.0)) gives_in (Ok v) w q c had
        → Does meaning (λ t go. Do (Write f.world (slot o (index_name i)) (Some (value_in t v))) go) (λ t. nothing) had new
        → Leaves meaning (line_here meaning c f (items_left c f node o from)) (line_here meaning c f (items_left c f node o (i + 1))) c new
    item_given v w q had new d wrote =
        leaves_all meaning _ _ _ c c new first (record {
          by = λ go later r h.
              let t = later.heap.texts in
              let env = env_in meaning c t f in
              let deed = Write f.world (slot o (index_name i)) (Some (value_in t v)) in
              let rest : Act = items_left c f node o (i + 1) t env in
              d.by (λ x. Sub (after_item c f node o i t env x) go) later r
              (follows_shorter meaning (Sub (Do deed (λ done. rest)) go) (Do deed (λ done. Sub rest go)) had later r (shorten_deed deed (λ done. rest) go)
              (wrote.by (λ done. Sub rest go) later r h));
        })

    pub item_broke : (end : Broken) (w : List Frame) (q : Option (Frame × Phase)) (end' : Broken) (waits : List Frame) (top : Option (Frame × Phase)) (new after : Config S) → after ≡ new → InMemory {A = Numbered} (Err end) (Later meaning c new)
        → Evaluates meaning (goal_here meaning c f (AtExpr e.0)) gives_in (Err end) w q c new
        → WaitsAt (at_node f node (holds.Value (values.Object o) ∷ [])) (points.Expr (exprs.ArrayItem i)) end w q end' waits top
        → Evaluates meaning (line_here meaning c f (items_left c f node o from)) gives_in (Err end') waits top c after
    item_broke end w q end' waits top new after kept m d s =
        in_memory {A = Numbered} (Err end') (λ x. leaves_all meaning _ _ _ c c after first x)
        (broke_does meaning Numbered Numbered c new after f node (holds.Value (values.Object o) ∷ []) (points.Expr (exprs.ArrayItem i)) end w q end' waits top kept s
        gives_in gives_in (AtExpr e.0) (after_item c f node o i) (item_point c f node o new i) (λ t env x. refl) m d)

    -- what holds of the last from its place on holds from here on
    pub last_skipped : (done : Result Numbered Broken) (waits : List Frame) (top : Option (Frame × Phase)) (new : Config S) → Evaluates meaning (line_here meaning c f (items_left c f node o at)) gives_in done waits top c new
        → Evaluates meaning (line_here meaning c f (items_left c f node o from)) gives_in done waits top c new
    last_skipped done waits top new d =
        subst (λ (act : Table → Env → Act). Evaluates meaning (line_here meaning c f act) gives_in done waits top c new) (sym (λ k t env. left_as c f node o from at t env (skips o env) k)) d
