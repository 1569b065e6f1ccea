-- Variables with initialisers, one after the other, and what a `for` does behind them.
use Rattle.std.proofs.Common.{◌≡◌, ℕ, suc, ◌+◌, List, [], ◌∷◌, Option, None, Some, Vec, Global, refl, sym, ap, ◌∙◌, subst, drop, arith}
use Rattle.std.specs.Prelude.{Result, Ok, Err, OnOk, map, slice_get}
use Rattle.std.specs.Option.{option_map}
use Rattle.wjs_base.specs.declared.ids.NodeId.{NodeId}
use Rattle.wjs_base.specs.declared.ids.ObjId.{ObjId}
use Rattle.wjs_base.specs.Text.{Table}
use Rattle.wjs_base.specs.declared.values.Value.{Value as Numbered}
use Rattle.wjs_by_content.specs.declared.answers.PutAnswer.{PutAnswer}
use Rattle.wjs_by_content.specs.declared.answers.PutAnswer.TheVariants.{Done, Ignored, BadLength}
use Rattle.wjs_by_content.specs.Names.{slot}
use Rattle.wjs_by_content.specs.Objects.{fixed}
use Rattle.wjs_by_content.specs.Tables.{text_in, value_in}
use Rattle.wjs_by_content.specs.Values.{Text, Value, Undefined, Null, Boolean, Number, String, Object}
use Rattle.wjs_store.specs.Meaning.{Meaning}
use Rattle.wjs_tree.specs.declared.node.Declarator.{Declarator}
use Rattle.wjs_tree.specs.declared.node.End.{End}
use Rattle.wjs_tree.specs.declared.node.ForInit.TheVariants as inits
use Rattle.wjs_tree.specs.declared.node.Node.{Node}
use Rattle.wjs_tree.specs.declared.node.Node.TheVariants as nodes
use Rattle.wjs_scope.specs.declared.place.Place.{Place}
use Rattle.wjs_meaning.specs.Deeds.{Env, Reference, Local, Global as Everywhere, Member, AtExpr, Completion, Normal, Throws, Act, Ret, Eval, Sub, Do, Write, then_normal, then_value, tree_here}
use Rattle.wjs_meaning.specs.Loops.{loop_from}
use Rattle.wjs_meaning.specs.Properties.{put}
use Rattle.wjs_meaning.specs.Reading.{node_in, number, variable_in}
use Rattle.wjs_meaning.specs.References.{after_put, reference_at, store}
use Rattle.wjs_meaning.specs.Statements.{stmt_of, vars_from}
use Rattle.wjs_meaning.specs.Trees.{name_place}
use Rattle.wjs_model.specs.declared.config.Config.{Config}
use Rattle.wjs_model.specs.declared.frame.Activation.{Activation as Frame}
use Rattle.wjs_model.specs.declared.frame.Completion.{Completion as Said}
use Rattle.wjs_model.specs.declared.frame.Completion.TheVariants as completions
use Rattle.wjs_model.specs.declared.frame.Held.{Held}
use Rattle.wjs_model.specs.declared.frame.Phase.{Phase}
use Rattle.wjs_model.specs.declared.frame.Reference.{Reference as NumberedReference}
use Rattle.wjs_model.specs.declared.loaded.LoadedProgram.{LoadedProgram as Program}
use Rattle.wjs_model.specs.declared.point.Point.{Point}
use Rattle.wjs_model.specs.declared.point.Point.TheVariants as points
use Rattle.wjs_model.specs.declared.point.StmtPoint.TheVariants as stmt
use Rattle.wjs_model.specs.Contents.{completion_in, reference_in}
use Rattle.wjs_model.specs.Lists.{if_for, variables_of}
use Rattle.wjs_model.specs.Soundness.{IsThere, StandsHere}
use Rattle.wjs_model.specs.Units.{place_in}
use Rattle.wjs_model.specs.Waiting.{after_variable, store_variable}
use Rattle.wjs_frames.specs.Doing.{Does}
use Rattle.wjs_frames.specs.Following.{Follows, Later}
use Rattle.wjs_frames.specs.Parts.{env_in, node_among, then_at}
use Rattle.wjs_frames.specs.Shortening.{Shortens}
use Rattle.wjs_frames.proofs.Handling.{env_later}
use Rattle.wjs_frames.proofs.Shorter.{follows_shorter, shorten_deed, shorten_do, shorten_ended, shorten_plan, shorten_same, shorten_trans}
use Rattle.wjs_heap_steps.specs.Peeking.{Peeks}
use Rattle.wjs_quick.proofs.MemberLines.{plan_after}
use Rattle.wjs_effects.specs.Effects.{put_ended, stored}
use Rattle.wjs_effects.specs.Variables.{declarators_in}
use Rattle.wjs_effects.proofs.Declared.{variables_same, variable_stores}
use Rattle.wjs_effects.proofs.Leaving.{shorten_as}
use Rattle.wjs_effects.proofs.StandingVariables.{initialiser_stands, value_of}
use Rattle.wjs_effects.proofs.Storing.{referred_goes}
use Rattle.wjs_step_common.proofs.Parts.{each_at, each_past}
use Rattle.wjs_stopping.specs.declared.ends.Broken.{Broken}
use Rattle.wjs_stopping.specs.Ends.{gives_in}
use Rattle.wjs_stopping.specs.Evaluating.{Evaluates, InMemory, Leaves, broken_in}
use Rattle.wjs_stopping.specs.Waiting.{at_node, WaitsAt}
use Rattle.wjs_stopping.proofs.Evaluating.{in_memory, leaves_all}
use Rattle.wjs_direct_lines.specs.Deeds.{form_here, goal_here, line_here}
use Rattle.wjs_direct_lines.specs.Variables.{Declares, GoesNext, variable_valued, variables_left}
use Rattle.wjs_direct_lines.proofs.Elements.{not_normal}
use Rattle.wjs_direct_lines.proofs.Forming.{node_there}
use Rattle.wjs_direct_lines.proofs.Nesting.{leaves_shorter, line_begins, part_left, shorten_within, within_broke, within_left}

-- ---- the variables of a node

module _ (t : Table) (n : Node) (here at : ℕ) (env : Env) where
  abbrev all : List (Text × Option ℕ)
  all = variables_of (node_in t n)

  module _ (d : Declarator) (is : slice_get (declarators_in n) at ≡ Some d) where
    first_is : drop at all ≡ variable_in t d ∷ drop (at + 1) all
    first_is =
        let next : suc at ≡ at + 1 = omega arith in
        subst (λ (l : List (Text × Option ℕ)). drop at l ≡ variable_in t d ∷ drop (at + 1) l) (sym (variables_same t n))
        (each_at (variable_in t) (declarators_in n) at d is ∙ ap (λ (i : ℕ). variable_in t d ∷ drop i (map (variable_in t) (declarators_in n))) next)

    with_value : (o : Option NodeId) → d.value ≡ o → drop at all ≡ (text_in t d.name, number o) ∷ drop (at + 1) all
    with_value o e = first_is ∙ ap (λ (x : Option NodeId). (text_in t d.name, number x) ∷ drop (at + 1) all) e

    -- one without an initialiser is passed
    pub passed : d.value ≡ None → vars_from here at (drop at all) env ≡ vars_from here (at + 1) (drop (at + 1) all) env
    passed e = ap (λ (l : List (Text × Option ℕ)). vars_from here at l env) (with_value None e)

    -- the value of another one is asked for
    pub begins : (e : NodeId) → d.value ≡ Some e → vars_from here at (drop at all) env ≡ Eval (AtExpr e.0) env (then_value (after_variable here all at env))
    begins e some =
        let l = with_value (Some e) some in
        ap (λ (xs : List (Text × Option ℕ)). vars_from here at xs env) l ∙ sym (ap (λ (xs : List (Text × Option ℕ)). Eval (AtExpr e.0) env (then_value (store_variable here xs at env))) l)

  -- there is none
  pub none_left : None ≡ slice_get (declarators_in n) at → vars_from here at (drop at all) env ≡ Ret Normal
  none_left e =
      subst (λ (l : List (Text × Option ℕ)). vars_from here at (drop at l) env ≡ Ret Normal) (sym (variables_same t n))
      (ap (λ (l : List (Text × Option ℕ)). vars_from here at l env) (each_past (variable_in t) (declarators_in n) at (sym e)))

-- ---- a store, and then more

module _ (v : Value) (env : Env) (more : Act) (go : Completion → Act) where
  abbrev behind : Completion → Act
  behind e = Sub (then_normal more e) go

  written_then : (scope : ObjId) (name : Text) (o : Option Value) → Shortens (Sub (elim o [ Some old ↦ more | None ↦ Do (Write env.world (slot scope name) (Some v)) (λ done. more) ]) go) (elim o [ Some old ↦ behind Normal | None ↦ Do (Write env.world (slot scope name) (Some v)) (λ done. behind Normal) ])
  written_then scope name (Some old) = shorten_same (Sub more go)
  written_then scope name None = shorten_deed (Write env.world (slot scope name) (Some v)) (λ done. more) go

  answer_then : (a : PutAnswer) → Shortens (Sub (after_put env more a) go) (put_ended env Normal behind a)
  answer_then Done = shorten_same (Sub more go)
  answer_then Ignored = shorten_same (Sub more go)
  answer_then BadLength = shorten_deed _ _ go

  put_then : (o : ObjId) (name : Text) → Shortens (Sub (put o name v env (after_put env more)) go) (put o name v env (put_ended env Normal behind))
  put_then o name = shorten_trans _ _ _ (shorten_deed _ _ go) (shorten_do _ _ _ (λ arena. shorten_trans _ _ _ (shorten_plan _ _ _ go) (plan_after _ _ _ _ answer_then)))

  pub store_then : (r : Reference) → Shortens (Sub (store r v env more) go) (stored r v env Normal behind)
  store_then (Local scope name) = shorten_trans _ _ _ (shorten_deed _ _ go) (shorten_do _ _ _ (λ arena. written_then scope name (fixed arena scope name)))
  store_then (Everywhere name) = put_then env.global name
  store_then (Member (Object o) name) = put_then o name
  store_then (Member Undefined name) = shorten_same (Sub more go)
  store_then (Member Null name) = shorten_same (Sub more go)
  store_then (Member (Boolean b) name) = shorten_same (Sub more go)
  store_then (Member (Number x) name) = shorten_same (Sub more go)
  store_then (Member (String t) name) = shorten_same (Sub more go)

module _ {S : Type 0} (meaning : S → Meaning) where
  abbrev Deeds : Type 0
  Deeds = Table → (Completion → Act) → Act

  -- a line that is told by the program's units, where a frame is run
  moved : (old mid : Config S) (f : Frame) (act : Vec Program Global → Table → Env → Act) → Later meaning old mid → line_here meaning mid f (act mid.units) ≡ line_here meaning old f (act old.units)
  moved old mid f act l = λ i t go. Sub (act (l.units i) t (env_later meaning old mid t f l i)) go

  -- ---- the lines of a node's variables

  module _ (f : Frame) (node : NodeId) where
    abbrev left_in : ℕ → Vec Program Global → Table → Env → Act
    left_in at us t env = vars_from node.0 at (drop at (variables_of (node_in t (node_among us.items f.tree node)))) env

    abbrev valued_in : ℕ → Numbered → Vec Program Global → Table → Env → Act
    valued_in at v us t env = after_variable node.0 (variables_of (node_in t (node_among us.items f.tree node))) at env (value_in t v)

    abbrev next_in : ℕ → Said → Vec Program Global → Table → Env → Act
    next_in at e us t env = then_normal (left_in at us t env) (completion_in t e)

    pub declares_later : (old mid : Config S) (at : ℕ) (d : Declarator) → Later meaning old mid → Declares old f node at d → Declares mid f node at d
    declares_later old mid at d l is = subst (λ (us : Vec Program Global). slice_get (declarators_in (node_among us.items f.tree node)) at ≡ Some d) (sym l.units) is

    -- ---- one variable

    module _ (c : Config S) (at : ℕ) (d : Declarator) (is : Declares c f node at d) where
      -- its initialiser stands there
      pub variable_stands : (e : NodeId) → d.value ≡ Some e → IsThere meaning c f → StandsHere c f node → StandsHere c f e
      variable_stands e some h n = initialiser_stands meaning c (at_node f node []) at e (node_there meaning c f node [] h n tt) (ap value_of is ∙ some)

      -- its value is stored, and those behind it are due
      pub stored_next : (new : Config S) (place : Place) (q : NumberedReference) (v : Numbered) (e : Said) → ((t : Table) → name_place (tree_here (env_in meaning c t f)) node.0 at ≡ place_in place)
          → Peeks meaning (λ t. reference_at (place_in place) (text_in t d.name) (env_in meaning c t f)) (λ t. reference_in t q) c
          → Does meaning (λ t. stored (reference_in t q) (value_in t v) (env_in meaning c t f) Normal) (λ t. completion_in t e) c new
          → Leaves meaning (line_here meaning c f (valued_in at v c.units)) (line_here meaning c f (next_in (at + 1) e c.units)) c new
      stored_next new place q v e found peeks does = record {
        by = λ go later r h.
            let t = later.heap.texts in
            let env = env_in meaning c t f in
            let rest : Act = left_in (at + 1) c.units t env in
            let stores : Reference → Act = λ y. store y (value_in t v) env rest in
            let next : Reference → Act = λ y. Sub (stores y) go in
            let name : Some d.name ≡ option_map (λ (x : Declarator). x.name) (slice_get (declarators_in (node_among c.units.items f.tree node)) at) = sym (ap (option_map (λ (x : Declarator). x.name)) is) in
            subst (λ (a : Act). OnOk r (Follows meaning (Sub a go) c later)) (variable_stores t (node_among c.units.items f.tree node) node.0 env at (value_in t v) (place_in place) d.name (found t) name)
            (follows_shorter meaning (Sub (reference_at (place_in place) (text_in t d.name) env stores) go) (reference_at (place_in place) (text_in t d.name) env next) c later r
            (referred_goes (place_in place) (text_in t d.name) env stores go)
            ((peeks c.left).by next later r
            (follows_shorter meaning (Sub (stores (reference_in t q)) go) (stored (reference_in t q) (value_in t v) env Normal (λ x. Sub (then_normal rest x) go)) c later r
            (store_then (value_in t v) env rest go (reference_in t q))
            (does.by (λ x. Sub (then_normal rest x) go) later r h))));
      }

      -- its value is asked for
      pub variable_begins : (e : NodeId) → d.value ≡ Some e → Leaves meaning (line_here meaning c f (variables_left c f node at)) (form_here meaning c f (AtExpr e.0) (λ t env. then_value (variable_valued c f node at t env))) c c
      variable_begins e some =
          line_begins meaning c f (variables_left c f node at) (AtExpr e.0) (λ t env. then_value (variable_valued c f node at t env))
          (λ t more. begins t (node_among c.units.items f.tree node) node.0 at (env_in meaning c t f) d is e some)

      -- it has none
      pub variable_passed : d.value ≡ None → Leaves meaning (line_here meaning c f (variables_left c f node at)) (line_here meaning c f (next_in (at + 1) completions.Normal c.units)) c c
      variable_passed none = record {
        by = λ go later r h.
            let t = later.heap.texts in
            subst (λ (a : Act). OnOk r (Follows meaning (Sub a go) c later)) (sym (passed t (node_among c.units.items f.tree node) node.0 at (env_in meaning c t f) d is none)) h;
      }

    -- where it waits for its value
    pub value_waits : (old mid : Config S) (at : ℕ) → Later meaning old mid → (t : Table) (env : Env)
        → then_at meaning mid (at_node f node []) (points.Stmt (stmt.VariableValue at)) t env ≡ then_value (variable_valued old f node at t env)
    value_waits old mid at l t env = ap (λ (us : Vec Program Global). then_value (after_variable node.0 (variables_of (node_in t (node_among us.items f.tree node))) at env)) l.units

    -- ---- one after the other

    -- behind the value of an initialiser
    valued_left : (old mid : Config S) (at : ℕ) (e : NodeId) (v : Numbered) → Later meaning old mid → Leaves meaning (goal_here meaning old f (AtExpr e.0)) (λ t go. go (gives_in t v)) old mid
        → Leaves meaning (form_here meaning old f (AtExpr e.0) (λ t env. then_value (variable_valued old f node at t env))) (line_here meaning mid f (valued_in at v mid.units)) old mid
    valued_left old mid at e v l d =
        subst (λ (us : Vec Program Global). Leaves meaning (form_here meaning old f (AtExpr e.0) (λ t env. then_value (variable_valued old f node at t env))) (line_here meaning mid f (valued_in at v us)) old mid) (sym l.units)
        (part_left meaning gives_in old mid f (AtExpr e.0) (λ t env. then_value (variable_valued old f node at t env)) v l d)

    pub value_next : (old mid new : Config S) (at : ℕ) (e : NodeId) (v : Numbered) (done : Result Said Broken) (w : List Frame) (p : Option (Frame × Phase)) → Later meaning old mid
        → Leaves meaning (goal_here meaning old f (AtExpr e.0)) (λ t go. go (gives_in t v)) old mid
        → GoesNext meaning (line_here meaning mid f (valued_in at v mid.units)) f (variables_left mid f node (at + 1)) done w p mid new
        → GoesNext meaning (form_here meaning old f (AtExpr e.0) (λ t env. then_value (variable_valued old f node at t env))) f (variables_left old f node (at + 1)) done w p old new
    value_next old mid new at e v (Ok end) w p l d m =
        subst (λ (x : Deeds). Leaves meaning (form_here meaning old f (AtExpr e.0) (λ t env. then_value (variable_valued old f node at t env))) x old new) (moved old mid f (next_in (at + 1) end) l)
        (leaves_all meaning _ _ _ old mid new (valued_left old mid at e v l d) m)
    value_next old mid new at e v (Err end) w p l d m =
        in_memory {A = Said} (Err end) (λ h. leaves_all meaning _ _ (broken_in meaning new end w p) old mid new (valued_left old mid at e v l d) h) m

    -- ---- all of them

    module _ (old mid : Config S) (from at : ℕ) (l : Later meaning old mid) (first : Leaves meaning (line_here meaning old f (variables_left old f node from)) (line_here meaning old f (variables_left old f node at)) old mid) where
      abbrev begun : Deeds
      begun = line_here meaning old f (variables_left old f node from)

      -- one of them ended
      next_left : (new : Config S) (e : Said) → Leaves meaning (line_here meaning mid f (variables_left mid f node at)) (line_here meaning mid f (next_in (at + 1) e mid.units)) mid new
          → Leaves meaning begun (line_here meaning old f (next_in (at + 1) e old.units)) old new
      next_left new e d =
          leaves_all meaning _ _ _ old mid new first
          (subst (λ (x : Deeds). Leaves meaning x (line_here meaning old f (next_in (at + 1) e old.units)) mid new) (moved old mid f (left_in at) l)
          (subst (λ (x : Deeds). Leaves meaning (line_here meaning mid f (variables_left mid f node at)) x mid new) (moved old mid f (next_in (at + 1) e) l) d))

      -- normally
      pub next_passed : (new : Config S) (e : Said) (next : ℕ) → next ≡ at + 1 → e ≡ completions.Normal
          → Leaves meaning (line_here meaning mid f (variables_left mid f node at)) (line_here meaning mid f (next_in (at + 1) e mid.units)) mid new
          → Leaves meaning begun (line_here meaning old f (variables_left old f node next)) old new
      next_passed new e next en normal d =
          subst (λ (i : ℕ). Leaves meaning begun (line_here meaning old f (variables_left old f node i)) old new) (sym en)
          (subst (λ (x : Said). Leaves meaning begun (line_here meaning old f (next_in (at + 1) x old.units)) old new) normal (next_left new e d))

      -- otherwise: so do all of them
      pub next_ended : (new : Config S) (e : Said) → (e ≡ completions.Normal → ⊥) → Leaves meaning (line_here meaning mid f (variables_left mid f node at)) (line_here meaning mid f (next_in (at + 1) e mid.units)) mid new
          → Leaves meaning begun (λ t go. go (completion_in t e)) old new
      next_ended new e other d =
          leaves_all meaning _ _ _ old new new (next_left new e d)
          (leaves_shorter meaning (line_here meaning old f (next_in (at + 1) e old.units)) (λ t go. go (completion_in t e)) new
          (λ t more go. shorten_ended _ (completion_in t e) go (shorten_as _ _ (not_normal t e _ other))))

      -- one of them broke off
      pub next_broke : (new : Config S) (end : Broken) (w : List Frame) (p : Option (Frame × Phase)) → Evaluates meaning {A = Said} (line_here meaning mid f (variables_left mid f node at)) completion_in (Err end) w p mid new
          → Evaluates meaning {A = Said} begun completion_in (Err end) w p old new
      next_broke new end w p d =
          in_memory {A = Said} (Err end) (λ h. leaves_all meaning _ _ (broken_in meaning new end w p) old mid new first
          (subst (λ (x : Deeds). Leaves meaning x (broken_in meaning new end w p) mid new) (moved old mid f (left_in at) l) h)) d

      -- there is no further one
      pub all_passed : None ≡ slice_get (declarators_in (node_among mid.units.items f.tree node)) at → Leaves meaning begun (λ t go. go Normal) old mid
      all_passed none =
          let past = subst (λ (us : Vec Program Global). None ≡ slice_get (declarators_in (node_among us.items f.tree node)) at) l.units none in
          leaves_all meaning _ _ _ old mid mid first
          (leaves_shorter meaning (line_here meaning old f (variables_left old f node at)) (λ t go. go Normal) mid
          (λ t more go. shorten_ended _ Normal go (shorten_as _ _ (none_left t (node_among old.units.items f.tree node) node.0 at (env_in meaning old t f) past))))

  -- ---- deeds within a line

  module _ {A : Type 0} (told : Table → A → Completion) (old mid : Config S) (f : Frame) (act : Table → Env → Act) (next : Table → Env → Completion → Act) where
    abbrev nested : Deeds
    nested = line_here meaning old f (λ t env. Sub (act t env) (next t env))

    abbrev flat : Deeds
    flat t go = Sub (act t (env_in meaning old t f)) (λ c. Sub (next t (env_in meaning old t f) c) go)

    nested_shorter : Leaves meaning nested flat old old
    nested_shorter = leaves_shorter meaning nested flat old (λ t more go. let env = env_in meaning old t f in shorten_within (act t env) (next t env) go)

    -- they ended
    pub nested_left : (v : A) → Later meaning old mid → Leaves meaning (line_here meaning old f act) (λ t go. go (told t v)) old mid
        → Leaves meaning nested (line_here meaning mid f (λ t env. next t env (told t v))) old mid
    nested_left v l d = leaves_all meaning nested flat _ old old mid nested_shorter (within_left meaning told (line_here meaning old f act) old mid f next v l d)

    -- they broke off, and the node around them waits
    pub nested_broke : {B : Type 0} (said : Table → B → Completion) (new : Config S) (node : NodeId) (held : List Held) (point : Point) (end : Broken) (waits : List Frame) (top : Option (Frame × Phase)) (end' : Broken) (waits' : List Frame) (top' : Option (Frame × Phase))
        → new ≡ mid → WaitsAt (at_node f node held) point end waits top end' waits' top'
        → (Later meaning old mid → (t : Table) (env : Env) → then_at meaning mid (at_node f node held) point t env ≡ next t env)
        → ((t : Table) (env : Env) (e : Value) → next t env (Throws e) ≡ Ret (Throws e)) → InMemory {A = A} (Err end) (Later meaning old mid)
        → Evaluates meaning (line_here meaning old f act) told (Err end) waits top old mid → Evaluates meaning nested said (Err end') waits' top' old new
    nested_broke {B = B} said new node held point end waits top end' waits' top' same w en et l d =
        subst (λ (c : Config S). Evaluates meaning nested said (Err end') waits' top' old c) (sym same)
        (in_memory {A = B} (Err end') (λ h. leaves_all meaning nested flat _ old old mid nested_shorter h)
        (within_broke meaning told said old mid f (line_here meaning old f act) next node held point end waits top end' waits' top' en et l d w))

-- ---- a `for` that begins with variables

-- where it waits for them
pub for_variables_then : {S : Type 0} (meaning : S → Meaning) (old mid : Config S) (f : Frame) (node : NodeId) (variables : List Declarator) (test update : Option NodeId) (body : NodeId)
    → node_among old.units.items f.tree node ≡ nodes.For (inits.Var variables) test update body → Later meaning old mid
    → (t : Table) (env : Env) → then_at meaning mid (at_node f node []) (points.Stmt stmt.ForVariables) t env ≡ then_normal (loop_from node.0 (number test) (number update) body.0 env)
for_variables_then meaning old mid f node variables test update body is l t env =
    ap (λ (us : Vec Program Global). then_normal (if_for (node_in t (node_among us.items f.tree node)) (λ x u s. loop_from node.0 x u s env))) l.units
    ∙ ap (λ (n : Node). then_normal (if_for (node_in t n) (λ x u s. loop_from node.0 x u s env))) is

-- ---- what follows the step of an entry

-- a `var`
pub var_begins : (t : Table) (n : Node) (variables : List Declarator) (end : End) (here : ℕ) (env : Env) → n ≡ nodes.Var variables end → stmt_of here (node_in t n) env ≡ vars_from here 0 (drop 0 (variables_of (node_in t n))) env
var_begins t n variables end here env e = subst (λ (x : Node). stmt_of here (node_in t x) env ≡ vars_from here 0 (drop 0 (variables_of (node_in t x))) env) (sym e) refl

-- a `for`
pub for_begins : (t : Table) (n : Node) (variables : List Declarator) (test update : Option NodeId) (body : NodeId) (here : ℕ) (env : Env) → n ≡ nodes.For (inits.Var variables) test update body
    → stmt_of here (node_in t n) env ≡ Sub (vars_from here 0 (drop 0 (variables_of (node_in t n))) env) (then_normal (loop_from here (number test) (number update) body.0 env))
for_begins t n variables test update body here env e =
    let loop : Completion → Act = then_normal (loop_from here (number test) (number update) body.0 env) in
    subst (λ (x : Node). stmt_of here (node_in t x) env ≡ Sub (vars_from here 0 (drop 0 (variables_of (node_in t x))) env) loop) (sym e) refl
