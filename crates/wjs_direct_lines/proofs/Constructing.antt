-- `new` of functions that scripts made: the lines from one argument to the next, the new object, and the call on it.
use Rattle.std.proofs.Common.{◌≡◌, ℕ, ◌+◌, List, [], ◌∷◌, ◌++◌, Option, None, Some, Vec, Global, refl, sym, ap, ◌∙◌, subst, drop}
use Rattle.std.specs.Prelude.{cond, IsTrue, Result, Ok, Err, OnOk, is_some, map as each}
use Rattle.std.specs.FinMap as map
use Rattle.wjs_base.specs.declared.ids.NodeId.{NodeId}
use Rattle.wjs_base.specs.declared.ids.ObjId.{ObjId}
use Rattle.wjs_base.specs.declared.values.Value.{Value as Numbered}
use Rattle.wjs_base.specs.declared.values.Value.TheVariants as values
use Rattle.wjs_base.specs.Text.{Table}
use Rattle.wjs_arena.specs.Entries.{Entry}
use Rattle.wjs_arena.specs.declared.class.Class.TheVariants as class
use Rattle.wjs_arena.specs.declared.object.Code.{Code}
use Rattle.wjs_arena.specs.declared.object.Code.TheVariants as code
use Rattle.wjs_store.specs.Meaning.{Meaning}
use Rattle.wjs_by_content.specs.Names.{prototype_name}
use Rattle.wjs_by_content.specs.Objects.{Arena, function_of, has_code, object_of}
use Rattle.wjs_by_content.specs.Tables.{value_in}
use Rattle.wjs_by_content.specs.Values.{Text, Value, Undefined, Null, Boolean, Number, String, Object}
use Rattle.wjs_meaning.specs.Builtins.{object_prototype}
use Rattle.wjs_meaning.specs.Calls.{call}
use Rattle.wjs_meaning.specs.Constructions.{construct, new_code, new_found, new_on, new_prototype, new_result}
use Rattle.wjs_meaning.specs.Deeds.{Env, AtBody, AtExpr, Completion, Act, Ret, Eval, Sub, Do, Create, Look, give, then_value}
use Rattle.wjs_meaning.specs.Expressions.{new_callee, values_from}
use Rattle.wjs_meaning.specs.Properties.{get_value}
use Rattle.wjs_meaning.specs.Reading.{node_in}
use Rattle.wjs_model.specs.declared.config.Config.{Config}
use Rattle.wjs_model.specs.declared.frame.Activation.{Activation as Frame}
use Rattle.wjs_model.specs.declared.frame.Held.TheVariants as holds
use Rattle.wjs_model.specs.declared.frame.Phase.{Phase}
use Rattle.wjs_model.specs.declared.loaded.LoadedProgram.{LoadedProgram as Program}
use Rattle.wjs_model.specs.declared.point.ExprPoint.TheVariants as exprs
use Rattle.wjs_model.specs.declared.point.Point.TheVariants as points
use Rattle.wjs_model.specs.Lists.{arguments_of}
use Rattle.wjs_model.specs.Soundness.{HasObject}
use Rattle.wjs_frames.specs.Doing.{Does}
use Rattle.wjs_frames.specs.Following.{Follows, Later}
use Rattle.wjs_frames.specs.Parts.{env_in, node_among, then_at}
use Rattle.wjs_frames.specs.Shortening.{Shortens}
use Rattle.wjs_frames.proofs.Frames.{each_snoc}
use Rattle.wjs_frames.proofs.Handling.{env_later}
use Rattle.wjs_frames.proofs.Shorter.{follows_look, follows_shorter, shorten_deed, shorten_do, shorten_ended, shorten_plan, shorten_trans}
use Rattle.wjs_quick.proofs.Coming.{shorten_goal}
use Rattle.wjs_effects.specs.Sequences.{NextIs}
use Rattle.wjs_effects.proofs.Leaving.{shorten_as}
use Rattle.wjs_stopping.specs.declared.ends.Broken.{Broken}
use Rattle.wjs_stopping.specs.Ends.{gives_in}
use Rattle.wjs_stopping.specs.Waiting.{at_node, WaitsAt}
use Rattle.wjs_stopping.specs.Evaluating.{Evaluates, InMemory, Leaves}
use Rattle.wjs_stopping.proofs.Evaluating.{in_memory, leaves_all}
use Rattle.wjs_direct_lines.specs.Deeds.{IsScript, call_held, form_here, goal_here, line_here}
use Rattle.wjs_direct_lines.specs.News.{prototype_in}
use Rattle.wjs_direct_lines.proofs.Calling.{script_entered, values_end, values_next}
use Rattle.wjs_direct_lines.proofs.Declaring.{nested_broke, nested_left}
use Rattle.wjs_direct_lines.proofs.Entering.{script_seen}
use Rattle.wjs_direct_lines.proofs.Holdings.{callee_of_call, values_of_call}
use Rattle.wjs_direct_lines.proofs.Nesting.{leaves_shorter}
use Rattle.wjs_direct_lines.proofs.Parts.{broke_does}

-- ---- lines

-- by what is found under `prototype`
prototype_is : (f : ObjId) (vs : List Value) (env : Env) (v : Value) → new_prototype f vs env v ≡ new_on (prototype_in v) f vs env
prototype_is f vs env Undefined = refl
prototype_is f vs env Null = refl
prototype_is f vs env (Boolean b) = refl
prototype_is f vs env (Number x) = refl
prototype_is f vs env (String t) = refl
prototype_is f vs env (Object o) = refl

pub plain_in : (t : Table) (v : Numbered) (p : ObjId) → p ≡ object_prototype → ((o : ObjId) → v ≡ values.Object o → ⊥) → p ≡ prototype_in (value_in t v)
plain_in t values.Undefined p e h = e
plain_in t values.Null p e h = e
plain_in t (values.Bool b) p e h = e
plain_in t (values.Number x) p e h = e
plain_in t (values.Text id) p e h = e
plain_in t (values.Object o) p e h = absurd (h o refl)

get_goes : (o : ObjId) (name : Text) (env : Env) (k : Value → Act) (go : Completion → Act) → Shortens (Sub (get_value o name env k) go) (get_value o name env (λ v. Sub (k v) go))
get_goes o name env k go = shorten_trans _ _ _ (shorten_deed _ _ go) (shorten_do _ _ _ (λ arena. shorten_plan _ _ _ go))

module _ {S : Type 0} (meaning : S → Meaning) where
  -- ---- what a function's code is

  pub script_later : (old new : Config S) (o : ObjId) (tree : ℕ) (body : NodeId) → Later meaning old new → HasObject old o → IsScript old o tree body → IsScript new o tree body
  script_later old new o tree body l h is = by (map.get old.heap.arena o) refl h.0
    where
      by : (r : Option Entry) → map.get old.heap.arena o ≡ r → IsTrue (is_some r) → IsScript new o tree body
      by None q k = absurd (cc)
      by (Some e) q k = λ e' h'.
          let both : Some e ≡ Some e' = sym (l.arena o e q) ∙ h' in
          let same : e ≡ e' = cc in
          subst (λ (x : Entry). x.object.code ≡ code.Script tree body) same (is e q)

  -- ---- the new object

  -- `prototype` is found
  pub prototype_found : (old mid new : Config S) (f : Frame) (callee : ObjId) (tree : ℕ) (body : NodeId) (p : ObjId) (vs : List Numbered) (done : Result Numbered Broken) (waits : List Frame) (top : Option (Frame × Phase))
      → HasObject old callee → IsScript old callee tree body
      → Does meaning (λ t go. get_value callee prototype_name (env_in meaning old t f) (λ v. go (prototype_in v))) (λ t. p) old mid → Later meaning old mid
      → Evaluates meaning (line_here meaning mid f (λ t env. new_on p callee (each (value_in t) vs) env)) gives_in done waits top mid new
      → Evaluates meaning (line_here meaning old f (λ t env. construct (Object callee) env (each (value_in t) vs))) gives_in done waits top old new
  prototype_found old mid new f callee tree body p vs done waits top h is found l d =
      in_memory done (λ d'. record {
        by = λ go later r x.
            let t = later.heap.texts in
            let env = env_in meaning old t f in
            let us = each (value_in t) vs in
            let looked : Arena → Act = λ arena. new_found (function_of arena (Object callee)) arena us env in
            let inner : Act = get_value callee prototype_name env (new_prototype callee us env) in
            follows_shorter meaning (Sub (Do Look looked) go) (Do Look (λ arena. Sub (looked arena) go)) old later r (shorten_deed Look looked go)
            (follows_look meaning (λ arena. Sub (looked arena) go) (Sub inner go) old later r
            (λ arena s.
            let seen = script_seen meaning old callee tree body h is t arena s in
            ap (λ (a : Act). Sub a go) (ap (λ (k : Code). new_found (cond (has_code k) (Some callee) None) arena us env) seen ∙ ap (λ (k : Code). new_code k callee us env) seen))
            (follows_shorter meaning (Sub inner go) (get_value callee prototype_name env (λ v. Sub (new_prototype callee us env v) go)) old later r (get_goes callee prototype_name env (new_prototype callee us env) go)
            (subst (λ (k : Value → Act). OnOk r (Follows meaning (get_value callee prototype_name env k) old later)) (sym (λ i v. Sub (prototype_is callee us env v i) go))
            (found.by (λ q. Sub (new_on q callee us env) go) later r
            (subst (λ (e : Env). OnOk r (Follows meaning (Sub (new_on p callee us e) go) mid later)) (env_later meaning old mid t f l) (d'.by go later r x))))));
      }) d

  -- it is made
  pub new_made : (old mid new : Config S) (f : Frame) (callee p o : ObjId) (vs : List Numbered) (done : Result Numbered Broken) (waits : List Frame) (top : Option (Frame × Phase))
      → Does meaning (λ t go. Do (Create old.owner (object_of class.Plain (Some p))) go) (λ t. o) old mid → Later meaning old mid
      → Evaluates meaning (line_here meaning mid f (λ t env. Sub (call callee (Object o) (each (value_in t) vs) env) (then_value (new_result o)))) gives_in done waits top mid new
      → Evaluates meaning (line_here meaning old f (λ t env. new_on p callee (each (value_in t) vs) env)) gives_in done waits top old new
  new_made old mid new f callee p o vs done waits top made l d =
      in_memory done (λ d'. record {
        by = λ go later r x.
            let t = later.heap.texts in
            let env = env_in meaning old t f in
            let next : ObjId → Act = λ q. Sub (call callee (Object q) (each (value_in t) vs) env) (then_value (new_result q)) in
            let deed = Create env.owner (object_of class.Plain (Some p)) in
            follows_shorter meaning (Sub (Do deed next) go) (Do deed (λ q. Sub (next q) go)) old later r (shorten_deed deed next go)
            (made.by (λ q. Sub (next q) go) later r
            (subst (λ (e : Env). OnOk r (Follows meaning (Sub (Sub (call callee (Object o) (each (value_in t) vs) e) (then_value (new_result o))) go) mid later)) (env_later meaning old mid t f l) (d'.by go later r x)));
      }) d

  -- ---- the call on it

  module _ (old mid : Config S) (f : Frame) (callee o : ObjId) (vs : List Numbered) (tree : ℕ) (body : NodeId) (h : HasObject old callee) (is : IsScript old callee tree body) where
    abbrev body_here : Table → (Completion → Act) → Act
    body_here = line_here meaning old f (λ t env. Eval (AtBody callee (each (value_in t) vs)) (record env { this = Object o }) Ret)

    abbrev call_here : Table → Env → Act
    call_here t env = call callee (Object o) (each (value_in t) vs) env

    called : (done : Result Numbered Broken) (w : List Frame) (q : Option (Frame × Phase)) → Evaluates meaning body_here gives_in done w q old mid → Evaluates meaning (line_here meaning old f call_here) gives_in done w q old mid
    called done w q d = script_entered meaning gives_in old mid f callee o (values.Object o) vs tree body done w q (script_seen meaning old callee tree body h is) (λ t. refl) d

    -- it ended
    pub call_given : (v made : Numbered) (w : List Frame) (q : Option (Frame × Phase)) (w' : List Frame) (q' : Option (Frame × Phase)) → Later meaning old mid → Evaluates meaning body_here gives_in (Ok v) w q old mid
        → ((t : Table) → new_result o (value_in t v) ≡ give (value_in t made)) → Evaluates meaning {A = Numbered} (line_here meaning old f (λ t env. Sub (call_here t env) (then_value (new_result o)))) gives_in (Ok made) w' q' old mid
    call_given v made w q w' q' l d e =
        leaves_all meaning _ _ _ old mid mid (nested_left meaning gives_in old mid f call_here (λ t env. then_value (new_result o)) v l (called (Ok v) w q d))
        (leaves_shorter meaning (line_here meaning mid f (λ t env. new_result o (value_in t v))) (λ t go. go (gives_in t made)) mid
        (λ t more go. shorten_ended _ (gives_in t made) go (shorten_as _ _ (e t))))

    -- it broke off
    pub call_broke : (new : Config S) (node : NodeId) (end : Broken) (w : List Frame) (q : Option (Frame × Phase)) (end' : Broken) (waits : List Frame) (top : Option (Frame × Phase)) → new ≡ mid
        → WaitsAt (at_node f node (holds.Value (values.Object o) ∷ [])) (points.Expr exprs.NewCall) end w q end' waits top → InMemory {A = Numbered} (Err end) (Later meaning old mid)
        → Evaluates meaning body_here gives_in (Err end) w q old mid → Evaluates meaning {A = Numbered} (line_here meaning old f (λ t env. Sub (call_here t env) (then_value (new_result o)))) gives_in (Err end') waits top old new
    call_broke new node end w q end' waits top same s l d =
        nested_broke meaning gives_in old mid f call_here (λ t env. then_value (new_result o)) gives_in new node (holds.Value (values.Object o) ∷ []) (points.Expr exprs.NewCall) end w q end' waits top same s
        (λ m t env. refl) (λ t env e. refl) l (called (Err end) w q d)

  -- where its callee is asked for
  pub new_callee_waits : (old mid : Config S) (f : Frame) (node : NodeId) → Later meaning old mid → (t : Table) (env : Env)
      → then_at meaning mid (at_node f node []) (points.Expr exprs.NewCallee) t env ≡ then_value (new_callee (arguments_of (node_in t (node_among old.units.items f.tree node))) env)
  new_callee_waits old mid f node l t env = ap (λ (us : Vec Program Global). then_value (new_callee (arguments_of (node_in t (node_among us.items f.tree node))) env)) l.units

  -- ---- from one argument to the next

  module _ (old : Config S) (f : Frame) (node : NodeId) (callee : ObjId) where
    abbrev given_here : Table → List ℕ
    given_here t = arguments_of (node_in t (node_among old.units.items f.tree node))

    -- what is left from an argument on, with the values before it
    abbrev pub news_left : ℕ → List Numbered → Table → Env → Act
    news_left at vs t env = values_from (drop at (given_here t)) (each (value_in t) vs) env (construct (Object callee) env)

    -- and after it
    abbrev after_given : ℕ → List Numbered → Table → Env → Completion → Act
    after_given at vs t env = then_value (λ v. values_from (drop (at + 1) (given_here t)) (each (value_in t) vs ++ v ∷ []) env (construct (Object callee) env))

    abbrev begun : Table → (Completion → Act) → Act
    begun = line_here meaning old f (news_left 0 [])

    -- none is done
    pub news_first : Leaves meaning begun begun old old
    news_first = record { by = λ go later r h. h }

    module _ (mid : Config S) (l : Later meaning old mid) (at : ℕ) (vs : List Numbered) (left : Leaves meaning begun (line_here meaning old f (news_left at vs)) old mid) where
      -- the same list
      here_as : (o : Option NodeId) → ((t : Table) → NextIs (arguments_of (node_in t (node_among mid.units.items f.tree node))) at o) → (t : Table) → NextIs (given_here t) at o
      here_as o next t = subst (λ (us : Vec Program Global). NextIs (arguments_of (node_in t (node_among us.items f.tree node))) at o) l.units (next t)

      module _ (e : NodeId) (next : (t : Table) → NextIs (arguments_of (node_in t (node_among mid.units.items f.tree node))) at (Some e)) where
        -- its evaluation comes first
        given_first : (rest : Table → (Completion → Act) → Act) (new : Config S) → Leaves meaning (form_here meaning mid f (AtExpr e.0) (after_given at vs)) rest mid new → Leaves meaning (line_here meaning old f (news_left at vs)) rest mid new
        given_first rest new d = record {
          by = λ go later r h.
              let t = later.heap.texts in
              let env = env_in meaning old t f in
              let F : Act → Type 0 = λ a. OnOk r (Follows meaning a mid later) in
              subst (λ (a : Act). F (Sub a go)) (sym (values_next (given_here t) at e (each (value_in t) vs) env (construct (Object callee) env) (here_as (Some e) next t)))
              (follows_shorter meaning (Sub (Eval (AtExpr e.0) env (after_given at vs t env)) go) (Eval (AtExpr e.0) env (λ c. Sub (after_given at vs t env c) go)) mid later r (shorten_goal (AtExpr e.0) env (after_given at vs t env) go)
              (subst (λ (x : Env). F (Eval (AtExpr e.0) x (λ c. Sub (after_given at vs t x c) go))) (env_later meaning old mid t f l) (d.by go later r h)));
        }

        -- it has its value
        pub given_value : (v : Numbered) (w : List Frame) (p : Option (Frame × Phase)) (new : Config S) → Evaluates meaning (goal_here meaning mid f (AtExpr e.0)) gives_in (Ok v) w p mid new
            → Leaves meaning begun (line_here meaning old f (news_left (at + 1) (vs ++ v ∷ []))) old new
        given_value v w p new d =
            leaves_all meaning _ _ _ old mid new left (given_first _ new (record {
              by = λ go later r h.
                  let t = later.heap.texts in
                  let same = sym (env_later meaning old mid t f l) in
                  d.by (λ c. Sub (after_given at vs t (env_in meaning mid t f) c) go) later r
                  (subst (λ (a : Act). OnOk r (Follows meaning (Sub a go) new later))
                  (λ i. values_from (drop (at + 1) (given_here t)) (each_snoc (value_in t) vs v i) (same i) (construct (Object callee) (same i))) h);
            }))

        given_point : (new : Config S) → Later meaning mid new → (t : Table) (env : Env) → then_at meaning new (at_node f node (call_held (values.Object callee) values.Undefined vs)) (points.Expr (exprs.NewArgument at)) t env ≡ after_given at vs t env
        given_point new m t env =
            let us = m.units ∙ l.units in
            let one = callee_of_call (values.Object callee) values.Undefined vs in
            λ i. then_value (λ v. values_from (drop (at + 1) (arguments_of (node_in t (node_among (us i).items f.tree node)))) (values_of_call (values.Object callee) values.Undefined vs t i ++ v ∷ []) env (construct (value_in t (one i).0) env))

        -- it broke off
        pub given_broke : (end : Broken) (w : List Frame) (p : Option (Frame × Phase)) (end' : Broken) (waits : List Frame) (top : Option (Frame × Phase)) (new after : Config S) → after ≡ new → InMemory {A = Numbered} (Err end) (Later meaning mid new)
            → Evaluates meaning (goal_here meaning mid f (AtExpr e.0)) gives_in (Err end) w p mid new → WaitsAt (at_node f node (call_held (values.Object callee) values.Undefined vs)) (points.Expr (exprs.NewArgument at)) end w p end' waits top
            → Evaluates meaning begun gives_in (Err end') waits top old after
        given_broke end w p end' waits top new after same m d s =
            in_memory {A = Numbered} (Err end') (λ x. leaves_all meaning _ _ _ old mid after left (given_first _ after x))
            (broke_does meaning Numbered Numbered mid new after f node (call_held (values.Object callee) values.Undefined vs) (points.Expr (exprs.NewArgument at)) end w p end' waits top same s
            gives_in gives_in (AtExpr e.0) (after_given at vs) (given_point new) (λ t env x. refl) m d)

      -- behind the last comes the construction
      pub givens_done : (done : Result Numbered Broken) (waits : List Frame) (top : Option (Frame × Phase)) (new : Config S) → ((t : Table) → NextIs (arguments_of (node_in t (node_among mid.units.items f.tree node))) at None)
          → Evaluates meaning (line_here meaning mid f (λ t env. construct (Object callee) env (each (value_in t) vs))) gives_in done waits top mid new
          → Evaluates meaning begun gives_in done waits top old new
      givens_done done waits top new none d =
          in_memory done (λ d'. leaves_all meaning _ _ _ old mid new left (record {
            by = λ go later r h.
                let t = later.heap.texts in
                let env = env_in meaning old t f in
                let F : Act → Type 0 = λ a. OnOk r (Follows meaning a mid later) in
                subst (λ (a : Act). F (Sub a go)) (sym (values_end (given_here t) at (each (value_in t) vs) env (construct (Object callee) env) (here_as None none t)))
                (subst (λ (x : Env). F (Sub (construct (Object callee) x (each (value_in t) vs)) go)) (env_later meaning old mid t f l) (d'.by go later r h));
          })) d
