-- The entry of a literal, of `this` or of a name does what the operand does.
use Rattle.std.proofs.Common.{◌≡◌, ℕ, zero, suc, ◌<◌, lit<, Option, None, Some, sym, ap, ◌∙◌, subst, length}
use Rattle.wjs_base.specs.declared.ids.TextId.{TextId}
use Rattle.wjs_base.specs.declared.ids.WorldId.{WorldId}
use Rattle.wjs_base.specs.declared.ids.ObjId.{ObjId}
use Rattle.wjs_base.specs.declared.values.Value.{Value as Numbered}
use Rattle.wjs_base.specs.Text.{Table}
use Rattle.wjs_base.specs.declared.ids.NodeId.{NodeId}
use Rattle.wjs_store.specs.Meaning.{Meaning}
use Rattle.wjs_tree.specs.declared.node.Node.{Node}
use Rattle.wjs_tree.specs.declared.node.Node.TheVariants as nodes
use Rattle.wjs_scope.specs.declared.place.Place.{Place as Found}
use Rattle.wjs_scope.specs.Places.{placed_names}
use Rattle.wjs_by_content.specs.Values.{Text, Value, Object, value_or_undefined}
use Rattle.wjs_by_content.specs.Names.{slot}
use Rattle.wjs_by_content.specs.Objects.{fixed, scope_up}
use Rattle.wjs_by_content.specs.Plans.{Plan, Gives as Answers, Reads, Writes, Lists}
use Rattle.wjs_by_content.specs.Tables.{text_in, value_in}
use Rattle.wjs_meaning.specs.Trees.{Place, name_place}
use Rattle.wjs_meaning.specs.Deeds.{St, Env, Goal, AtExpr, Local, Global, Completion, Gives, Refers, Throws, Act, Ret, Tick, Eval, Sub, Do, Read, interp, then_do, carry_out, give, tree_here}
use Rattle.wjs_meaning.specs.Reading.{node_in}
use Rattle.wjs_meaning.specs.References.{reference_at, value_of, defined_value}
use Rattle.wjs_meaning.specs.Expressions.{expr_of, target_of}
use Rattle.wjs_meaning.specs.Programs.{eval, entry}
use Rattle.wjs_meaning.proofs.Steps.{entries_lem}
use Rattle.wjs_model.specs.declared.config.Config.{Config}
use Rattle.wjs_model.specs.declared.operand.Operand.TheVariants as operands
use Rattle.wjs_model.specs.declared.frame.Activation.{Activation as Frame}
use Rattle.wjs_model.specs.Operands.{defined_or_thrown, evaluated, named}
use Rattle.wjs_model.specs.Units.{place_in}
use Rattle.wjs_model.specs.Soundness.{HasValue, Base}
use Rattle.wjs_frames.specs.declared.part.Part.TheVariants as part
use Rattle.wjs_frames.specs.Parts.{env_in, node_among}
use Rattle.wjs_frames.specs.Operands.{IsOperand}
use Rattle.wjs_frames.specs.Shortening.{Shortens}
use Rattle.wjs_frames.proofs.Places.{node_same, node_known}
use Rattle.wjs_frames.proofs.Shorter.{shorten_trans, shorten_ret, shorten_do, shorten_deed, shorten_plan}

-- ---- nested deeds with what comes after them

-- behind a plan, whatever it answers
shorten_after : {A : Type 0} (p : Plan A) (w : WorldId) (go to : A → Act) → ((x : A) → Shortens (go x) (to x)) → Shortens (carry_out p w go) (carry_out p w to)
shorten_after (Answers x) w go to h = h x
shorten_after (Reads s next) w go to h = shorten_do _ _ _ (λ found. shorten_after (next found) w go to h)
shorten_after (Writes s c next) w go to h = shorten_do _ _ _ (λ done. shorten_after next w go to h)
shorten_after (Lists o next) w go to h = shorten_do _ _ _ (λ names. shorten_after (next names) w go to h)

module _ (env : Env) (go : Completion → Act) where
  found_shortens : (scope : ObjId) (name : Text) (o : Option Value) → Shortens (Sub (elim o [ Some v ↦ give v | None ↦ Do (Read env.world (slot scope name)) (λ found. give (value_or_undefined found)) ]) go) (elim o [ Some v ↦ go (Gives v) | None ↦ Do (Read env.world (slot scope name)) (λ found. go (Gives (value_or_undefined found))) ])
  found_shortens scope name (Some v) = shorten_ret (Gives v) go
  found_shortens scope name None = shorten_trans _ _ _ (shorten_deed _ _ go) (shorten_do _ _ _ (λ found. shorten_ret (Gives (value_or_undefined found)) go))

  local_shortens : (scope : ObjId) (name : Text) → Shortens (Sub (value_of (Local scope name) env give) go) (evaluated (Local scope name) env go)
  local_shortens scope name = shorten_trans _ _ _ (shorten_deed _ _ go) (shorten_do _ _ _ (λ arena. found_shortens scope name (fixed arena scope name)))

  defined_shortens : (name : Text) (found : Option Value) → Shortens (Sub (defined_value name env give found) go) (defined_or_thrown name env go found)
  defined_shortens name None = shorten_trans _ _ _ (shorten_deed _ _ go) (shorten_do _ _ _ (λ o. shorten_ret (Throws (Object o)) go))
  defined_shortens name (Some v) = shorten_ret (Gives v) go

  global_shortens : (name : Text) → Shortens (Sub (value_of (Global name) env give) go) (evaluated (Global name) env go)
  global_shortens name = shorten_trans _ _ _ (shorten_deed _ _ go) (shorten_do _ _ _ (λ arena. shorten_trans _ _ _ (shorten_plan _ _ _ go) (shorten_after _ _ _ _ (defined_shortens name))))

  named_shortens : (place : Place) (name : Text) → Shortens (Sub (reference_at place name env (λ r. value_of r env give)) go) (named place name env go)
  named_shortens Place.Global name = global_shortens name
  named_shortens (Place.Local hops) name = shorten_trans _ _ _ (shorten_deed _ _ go) (shorten_do _ _ _ (λ arena. local_shortens (scope_up arena hops env.scope) name))

  refer_shortens : (place : Place) (name : Text) → Shortens (Sub (reference_at place name env (λ r. Ret (Refers r))) go) (reference_at place name env (λ r. go (Refers r)))
  refer_shortens Place.Global name = shorten_ret (Refers (Global name)) go
  refer_shortens (Place.Local hops) name = shorten_trans _ _ _ (shorten_deed _ _ go) (shorten_do _ _ _ (λ arena. shorten_ret (Refers (Local (scope_up arena hops env.scope) name)) go))

-- a goal with what comes after it does what deeds do that are due, where its entry with that does what they do
pub entered_same : (goal : Goal) (env : Env) (go : Completion → Act) (act : Act) → ((st : St) (n : ℕ) → interp eval (Sub (entry goal env) go) st n ≡ interp eval act st n) → (st : St) (n : ℕ) → interp eval (Eval goal env go) st n ≡ interp eval (Tick act) st n
entered_same goal env go act h st zero = ap (λ o. then_do o (λ c st' n'. interp eval (go c) st' n')) (entries_lem goal env st zero)
entered_same goal env go act h st (suc n) = ap (λ o. then_do o (λ c st' n'. interp eval (go c) st' n')) (entries_lem goal env st (suc n)) ∙ h st n

-- ---- the operands of parts

module _ {S : Type 0} (meaning : S → Meaning) (c : Config S) (f : Frame) (e : NodeId) where
  pub expr_is : (n : Node) (t : Table) → node_among c.units.items f.tree e ≡ n → entry (AtExpr e.0) (env_in meaning c t f) ≡ expr_of e.0 (node_in t n) (env_in meaning c t f)
  expr_is n t is = ap (λ node. expr_of e.0 node (env_in meaning c t f)) (node_same t c.units.items f.tree e ∙ ap (node_in t) is)

  -- a part that comes to its end at once, with a value
  pub value_is : (n : Node) (v : Numbered) → node_among c.units.items f.tree e ≡ n → HasValue c v → ((t : Table) → expr_of e.0 (node_in t n) (env_in meaning c t f) ≡ give (value_in t v)) → IsOperand meaning c f (part.Expr e) (operands.Value v)
  value_is n v is h gives = record { has = h; does = λ t go st k. ap (λ a. interp eval (Sub a go) st k) (expr_is n t is ∙ gives t) }

  -- the place of the part's name, where it has one
  abbrev pub IsAt : Found → Type 0
  IsAt place = 0 < length (placed_names (node_among c.units.items f.tree e)) → (t : Table) → name_place (tree_here (env_in meaning c t f)) e.0 0 ≡ place_in place

  has_name : (id : TextId) → node_among c.units.items f.tree e ≡ nodes.Name id → 0 < length (placed_names (node_among c.units.items f.tree e))
  has_name id is = let P : Node → Type 0 = λ n. 0 < length (placed_names n) in subst P (sym is) (lit< tt)

  -- a name for its value
  pub name_is : (id : TextId) (place : Found) → node_among c.units.items f.tree e ≡ nodes.Name id → Base meaning c → IsAt place → IsOperand meaning c f (part.Expr e) (operands.Name place id)
  name_is id place is b at = record {
    has = node_known c.heap.texts c.units.items f.tree e (nodes.Name id) b.units is;
    does = λ t go st k.
        let env = env_in meaning c t f in
        ap (λ a. interp eval (Sub a go) st k) (expr_is (nodes.Name id) t is)
        ∙ (named_shortens env go (name_place (tree_here env) e.0 0) (text_in t id)).same st k
        ∙ ap (λ p. interp eval (named p (text_in t id) env go) st k) (at (has_name id is) t);
  }

  -- a name as a target
  pub target_is : (id : TextId) (place : Found) → node_among c.units.items f.tree e ≡ nodes.Name id → Base meaning c → IsAt place → IsOperand meaning c f (part.Target e) (operands.Target place id)
  target_is id place is b at = record {
    has = node_known c.heap.texts c.units.items f.tree e (nodes.Name id) b.units is;
    does = λ t go st k.
        let env = env_in meaning c t f in
        ap (λ node. interp eval (Sub (target_of e.0 node env) go) st k) (node_same t c.units.items f.tree e ∙ ap (node_in t) is)
        ∙ (refer_shortens env go (name_place (tree_here env) e.0 0) (text_in t id)).same st k
        ∙ ap (λ p. interp eval (reference_at p (text_in t id) env (λ r. go (Refers r))) st k) (at (has_name id is) t);
  }
