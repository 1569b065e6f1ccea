-- `delete` and `typeof`: where their frames wait, and what follows what their operands are.
use Rattle.std.proofs.Common.{◌≡◌, ℕ, Bool, true, false, List, refl, sym, ap, ◌∙◌, subst}
use Rattle.std.specs.Prelude.{Option, Result, Ok}
use Rattle.wjs_base.specs.Text.{Table}
use Rattle.wjs_base.specs.declared.values.Name.{Name}
use Rattle.wjs_base.specs.declared.values.Value.{Value as Numbered}
use Rattle.wjs_base.specs.declared.values.Value.TheVariants as values
use Rattle.wjs_by_content.specs.Tables.{name_in, value_in}
use Rattle.wjs_by_content.specs.Values.{Value, Boolean}
use Rattle.wjs_store.specs.Meaning.{Meaning}
use Rattle.wjs_meaning.specs.Deeds.{Env, AtExpr, AtTarget, Completion, Gives, Act, Eval, Sub, then_reference, then_value, tree_here}
use Rattle.wjs_meaning.specs.Expressions.{delete_reference, operand, prefix_of, typeof_value}
use Rattle.wjs_meaning.specs.Properties.{get_value}
use Rattle.wjs_meaning.specs.Trees.{is_target}
use Rattle.wjs_model.specs.declared.config.Config.{Config}
use Rattle.wjs_model.specs.declared.frame.Activation.{Activation as Frame}
use Rattle.wjs_model.specs.declared.frame.Phase.{Phase}
use Rattle.wjs_model.specs.declared.frame.Reference.{Reference as NumberedReference}
use Rattle.wjs_model.specs.declared.frame.Reference.TheVariants as references
use Rattle.wjs_model.specs.declared.point.ExprPoint.{ExprPoint}
use Rattle.wjs_model.specs.declared.point.Point.TheVariants as points
use Rattle.wjs_model.specs.Contents.{reference_in}
use Rattle.wjs_model.specs.Soundness.{HasPoint}
use Rattle.wjs_frames.specs.Doing.{Does}
use Rattle.wjs_frames.specs.Parts.{env_in, then_at}
use Rattle.wjs_frames.proofs.Shorter.{follows_shorter}
use Rattle.wjs_effects.specs.Telling.{deleted, type_of}
use Rattle.wjs_effects.proofs.Storing.{property_goes}
use Rattle.wjs_effects.proofs.Telling.{delete_shortens, type_shortens}
use Rattle.wjs_stopping.specs.declared.ends.Broken.{Broken}
use Rattle.wjs_stopping.specs.Ends.{gives_in}
use Rattle.wjs_stopping.specs.Evaluating.{Evaluates}
use Rattle.wjs_stopping.proofs.Evaluating.{in_memory}
use Rattle.wjs_direct_lines.specs.declared.operands.Query.{Query}
use Rattle.wjs_direct_lines.specs.declared.operands.Query.TheVariants as queries
use Rattle.wjs_direct_lines.specs.Deeds.{line_here}
use Rattle.wjs_direct_lines.specs.Operands.{IsTypedByValue, after_reference, after_value, operator_of, target_point, value_point}
use Rattle.wjs_direct_lines.proofs.Parts.{did, shortened}

-- ---- their lines

line_by : (query : Query) (e : ℕ) (env : Env) → prefix_of (operator_of query) e env ≡ operand e env (after_reference query env) (after_value query)
line_by queries.Delete e env = refl
line_by queries.Typeof e env = refl

-- by what the operand is
abbrev operand_by : (query : Query) (e : ℕ) (env : Env) → Bool → Act
operand_by query e env b = elim b [ true ↦ Eval (AtTarget e) env (then_reference (after_reference query env)) | false ↦ Eval (AtExpr e) env (then_value (after_value query)) ]

pub target_line : (query : Query) (e : ℕ) (env : Env) → is_target (tree_here env) e ≡ true → prefix_of (operator_of query) e env ≡ Eval (AtTarget e) env (then_reference (after_reference query env))
target_line query e env is = line_by query e env ∙ ap (λ (b : Bool). operand_by query e env b) is

pub value_line : (query : Query) (e : ℕ) (env : Env) → is_target (tree_here env) e ≡ false → prefix_of (operator_of query) e env ≡ Eval (AtExpr e) env (then_value (after_value query))
value_line query e env is = line_by query e env ∙ ap (λ (b : Bool). operand_by query e env b) is

-- what is no name of the global object is typed by its value
pub typed_by_value : (q : NumberedReference) → ((name : Name) → q ≡ references.Global name → ⊥) → IsTypedByValue q
typed_by_value (references.Local scope name) h = λ t env. refl
typed_by_value (references.Global name) h = absurd (h name refl)
typed_by_value (references.Member base name) h = λ t env. refl

module _ {S : Type 0} (meaning : S → Meaning) where
  -- ---- where their frames wait: such a point names nothing

  target_stands_by : (c : Config S) (f : Frame) (query : Query) → HasPoint c f (points.Expr (target_point query))
  target_stands_by c f queries.Delete = tt
  target_stands_by c f queries.Typeof = tt

  pub target_stands : (c : Config S) (f : Frame) (query : Query) (point : ExprPoint) → point ≡ target_point query → HasPoint c f (points.Expr point)
  target_stands c f query point e = subst (λ (p : ExprPoint). HasPoint c f (points.Expr p)) (sym e) (target_stands_by c f query)

  value_stands_by : (c : Config S) (f : Frame) (query : Query) → HasPoint c f (points.Expr (value_point query))
  value_stands_by c f queries.Delete = tt
  value_stands_by c f queries.Typeof = tt

  pub value_stands : (c : Config S) (f : Frame) (query : Query) (point : ExprPoint) → point ≡ value_point query → HasPoint c f (points.Expr point)
  value_stands c f query point e = subst (λ (p : ExprPoint). HasPoint c f (points.Expr p)) (sym e) (value_stands_by c f query)

  -- what is waited for there

  target_waits_by : (c : Config S) (f : Frame) (query : Query) (t : Table) (env : Env) → then_at meaning c f (points.Expr (target_point query)) t env ≡ then_reference (after_reference query env)
  target_waits_by c f queries.Delete t env = refl
  target_waits_by c f queries.Typeof t env = refl

  pub target_waits : (c : Config S) (f : Frame) (query : Query) (point : ExprPoint) → point ≡ target_point query → (t : Table) (env : Env) → then_at meaning c f (points.Expr point) t env ≡ then_reference (after_reference query env)
  target_waits c f query point e t env = ap (λ (p : ExprPoint). then_at meaning c f (points.Expr p) t env) e ∙ target_waits_by c f query t env

  value_waits_by : (c : Config S) (f : Frame) (query : Query) (t : Table) (env : Env) → then_at meaning c f (points.Expr (value_point query)) t env ≡ then_value (after_value query)
  value_waits_by c f queries.Delete t env = refl
  value_waits_by c f queries.Typeof t env = refl

  pub value_waits : (c : Config S) (f : Frame) (query : Query) (point : ExprPoint) → point ≡ value_point query → (t : Table) (env : Env) → then_at meaning c f (points.Expr point) t env ≡ then_value (after_value query)
  value_waits c f query point e t env = ap (λ (p : ExprPoint). then_at meaning c f (points.Expr p) t env) e ∙ value_waits_by c f query t env

  -- ---- what they tell

  module _ (c new : Config S) (waits : List Frame) (top : Option (Frame × Phase)) where
    pub delete_told : (f : Frame) (q : NumberedReference) (gone : Bool) → Does meaning (λ t. deleted (reference_in t q) (env_in meaning c t f)) (λ t. gone) c new
        → Evaluates meaning (line_here meaning c f (λ t env. delete_reference env (reference_in t q))) gives_in (Ok (values.Bool gone)) waits top c new
    delete_told f q gone d =
        let short : Table → (Completion → Act) → Act = λ t go. deleted (reference_in t q) (env_in meaning c t f) (λ b. go (Gives (Boolean b))) in
        shortened meaning gives_in (line_here meaning c f (λ t env. delete_reference env (reference_in t q))) short (Ok (values.Bool gone)) waits top c new
        (λ t more go. delete_shortens (env_in meaning c t f) go (reference_in t q))
        (did meaning gives_in short (values.Bool gone) waits top c new (record { by = λ go later r h. d.by (λ b. go (Gives (Boolean b))) later r h }))

    pub type_told : (v name : Numbered) → Does meaning (λ t. type_of (value_in t v)) (λ t. value_in t name) c new → Evaluates meaning (λ t go. Sub (typeof_value (value_in t v)) go) gives_in (Ok name) waits top c new
    type_told v name d =
        let short : Table → (Completion → Act) → Act = λ t go. type_of (value_in t v) (λ x. go (Gives x)) in
        shortened meaning gives_in (λ t go. Sub (typeof_value (value_in t v)) go) short (Ok name) waits top c new
        (λ t more go. type_shortens (value_in t v) go)
        (did meaning gives_in short name waits top c new (record { by = λ go later r h. d.by (λ x. go (Gives x)) later r h }))

  -- a name of the global object
  pub global_goes : (old mid new : Config S) (f : Frame) (name : Name) (v : Numbered) (done : Result Numbered Broken) (waits : List Frame) (top : Option (Frame × Phase))
      → Does meaning (λ t. get_value old.global (name_in t name) (env_in meaning old t f)) (λ t. value_in t v) old mid
      → Evaluates meaning (λ t go. Sub (typeof_value (value_in t v)) go) gives_in done waits top mid new
      → Evaluates meaning (line_here meaning old f (λ t env. get_value env.global (name_in t name) env typeof_value)) gives_in done waits top old new
  global_goes old mid new f name v done waits top one d =
      in_memory done (λ d'. record {
        by = λ go later r h.
            let t = later.heap.texts in
            let env = env_in meaning old t f in
            let next : Value → Act = λ x. Sub (typeof_value x) go in
            follows_shorter meaning (Sub (get_value env.global (name_in t name) env typeof_value) go) (get_value env.global (name_in t name) env next) old later r
            (property_goes env typeof_value go env.global (name_in t name)) (one.by next later r (d'.by go later r h));
      }) d
