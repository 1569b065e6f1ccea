-- Values and stores of references (ECMA-262, 3rd edition, section 8.7) within nested deeds.
use Rattle.std.proofs.Common.{◌≡◌, ℕ, ◌≤◌, Bool, true, false, Option, Some, None, length, refl, arith}
use Rattle.wjs_base.specs.declared.ids.ObjId.{ObjId}
use Rattle.wjs_base.specs.Text.{Table}
use Rattle.wjs_by_content.specs.declared.answers.PutAnswer.{PutAnswer}
use Rattle.wjs_by_content.specs.declared.answers.PutAnswer.TheVariants.{Done, Ignored, BadLength}
use Rattle.wjs_by_content.specs.Names.{slot, length_name}
use Rattle.wjs_by_content.specs.Objects.{fixed}
use Rattle.wjs_by_content.specs.Values.{Text, Value, Undefined, Null, Boolean, Number, String, Object, whole, same_text, value_or_undefined}
use Rattle.wjs_meaning.specs.Builtins.{class_prototype}
use Rattle.wjs_meaning.specs.Trees.{Place}
use Rattle.wjs_meaning.specs.Deeds.{Env, Reference, Local, Global, Member, Goal, AtExpr, St, Outcome, Ends, Spent, Completion, Gives, Throws, Act, Ret, Eval, Sub, Do, Read, Write, interp, then_do, then_value}
use Rattle.wjs_meaning.specs.Properties.{get_value, has, put}
use Rattle.wjs_meaning.specs.Programs.{eval}
use Rattle.wjs_meaning.specs.References.{reference_at, value_of, member_value, defined_value, store, after_put}
use Rattle.wjs_meaning.specs.Statements.{expr_done, return_value}
use Rattle.wjs_model.specs.Contents.{completion_in}
use Rattle.wjs_model.specs.Operands.{evaluated, defined_or_thrown}
use Rattle.wjs_frames.specs.Shortening.{Shortens}
use Rattle.wjs_frames.proofs.Shorter.{shorten_same, shorten_trans, shorten_ret, shorten_do, shorten_deed, shorten_plan}
use Rattle.wjs_quick.proofs.MemberLines.{plan_after}
use Rattle.wjs_effects.specs.declared.effect.Effect.{Effect}
use Rattle.wjs_effects.specs.declared.effect.Effect.TheVariants as effects
use Rattle.wjs_effects.specs.Effects.{put_ended, stored, carried}

-- ---- values

module _ (env : Env) (k : Value → Act) (go : Completion → Act) where
  -- what follows a completion: deeds of its value, or its end
  abbrev next : Completion → Act
  next e = Sub (then_value k e) go

  slot_goes : (scope : ObjId) (name : Text) (o : Option Value) → Shortens (Sub (elim o [ Some v ↦ k v | None ↦ Do (Read env.world (slot scope name)) (λ found. k (value_or_undefined found)) ]) go) (elim o [ Some v ↦ next (Gives v) | None ↦ Do (Read env.world (slot scope name)) (λ found. next (Gives (value_or_undefined found))) ])
  slot_goes scope name (Some v) = shorten_same (Sub (k v) go)
  slot_goes scope name None = shorten_deed (Read env.world (slot scope name)) (λ found. k (value_or_undefined found)) go

  defined_goes : (name : Text) (found : Option Value) → Shortens (Sub (defined_value name env k found) go) (defined_or_thrown name env next found)
  defined_goes name None = shorten_deed _ _ go
  defined_goes name (Some v) = shorten_same (Sub (k v) go)

  pub property_goes : (o : ObjId) (name : Text) → Shortens (Sub (get_value o name env k) go) (get_value o name env (λ v. Sub (k v) go))
  property_goes o name = shorten_trans _ _ _ (shorten_deed _ _ go) (shorten_do _ _ _ (λ arena. shorten_plan _ _ _ go))

  length_goes : (text name : Text) (b : Bool) → Shortens (Sub (elim b [ true ↦ k (whole (length text)) | false ↦ get_value (class_prototype (String text)) name env k ]) go) (elim b [ true ↦ Sub (k (whole (length text))) go | false ↦ get_value (class_prototype (String text)) name env (λ v. Sub (k v) go) ])
  length_goes text name true = shorten_same (Sub (k (whole (length text))) go)
  length_goes text name false = property_goes (class_prototype (String text)) name

  member_goes : (base : Value) (name : Text) → Shortens (Sub (member_value base name env k) go) (member_value base name env (λ v. Sub (k v) go))
  member_goes (Object o) name = property_goes o name
  member_goes (String t) name = length_goes t name (same_text name length_name)
  member_goes Undefined name = property_goes (class_prototype Undefined) name
  member_goes Null name = property_goes (class_prototype Null) name
  member_goes (Boolean b) name = property_goes (class_prototype (Boolean b)) name
  member_goes (Number x) name = property_goes (class_prototype (Number x)) name

  -- the value of a reference, or what is thrown
  pub value_goes : (r : Reference) → Shortens (Sub (value_of r env k) go) (evaluated r env next)
  value_goes (Local scope name) = shorten_trans _ _ _ (shorten_deed _ _ go) (shorten_do _ _ _ (λ arena. slot_goes scope name (fixed arena scope name)))
  value_goes (Global name) = shorten_trans _ _ _ (shorten_deed _ _ go) (shorten_do _ _ _ (λ arena. shorten_trans _ _ _ (shorten_plan _ _ _ go) (plan_after _ _ _ _ (defined_goes name))))
  value_goes (Member base name) = member_goes base name

-- whether an object has a name, and then more
pub has_goes : (o : ObjId) (name : Text) (env : Env) (k : Bool → Act) (go : Completion → Act) → Shortens (Sub (has o name env k) go) (has o name env (λ b. Sub (k b) go))
has_goes o name env k go = shorten_trans _ _ _ (shorten_deed _ _ go) (shorten_do _ _ _ (λ arena. shorten_plan _ _ _ go))

-- the reference of a name, and then more
pub referred_goes : (place : Place) (name : Text) (env : Env) (k : Reference → Act) (go : Completion → Act) → Shortens (Sub (reference_at place name env k) go) (reference_at place name env (λ r. Sub (k r) go))
referred_goes Place.Global name env k go = shorten_same (Sub (k (Global name)) go)
referred_goes (Place.Local hops) name env k go = shorten_deed _ _ go

-- ---- stores

module _ (v : Value) (env : Env) (e : Completion) (go : Completion → Act) where
  written_shortens : (scope : ObjId) (name : Text) (o : Option Value) → Shortens (Sub (elim o [ Some old ↦ Ret e | None ↦ Do (Write env.world (slot scope name) (Some v)) (λ done. Ret e) ]) go) (elim o [ Some old ↦ go e | None ↦ Do (Write env.world (slot scope name) (Some v)) (λ done. go e) ])
  written_shortens scope name (Some old) = shorten_ret e go
  written_shortens scope name None = shorten_trans _ _ _ (shorten_deed _ _ go) (shorten_do _ _ _ (λ done. shorten_ret e go))

  answer_shortens : (a : PutAnswer) → Shortens (Sub (after_put env (Ret e) a) go) (put_ended env e go a)
  answer_shortens Done = shorten_ret e go
  answer_shortens Ignored = shorten_ret e go
  answer_shortens BadLength = shorten_trans _ _ _ (shorten_deed _ _ go) (shorten_do _ _ _ (λ o. shorten_ret (Throws (Object o)) go))

  put_shortens : (o : ObjId) (name : Text) → Shortens (Sub (put o name v env (after_put env (Ret e))) go) (put o name v env (put_ended env e go))
  put_shortens o name = shorten_trans _ _ _ (shorten_deed _ _ go) (shorten_do _ _ _ (λ arena. shorten_trans _ _ _ (shorten_plan _ _ _ go) (plan_after _ _ _ _ answer_shortens)))

  -- a store, and then an end
  pub store_shortens : (r : Reference) → Shortens (Sub (store r v env (Ret e)) go) (stored r v env e go)
  store_shortens (Local scope name) = shorten_trans _ _ _ (shorten_deed _ _ go) (shorten_do _ _ _ (λ arena. written_shortens scope name (fixed arena scope name)))
  store_shortens (Global name) = put_shortens env.global name
  store_shortens (Member (Object o) name) = put_shortens o name
  store_shortens (Member Undefined name) = shorten_ret e go
  store_shortens (Member Null name) = shorten_ret e go
  store_shortens (Member (Boolean b) name) = shorten_ret e go
  store_shortens (Member (Number x) name) = shorten_ret e go
  store_shortens (Member (String t) name) = shorten_ret e go

-- ---- what follows what is left of a statement

-- outcomes are followed by the same
outcome_goes : (o : Outcome) (one two : Completion → St → ℕ → Outcome) → ((c : Completion) (st : St) (n : ℕ) → one c st n ≡ two c st n) → then_do o one ≡ then_do o two
outcome_goes (Ends c st n) one two h = h c st n
outcome_goes (Spent st) one two h = refl

least : (n : ℕ) → n ≤ n
least n = omega arith

-- a goal within nested deeds
nested_goes : (goal : Goal) (env : Env) (k one two : Completion → Act) → ((e : Completion) → Shortens (one e) (two e)) → Shortens (Sub (Eval goal env k) one) (Sub (Eval goal env k) two)
nested_goes goal env k one two h = record { same = λ st n. outcome_goes (interp eval (Eval goal env k) st n) _ _ (λ c st n. (h c).same st n); fewer = λ st c. least _ }

pub carried_goes : (x : Effect) (t : Table) (env : Env) (one two : Completion → Act) → ((e : Completion) → Shortens (one e) (two e)) → Shortens (carried x t env one) (carried x t env two)
carried_goes (effects.Ends e) t env one two h = h (completion_in t e)
carried_goes (effects.Evaluates e) t env one two h = nested_goes (AtExpr e.0) env (then_value expr_done) one two h
carried_goes (effects.Returns e) t env one two h = nested_goes (AtExpr e.0) env (then_value return_value) one two h
carried_goes (effects.Initialises node name e) t env one two h = nested_goes (AtExpr e.0) env _ one two h
