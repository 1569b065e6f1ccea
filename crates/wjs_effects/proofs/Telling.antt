-- `delete` and `typeof`: their lines by what they tell.
use Rattle.std.proofs.Common.{◌≡◌, Bool, true, false, refl}
use Rattle.std.specs.Prelude.{not}
use Rattle.wjs_base.specs.declared.ids.ObjId.{ObjId}
use Rattle.wjs_base.specs.declared.ids.TextId.{TextId}
use Rattle.wjs_base.specs.declared.values.Value.{Value as Numbered}
use Rattle.wjs_base.specs.declared.values.Value.TheVariants as values
use Rattle.wjs_base.specs.Text.{Table}
use Rattle.wjs_by_content.specs.Names.{length_name}
use Rattle.wjs_by_content.specs.Tables.{value_in}
use Rattle.wjs_by_content.specs.Values.{Text, Value, Undefined, Null, Boolean, Number, String, Object, same_text}
use Rattle.wjs_meaning.specs.Deeds.{Env, Reference, Local, Global, Member, Completion, Gives, Act, Sub}
use Rattle.wjs_meaning.specs.Expressions.{delete_reference, typeof_value}
use Rattle.wjs_meaning.specs.Operators.{give_truth}
use Rattle.wjs_meaning.specs.Properties.{delete}
use Rattle.wjs_frames.specs.Shortening.{Shortens}
use Rattle.wjs_frames.proofs.Shorter.{shorten_trans, shorten_ret, shorten_do, shorten_deed, shorten_plan}
use Rattle.wjs_quick.proofs.MemberLines.{plan_after}
use Rattle.wjs_effects.specs.Telling.{deleted, type_of}

-- ---- `delete`

-- a member of what is no object and no text is gone
pub deleted_missing : (t : Table) (base : Numbered) (name : Text) (env : Env) (go : Bool → Act) → ((o : ObjId) → base ≡ values.Object o → ⊥) → ((id : TextId) → base ≡ values.Text id → ⊥) → deleted (Member (value_in t base) name) env go ≡ go true
deleted_missing t values.Undefined name env go h k = refl
deleted_missing t values.Null name env go h k = refl
deleted_missing t (values.Bool b) name env go h k = refl
deleted_missing t (values.Number x) name env go h k = refl
deleted_missing t (values.Text id) name env go h k = absurd (k id refl)
deleted_missing t (values.Object o) name env go h k = absurd (h o refl)

-- its line gives what is told
pub delete_line : (env : Env) (r : Reference) → deleted r env give_truth ≡ delete_reference env r
delete_line env (Local scope name) = refl
delete_line env (Global name) = refl
delete_line env (Member (Object o) name) = refl
delete_line env (Member (String t) name) = refl
delete_line env (Member Undefined name) = refl
delete_line env (Member Null name) = refl
delete_line env (Member (Boolean b) name) = refl
delete_line env (Member (Number x) name) = refl

module _ (env : Env) (go : Completion → Act) where
  truth_shortens : (b : Bool) → Shortens (Sub (give_truth b) go) (go (Gives (Boolean b)))
  truth_shortens b = shorten_ret (Gives (Boolean b)) go

  property_shortens : (o : ObjId) (name : Text) → Shortens (Sub (delete o name env give_truth) go) (delete o name env (λ b. go (Gives (Boolean b))))
  property_shortens o name = shorten_trans _ _ _ (shorten_deed _ _ go) (shorten_do _ _ _ (λ arena. shorten_trans _ _ _ (shorten_plan _ _ _ go) (plan_after _ _ _ _ truth_shortens)))

  -- within nested deeds
  pub delete_shortens : (r : Reference) → Shortens (Sub (delete_reference env r) go) (deleted r env (λ b. go (Gives (Boolean b))))
  delete_shortens (Local scope name) = truth_shortens false
  delete_shortens (Global name) = property_shortens env.global name
  delete_shortens (Member (Object o) name) = property_shortens o name
  delete_shortens (Member (String t) name) = truth_shortens (not (same_text name length_name))
  delete_shortens (Member Undefined name) = truth_shortens true
  delete_shortens (Member Null name) = truth_shortens true
  delete_shortens (Member (Boolean b) name) = truth_shortens true
  delete_shortens (Member (Number x) name) = truth_shortens true

-- ---- `typeof`

pub type_shortens : (v : Value) (go : Completion → Act) → Shortens (Sub (typeof_value v) go) (type_of v (λ name. go (Gives name)))
type_shortens v go = shorten_trans _ _ _ (shorten_deed _ _ go) (shorten_do _ _ _ (λ arena. shorten_ret _ go))
