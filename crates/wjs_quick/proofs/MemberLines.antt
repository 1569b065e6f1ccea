-- The value of a member, and then an end with it.
use Rattle.std.proofs.Common.{◌≡◌, Bool, Option, true, false, sym, ap, ◌∙◌, subst, length}
use Rattle.wjs_base.specs.declared.ids.ObjId.{ObjId}
use Rattle.wjs_base.specs.declared.ids.WorldId.{WorldId}
use Rattle.wjs_by_content.specs.Conversions.{is_nullish, is_object, primitive_text}
use Rattle.wjs_by_content.specs.Names.{length_name}
use Rattle.wjs_by_content.specs.Objects.{Arena}
use Rattle.wjs_by_content.specs.Plans.{Plan, Gives as Answers, Reads, Writes, Lists}
use Rattle.wjs_by_content.specs.Properties as plans
use Rattle.wjs_by_content.specs.Values.{Text, Value, Undefined, Null, Boolean, Number, String, Object, whole, same_text, value_or_undefined}
use Rattle.wjs_meaning.specs.declared.trouble.Trouble.TheVariants.{NotAnObject}
use Rattle.wjs_meaning.specs.Builtins.{class_prototype}
use Rattle.wjs_meaning.specs.Conversions.{to_text}
use Rattle.wjs_meaning.specs.Deeds.{Env, Reference, Member, Completion, Gives, Act, Sub, Do, Look, carry_out, give, then_text}
use Rattle.wjs_meaning.specs.Errors.{throw}
use Rattle.wjs_meaning.specs.Expressions.{dot_base, at_name, at_index}
use Rattle.wjs_meaning.specs.Properties.{get_value}
use Rattle.wjs_meaning.specs.References.{member_value}
use Rattle.wjs_frames.specs.Shortening.{Shortens}
use Rattle.wjs_frames.proofs.Shorter.{shorten_trans, shorten_ret, shorten_do, shorten_deed, shorten_plan}
use Rattle.wjs_step_common.proofs.Converting.{text_shortens}

-- behind a plan, whatever it answers
pub plan_after : {A : Type 0} (p : Plan A) (w : WorldId) (go to : A → Act) → ((x : A) → Shortens (go x) (to x)) → Shortens (carry_out p w go) (carry_out p w to)
plan_after (Answers x) w go to h = h x
plan_after (Reads s next) w go to h = shorten_do _ _ _ (λ found. plan_after (next found) w go to h)
plan_after (Writes s c next) w go to h = shorten_do _ _ _ (λ done. plan_after next w go to h)
plan_after (Lists o next) w go to h = shorten_do _ _ _ (λ names. plan_after (next names) w go to h)

value_shortens : (o : ObjId) (name : Text) (env : Env) (go : Completion → Act) → Shortens (Sub (get_value o name env give) go) (get_value o name env (λ v. go (Gives v)))
value_shortens o name env go =
    let plan : Arena → Plan (Option Value) = λ arena. plans.get arena o name in
    let end : Option Value → Act = λ found. give (value_or_undefined found) in
    let next : Option Value → Act = λ found. go (Gives (value_or_undefined found)) in
    shorten_trans (Sub (get_value o name env give) go) (Do Look (λ arena. Sub (carry_out (plan arena) env.world end) go)) (get_value o name env (λ v. go (Gives v)))
    (shorten_deed Look (λ arena. carry_out (plan arena) env.world end) go)
    (shorten_do Look (λ arena. Sub (carry_out (plan arena) env.world end) go) (λ arena. carry_out (plan arena) env.world next) (λ arena.
    shorten_trans (Sub (carry_out (plan arena) env.world end) go) (carry_out (plan arena) env.world (λ found. Sub (end found) go)) (carry_out (plan arena) env.world next)
    (shorten_plan (plan arena) env.world end go)
    (plan_after (plan arena) env.world (λ found. Sub (end found) go) next (λ found. shorten_ret (Gives (value_or_undefined found)) go))))

length_shortens : (text name : Text) (env : Env) (go : Completion → Act) (b : Bool)
    → Shortens (Sub (elim b [ true ↦ give (whole (length text)) | false ↦ get_value (class_prototype (String text)) name env give ]) go) (elim b [ true ↦ go (Gives (whole (length text))) | false ↦ get_value (class_prototype (String text)) name env (λ v. go (Gives v)) ])
length_shortens text name env go true = shorten_ret (Gives (whole (length text))) go
length_shortens text name env go false = value_shortens (class_prototype (String text)) name env go

pub member_shortens : (base : Value) (name : Text) (env : Env) (go : Completion → Act) → Shortens (Sub (member_value base name env give) go) (member_value base name env (λ v. go (Gives v)))
member_shortens (Object o) name env go = value_shortens o name env go
member_shortens (String t) name env go = length_shortens t name env go (same_text name length_name)
member_shortens Undefined name env go = value_shortens (class_prototype Undefined) name env go
member_shortens Null name env go = value_shortens (class_prototype Null) name env go
member_shortens (Boolean b) name env go = value_shortens (class_prototype (Boolean b)) name env go
member_shortens (Number x) name env go = value_shortens (class_prototype (Number x)) name env go

-- the line of a member by name, where the base has members, whatever its reference is for
pub dot_is : (base : Value) (name text : Text) (env : Env) (go : Reference → Act) → is_nullish base ≡ false → name ≡ text → dot_base text env go base ≡ go (Member base name)
dot_is base name text env go e n = ap (λ (b : Bool). elim b [ true ↦ throw NotAnObject env | false ↦ go (Member base text) ]) e ∙ ap (λ (x : Text). go (Member base x)) (sym n)

-- and of one by the text of a primitive
pub at_shortens : (base key : Value) (name : Text) (env : Env) (go : Reference → Act) → is_nullish base ≡ false → is_object key ≡ false → primitive_text key ≡ name → Shortens (at_index base env go key) (go (Member base name))
at_shortens base key name env go e p n =
    let to = at_name base go in
    let is : at_index base env go key ≡ Sub (to_text key env) (then_text to) = ap (λ (b : Bool). elim b [ true ↦ throw NotAnObject env | false ↦ Sub (to_text key env) (then_text to) ]) e in
    subst (λ (x : Text). Shortens (at_index base env go key) (go (Member base x))) n
    (subst (λ (a : Act). Shortens a (go (Member base (primitive_text key)))) (sym is) (text_shortens key env to p))
