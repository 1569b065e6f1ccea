use Rattle.std.proofs.Common.{◌≡◌, false, List, refl, sym, ap, ◌∙◌, subst, inl, inr}
use Rattle.std.specs.Prelude.{map, Option, Some, None, Result, Ok, Err, IfSome, MatchOption}
use Rattle.std.specs.Result.{result_ok}
use Rattle.wjs_base.specs.declared.number.Whole.{Whole}
use Rattle.wjs_base.specs.declared.values.Value.{Value as NumberedValue}
use Rattle.wjs_base.specs.Text.{Table}
use Rattle.wjs_num.specs.declared.arithmetic.NumFault.{NumFault}
use Rattle.wjs_num.specs.Exact.{answer}
use Rattle.wjs_arena.specs.declared.native.Native.TheVariants as native
use Rattle.wjs_arena.specs.declared.native.MathNative.{MathNative}
use Rattle.wjs_arena.specs.declared.native.MathNative.TheVariants as math
use Rattle.wjs_by_content.specs.Tables.{value_in}
use Rattle.wjs_by_content.specs.Values.{Number}
use Rattle.wjs_meaning.specs.declared.trouble.Trouble.TheVariants.{OutOfRange}
use Rattle.wjs_meaning.specs.Deeds.{Env, Act, give}
use Rattle.wjs_meaning.specs.Errors.{throw, give_result}
use Rattle.wjs_meaning.specs.Natives.{native_line}
use Rattle.wjs_meaning.specs.NativesOfTexts as line
use Rattle.wjs_native_text.proofs.math.number_given.Goals as goal

-- the line of a function of Math
abbrev math_line : MathNative → List NumberedValue → Table → NumberedValue → Env → Act
math_line k args t this env = native_line (native.Math k) false (value_in t this) (map (value_in t) args) env

abbrev Given : MathNative → List NumberedValue → Whole → Type 0
Given k args number = (t : Table) (this : NumberedValue) (env : Env) → math_line k args t this env ≡ give (Number number.number)

of_kind : (k to : MathNative) (args : List NumberedValue) (number : Whole) → k ≡ to → Given to args number → Given k args number
of_kind k to args number e h = subst (λ (q : MathNative). Given q args number) (sym e) h

of_extreme : (k : MathNative) (args : List NumberedValue) (act : Table → Env → Act) (none : Table → Env → Type 0) (o : Option Whole) → ((t : Table) (this : NumberedValue) (env : Env) → math_line k args t this env ≡ act t env) → ((t : Table) (env : Env) → MatchOption o (none t env) (λ number. act t env ≡ give (Number number.number))) → IfSome o (Given k args)
of_extreme k args act none None is h = tt
of_extreme k args act none (Some x) is h = λ t this env. is t this env ∙ h t env

of_result : (k : MathNative) (args : List NumberedValue) (r : Result Whole NumFault) (o : Option Whole) → o ≡ result_ok r → ((t : Table) (this : NumberedValue) (env : Env) → math_line k args t this env ≡ give_result (answer r) env) → IfSome o (Given k args)
of_result k args (Ok x) o e is = subst (λ (q : Option Whole). IfSome q (Given k args)) (sym e) (λ t this env. is t this env)
of_result k args (Err f) o e is = subst (λ (q : Option Whole). IfSome q (Given k args)) (sym e) tt

pub returns-in-Abs : goal.returns-in-Abs
returns-in-Abs c =
    of_kind c.args.native math.Abs c.args.args.now c.absolute.result c.in-Abs.is
    (λ t this env. ap (λ w. give (Number (line.absolute w))) (c.whole_at.ensures t) ∙ ap (λ w. give (Number w)) (sym c.absolute.ensures))

pub returns-in-Floor : goal.returns-in-Floor
returns-in-Floor c =
    let k = c.args.native in
    let args = c.args.args.now in
    let number = c.whole_at-in-Floor.result in
    let said = λ (t : Table) (this : NumberedValue) (env : Env). ap (λ w. give (Number w)) (c.whole_at-in-Floor.ensures t) in
    elim c.in-Floor.is as (λ e. Given k args number) [
      | inl e ↦ of_kind k math.Floor args number e said
      | inr r ↦ elim r as (λ e. Given k args number) [ inl e ↦ of_kind k math.Ceil args number e said | inr e ↦ of_kind k math.Round args number e said ]
    ]

pub returns-in-Max : goal.returns-in-Max
returns-in-Max c =
    let k = c.args.native in
    let args = c.args.args.now in
    let act = λ (t : Table) (env : Env). line.extreme line.greater_of (map (value_in t) args) env in
    of_extreme k args act (λ t env. act t env ≡ throw OutOfRange env) c.greatest_of.result
    (λ t this env. subst (λ (q : MathNative). math_line q args t this env ≡ act t env) (sym c.in-Max.is) refl) c.greatest_of.ensures

pub returns-in-Min : goal.returns-in-Min
returns-in-Min c =
    let k = c.args.native in
    let args = c.args.args.now in
    let act = λ (t : Table) (env : Env). line.extreme line.lesser_of (map (value_in t) args) env in
    of_extreme k args act (λ t env. act t env ≡ throw OutOfRange env) c.least_of.result
    (λ t this env. subst (λ (q : MathNative). math_line q args t this env ≡ act t env) (sym c.in-Min.is) refl) c.least_of.ensures

pub returns-in-Pow : goal.returns-in-Pow
returns-in-Pow c =
    let args = c.args.args.now in
    of_result c.args.native args c.power_of.result c.ok.result c.ok.ensures.value
    (λ t this env. subst (λ (q : MathNative). math_line q args t this env ≡ give_result (answer c.power_of.result) env) (sym c.in-Pow.is) (c.power_of.ensures t env))
