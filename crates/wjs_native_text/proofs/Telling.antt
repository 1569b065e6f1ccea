-- Native functions that are told at once, and what follows them.
use Rattle.std.proofs.Common.{◌≡◌, Bool, false, List, map, sym, ap, subst}
use Rattle.std.specs.Prelude.{Option, Some, None, Result, Ok, Err, IfOk, IfSome, MatchOption}
use Rattle.wjs_base.specs.declared.values.Value.{Value as NumberedValue}
use Rattle.wjs_base.specs.Text.{Table, Grows}
use Rattle.wjs_store.specs.Meaning.{Meaning}
use Rattle.wjs_arena.specs.declared.native.Native.{Native}
use Rattle.wjs_by_content.specs.Tables.{value_in}
use Rattle.wjs_by_content.specs.Values.{Value}
use Rattle.wjs_meaning.specs.Deeds.{Env, Act, Sub, Completion, Gives, give}
use Rattle.wjs_meaning.specs.Natives.{native_line, native_of}
use Rattle.wjs_model.specs.declared.config.Config.{Config}
use Rattle.wjs_frames.specs.Doing.{Does}
use Rattle.wjs_frames.specs.Shortening.{Shortens}
use Rattle.wjs_frames.proofs.Shorter.{shorten_sub, follows_shorter, follows_ret}
use Rattle.wjs_step_common.proofs.Following.{follows_as}
use Rattle.wjs_native_text.specs.AtOnce.{LineGives}

module _ {S : Type 0} (meaning : S → Meaning) where
  -- deeds that come to give a value, which was made with no deed
  pub told_by : (line : Table → Env → Act) (said : Table → Value) (v : NumberedValue) (old new : Config S) → ((t : Table) → Grows old.heap.texts t → (env : Env) → line t env ≡ give (said t)) → Does meaning (λ t go. go (said t)) (λ t. value_in t v) old new
      → (env : Table → Env) → Does meaning (λ t go. Sub (line t (env t)) go) (λ t. Gives (value_in t v)) old new
  told_by line said v old new is d env = record {
    by = λ go later r h.
        let t = later.heap.texts in
        follows_as meaning (Sub (give (said t)) go) (Sub (line t (env t)) go) old later r (λ grows. ap (λ a. Sub a go) (sym (is t grows (env t))))
        (follows_ret meaning (Gives (said t)) go old later r (d.by (λ x. go (Gives x)) later r h));
  }

  -- nothing was made
  pub told_now : (line : Table → Env → Act) (v : NumberedValue) (c : Config S) → ((t : Table) → Grows c.heap.texts t → (env : Env) → line t env ≡ give (value_in t v)) → (env : Table → Env) → Does meaning (λ t go. Sub (line t (env t)) go) (λ t. Gives (value_in t v)) c c
  told_now line v c is env = told_by line (λ t. value_in t v) v c c is (record { by = λ go later r h. h }) env

  -- deeds that come to others in fewer turns
  pub told_shorter : (long short : Table → Act) (answer : Table → Completion) (old new : Config S) → ((t : Table) → Shortens (long t) (short t)) → Does meaning (λ t go. Sub (short t) go) answer old new → Does meaning (λ t go. Sub (long t) go) answer old new
  told_shorter long short answer old new s d = record {
    by = λ go later r h.
        let t = later.heap.texts in
        follows_shorter meaning (Sub (long t) go) (Sub (short t) go) old later r (shorten_sub (long t) (short t) go (s t)) (d.by go later r h);
  }

  -- the conversions keep what is there, and then the line
  pub told_native : (native : Native) (this : NumberedValue) (args : List NumberedValue) (v : NumberedValue) (old new : Config S)
      → ((t : Table) (by_new : Bool) (env : Env) → env.this ≡ value_in t this → Shortens (native_of native by_new (map (value_in t) args) env) (native_line native by_new (value_in t this) (map (value_in t) args) env))
      → LineGives meaning native this args v old new
      → (env : Table → Env) → ((t : Table) → (env t).this ≡ value_in t this) → Does meaning (λ t go. Sub (native_of native false (map (value_in t) args) (env t)) go) (λ t. Gives (value_in t v)) old new
  told_native native this args v old new stays gives env e =
      told_shorter (λ t. native_of native false (map (value_in t) args) (env t)) (λ t. native_line native false (value_in t this) (map (value_in t) args) (env t)) (λ t. Gives (value_in t v)) old new (λ t. stays t false (env t) (e t)) (gives env)

-- of each value that is told
pub if_told : {A E : Type 0} (P Q : A → Type 0) (r : Result (Option A) E) → ((v : A) → P v → Q v) → IfOk r (λ o. IfSome o P) → IfOk r (λ o. IfSome o Q)
if_told P Q (Ok (Some v)) f h = f v h
if_told P Q (Ok None) f h = tt
if_told P Q (Err e) f h = tt

-- what is said of a choice, by the one that it is
pub none_said : {A : Type 0} (P : Type 0) (Q : A → Type 0) (o : Option A) → o ≡ None → MatchOption o P Q → P
none_said P Q None e h = h
none_said P Q (Some y) e h = absurd (cc)

pub some_said : {A : Type 0} (P : Type 0) (Q : A → Type 0) (o : Option A) (x : A) → o ≡ Some x → MatchOption o P Q → Q x
some_said P Q None x e h = absurd (cc)
some_said P Q (Some y) x e h = let same : y ≡ x = cc in subst Q same h
