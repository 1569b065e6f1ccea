-- Values that are of their kinds already.
use Rattle.std.proofs.Common.{◌≡◌, ℕ, suc, ◌+◌, ◌<◌, Bool, true, not, Some, None, List, [], ◌∷◌, ◌++◌, length, get_or, take, drop, refl, sym, ap, ◌∙◌, subst, arith}
use Rattle.std.specs.Prelude.{map, slice_get, is_some, Option}
use Rattle.std.proofs.lemmas.List.{append_assoc, take_more, take_all, length-map}
use Rattle.wjs_arena.specs.declared.native.Native.{Native}
use Rattle.wjs_by_content.specs.Values.{Value, Undefined, Whole, Number}
use Rattle.wjs_meaning.specs.Deeds.{Env, Act, Gives, give, then_value}
use Rattle.wjs_meaning.specs.Conversions.{to_integer, integer_of_primitive}
use Rattle.wjs_meaning.specs.declared.kinds.Kind.{Kind}
use Rattle.wjs_meaning.specs.Kinds.{convert, with_kinds}
use Rattle.wjs_meaning.specs.Natives.{convert_from, native_of, native_line, native_run, kinds, kind_of_this}
use Rattle.wjs_frames.specs.Shortening.{Shortens}
use Rattle.wjs_frames.proofs.Shorter.{shorten_same, shorten_trans, shorten_ret, shorten_ended}
use Rattle.wjs_natives.proofs.Pairs.{pairs_next, pairs_end}

-- ToInteger of a number that is not NaN
pub integer_stays : (x : Whole) (env : Env) → is_some x ≡ true → Shortens (to_integer (Number x) env) (give (Number x))
integer_stays (Some n) env h = shorten_ret (Gives (Number (Some n))) (then_value integer_of_primitive)
integer_stays None env h = absurd (cc)

pub none_there : (o : Option Kind) (b : Bool) → is_some o ≡ not b → b ≡ true → o ≡ None
none_there None b e h = refl
none_there (Some k) b e h = absurd (let differ = e ∙ ap not h in cc)

module _ (native : Native) (by_new : Bool) (env : Env) (done : List Value) (ks : List Kind) (vs : List Value) where
  -- the first so many values stay
  abbrev pub StaysTo : ℕ → Type 0
  StaysTo at = Shortens (convert_from native by_new (with_kinds ks vs) done env) (convert_from native by_new (drop at (with_kinds ks vs)) (done ++ take at vs) env)

  pub stays_more : (at : ℕ) (k : Kind) → at < length vs → slice_get ks at ≡ Some k → Shortens (convert k (get_or vs at Undefined) env) (give (get_or vs at Undefined)) → StaysTo at → StaysTo (at + 1)
  stays_more at k below hk h so =
      let v = get_or vs at Undefined in
      let rest = drop (suc at) (with_kinds ks vs) in
      let go : Value → Act = λ w. convert_from native by_new rest ((done ++ take at vs) ++ w ∷ []) env in
      let next = pairs_next ks vs at k hk in
      let step : suc at ≡ at + 1 = omega arith in
      let here : Shortens (convert_from native by_new (drop at (with_kinds ks vs)) (done ++ take at vs) env) (go v) =
      subst (λ l. Shortens (convert_from native by_new l (done ++ take at vs) env) (go v)) (sym next) (shorten_ended (convert k v env) (Gives v) (then_value go) h) in
      let values : (done ++ take at vs) ++ v ∷ [] ≡ done ++ take (at + 1) vs = append_assoc done (take at vs) (v ∷ []) ∙ ap (λ l. done ++ l) (sym (take_more vs at Undefined below)) in
      shorten_trans _ _ _ so
      (subst (λ n. Shortens (convert_from native by_new (drop at (with_kinds ks vs)) (done ++ take at vs) env) (convert_from native by_new (drop n (with_kinds ks vs)) (done ++ take (at + 1) vs) env)) step
      (subst (λ l. Shortens (convert_from native by_new (drop at (with_kinds ks vs)) (done ++ take at vs) env) (convert_from native by_new rest l env)) values here))

  pub stays_all : (at : ℕ) → length vs ≡ at → slice_get ks at ≡ None → StaysTo at → Shortens (convert_from native by_new (with_kinds ks vs) done env) (native_run native by_new (done ++ vs) env)
  stays_all at n h so =
      let all : take at vs ≡ vs = take_all at vs (omega arith) in
      subst (λ l. Shortens (convert_from native by_new (with_kinds ks vs) done env) (native_run native by_new (done ++ l) env)) all
      (subst (λ l. Shortens (convert_from native by_new (with_kinds ks vs) done env) (convert_from native by_new l (done ++ take at vs) env)) (pairs_end ks vs at h) so)

-- the receiver stays, and then the arguments
pub native_stays : (native : Native) (by_new : Bool) (env : Env) (this : Value) (vs : List Value) → env.this ≡ this → Shortens (convert (kind_of_this native) this env) (give this)
    → Shortens (convert_from native by_new (with_kinds (kinds native (length vs)) vs) (this ∷ []) env) (native_run native by_new (this ∷ vs) env) → Shortens (native_of native by_new vs env) (native_line native by_new this vs env)
native_stays native by_new env this vs e first others =
    let go : Value → Act = λ v. convert_from native by_new (with_kinds (kinds native (length vs)) vs) (v ∷ []) env in
    subst (λ v. Shortens (convert_from native by_new ((kind_of_this native, v) ∷ with_kinds (kinds native (length vs)) vs) [] env) (native_line native by_new this vs env)) (sym e)
    (shorten_trans _ _ _ (shorten_ended (convert (kind_of_this native) this env) (Gives this) (then_value go) first) others)
