-- What a frame that holds the values does with the one that is converted.
use Rattle.std.proofs.Common.{◌≡◌, ℕ, ◌+◌, ◌-◌, Bool, List, [], ◌∷◌, ◌++◌, length, take, drop, refl, sym, ap, ◌∙◌}
use Rattle.std.specs.Prelude.{map}
use Rattle.std.proofs.lemmas.List.{map-append, length-map}
use Rattle.wjs_base.specs.declared.values.Value.{Value as NumberedValue}
use Rattle.wjs_base.specs.Text.{Table}
use Rattle.wjs_arena.specs.declared.native.Native.{Native}
use Rattle.wjs_by_content.specs.Tables.{value_in}
use Rattle.wjs_by_content.specs.Values.{Value}
use Rattle.wjs_meaning.specs.Deeds.{Env, Act, Ret, then_value}
use Rattle.wjs_meaning.specs.Kinds.{with_kinds}
use Rattle.wjs_meaning.specs.Natives.{convert_from, native_of}
use Rattle.wjs_model.specs.declared.frame.Held.{Held}
use Rattle.wjs_model.specs.declared.frame.Completion.{Completion as NumberedCompletion}
use Rattle.wjs_model.specs.declared.frame.Completion.TheVariants as completions
use Rattle.wjs_model.specs.Frames.{earliest_first}
use Rattle.wjs_model.specs.Contents.{completion_in, holding_in, values_held}
use Rattle.wjs_model.specs.Waiting.{after_argument}
use Rattle.wjs_natives.specs.Kinds.{conversions}
use Rattle.wjs_natives.specs.Converting.{placed, converting}
use Rattle.wjs_natives.proofs.Pairs.{converting_placed}

-- in the same order
pub earliest-map : {A B : Type 0} (f : A → B) (xs : List A) → earliest_first (map f xs) ≡ map f (earliest_first xs)
earliest-map f [] = refl
earliest-map f (x ∷ xs) = ap (λ l. l ++ f x ∷ []) (earliest-map f xs) ∙ sym (map-append f (earliest_first xs) (x ∷ []))

argument_at : (native : Native) (new : Bool) (vs ws : List Value) (count i at : ℕ) (v : Value) (env : Env) → vs ≡ ws → length ws ≡ count → i ≡ at
    → convert_from native new (drop (i + 1) (with_kinds (conversions native (length vs - 1)) vs)) (take i vs ++ v ∷ []) env ≡ converting native new (count - 1) (placed ws at v) (at + 1) env
argument_at native new vs ws count i at v env ev en ei =
    ap (λ l. convert_from native new (drop (i + 1) (with_kinds (conversions native (length l - 1)) l)) (take i l ++ v ∷ []) env) ev
    ∙ ap (λ n. convert_from native new (drop (i + 1) (with_kinds (conversions native (n - 1)) ws)) (take i ws ++ v ∷ []) env) en
    ∙ ap (λ k. convert_from native new (drop (k + 1) (with_kinds (conversions native (count - 1)) ws)) (take k ws ++ v ∷ []) env) ei
    ∙ converting_placed native new (count - 1) env ws at v

-- the values that are held go on from there
pub argument_as : (t : Table) (native : Native) (new : Bool) (items : List Held) (values : List NumberedValue) (i at : ℕ) (env : Env) (v : Value) → earliest_first (values_held items) ≡ values → i ≡ at
    → after_argument native new (holding_in t items).values i env v ≡ converting native new (length values - 1) (placed (map (value_in t) values) at v) (at + 1) env
argument_as t native new items values i at env v said ei =
    let vs = earliest_first (map (value_in t) (values_held items)) in
    let ev : vs ≡ map (value_in t) values = earliest-map (value_in t) (values_held items) ∙ ap (map (value_in t)) said in
    argument_at native new vs (map (value_in t) values) (length values) i at v env ev (length-map values (value_in t)) ei

-- a frame that waits for the value at the place
pub waits_as : (t : Table) (native : Native) (new : Bool) (i at : ℕ) (items : List Held) (values : List NumberedValue) (env : Env) → i ≡ at → earliest_first (values_held items) ≡ values
    → then_value (after_argument native new (holding_in t items).values i env) ≡ then_value (λ v. converting native new (length values - 1) (placed (map (value_in t) values) at v) (at + 1) env)
waits_as t native new i at items values env ei said = ap (λ (go : Value → Act). then_value go) (λ j v. argument_as t native new items values i at env v said ei j)

-- a native function begins with the conversion of the receiver
pub begins_as : (native : Native) (new : Bool) (given : ℕ) (this : Value) (vs args : List Value) (env : Env) → this ≡ env.this → vs ≡ args → given ≡ length args → converting native new given (this ∷ vs) 0 env ≡ native_of native new args env
begins_as native new given this vs args env et ev eg =
    ap (λ x. converting native new given (x ∷ vs) 0 env) et
    ∙ ap (λ l. converting native new given (env.this ∷ l) 0 env) ev
    ∙ ap (λ n. converting native new n (env.this ∷ args) 0 env) eg

-- a completion that gives no value ends the function
pub ends_as : (t : Table) (go : Value → Act) (e : NumberedCompletion) → ((v : NumberedValue) → e ≡ completions.Gives v → ⊥) → Ret (completion_in t e) ≡ then_value go (completion_in t e)
ends_as t go (completions.Gives v) h = absurd (h v refl)
ends_as t go (completions.Refers r) h = refl
ends_as t go completions.Normal h = refl
ends_as t go (completions.Breaks l) h = refl
ends_as t go (completions.Continues l) h = refl
ends_as t go (completions.Returns v) h = refl
ends_as t go (completions.Throws v) h = refl
