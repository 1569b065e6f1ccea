-- The native functions run: their conversions in order, and then their lines (ECMA-262, 3rd edition, section 15).
use Rattle.std.specs.Prelude.{ℕ, Bool, List, [], ◌∷◌, ◌++◌, length}
use Rattle.wjs_arena.specs.declared.native.Native.{Native}
use Rattle.wjs_by_content.specs.Values.{Value}
use Rattle.wjs_meaning.specs.declared.kinds.Kind.{Kind}
use Rattle.wjs_meaning.specs.Deeds.{Env, Act, Ret, Sub, Normal, then_value}
use Rattle.wjs_meaning.specs.Kinds.{convert, kinds_of, with_kinds}
use Rattle.wjs_meaning.specs.Table.{definition_of, row_of}

-- the kind of a native's receiver
abbrev pub kind_of_this : Native → Kind
kind_of_this k = (row_of k).this

-- the kinds of its arguments, of which so many are given
abbrev pub kinds : Native → ℕ → List Kind
kinds k given = kinds_of (row_of k).arguments given

-- its line
abbrev pub native_line : Native → Bool → Value → List Value → Env → Act
native_line k = (definition_of k).line (λ k'. (row_of k').name)

-- ---- the run of a native

-- `this` stands first among the converted values
abbrev pub native_run : Native → Bool → List Value → Env → Act
native_run k new [] env = Ret Normal
native_run k new (this ∷ args) env = native_line k new this args env

-- the conversions in order; then the native runs
abbrev pub convert_from : Native → Bool → List (Kind × Value) → List Value → Env → Act
convert_from k new [] done env = native_run k new done env
convert_from k new (x ∷ xs) done env = Sub (convert x.0 x.1 env) (then_value (λ v. convert_from k new xs (done ++ v ∷ []) env))

-- `this` is converted first
abbrev pub native_of : Native → Bool → List Value → Env → Act
native_of k new args env = convert_from k new ((kind_of_this k, env.this) ∷ with_kinds (kinds k (length args)) args) [] env
