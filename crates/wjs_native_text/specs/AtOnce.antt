-- Native functions whose results can be told at once.
use Rattle.std.specs.Prelude.{Bool, true, false, List, map}
use Rattle.wjs_base.specs.declared.values.Value.{Value as NumberedValue}
use Rattle.wjs_base.specs.Text.{Table}
use Rattle.wjs_store.specs.Meaning.{Meaning}
use Rattle.wjs_arena.specs.declared.native.Native.{Native}
use Rattle.wjs_arena.specs.declared.native.Native.TheVariants as native
use Rattle.wjs_arena.specs.declared.native.GlobalNative.TheVariants as global
use Rattle.wjs_arena.specs.declared.native.StringNative.TheVariants as string
use Rattle.wjs_by_content.specs.Tables.{value_in}
use Rattle.wjs_meaning.specs.Deeds.{Env, Gives, Sub}
use Rattle.wjs_meaning.specs.Natives.{native_line}
use Rattle.wjs_model.specs.declared.config.Config.{Config}
use Rattle.wjs_frames.specs.Doing.{Does}

-- of some of String (ECMA-262, 3rd edition, section 15.5), of isNaN and of Math
abbrev pub is_told : Native → Bool
is_told (native.Global global.IsNaN) = true
is_told (native.String string.FromCharCode) = true
is_told (native.String string.CharAt) = true
is_told (native.String string.CharCodeAt) = true
is_told (native.String string.IndexOf) = true
is_told (native.String string.LastIndexOf) = true
is_told (native.String string.Substring) = true
is_told (native.String string.Slice) = true
is_told (native.Math k) = true
is_told _ = false

module _ {S : Type 0} (meaning : S → Meaning) where
  -- the line of a native function was done, and gave a value
  abbrev pub LineGives : Native → NumberedValue → List NumberedValue → NumberedValue → Config S → Config S → Type 0
  LineGives native this args v old new =
      (env : Table → Env) → Does meaning (λ t go. Sub (native_line native false (value_in t this) (map (value_in t) args) (env t)) go) (λ t. Gives (value_in t v)) old new
