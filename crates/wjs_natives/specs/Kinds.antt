-- How native functions convert, in the terms of the code.
use Rattle.std.specs.Prelude.{ℕ, List, ◌∷◌, Option, None, Some}
use Rattle.wjs_base.specs.declared.values.Value.{Value}
use Rattle.wjs_base.specs.declared.values.Value.TheVariants as values
use Rattle.wjs_arena.specs.declared.native.Native.{Native}
use Rattle.wjs_meaning.specs.declared.kinds.Kind.{Kind}
use Rattle.wjs_meaning.specs.Natives.{kind_of_this, kinds}
use Rattle.wjs_model.specs.declared.point.Conversion.{Conversion}

-- the kind of `this`, and then those of so many arguments
abbrev pub conversions : Native → ℕ → List Kind
conversions native given = kind_of_this native ∷ kinds native given

abbrev pub unless_undefined : Value → Conversion → Option Conversion
unless_undefined values.Undefined conversion = None
unless_undefined _ conversion = Some conversion
