-- A native names only objects that are made before the natives.
use Rattle.std.proofs.Common.{◌≡◌, ℕ, ◌≤◌, true, not, Option, None, Some, refl, ap, ◌∙◌, arith}
use Rattle.std.specs.Prelude.{◌&&◌, ◌==◌, nat_lt}
use Rattle.std.proofs.lemmas.Bool.{and_parts, and_from, ltb-true, lt-ltb, ne_eqb}
use Rattle.wjs_base.specs.declared.ids.ObjId.{ObjId}
use Rattle.wjs_base.specs.declared.ids.WorldId.{WorldId}
use Rattle.wjs_arena.specs.declared.native.Native.{Native}
use Rattle.wjs_arena.specs.declared.native.Native.TheVariants as native
use Rattle.wjs_arena.specs.declared.native.GlobalNative.{GlobalNative}
use Rattle.wjs_arena.specs.declared.native.GlobalNative.TheVariants as global
use Rattle.wjs_arena.specs.declared.native.ObjectNative.{ObjectNative}
use Rattle.wjs_arena.specs.declared.native.ObjectNative.TheVariants as object
use Rattle.wjs_arena.specs.declared.native.FunctionNative.{FunctionNative}
use Rattle.wjs_arena.specs.declared.native.FunctionNative.TheVariants as function
use Rattle.wjs_arena.specs.declared.native.ErrorNative.{ErrorNative}
use Rattle.wjs_arena.specs.declared.native.ErrorNative.TheVariants as error
use Rattle.wjs_arena.specs.declared.native.WorldNative.{WorldNative}
use Rattle.wjs_arena.specs.declared.native.WorldNative.TheVariants as world
use Rattle.wjs_arena.specs.declared.native.ArrayNative.{ArrayNative}
use Rattle.wjs_arena.specs.declared.native.ArrayNative.TheVariants as array
use Rattle.wjs_arena.specs.declared.native.StringNative.{StringNative}
use Rattle.wjs_arena.specs.declared.native.StringNative.TheVariants as string
use Rattle.wjs_arena.specs.declared.native.NumberNative.{NumberNative}
use Rattle.wjs_arena.specs.declared.native.NumberNative.TheVariants as number
use Rattle.wjs_arena.specs.declared.native.BooleanNative.{BooleanNative}
use Rattle.wjs_arena.specs.declared.native.BooleanNative.TheVariants as boolean
use Rattle.wjs_arena.specs.declared.native.MathNative.{MathNative}
use Rattle.wjs_arena.specs.declared.native.MathNative.TheVariants as math
use Rattle.wjs_arena.specs.declared.object.Code.TheVariants as code
use Rattle.wjs_meaning.specs.Builtins.{function_prototype}
use Rattle.wjs_meaning.specs.Table.{first_native, row_of, global_native, object_native, function_native, error_native, world_native, array_native, string_native, number_native, boolean_native, math_native}
use Rattle.wjs_start.specs.Blueprints.{is_before, has_right_world}
use Rattle.wjs_start.specs.First.{is_script}

-- what is before an object is before those behind it
before_later : (m n : ℕ) (o : Option ObjId) → m ≤ n → is_before m o ≡ true → is_before n o ≡ true
before_later m n None le h = refl
before_later m n (Some o) le h =
    let p = and_parts (o.owner == 0) (nat_lt o.serial m) h in
    let lt = ltb-true o.serial m p.1 in
    and_from (o.owner == 0) (nat_lt o.serial n) p.0 (lt-ltb o.serial n (omega (arith, lt, le)))

-- ---- the prototype objects of constructors

global_before : (k : GlobalNative) → is_before first_native ((global_native k).row).prototype ≡ true
global_before global.Print = refl
global_before _ = refl

object_before : (k : ObjectNative) → is_before first_native ((object_native k).row).prototype ≡ true
object_before object.Constructor = refl
object_before _ = refl

function_before : (k : FunctionNative) → is_before first_native ((function_native k).row).prototype ≡ true
function_before function.Constructor = refl
function_before _ = refl

error_before : (k : ErrorNative) → is_before first_native ((error_native k).row).prototype ≡ true
error_before error.Error = refl
error_before _ = refl

world_before : (k : WorldNative) → is_before first_native ((world_native k).row).prototype ≡ true
world_before world.Constructor = refl
world_before _ = refl

array_before : (k : ArrayNative) → is_before first_native ((array_native k).row).prototype ≡ true
array_before array.Constructor = refl
array_before _ = refl

string_before : (k : StringNative) → is_before first_native ((string_native k).row).prototype ≡ true
string_before string.Constructor = refl
string_before _ = refl

number_before : (k : NumberNative) → is_before first_native ((number_native k).row).prototype ≡ true
number_before number.Constructor = refl
number_before _ = refl

boolean_before : (k : BooleanNative) → is_before first_native ((boolean_native k).row).prototype ≡ true
boolean_before boolean.Constructor = refl
boolean_before _ = refl

math_before : (k : MathNative) → is_before first_native ((math_native k).row).prototype ≡ true
math_before math.Abs = refl
math_before _ = refl

native_before : (k : Native) → is_before first_native (row_of k).prototype ≡ true
native_before (native.Global k) = global_before k
native_before (native.Object k) = object_before k
native_before (native.Function k) = function_before k
native_before (native.Error k) = error_before k
native_before (native.World k) = world_before k
native_before (native.Array k) = array_before k
native_before (native.String k) = string_before k
native_before (native.Number k) = number_before k
native_before (native.Boolean k) = boolean_before k
native_before (native.Math k) = math_before k

-- behind the first objects a native's function may be made
pub native_fits : (k : Native) (n : ℕ) (p c : Option ObjId) (w : Option WorldId) → 14 ≤ n → p ≡ Some function_prototype → c ≡ (row_of k).prototype → w ≡ None
    → (is_before n p && (is_before n c && (has_right_world n w && not (is_script (code.Native k))))) ≡ true
native_fits k n p c w enough on constructs none =
    and_from (is_before n p) (is_before n c && (has_right_world n w && not (is_script (code.Native k))))
    (ap (is_before n) on ∙ before_later 14 n (Some function_prototype) enough refl)
    (and_from (is_before n c) (has_right_world n w && not (is_script (code.Native k)))
    (ap (is_before n) constructs ∙ before_later 14 n (row_of k).prototype enough (native_before k))
    (and_from (has_right_world n w) (not (is_script (code.Native k))) (ap (has_right_world n) none ∙ ap not (ne_eqb n 13 (λ e. omega (arith, e, enough)))) refl))
