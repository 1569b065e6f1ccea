-- Conversions of primitives end at once (ECMA-262, 3rd edition, section 9).
use Rattle.std.proofs.Common.{◌≡◌, false, refl}
use Rattle.wjs_by_content.specs.Values.{Value, Whole, Text, Undefined, Null, Boolean, Number, String, Object}
use Rattle.wjs_by_content.specs.Conversions.{is_object, primitive_number, primitive_text}
use Rattle.wjs_meaning.specs.Deeds.{Env, Act, Sub, Gives, give, then_value, then_number, then_text}
use Rattle.wjs_meaning.specs.Conversions.{Hint, HintString, HintNumber, to_primitive, to_number, to_text, number_of_primitive, text_of_primitive}
use Rattle.wjs_frames.specs.Shortening.{Shortens}
use Rattle.wjs_frames.proofs.Shorter.{shorten_ret, shorten_ended}

-- a primitive is its own
primitive_is : (hint : Hint) (v : Value) (env : Env) → is_object v ≡ false → to_primitive hint v env ≡ give v
primitive_is hint Undefined env p = refl
primitive_is hint Null env p = refl
primitive_is hint (Boolean b) env p = refl
primitive_is hint (Number x) env p = refl
primitive_is hint (String t) env p = refl
primitive_is hint (Object o) env p = absurd cc

-- what follows the primitive
pub primitive_shortens : (hint : Hint) (v : Value) (env : Env) (go : Value → Act) → is_object v ≡ false → Shortens (Sub (to_primitive hint v env) (then_value go)) (go v)
primitive_shortens hint v env go p = rw (primitive_is hint v env p) (shorten_ret (Gives v) (then_value go))

number_ends : (v : Value) (env : Env) → is_object v ≡ false → Shortens (to_number v env) (give (Number (primitive_number v)))
number_ends v env p = primitive_shortens HintNumber v env number_of_primitive p

text_ends : (v : Value) (env : Env) → is_object v ≡ false → Shortens (to_text v env) (give (String (primitive_text v)))
text_ends v env p = primitive_shortens HintString v env text_of_primitive p

-- what follows its number
pub number_shortens : (v : Value) (env : Env) (go : Whole → Act) → is_object v ≡ false → Shortens (Sub (to_number v env) (then_number go)) (go (primitive_number v))
number_shortens v env go p = shorten_ended (to_number v env) (Gives (Number (primitive_number v))) (then_number go) (number_ends v env p)

-- what follows its text
pub text_shortens : (v : Value) (env : Env) (go : Text → Act) → is_object v ≡ false → Shortens (Sub (to_text v env) (then_text go)) (go (primitive_text v))
text_shortens v env go p = shorten_ended (to_text v env) (Gives (String (primitive_text v))) (then_text go) (text_ends v env p)
