-- A text with units behind it, as a line ends with it.
use Rattle.std.proofs.Common.{◌≡◌, ◌+◌, ◌<◌, ◌≤◌, ◌++◌, Bool, true, false, length, lt-ltb, le-ltb, sym, ap, ◌∙◌, arith, length-append}
use Rattle.wjs_base.specs.Text.{longest}
use Rattle.wjs_by_content.specs.Values.{Text, String}
use Rattle.wjs_meaning.specs.declared.trouble.Trouble.TheVariants.{TextTooLong}
use Rattle.wjs_meaning.specs.Deeds.{Env, Act, give}
use Rattle.wjs_meaning.specs.Errors.{throw, give_text}

-- how it ends, by whether it is too long
abbrev ends_so : Text → Env → Bool → Act
ends_so u env b = elim b [ true ↦ throw TextTooLong env | false ↦ give (String u) ]

count_of : (u w back : Text) → u ≡ w → length (u ++ back) ≡ length w + length back
count_of u w back e = length-append u back ∙ ap (λ (x : Text). length x + length back) e

-- where both have too many units
pub long_end : (u w back : Text) (env : Env) → u ≡ w → longest < length w + length back → throw TextTooLong env ≡ give_text (u ++ back) env
long_end u w back env e l =
    let n = count_of u w back e in
    let m : longest < length (u ++ back) = omega (arith, n, l) in
    sym (ap (ends_so (u ++ back) env) (lt-ltb longest (length (u ++ back)) m))

-- where they haven't
pub short_end : (u w back : Text) (env : Env) → u ≡ w → length w + length back ≤ longest → give (String (u ++ back)) ≡ give_text (u ++ back) env
short_end u w back env e l =
    let n = count_of u w back e in
    let m : length (u ++ back) ≤ longest = omega (arith, n, l) in
    sym (ap (ends_so (u ++ back) env) (le-ltb longest (length (u ++ back)) m))
