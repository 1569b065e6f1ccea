-- What the global natives and those of String, Number, Boolean and Math do, after their conversions (ECMA-262, 3rd edition, sections 15.1 and 15.5 to 15.8).
use Rattle.std.specs.Prelude.{ℕ, zero, suc, ◌+◌, ◌-◌, ◌%◌, min, max, Bool, true, false, ◌&&◌, nat_le, if◌then◌else◌, List, [], ◌∷◌, ◌++◌, length, take, drop, map as each, fold, option_map, unwrap_or, Option, None, Some, is_none, slice_get, ℤ, pos, negsuc, int_lt, unsigned_abs}
use Rattle.wjs_base.specs.declared.ids.ObjId.{ObjId}
use Rattle.wjs_base.specs.Unicode.{utf8_of}
use Rattle.wjs_num.specs.Bits.{uint32}
use Rattle.wjs_num.specs.Digits.{text_of_number}
use Rattle.wjs_num.specs.Numerals.{is_radix}
use Rattle.wjs_by_content.specs.Values.{Text, Whole, Value, Undefined, Boolean, Number, String, Object, whole, value_or_undefined, same_text}
use Rattle.wjs_by_content.specs.Names.{slot, index_name}
use Rattle.wjs_by_content.specs.Objects.{object_at}
use Rattle.wjs_meaning.specs.declared.trouble.Trouble.TheVariants.{NotAnObject, WrongReceiver, OutOfRange, InvalidRadix}
use Rattle.wjs_meaning.specs.Builtins.{wrapper_of}
use Rattle.wjs_by_content.specs.Conversions.{primitive_text}
use Rattle.wjs_meaning.specs.Deeds.{Env, Act, Tick, Do, Read, Look, Create, Emit, give}
use Rattle.wjs_meaning.specs.Errors.{throw, give_text}
use Rattle.wjs_meaning.specs.NewObjects.{make_array}
use Rattle.wjs_meaning.specs.NativesOfObjects.{text_of, whole_of, text_at, give_object}

-- ---- the global natives (15.1.2)

-- a text and LF
abbrev pub print : Text → Act
print t = Do (Emit (utf8_of t ++ 10 ∷ [])) (λ done. give Undefined)

abbrev pub is_nan : Whole → Act
is_nan x = give (Boolean (is_none x))

-- ---- wrappers and receivers

-- by `new` a wrapper, else the primitive
abbrev pub wrapped : Bool → Value → Env → Act
wrapped true v env = Do (Create env.owner (wrapper_of v)) give_object
wrapped false v env = give v

-- a primitive of the kind, or that of its wrapper
abbrev pub receiver : (Value → Bool) → Value → Env → (Value → Act) → Act
receiver is_kind (Object o) env go = Do Look (λ arena. elim (is_kind (object_at arena o).primitive) [ true ↦ go (object_at arena o).primitive | false ↦ throw WrongReceiver env ])
receiver is_kind this env go = elim (is_kind this) [ true ↦ go this | false ↦ throw WrongReceiver env ]

abbrev pub is_number : Value → Bool
is_number (Number x) = true
is_number v = false

abbrev pub is_truth : Value → Bool
is_truth (Boolean b) = true
is_truth v = false

-- ---- places in texts

-- NaN counts as 0 (9.4)
abbrev pub or_zero : Whole → ℤ
or_zero x = unwrap_or x (pos 0)

-- kept within 0 and n
abbrev pub kept_within : ℤ → ℕ → ℕ
kept_within (pos a) n = min a n
kept_within (negsuc a) n = 0

-- a number below 0 counts from n on backwards
abbrev pub from_end : ℤ → ℕ → ℕ
from_end (pos a) n = min a n
from_end (negsuc a) n = n - suc a

-- ---- String (15.5)

-- no argument gives the empty text
abbrev pub new_string : Bool → List Value → Env → Act
new_string new args env = wrapped new (String (text_at args 0)) env

-- a unit for each number
abbrev pub from_char_code : List Value → Env → Act
from_char_code args env = give_text (each (λ v. uint32 (whole_of v) % 65536) args) env

-- a piece joins the text, with the separator before it unless it is the first
abbrev pub glued : ℕ → Text → Text → Text → Text
glued zero t separator piece = t ++ piece
glued (suc i) t separator piece = t ++ separator ++ piece

-- so many slots from index i on, one step each
abbrev pub glue_from : ℕ → ℕ → Text → Text → ObjId → Env → Act
glue_from zero i t separator o env = give_text t env
glue_from (suc k) i t separator o env = Tick (Do (Read env.world (slot o (index_name i))) (λ found. glue_from k (i + 1) (glued i t separator (text_of (value_or_undefined found))) separator o env))

-- the slots of an object
abbrev pub glue : Value → Whole → Text → Env → Act
glue (Object o) n separator env = glue_from (uint32 n) 0 [] separator o env
glue v n separator env = throw NotAnObject env

-- the unit at a place
abbrev pub unit_at : Text → Whole → Option ℕ
unit_at t (Some (pos n)) = slice_get t n
unit_at t x = None

abbrev pub char_at : Option ℕ → Act
char_at None = give (String [])
char_at (Some u) = give (String (u ∷ []))

abbrev pub char_code_at : Option ℕ → Act
char_code_at None = give (Number None)
char_code_at (Some u) = give (whole u)

-- all texts joined
abbrev pub joined : List Value → Text
joined [] = []
joined (v ∷ vs) = text_of v ++ joined vs

-- s stands at the front of t
abbrev pub begins_with : Text → Text → Bool
begins_with s t = same_text s (take (length s) t)

-- a place, or -1
abbrev pub place_value : Option ℕ → Value
place_value None = Number (Some (negsuc 0))
place_value (Some k) = whole k

-- the least place at which s stands, t being the rest from place k on
abbrev pub first_place : Text → ℕ → Text → Option ℕ
first_place s k [] = if begins_with s [] then Some k else None
first_place s k (u ∷ us) = elim (begins_with s (u ∷ us)) [ true ↦ Some k | false ↦ first_place s (k + 1) us ]

-- the greatest place at or before a limit, or else the best so far
abbrev pub better : Bool → ℕ → Option ℕ → Option ℕ
better stands k best = if stands then Some k else best

-- the greatest place at which s stands
abbrev pub last_place : Text → ℕ → Option ℕ → ℕ → Text → Option ℕ
last_place s limit best k [] = better (nat_le k limit && begins_with s []) k best
last_place s limit best k (u ∷ us) = last_place s limit (better (nat_le k limit && begins_with s (u ∷ us)) k best) (k + 1) us

-- from place k on
abbrev pub first_from : Text → Text → ℕ → Option ℕ
first_from t s k = first_place s k (drop k t)

-- NaN as the length
abbrev pub limit_of : Whole → ℕ → ℕ
limit_of None n = n
limit_of (Some a) n = kept_within a n

-- the units from a to before b
abbrev pub part_of : Text → ℕ → ℕ → Text
part_of t a b = take (b - a) (drop a t)

-- an end that is undefined is the length
abbrev pub end_of : (ℤ → ℕ → ℕ) → Value → ℕ → ℕ
end_of f (Number x) n = f (or_zero x) n
end_of f v n = n

-- both kept within, and in order
abbrev pub substring : Text → Whole → Value → Text
substring t i j = let a = kept_within (or_zero i) (length t) in let b = end_of kept_within j (length t) in part_of t (min a b) (max a b)

-- negative ones count from the end
abbrev pub slice : Text → Whole → Value → Text
slice t i j = part_of t (from_end (or_zero i) (length t)) (end_of from_end j (length t))

-- the parts between separators: `skip` units of one are still to be passed, and `part` is the part so far
abbrev pub parts_from : Text → ℕ → Text → Text → List Value
parts_from s skip part [] = String part ∷ []
parts_from s (suc skip) part (u ∷ us) = parts_from s skip part us
parts_from s zero part (u ∷ us) = elim (begins_with s (u ∷ us)) [
  | true ↦ String part ∷ parts_from s (length s - 1) [] us
  | false ↦ parts_from s zero (part ++ u ∷ []) us
]

-- all parts
abbrev pub parts_of : Text → Value → List Value
parts_of t (String []) = each (λ u. String (u ∷ [])) t
parts_of t (String (u ∷ us)) = parts_from (u ∷ us) 0 [] t
parts_of t v = String t ∷ []

-- no more than a limit
abbrev pub at_most : Value → List Value → List Value
at_most (Number x) vs = take (uint32 x) vs
at_most v vs = vs

-- an Array of the parts
abbrev pub split : Text → Value → Value → Env → Act
split t separator limit env = make_array (at_most limit (parts_of t separator)) env give_object

-- ---- Number and Boolean (15.6, 15.7)

-- no argument gives 0
abbrev pub new_number : Bool → List Value → Env → Act
new_number new [] env = wrapped new (whole 0) env
new_number new (v ∷ vs) env = wrapped new v env

-- from 2 to 36
abbrev pub text_in_radix : Whole → ℤ → Env → Act
text_in_radix x radix env = elim (is_radix radix) [ true ↦ give_text (text_of_number (unsigned_abs radix) x) env | false ↦ throw InvalidRadix env ]

-- undefined is 10
abbrev pub with_radix : Whole → Value → Env → Act
with_radix x Undefined env = text_in_radix x (pos 10) env
with_radix x (Number (Some radix)) env = text_in_radix x radix env
with_radix x v env = throw InvalidRadix env

-- the receiver, then the radix
abbrev pub number_to_string : Value → Value → Env → Act
number_to_string this radix env = receiver is_number this env (λ v. with_radix (whole_of v) radix env)

abbrev pub boolean_to_string : Value → Env → Act
boolean_to_string this env = receiver is_truth this env (λ v. give (String (primitive_text v)))

-- ---- Math (15.8)

abbrev pub absolute : Whole → Whole
absolute x = option_map (λ a. pos (unsigned_abs a)) x

abbrev pub either : (ℤ → ℤ → ℤ) → Whole → Value → Whole
either f (Some a) (Number (Some b)) = Some (f a b)
either f x v = None

abbrev pub greater_of : ℤ → ℤ → ℤ
greater_of a b = if int_lt a b then b else a

abbrev pub lesser_of : ℤ → ℤ → ℤ
lesser_of a b = if int_lt b a then b else a

-- the greatest or the least; NaN where one is NaN
abbrev pub extreme : (ℤ → ℤ → ℤ) → List Value → Env → Act
extreme f [] env = throw OutOfRange env
extreme f (v ∷ vs) env = give (Number (fold (either f) (whole_of v) vs))
