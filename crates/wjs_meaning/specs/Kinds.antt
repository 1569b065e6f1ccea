-- How natives convert their receivers and arguments.
use Rattle.std.specs.Prelude.{ℕ, zero, suc, List, [], ◌∷◌, replicate}
use Rattle.wjs_by_content.specs.Values.{Value, Undefined}
use Rattle.wjs_meaning.specs.declared.kinds.Kind.{Kind}
use Rattle.wjs_meaning.specs.declared.kinds.Kind.TheVariants.{AsIs, ToText, ToNumber, ToInteger, TextIfGiven, NumberIfGiven, IntegerIfGiven}
use Rattle.wjs_meaning.specs.declared.kinds.Kinds.{Kinds}
use Rattle.wjs_meaning.specs.declared.kinds.Kinds.TheVariants.{Nothing, One, Two, Three, Each, IfGiven}
use Rattle.wjs_meaning.specs.Deeds.{Env, Act, give}
use Rattle.wjs_meaning.specs.Conversions.{to_number, to_text, to_integer}

-- the conversion of a kind
abbrev pub convert : Kind → Value → Env → Act
convert AsIs v env = give v
convert ToText v env = to_text v env
convert ToNumber v env = to_number v env
convert ToInteger v env = to_integer v env
convert TextIfGiven Undefined env = give Undefined
convert TextIfGiven v env = to_text v env
convert NumberIfGiven Undefined env = give Undefined
convert NumberIfGiven v env = to_number v env
convert IntegerIfGiven Undefined env = give Undefined
convert IntegerIfGiven v env = to_integer v env

-- a kind, where any argument is given
abbrev pub where_given : Kind → ℕ → List Kind
where_given kind zero = []
where_given kind (suc given) = kind ∷ []

-- the kinds of the arguments, of which so many are given
abbrev pub kinds_of : Kinds → ℕ → List Kind
kinds_of Nothing given = []
kinds_of (One a) given = a ∷ []
kinds_of (Two a b) given = a ∷ b ∷ []
kinds_of (Three a b c) given = a ∷ b ∷ c ∷ []
kinds_of (Each a) given = replicate given a
kinds_of (IfGiven a) given = where_given a given

-- a missing argument is undefined
abbrev pub with_kinds : List Kind → List Value → List (Kind × Value)
with_kinds [] vs = []
with_kinds (kind ∷ rest) [] = (kind, Undefined) ∷ with_kinds rest []
with_kinds (kind ∷ rest) (v ∷ vs) = (kind, v) ∷ with_kinds rest vs
