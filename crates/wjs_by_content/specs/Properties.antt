-- [[Get]], [[HasProperty]], [[Put]], [[Delete]] and what a `for`-`in` visits (ECMA-262, 3rd edition, sections 8.6.2 and 12.6.4), as what each asks of the worlds. Each goes along the prototypes.
use Rattle.std.specs.Prelude.{ℕ, zero, suc, ◌+◌, ◌-◌, Bool, true, false, not, ◌&&◌, ◌||◌, nat_le, nat_lt, List, [], ◌∷◌, ◌++◌, map as each, filter, Option, None, Some, is_some, is_none, pos}
use Rattle.std.specs.List.{list_any}
use Rattle.wjs_base.specs.declared.ids.ObjId.{ObjId}
use Rattle.wjs_by_content.specs.Values.{Text, Value, Number, whole, value_or_undefined, same_text}
use Rattle.wjs_by_content.specs.Names.{Slot, slot, length_name, index_of, index_name}
use Rattle.wjs_by_content.specs.Objects.{Arena, chain, fixed, is_hidden, is_kept, is_puttable, is_array, object_at}
use Rattle.wjs_by_content.specs.Plans.{Plan, Gives, Reads, Writes, Lists, then_plan}
use Rattle.wjs_by_content.specs.declared.answers.PutAnswer.{PutAnswer}
use Rattle.wjs_by_content.specs.declared.answers.PutAnswer.TheVariants.{Done, Ignored, BadLength}

-- ---- [[Get]] and [[HasProperty]] (8.6.2.1, 8.6.2.4)

-- for each object its fixed property if it has that name, else a read of its slot; the first that is present
abbrev pub get_along : List ObjId → Arena → Text → Plan (Option Value)
get_along [] arena name = Gives None
get_along (o ∷ os) arena name = elim (fixed arena o name) [
  | Some v ↦ Gives (Some v)
  | None ↦ Reads (slot o name) (λ found. elim found [ Some v ↦ Gives (Some v) | None ↦ get_along os arena name ])
]

abbrev pub get : Arena → ObjId → Text → Plan (Option Value)
get arena o name = get_along (chain arena o) arena name

-- whether something was found
abbrev pub has_of : Plan (Option Value) → Plan Bool
has_of p = then_plan p (λ found. Gives (is_some found))

-- the same reads
abbrev pub has : Arena → ObjId → Text → Plan Bool
has arena o name = has_of (get arena o name)

-- ---- [[Put]] (8.6.2.2), of an Array by 15.4.5.1

abbrev pub greatest_length : ℕ
greatest_length = 4_294_967_295

-- a number from 0 to the greatest length
abbrev pub length_of_value : Value → Option ℕ
length_of_value (Number (Some (pos n))) = elim (nat_le n greatest_length) [ true ↦ Some n | false ↦ None ]
length_of_value _ = None

-- an array's length as it was read; what is no length counts as 0
abbrev pub length_of : Option Value → ℕ
length_of found = elim (length_of_value (value_or_undefined found)) [ Some n ↦ n | None ↦ 0 ]

-- at an index: the length is read, the element written, and then a greater length where it is due
abbrev pub put_index : ObjId → ℕ → Value → Plan PutAnswer
put_index o i v =
    Reads (slot o length_name) (λ old.
    Writes (slot o (index_name i)) (Some v) (
    elim (nat_lt i (length_of old)) [
      | true ↦ Gives Done
      | false ↦ Writes (slot o length_name) (Some (whole (i + 1))) (Gives Done)
    ]))

-- so many indices from n on: each is read, and written absent where it is present
abbrev pub cut_each : ℕ → ℕ → ObjId → Plan (Unit {0})
cut_each zero n o = Gives tt
cut_each (suc k) n o = Reads (slot o (index_name n)) (λ found. elim found [
  | None ↦ cut_each k (n + 1) o
  | Some v ↦ Writes (slot o (index_name n)) None (cut_each k (n + 1) o)
])

-- whether a name is an index from n to before m
abbrev pub is_index_within : ℕ → ℕ → Option ℕ → Bool
is_index_within n m None = false
is_index_within n m (Some i) = nat_le n i && nat_lt i m

-- those of the listed names are written absent
abbrev pub cut_listed : List Text → ℕ → ℕ → ObjId → Plan (Unit {0})
cut_listed [] n m o = Gives tt
cut_listed (name ∷ names) n m o = elim (is_index_within n m (index_of name)) [
  | true ↦ Writes (slot o name) None (cut_listed names n m o)
  | false ↦ cut_listed names n m o
]

-- elements from n to before m go: one by one where they are at most 64, else by a listing
abbrev pub cut : ℕ → ℕ → ObjId → Plan (Unit {0})
cut n m o = elim (nat_le (m - n) 64) [
  | true ↦ cut_each (m - n) n o
  | false ↦ Lists o (λ names. cut_listed names n m o)
]

-- a length: the old one is read, the elements past the new one go, and it is written
abbrev pub put_length : ObjId → Option ℕ → Plan PutAnswer
put_length o None = Gives BadLength
put_length o (Some n) =
    Reads (slot o length_name) (λ old.
    then_plan (cut n (length_of old) o) (λ done.
    Writes (slot o length_name) (Some (whole n)) (Gives Done)))

-- a write of the slot
abbrev pub put_slot : ObjId → Text → Value → Plan PutAnswer
put_slot o name v = Writes (slot o name) (Some v) (Gives Done)

-- an index, `length`, or another name
abbrev pub put_in_array : ObjId → Text → Value → Plan PutAnswer
put_in_array o name v = elim (index_of name) [
  | Some i ↦ put_index o i v
  | None ↦ elim (same_text name length_name) [ true ↦ put_length o (length_of_value v) | false ↦ put_slot o name v ]
]

-- nothing where an object of the chain has the name as a fixed property
abbrev pub put : Arena → ObjId → Text → Value → Plan PutAnswer
put arena o name v = elim (is_puttable arena o name) [
  | false ↦ Gives Ignored
  | true ↦ elim (is_array arena o) [ true ↦ put_in_array o name v | false ↦ put_slot o name v ]
]

-- ---- [[Delete]] (8.6.2.5)

-- a fixed name gives false; a kept one is read; any other is written absent
abbrev pub delete : Arena → ObjId → Text → Plan Bool
delete arena o name = elim (is_some (fixed arena o name)) [
  | true ↦ Gives false
  | false ↦ elim (is_kept arena o name) [
    | true ↦ Reads (slot o name) (λ found. Gives (is_none found))
    | false ↦ Writes (slot o name) None (Gives true)
  ]
]

-- ---- the visits of a listing (12.6.4)

-- each object is listed, in the order of names; those that are not hidden are visited, but for those that an earlier object has
abbrev pub visits_along : List ObjId → Arena → List Text → Plan (List Slot)
visits_along [] arena seen = Gives []
visits_along (o ∷ os) arena seen = Lists o (λ names.
    then_plan (visits_along os arena (seen ++ names ++ each (λ x. x.0) (object_at arena o).fixed)) (λ visits.
    Gives (each (slot o) (filter (λ name. not (is_hidden arena o name || list_any (same_text name) seen)) names) ++ visits)))

abbrev pub visits : Arena → ObjId → Plan (List Slot)
visits arena o = visits_along (chain arena o) arena []
