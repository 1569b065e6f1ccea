-- What the first objects are, as the code has them.
use Rattle.std.specs.Prelude.{ℕ, ◌+◌, Bool, true, false, not, ◌&&◌, ◌==◌, nat_lt, List, [], ◌∷◌, ◌++◌, map as each, Option, None, Some}
use Rattle.wjs_base.specs.declared.ids.ObjId.{ObjId}
use Rattle.wjs_base.specs.declared.ids.WorldId.{WorldId}
use Rattle.wjs_arena.specs.declared.object.Flags.{Flags}
use Rattle.wjs_by_content.specs.Values.{Text, Value, Undefined, Boolean, String, whole}
use Rattle.wjs_by_content.specs.Objects.{Internals, hidden_flags, kept_flags}
use Rattle.wjs_meaning.specs.Builtins.{first_object}
use Rattle.wjs_meaning.specs.Start.{flags_on, fixed_length, fixed_prototype, library_names}
use Rattle.wjs_start.specs.declared.blueprints.Primitive.{Primitive}
use Rattle.wjs_start.specs.declared.blueprints.Primitive.TheVariants as primitive
use Rattle.wjs_start.specs.declared.blueprints.Further.{Further}
use Rattle.wjs_start.specs.declared.blueprints.Further.TheVariants as further
use Rattle.wjs_start.specs.declared.blueprints.Blueprint.{Blueprint}
use Rattle.wjs_start.specs.First.{is_script}

abbrev pub primitive_in : Primitive → Value
primitive_in primitive.Undefined = Undefined
primitive_in primitive.EmptyText = String []
primitive_in primitive.Zero = whole 0
primitive_in primitive.False = Boolean false

-- a fixed `length`, where there is one
abbrev pub length_part : Option ℕ → List (Text × Value)
length_part None = []
length_part (Some n) = fixed_length n

-- the declared names that keep slots of the object
abbrev pub keeping : Further → List Text → List Text
keeping further.Declared declared = declared
keeping _ declared = []

abbrev pub further_flags : Further → List Text → List (Text × Flags)
further_flags further.Nothing declared = []
further_flags further.Declared declared = each (λ name. (name, kept_flags)) declared
further_flags further.Library declared = each (λ name. (name, hidden_flags)) library_names

-- the object of this number, where the script declares these names
abbrev pub built : List Text → ObjId → Blueprint → Internals
built declared o b = record {
  class = b.class;
  prototype = b.prototype;
  scope = None;
  code = b.code;
  primitive = primitive_in b.primitive;
  world = b.world;
  fixed = length_part b.length ++ fixed_prototype b.constructs;
  flags = flags_on o (keeping b.further declared) ++ further_flags b.further declared;
  all_kept = false;
}

-- those of a list, the first being object n
abbrev pub built_from : List Text → ℕ → List Blueprint → List Internals
built_from declared n [] = []
built_from declared n (b ∷ bs) = built declared (first_object n) b ∷ built_from declared (n + 1) bs

-- ---- what an object names is there where it is made, and it is no script's function

-- an object of owner 0 with a number below n, if it is one
abbrev pub is_before : ℕ → Option ObjId → Bool
is_before n None = true
is_before n (Some o) = (o.owner == 0) && nat_lt o.serial n

-- object 13 stands for a world, the first, and no other does
abbrev pub has_right_world : ℕ → Option WorldId → Bool
has_right_world n None = not (n == 13)
has_right_world n (Some w) = (n == 13) && ((w.owner == 0) && (w.serial == 0))

abbrev pub is_buildable : ℕ → Blueprint → Bool
is_buildable n b = is_before n b.prototype && (is_before n b.constructs && (has_right_world n b.world && not (is_script b.code)))

abbrev pub are_buildable : ℕ → List Blueprint → Bool
are_buildable n [] = true
are_buildable n (b ∷ bs) = is_buildable n b && are_buildable (n + 1) bs
