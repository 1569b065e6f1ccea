-- What is done with what was looked up.
use Rattle.std.proofs.Common.{◌≡◌, Bool, true, false, not, Option, None, Some, refl, ap}
use Rattle.std.specs.Prelude.{◌&&◌, is_some}
use Rattle.wjs_base.specs.declared.ids.ObjId.{ObjId}
use Rattle.wjs_arena.specs.declared.class.Class.{Class}
use Rattle.wjs_arena.specs.declared.class.Class.TheVariants as class
use Rattle.wjs_by_content.specs.Values.{Text, Value, Undefined, Null, Boolean, Number, String, Object}
use Rattle.wjs_by_content.specs.Names.{slot}
use Rattle.wjs_by_content.specs.Objects.{fixed}
use Rattle.wjs_meaning.specs.Builtins.{shown_class}
use Rattle.wjs_meaning.specs.Deeds.{Env, Act, Do, Read}
use Rattle.wjs_meaning.specs.Operators.{give_truth}
use Rattle.wjs_meaning.specs.NativesOfObjects as line
use Rattle.wjs_native_core.specs.Owning.{found_text}

-- a property of an object, by what is fixed and hidden in the arena
abbrev pub owned : Bool → ObjId → Text → Env → Bool → Bool → Act
owned enumerable o name env fixed hidden = elim fixed as (λ b. Act) [
  | true ↦ give_truth (not enumerable)
  | false ↦ Do (Read env.world (slot o name)) (λ found. give_truth (is_some found && not (enumerable && hidden)))
]

-- an object that is no error
pub other_text : (c : Class) (o : ObjId) (env : Env) (go : Text → Act) → (c ≡ class.Fault → ⊥) → go (shown_class c) ≡ line.object_text c o env go
other_text class.Plain o env go h = refl
other_text class.Arguments o env go h = refl
other_text class.Global o env go h = refl
other_text class.Text o env go h = refl
other_text class.Bool o env go h = refl
other_text class.Fault o env go h = absurd (h refl)
other_text class.Function o env go h = refl
other_text class.Array o env go h = refl
other_text class.Number o env go h = refl
other_text class.World o env go h = refl
other_text class.Math o env go h = refl
other_text class.Scope o env go h = refl

-- the text of an error by what is found
pub found_is : (a : Option Value) (x : Text) → found_text a ≡ Some x → a ≡ Some (String x)
found_is None x e = absurd (cc)
found_is (Some (String s)) x e = let p : s ≡ x = cc in ap (λ z. Some (String z)) p
found_is (Some Undefined) x e = absurd (cc)
found_is (Some Null) x e = absurd (cc)
found_is (Some (Boolean z)) x e = absurd (cc)
found_is (Some (Number z)) x e = absurd (cc)
found_is (Some (Object z)) x e = absurd (cc)

pub no_name : (a b : Option Value) → found_text a ≡ None → line.fault_text a b ≡ shown_class class.Fault
no_name None b e = refl
no_name (Some Undefined) b e = refl
no_name (Some Null) b e = refl
no_name (Some (Boolean z)) b e = refl
no_name (Some (Number z)) b e = refl
no_name (Some (String s)) b e = absurd (cc)
no_name (Some (Object z)) b e = refl

pub no_second : (a b : Option Value) → found_text b ≡ None → line.fault_text a b ≡ shown_class class.Fault
no_second None b e = refl
no_second (Some Undefined) b e = refl
no_second (Some Null) b e = refl
no_second (Some (Boolean z)) b e = refl
no_second (Some (Number z)) b e = refl
no_second (Some (Object z)) b e = refl
no_second (Some (String s)) None e = refl
no_second (Some (String s)) (Some Undefined) e = refl
no_second (Some (String s)) (Some Null) e = refl
no_second (Some (String s)) (Some (Boolean z)) e = refl
no_second (Some (String s)) (Some (Number z)) e = refl
no_second (Some (String s)) (Some (Object z)) e = refl
no_second (Some (String s)) (Some (String r)) e = absurd (cc)
