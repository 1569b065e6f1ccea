-- What is looked up of an object that is there.
use Rattle.std.specs.Prelude.{Bool, true, false, not, ◌&&◌, ◌++◌, [], Option, None, Some, is_some, codes}
use Rattle.wjs_base.specs.declared.ids.ObjId.{ObjId}
use Rattle.wjs_by_content.specs.Values.{Text, Value, String}
use Rattle.wjs_by_content.specs.Names.{slot, length_name}
use Rattle.wjs_by_content.specs.Objects.{object_at, fixed, is_hidden}
use Rattle.wjs_meaning.specs.declared.trouble.Trouble.TheVariants.{NotAnObject}
use Rattle.wjs_meaning.specs.Builtins.{shown_class}
use Rattle.wjs_meaning.specs.Deeds.{Env, Act, Do, Look, Read, give}
use Rattle.wjs_meaning.specs.Errors.{throw, give_text}
use Rattle.wjs_meaning.specs.Operators.{give_truth}
use Rattle.wjs_meaning.specs.Properties.{get_value}
use Rattle.wjs_meaning.specs.NativesOfObjects.{is_list_class, apply_length, apply_from, object_text}

-- its class
abbrev pub class_shown : ObjId → Act
class_shown o = Do Look (λ arena. give (String (codes "[object " ++ shown_class (object_at arena o).class ++ codes "]")))

-- whether it has a property itself, and with `true` whether listings show it
abbrev pub own_property : Bool → ObjId → Text → Env → Act
own_property enumerable o name env = Do Look (λ arena. elim (is_some (fixed arena o name)) [
  | true ↦ give_truth (not enumerable)
  | false ↦ Do (Read env.world (slot o name)) (λ found. give_truth (is_some found && not (enumerable && is_hidden arena o name)))
])

-- the text of a thrown object
abbrev pub thrown_object : ObjId → Env → Act
thrown_object o env = Do Look (λ arena. object_text (object_at arena o).class o env (λ t. give_text t env))

-- `apply` to the elements of a list
abbrev pub apply_elements : ObjId → Value → ObjId → Env → Act
apply_elements f this o env = Do Look (λ arena. elim (is_list_class (object_at arena o).class) [
  | true ↦ get_value o length_name env (λ v. apply_from (apply_length v) 0 [] o f this env)
  | false ↦ throw NotAnObject env
])

-- a text that was found
abbrev pub found_text : Option Value → Option Text
found_text (Some (String t)) = Some t
found_text _ = None
