-- What the natives of Object, Function, Error, World and Array do, after their conversions (ECMA-262, 3rd edition, sections 15.2 to 15.4 and 15.11).
use Rattle.std.specs.Prelude.{ℕ, zero, suc, ◌+◌, Bool, true, false, not, ◌&&◌, List, [], ◌∷◌, ◌++◌, drop, Option, None, Some, is_some, unwrap_or, slice_index_or, codes}
use Rattle.wjs_base.specs.declared.ids.ObjId.{ObjId}
use Rattle.wjs_store.specs.State.{Verdict, moved, differs, no_parent}
use Rattle.wjs_num.specs.Bits.{uint32}
use Rattle.wjs_arena.specs.declared.class.Class.{Class}
use Rattle.wjs_arena.specs.declared.class.Class.TheVariants as class
use Rattle.wjs_arena.specs.declared.object.Code.{Code}
use Rattle.wjs_arena.specs.declared.object.Code.TheVariants as code
use Rattle.wjs_arena.specs.declared.native.Native.{Native}
use Rattle.wjs_by_content.specs.Values.{Text, Whole, Value, Undefined, Null, Number, String, Object, whole}
use Rattle.wjs_by_content.specs.Names.{slot, length_name, name_name, message_name, index_name}
use Rattle.wjs_by_content.specs.Objects.{Arena, object_of, object_at, fixed, is_hidden, is_past, is_array, function_of}
use Rattle.wjs_meaning.specs.declared.trouble.Trouble.TheVariants.{NotAnObject, NotAFunction, NoParentWorld, WrongReceiver, InvalidArrayLength, CommitFailed}
use Rattle.wjs_meaning.specs.Builtins.{shown_class}
use Rattle.wjs_by_content.specs.Conversions.{primitive_number, primitive_text}
use Rattle.wjs_meaning.specs.Trees.{tree_at, node_at, name_of}
use Rattle.wjs_by_content.specs.Properties.{length_of_value}
use Rattle.wjs_meaning.specs.Deeds.{Env, Act, Tick, Do, Read, Write, Look, Create, Sprout, Commit, give}
use Rattle.wjs_meaning.specs.Properties.{get, get_value}
use Rattle.wjs_meaning.specs.Errors.{throw, give_text}
use Rattle.wjs_meaning.specs.NewObjects.{plain_object, array_object, make_array, to_object}
use Rattle.wjs_meaning.specs.Calls.{call, call_found}
use Rattle.wjs_meaning.specs.WorldValues.{world_object_of, world_of}
use Rattle.wjs_meaning.specs.Operators.{give_truth}

-- ---- converted arguments

-- the argument at a place
abbrev pub value_at : List Value → ℕ → Value
value_at args i = slice_index_or args i Undefined

-- the text of a converted value
abbrev pub text_of : Value → Text
text_of (String t) = t
text_of v = []

-- the number of a converted value
abbrev pub whole_of : Value → Whole
whole_of (Number x) = x
whole_of v = None

-- the text at a place
abbrev pub text_at : List Value → ℕ → Text
text_at args i = text_of (value_at args i)

-- the number at a place
abbrev pub whole_at : List Value → ℕ → Whole
whole_at args i = whole_of (value_at args i)

-- ends with an object
abbrev pub give_object : ObjId → Act
give_object o = give (Object o)

-- ---- Object (15.2)

-- a new Plain object, or ToObject
abbrev pub new_object : Value → Env → Act
new_object Undefined env = Do (Create env.owner plain_object) give_object
new_object Null env = Do (Create env.owner plain_object) give_object
new_object v env = to_object v env give_object

-- the class of ToObject
abbrev pub object_to_string : Value → Env → Act
object_to_string this env = to_object this env (λ o. Do Look (λ arena. give (String (codes "[object " ++ shown_class (object_at arena o).class ++ codes "]"))))

-- a fixed property, or a slot that is read; for the second native one that is not hidden
abbrev pub has_own_property : Bool → Value → Text → Env → Act
has_own_property enumerable this name env = to_object this env (λ o. Do Look (λ arena. elim (is_some (fixed arena o name)) [
  | true ↦ give_truth (not enumerable)
  | false ↦ Do (Read env.world (slot o name)) (λ found. give_truth (is_some found && not (enumerable && is_hidden arena o name)))
]))

-- both are objects, and one is past the other
abbrev pub is_prototype_of : Value → Value → Act
is_prototype_of (Object p) (Object o) = Do Look (λ arena. give_truth (is_past arena p o))
is_prototype_of this v = give_truth false

-- ---- Function (15.3)

-- NAME of a function
abbrev pub code_name : Code → (Native → Text) → Env → Text
code_name code.None names env = []
code_name (code.Script tree body) names env = unwrap_or (name_of (node_at (tree_at env.trees tree) body.0)) (codes "anonymous")
code_name (code.Native k) names env = names k

-- a function that is there
abbrev pub function_text : Option ObjId → Arena → (Native → Text) → Env → Act
function_text None arena names env = throw WrongReceiver env
function_text (Some f) arena names env = give_text (codes "function " ++ code_name (object_at arena f).code names env ++ codes "() { }") env

-- NAME of the receiver
abbrev pub function_to_string : Value → (Native → Text) → Env → Act
function_to_string this names env = Do Look (λ arena. function_text (function_of arena this) arena names env)

-- the first argument is `this`
abbrev pub function_call : Value → List Value → Env → Act
function_call this args env = Do Look (λ arena. call_found (function_of arena this) (value_at args 0) (drop 1 args) env)

-- so many elements from index i on, one step each, and then the call
abbrev pub apply_from : ℕ → ℕ → List Value → ObjId → ObjId → Value → Env → Act
apply_from zero i vs o f this env = call f this vs env
apply_from (suc k) i vs o f this env = Tick (get_value o (index_name i) env (λ v. apply_from k (i + 1) (vs ++ v ∷ []) o f this env))

-- an object as a length counts as 0
abbrev pub apply_length : Value → ℕ
apply_length (Object o) = 0
apply_length v = uint32 (primitive_number v)

abbrev pub is_list_class : Class → Bool
is_list_class class.Array = true
is_list_class class.Arguments = true
is_list_class _ = false

-- the list of the arguments
abbrev pub apply_list : ObjId → Value → Value → Env → Act
apply_list f this Undefined env = call f this [] env
apply_list f this Null env = call f this [] env
apply_list f this (Object o) env = Do Look (λ arena. elim (is_list_class (object_at arena o).class) [
  | true ↦ get_value o length_name env (λ v. apply_from (apply_length v) 0 [] o f this env)
  | false ↦ throw NotAnObject env
])
apply_list f this v env = throw NotAnObject env

-- a function that is there
abbrev pub apply_found : Option ObjId → Value → Value → Env → Act
apply_found None this v env = throw NotAFunction env
apply_found (Some f) this v env = apply_list f this v env

-- the receiver is looked up
abbrev pub function_apply : Value → List Value → Env → Act
function_apply this args env = Do Look (λ arena. apply_found (function_of arena this) (value_at args 0) (value_at args 1) env)

-- ---- Error (15.11)

-- a given text is written as `message`
abbrev pub error_message : ObjId → Value → Env → Act
error_message o (String t) env = Do (Write env.world (slot o message_name) (Some (String t))) (λ done. give_object o)
error_message o v env = give_object o

-- a Fault object on a prototype
abbrev pub new_error : ObjId → Value → Env → Act
new_error prototype message env = Do (Create env.owner (object_of class.Fault (Some prototype))) (λ o. error_message o message env)

-- the name, followed by the message where it isn't empty; both must be texts
abbrev pub with_message : Text → Text → Text
with_message name [] = name
with_message name (u ∷ us) = name ++ codes ": " ++ u ∷ us

-- where both are texts
abbrev pub fault_text : Option Value → Option Value → Text
fault_text (Some (String name)) (Some (String message)) = with_message name message
fault_text name message = shown_class class.Fault

-- by the class of the object
abbrev pub object_text : Class → ObjId → Env → (Text → Act) → Act
object_text class.Fault o env go = get o name_name env (λ name. get o message_name env (λ message. go (fault_text name message)))
object_text c o env go = go (shown_class c)

-- the text of a thrown value
abbrev pub thrown_text : Value → Env → (Text → Act) → Act
thrown_text (Object o) env go = Do Look (λ arena. object_text (object_at arena o).class o env go)
thrown_text v env go = go (primitive_text v)

-- the text in the current world
abbrev pub error_to_string : Value → Env → Act
error_to_string this env = thrown_text this env (λ t. give_text t env)

-- ---- World (ECOOP 2011, section 2)

-- a child of the receiver, and its World object
abbrev pub sprout : Bool → Value → Env → Act
sprout strict this env = world_of this env (λ w. Do (Sprout w env.owner strict) (λ child. Do (Create env.owner (world_object_of child)) give_object))

-- after the commit
abbrev pub commit_answer : Env → Verdict (Unit {0}) → Act
commit_answer env moved = give Undefined
commit_answer env (differs unseen) = throw CommitFailed env
commit_answer env no_parent = throw NoParentWorld env

-- the receiver moves to its parent
abbrev pub commit : Value → Env → Act
commit this env = world_of this env (λ w. Do (Commit w) (commit_answer env))

-- ---- Array (15.4)

-- an Array of a length
abbrev pub array_of_length : Option ℕ → Env → Act
array_of_length None env = throw InvalidArrayLength env
array_of_length (Some n) env = Do (Create env.owner array_object) (λ o. Do (Write env.world (slot o length_name) (Some (whole n))) (λ done. give_object o))

-- one number is a length, else the elements
abbrev pub new_array : List Value → Env → Act
new_array (Number x ∷ []) env = array_of_length (length_of_value (Number x)) env
new_array args env = make_array args env give_object

-- whether it is an Array
abbrev pub array_is_array : Value → Act
array_is_array (Object o) = Do Look (λ arena. give_truth (is_array arena o))
array_is_array v = give_truth false
