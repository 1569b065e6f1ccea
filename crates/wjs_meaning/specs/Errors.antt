-- The errors that the machine makes: each is a new object on the named prototype, with a fixed message.
use Rattle.std.specs.Prelude.{true, false, nat_lt, ◌++◌, List, [], ◌∷◌, Some, Result, Ok, Err, take, codes, length}
use Rattle.wjs_base.specs.declared.ids.ObjId.{ObjId}
use Rattle.wjs_base.specs.Text.{longest}
use Rattle.wjs_num.specs.declared.arithmetic.NumFault.{NumFault}
use Rattle.wjs_num.specs.declared.arithmetic.NumFault.TheVariants as faults
use Rattle.wjs_arena.specs.declared.class.Class.TheVariants as class
use Rattle.wjs_by_content.specs.Values.{Text, Whole, Value, Number, String, Object}
use Rattle.wjs_by_content.specs.Names.{name_name, message_name}
use Rattle.wjs_meaning.specs.declared.trouble.Trouble.{Trouble}
use Rattle.wjs_meaning.specs.declared.trouble.Trouble.TheVariants.{NotDefined, NotAnObject, NotAFunction, NotAConstructor, NotAWorld, NoParentWorld, NoPrimitiveValue, BadRightOperand, WrongReceiver, NoCodeFromText, OutOfRange, NotWhole, InvalidArrayLength, TextTooLong, InvalidRadix, CommitFailed}
use Rattle.wjs_by_content.specs.Objects.{Internals, object_of}
use Rattle.wjs_meaning.specs.Builtins.{error_prototype, type_error_prototype, range_error_prototype, reference_error_prototype}
use Rattle.wjs_meaning.specs.Deeds.{Env, Act, Ret, Do, Create, Throws, give}

-- the message of each, by the name that is not defined, cut to the longest text
abbrev pub message_of : Trouble → Text → Text
message_of NotDefined name = take longest (name ++ codes " is not defined")
message_of NotAnObject name = codes "not an object"
message_of NotAFunction name = codes "not a function"
message_of NotAConstructor name = codes "not a constructor"
message_of NotAWorld name = codes "not a world"
message_of NoParentWorld name = codes "no parent world"
message_of NoPrimitiveValue name = codes "no primitive value"
message_of BadRightOperand name = codes "bad right operand"
message_of WrongReceiver name = codes "wrong receiver"
message_of NoCodeFromText name = codes "no code from text"
message_of OutOfRange name = codes "number out of range"
message_of NotWhole name = codes "not a whole number"
message_of InvalidArrayLength name = codes "invalid array length"
message_of TextTooLong name = codes "text too long"
message_of InvalidRadix name = codes "invalid radix"
message_of CommitFailed name = codes "commit failed"

-- the prototype of each
abbrev pub prototype_of : Trouble → ObjId
prototype_of NotDefined = reference_error_prototype
prototype_of OutOfRange = range_error_prototype
prototype_of NotWhole = range_error_prototype
prototype_of InvalidArrayLength = range_error_prototype
prototype_of TextTooLong = range_error_prototype
prototype_of InvalidRadix = range_error_prototype
prototype_of CommitFailed = error_prototype
prototype_of _ = type_error_prototype

-- a fixed `name` where a commit failed
abbrev pub fixed_name : Trouble → List (Text × Value)
fixed_name CommitFailed = (name_name, String (codes "CommitFailed")) ∷ []
fixed_name _ = []

-- the object of an error
abbrev pub error_of : Trouble → Text → Internals
error_of trouble name = record (object_of class.Fault (Some (prototype_of trouble))) { fixed = (message_name, String (message_of trouble name)) ∷ fixed_name trouble }

-- ---- throwing

-- an error about a name that is not defined
abbrev pub throw_named : Trouble → Text → Env → Act
throw_named trouble name env = Do (Create env.owner (error_of trouble name)) (λ o. Ret (Throws (Object o)))

-- an error
abbrev pub throw : Trouble → Env → Act
throw trouble env = throw_named trouble [] env

-- the error of a fault of arithmetic
abbrev pub trouble_of : NumFault → Trouble
trouble_of faults.OutOfRange = OutOfRange
trouble_of faults.NotWhole = NotWhole

-- a result of arithmetic, or its fault
abbrev pub give_result : Result Whole NumFault → Env → Act
give_result (Ok x) env = give (Number x)
give_result (Err fault) env = throw (trouble_of fault) env

-- a text, unless it is too long
abbrev pub give_text : Text → Env → Act
give_text t env = elim (nat_lt longest (length t)) [ true ↦ throw TextTooLong env | false ↦ give (String t) ]
