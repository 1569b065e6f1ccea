-- Objects that are asked by their methods for a primitive (ECMA-262, 3rd edition, section 8.6.2.6).
use Rattle.std.proofs.Common.{◌≡◌, [], Option, None, Some, ap, subst}
use Rattle.std.specs.Prelude.{Result, OnOk}
use Rattle.wjs_base.specs.declared.ids.ObjId.{ObjId}
use Rattle.wjs_base.specs.declared.ids.OutOfMemory.{OutOfMemory}
use Rattle.wjs_base.specs.declared.values.Value.{Value as NumberedValue}
use Rattle.wjs_base.specs.Text.{Table}
use Rattle.wjs_store.specs.Meaning.{Meaning}
use Rattle.wjs_by_content.specs.Objects.{Arena, function_of}
use Rattle.wjs_by_content.specs.Tables.{value_in}
use Rattle.wjs_by_content.specs.Values.{Text, Value, Object}
use Rattle.wjs_meaning.specs.declared.trouble.Trouble.TheVariants.{NoPrimitiveValue}
use Rattle.wjs_meaning.specs.Deeds.{Env, Act, Sub, Do, Look, then_value}
use Rattle.wjs_meaning.specs.Calls.{call}
use Rattle.wjs_meaning.specs.Conversions.{Hint, second_method, try_method, method_result}
use Rattle.wjs_meaning.specs.Errors.{throw}
use Rattle.wjs_meaning.specs.Properties.{get_value}
use Rattle.wjs_model.specs.declared.config.Config.{Config}
use Rattle.wjs_model.specs.Outside.{Sees}
use Rattle.wjs_model.specs.Waiting.{after_first}
use Rattle.wjs_frames.specs.Doing.{Does}
use Rattle.wjs_frames.specs.Following.{Follows}
use Rattle.wjs_frames.proofs.Shorter.{follows_look}

-- a method is called where it is a function
abbrev pub method_then : ObjId → Env → Act → Option ObjId → Act
method_then o env otherwise found = elim found [
  | None ↦ otherwise
  | Some f ↦ Sub (call f (Object o) [] env) (then_value (method_result otherwise))
]

-- a method was read, and is this function or none
pub asked : {S : Type 0} (meaning : S → Meaning) (name text : Text) (o : ObjId) (env : Table → Env) (method : NumberedValue) (otherwise : Act) (found : Option ObjId) (old mid new : Config S) (r : Result (Unit {0}) OutOfMemory)
    → Does meaning (λ t. get_value o name (env t)) (λ t. value_in t method) old mid → name ≡ text → ((t : Table) (arena : Arena) → Sees meaning mid t arena → function_of arena (value_in t method) ≡ found)
    → OnOk r (Follows meaning (method_then o (env new.heap.texts) otherwise found) mid new) → OnOk r (Follows meaning (try_method text o (env new.heap.texts) otherwise) old new)
asked meaning name text o env method otherwise found old mid new r does same is h =
    let t = new.heap.texts in
    let then : Option ObjId → Act = method_then o (env t) otherwise in
    subst (λ (n : Text). OnOk r (Follows meaning (try_method n o (env t) otherwise) old new)) same
    (does.by (λ v. Do Look (λ arena. then (function_of arena v))) new r
    (follows_look meaning (λ (arena : Arena). then (function_of arena (value_in t method))) (then found) mid new r (λ arena s. ap then (is t arena s)) h))

-- the frame that waits for the first method of the object that it holds
pub waits_first : (hint : Hint) (v : Value) (o : ObjId) (env : Env) → v ≡ Object o → then_value (after_first hint v env) ≡ then_value (method_result (try_method (second_method hint) o env (throw NoPrimitiveValue env)))
waits_first hint v o env e = ap (λ (x : Value). then_value (after_first hint x env)) e
