-- The operations on properties (ECMA-262, 3rd edition, section 8.6.2) in the current world; each goes on with its answer.
use Rattle.std.specs.Prelude.{Bool, List, Option}
use Rattle.wjs_base.specs.declared.ids.ObjId.{ObjId}
use Rattle.wjs_by_content.specs.Values.{Text, Value, value_or_undefined}
use Rattle.wjs_by_content.specs.Names.{Slot}
use Rattle.wjs_by_content.specs.declared.answers.PutAnswer.{PutAnswer}
use Rattle.wjs_by_content.specs.Properties as plans
use Rattle.wjs_meaning.specs.Deeds.{Env, Act, Do, Look, carry_out}

-- [[Get]] (8.6.2.1)
abbrev pub get : ObjId → Text → Env → (Option Value → Act) → Act
get o name env go = Do Look (λ arena. carry_out (plans.get arena o name) env.world go)

-- [[Get]], where absent counts as undefined
abbrev pub get_value : ObjId → Text → Env → (Value → Act) → Act
get_value o name env go = get o name env (λ found. go (value_or_undefined found))

-- [[HasProperty]]: the same reads (8.6.2.4)
abbrev pub has : ObjId → Text → Env → (Bool → Act) → Act
has o name env go = Do Look (λ arena. carry_out (plans.has arena o name) env.world go)

-- [[Put]] (8.6.2.2, and 15.4.5.1 for arrays)
abbrev pub put : ObjId → Text → Value → Env → (PutAnswer → Act) → Act
put o name v env go = Do Look (λ arena. carry_out (plans.put arena o name v) env.world go)

-- [[Delete]] (8.6.2.5)
abbrev pub delete : ObjId → Text → Env → (Bool → Act) → Act
delete o name env go = Do Look (λ arena. carry_out (plans.delete arena o name) env.world go)

-- what a `for`-`in` visits, in this order (12.6.4)
abbrev pub visits : ObjId → Env → (List Slot → Act) → Act
visits o env go = Do Look (λ arena. carry_out (plans.visits arena o) env.world go)
