use Rattle.std.proofs.Common.{ap, ◌∙◌, Some, None, cond, Bool}
use Rattle.wjs_base.specs.declared.values.Value.{Value}
use Rattle.wjs_by_content.specs.Objects.{function_of}
use Rattle.wjs_by_content.specs.Tables.{value_in}
use Rattle.wjs_heap_steps.proofs.Looking.{no_function}
use Rattle.wjs_heap_steps.proofs.looks.function_if.Goals as goal

pub returns-then-is_callable-clause-is : goal.returns-then-is_callable-clause-is
returns-then-is_callable-clause-is g c = λ t arena s.
    ap (λ (v : Value). function_of arena (value_in t v)) c.in-Object.is
    ∙ ap (λ (b : Bool). cond b (Some c.in-Object.object) None) (c.is_callable.ensures.is t arena s ∙ c.if-is_callable.true)

pub returns-else-is_callable-clause-is : goal.returns-else-is_callable-clause-is
returns-else-is_callable-clause-is g c = λ t arena s.
    ap (λ (v : Value). function_of arena (value_in t v)) c.in-Object.is
    ∙ ap (λ (b : Bool). cond b (Some c.in-Object.object) None) (c.is_callable.ensures.is t arena s ∙ c.if-is_callable.false)

pub returns-in_default : goal.returns-in_default
returns-in_default g c = record {
  is = λ t arena s. no_function c.args.value arena t c.in_default.not-Object;
  found = tt;
}
