use Rattle.std.proofs.Common.{refl, arith, ◌-◌}
use Rattle.wjs_by_content.specs.Objects.{scope_up}
use Rattle.wjs_heap_steps.proofs.Running.{does_ran}
use Rattle.wjs_heap_steps.proofs.Steps.{ran_look}
use Rattle.wjs_heap_steps.proofs.Looking.{scope_step, scope_end}
use Rattle.wjs_heap_steps.proofs.looks.scope_up.Goals as goal

pub out-init : goal.out-init
out-init g c = record { there = c.requires.scope; rest = λ t arena s. refl }

pub out-preserved : goal.out-preserved
out-preserved g c = record {
  there = c.scope_out-at.ensures.found;
  rest = λ t arena s. scope_step arena c.args.hops c.out.left (c.out.left - 1) c.args.scope c.out.at c.scope_out-at.result (omega arith) (c.scope_out-at.ensures.is t arena s) (c.out.invariant.rest t arena s);
}

pub returns-clause-does : goal.returns-clause-does
returns-clause-does g c =
    let m = g.S.WorldStore.meaning in
    let old = c.args.config.now in
    does_ran m _ _ old old (ran_look m (λ t arena. scope_up arena c.args.hops c.args.scope) (λ t. c.out.at) old (λ t more arena s. scope_end arena c.args.hops c.out.left c.args.scope c.out.at (omega arith) (c.out.invariant.rest t arena s)))

pub returns-clause-is : goal.returns-clause-is
returns-clause-is g c = λ t arena s. scope_end arena c.args.hops c.out.left c.args.scope c.out.at (omega arith) (c.out.invariant.rest t arena s)
