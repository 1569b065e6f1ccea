use Rattle.std.proofs.Common.{None}
use Rattle.std.proofs.lemmas.Result.{IfOk-weaker}
use Rattle.wjs_forms.specs.States.{state, act, step}
use Rattle.wjs_offend.specs.Taking.{Answers}
use Rattle.wjs_offend.proofs.Machines.{begins, again, none_below, ends, shorter}
use Rattle.wjs_offend.proofs.machine.Machine.take.Goals as goal

pub again-init : goal.again-init
again-init c = begins c.args.class c.args.joined c.args.self.now.control c.args.self.now.forms c.top.result c.move_of-next.result c.top.ensures c.move_of-next.ensures

pub returns-in_default-pop : goal.returns-in_default-pop
returns-in_default-pop c = none_below c.args.class c.args.joined c.in-Again.control c.again.self.forms c.again.next _ c.in-Again.is c.in_default-pop.ensures.0 c.again.invariant

pub again-smaller : goal.again-smaller
again-smaller c = shorter c.again.self.forms c.pop.new.self c.in-Some.field-0 c.in-Some.ensures

pub again-preserved : goal.again-preserved
again-preserved c =
    again c.args.class c.args.joined c.in-Again.control c.again.self.forms c.pop.new.self c.in-Some.field-0 c.top-in-Again.result c.move_of-next-in-Again.result c.again.next _ c.in-Again.is c.in-Some.ensures c.top-in-Again.ensures c.move_of-next-in-Again.ensures c.again.invariant

pub returns : goal.returns
returns c = IfOk-weaker c.act.result (λ taken. Answers (act c.again.next c.again.self.forms (λ d. None)) taken (state c.act.new.self.control c.act.new.self.forms))
    (λ taken. Answers (step c.args.class c.args.joined c.args.self.now.forms c.args.self.now.control) taken (state c.act.new.self.control c.act.new.self.forms))
    (λ taken h. ends c.args.class c.args.joined c.again.next c.again.self.forms _ taken (state c.act.new.self.control c.act.new.self.forms) c.in_default.not-Again c.again.invariant h) c.act.ensures
