use Rattle.std.proofs.Common.{refl, subst}
use Rattle.wjs_base.specs.Text.{Table, Grows}
use Rattle.wjs_by_content.specs.Tables.{object_in}
use Rattle.wjs_heap_steps.proofs.Running.{does_ran}
use Rattle.wjs_heap_steps.proofs.Steps.{ran_create}
use Rattle.wjs_heap_steps.proofs.Later.{later_create, created_scope, created_there}
use Rattle.wjs_heap_steps.proofs.Making.{no_world, none_some}
use Rattle.wjs_heap_steps.proofs.makes.create.Goals as goal

pub create-requires-clause-world : goal.create-requires-clause-world
create-requires-clause-world g c = no_world c.args.object.world _ c.requires.world

pub returns-clause-does : goal.returns-clause-does
returns-clause-does g c =
    let m = g.S.WorldStore.meaning in
    let old = c.args.config.now in
    does_ran m _ _ old _ (ran_create m (λ t. object_in t c.args.object) c.args.object c.in_ok-o.o old c.create.new.heap c.in_ok-o.ensures.creates c.requires.prototype c.requires.scope (λ t more. refl))

pub returns-clause-makes : goal.returns-clause-makes
returns-clause-makes g c = λ internals e.
    let m = g.S.WorldStore.meaning in
    let old = c.args.config.now in
    does_ran m _ _ old _ (ran_create m internals c.args.object c.in_ok-o.o old c.create.new.heap c.in_ok-o.ensures.creates c.requires.prototype c.requires.scope (λ t more. e t (subst (λ (x : Table). Grows x t) c.in_ok-o.ensures.creates.texts more)))

pub returns-clause-later : goal.returns-clause-later
returns-clause-later g c = later_create g.S.WorldStore.meaning c.args.object c.in_ok-o.o c.args.config.now c.create.new.heap c.requires.base c.in_ok-o.ensures.creates c.requires.near c.requires.code (λ w h. none_some c.args.object.world w c.requires.world h)

pub returns-clause-found : goal.returns-clause-found
returns-clause-found g c = created_there g.S.WorldStore.meaning c.args.object c.in_ok-o.o c.args.config.now c.create.new.heap c.requires.base c.in_ok-o.ensures.creates

pub returns-clause-outer : goal.returns-clause-outer
returns-clause-outer g c = created_scope g.S.WorldStore.meaning c.args.object c.in_ok-o.o c.args.config.now c.create.new.heap c.in_ok-o.ensures.creates
