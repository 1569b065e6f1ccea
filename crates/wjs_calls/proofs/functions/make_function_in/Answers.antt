use Rattle.wjs_meaning.specs.Deeds.{Env}
use Rattle.wjs_base.specs.Text.{Table}
use Rattle.wjs_frames.specs.Parts.{env_in}
use Rattle.wjs_heap_steps.proofs.Later.{later_twice}
use Rattle.wjs_calls.specs.Making.{prototype_given}
use Rattle.wjs_calls.proofs.Rows.{first_env}
use Rattle.wjs_calls.proofs.functions.make_function_in.Goals as goal

pub returns-clause-does : goal.returns-clause-does
returns-clause-does g c =
    let m = g.S.WorldStore.meaning in
    let old = c.args.config.now in
    let o = c.in_ok-function.function in
    let given = first_env m c.args.frame.now (λ (env : Env) (t : Table). prototype_given o env) old c.create_function.new.config c.give_prototype.new.config c.in_ok-function.ensures.later c.in_ok-give_prototype.ensures.does in
    record {
      by = λ go later r h. c.in_ok-function.ensures.does.by (λ f. prototype_given f (env_in m old later.heap.texts c.args.frame.now) (go f)) later r (given.by (go o) later r h);
    }

pub returns-clause-later : goal.returns-clause-later
returns-clause-later g c = later_twice g.S.WorldStore.meaning c.args.config.now c.create_function.new.config c.give_prototype.new.config c.in_ok-function.ensures.later c.in_ok-give_prototype.ensures.later

pub returns-clause-found : goal.returns-clause-found
returns-clause-found g c = c.in_ok-give_prototype.ensures.later.objects c.in_ok-function.function c.in_ok-function.ensures.found

pub give_prototype-requires-clause-there : goal.give_prototype-requires-clause-there
give_prototype-requires-clause-there g c = c.in_ok-function.ensures.later.frames c.args.frame.now c.requires.there
