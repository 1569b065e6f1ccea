use Rattle.std.proofs.Common.{subst}
use Rattle.wjs_base.specs.Text.{Table}
use Rattle.wjs_meaning.specs.Natives.{native_of}
use Rattle.wjs_model.specs.Contents.{holding_in}
use Rattle.wjs_frames.specs.Parts.{env_in}
use Rattle.wjs_natives.specs.declared.conversions.Progress.{Progress}
use Rattle.wjs_natives.specs.Converting.{Progresses}
use Rattle.wjs_natives.proofs.Running.{runs_on, runs_ready}
use Rattle.wjs_native_core.proofs.turns.begin_core.Goals as goal

pub returns-in-Runs : goal.returns-in-Runs
returns-in-Runs g c =
    let m = g.S.WorldStore.meaning in
    let old = c.args.config.now in
    let mid = c.begin.new.config in
    let f = c.args.frame in
    let k = c.args.native in
    let deeds = λ (t : Table). native_of k c.args.by_new (holding_in t f.held).values (env_in m old t f) in
    let ready = subst (λ (p : Progress). Progresses m k c.args.by_new f deeds p old mid) c.in-Runs.is c.in_ok-begin.ensures in
    runs_on m k c.args.by_new f c.in-Runs.frame deeds c.in-Runs.values.items old mid c.deref.result.now c.run.new.config c.run.result ready c.deref.ensures.value (c.run.ensures c.args.by_new)

pub run-requires-clause-runs : goal.run-requires-clause-runs
run-requires-clause-runs g c =
    let m = g.S.WorldStore.meaning in
    let old = c.args.config.now in
    let mid = c.begin.new.config in
    let f = c.args.frame in
    let k = c.args.native in
    let deeds = λ (t : Table). native_of k c.args.by_new (holding_in t f.held).values (env_in m old t f) in
    let ready = subst (λ (p : Progress). Progresses m k c.args.by_new f deeds p old mid) c.in-Runs.is c.in_ok-begin.ensures in
    runs_ready m k c.args.by_new f c.in-Runs.frame deeds c.in-Runs.values.items old mid c.requires.runs ready
