use Rattle.std.proofs.Common.{sym, subst}
use Rattle.std.specs.Prelude.{IfOk}
use Rattle.wjs_meaning.specs.Deeds.{then_value}
use Rattle.wjs_model.specs.declared.frame.Completion.{Completion}
use Rattle.wjs_model.specs.Contents.{completion_in, holding_in}
use Rattle.wjs_model.specs.Waiting.{after_argument}
use Rattle.wjs_frames.specs.Parts.{env_in}
use Rattle.wjs_natives.specs.Converting.{Progresses}
use Rattle.wjs_natives.proofs.turns.resume.Goals as goal

pub returns : goal.returns
returns g c =
    let m = g.S.WorldStore.meaning in
    let old = c.args.config.now in
    let f = c.args.frame in
    let k = c.args.native in
    subst (λ (e : Completion). IfOk c.resume_with.result (λ p. Progresses m k c.args.by_new f (λ t. then_value (after_argument k c.args.by_new (holding_in t f.held).values c.args.at (env_in m old t f)) (completion_in t e)) p old c.resume_with.new.config)) (sym c.in-Gives.is) c.resume_with.ensures
