use Rattle.std.proofs.Common.{sym, ap, ◌∙◌, subst}
use Rattle.std.specs.Prelude.{OnOk}
use Rattle.wjs_by_content.specs.Tables.{value_in}
use Rattle.wjs_meaning.specs.Calls as line
use Rattle.wjs_meaning.specs.Deeds.{Act}
use Rattle.wjs_model.specs.declared.config.Config.{Config}
use Rattle.wjs_model.specs.declared.frame.Activation.{Activation as Frame}
use Rattle.wjs_model.specs.Contents.{holding_in}
use Rattle.wjs_model.specs.Soundness.{IsThere}
use Rattle.wjs_frames.specs.Following.{Follows}
use Rattle.wjs_frames.specs.Parts.{env_in}
use Rattle.wjs_calls.proofs.Frames.{there_with}
use Rattle.wjs_frames.proofs.Handling.{runs_over}
use Rattle.wjs_calls.proofs.calls.call_below.Goals as goal

pub call-requires-clause-runs : goal.call-requires-clause-runs
call-requires-clause-runs g c =
    let m = g.S.WorldStore.meaning in
    let new = c.wait.new.config in
    let later = c.in_ok-wait.ensures.later in
    let f = c.args.frame in
    let h = later.frames f c.requires.runs.there in
    runs_over _ _ _ _ _ c.requires.runs later (subst (IsThere m new) (sym c.in_ok-above.ensures)
    (there_with m new f f.phase f.this c.args.items h h.this (later.items c.args.items c.requires.items)))

-- the call is run where the frame is
pub returns : goal.returns
returns g c =
    let m = g.S.WorldStore.meaning in
    let old = c.args.config.now in
    let mid = c.wait.new.config in
    let new = c.call.new.config in
    let t = new.heap.texts in
    let calls = λ (k : Config g.row.S.Denot) (f : Frame). line.call c.args.function (value_in t c.args.this) (holding_in t f.held).values (env_in m k t f) in
    let is = ap (λ (k : Config g.row.S.Denot). calls k c.in_ok-above.above) c.in_ok-wait.ensures.same ∙ ap (calls old) c.in_ok-above.ensures in
    c.in_ok-wait.ensures.nests.by _ new c.call.result (subst (λ (a : Act). OnOk c.call.result (Follows m a mid new)) is c.call.ensures)
