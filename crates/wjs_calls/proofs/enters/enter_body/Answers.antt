use Rattle.std.proofs.Common.{sym, subst}
use Rattle.std.specs.Prelude.{OnOk}
use Rattle.wjs_by_content.specs.Tables.{value_in}
use Rattle.wjs_meaning.specs.Deeds.{Tick, AtBody}
use Rattle.wjs_model.specs.declared.point.Start.TheVariants as starts
use Rattle.wjs_model.specs.declared.frame.Activation.{Activation as Frame}
use Rattle.wjs_model.specs.Contents.{holding_in}
use Rattle.wjs_model.specs.Soundness.{IsThere}
use Rattle.wjs_frames.specs.Following.{Follows}
use Rattle.wjs_frames.specs.Parts.{env_in, begins_at}
use Rattle.wjs_frames.proofs.Handling.{runs_as}
use Rattle.wjs_calls.proofs.Entered.{entered}
use Rattle.wjs_calls.proofs.Frames.{there_with}
use Rattle.wjs_calls.proofs.enters.enter_body.Goals as goal

pub returns : goal.returns
returns g c =
    let m = g.S.WorldStore.meaning in
    let old = c.args.config.now in
    let new = c.due_later.new.config in
    let t = new.heap.texts in
    entered m (AtBody c.args.function (holding_in t c.args.frame.held).values) (record (env_in m old t c.args.frame) { this = value_in t c.args.this }) old new c.due_later.result
    (subst (λ (q : Frame). OnOk c.due_later.result (Follows m (Tick (begins_at m old q (starts.Body c.args.function) t (env_in m old t q))) old new)) c.set_this.ensures c.due_later.ensures)

pub due_later-requires-clause-runs : goal.due_later-requires-clause-runs
due_later-requires-clause-runs g c =
    let m = g.S.WorldStore.meaning in
    let old = c.args.config.now in
    let f = c.args.frame in
    runs_as _ _ _ _ c.requires.runs (subst (IsThere m old) (sym c.set_this.ensures) (there_with m old f f.phase c.args.this f.held c.requires.runs.there c.requires.this c.requires.runs.there.held))

pub due_later-requires-clause-start : goal.due_later-requires-clause-start
due_later-requires-clause-start g c = c.requires.function
