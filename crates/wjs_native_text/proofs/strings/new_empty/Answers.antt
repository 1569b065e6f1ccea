use Rattle.std.proofs.Common.{subst}
use Rattle.std.specs.Prelude.{OnOk}
use Rattle.wjs_by_content.specs.Tables.{text_in}
use Rattle.wjs_by_content.specs.Values.{String}
use Rattle.wjs_meaning.specs.Deeds.{Env}
use Rattle.wjs_meaning.specs.NativesOfTexts as line
use Rattle.wjs_frames.specs.Following.{Follows}
use Rattle.wjs_frames.specs.Parts.{env_in}
use Rattle.wjs_step_common.proofs.Following.{env_later}
use Rattle.wjs_native_text.proofs.strings.new_empty.Goals as goal

pub returns : goal.returns
returns g c =
    let m = g.S.WorldStore.meaning in
    let old = c.args.config.now in
    let new = c.wrapped.new.config in
    let t = new.heap.texts in
    let env = env_in m old t c.args.frame in
    let mid = c.intern.new.config in
    let r = c.wrapped.result in
    c.in_ok-empty.ensures.does.by (λ u. line.wrapped c.args.by_new (String u) env) new r
    (subst (λ (e : Env). OnOk r (Follows m (line.wrapped c.args.by_new (String (text_in t c.in_ok-empty.empty)) e) mid new)) (env_later m old mid t c.args.frame c.in_ok-empty.ensures.later) c.wrapped.ensures)
