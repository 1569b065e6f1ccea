use Rattle.std.proofs.Common.{◌++◌, ap, subst, append-nil}
use Rattle.std.specs.Prelude.{OnOk}
use Rattle.wjs_by_content.specs.Tables.{text_in, value_in}
use Rattle.wjs_by_content.specs.Conversions.{primitive_text}
use Rattle.wjs_meaning.specs.Deeds.{Env}
use Rattle.wjs_meaning.specs.Errors.{give_text}
use Rattle.wjs_frames.specs.Following.{Follows}
use Rattle.wjs_frames.specs.Parts.{env_in}
use Rattle.wjs_step_common.proofs.Following.{follows_as, env_later}
use Rattle.wjs_frames.proofs.Handling.{runs_later}
use Rattle.wjs_native_core.proofs.errors.give_primitive_text.Goals as goal

pub returns : goal.returns
returns g c =
    let m = g.S.WorldStore.meaning in
    let old = c.args.config.now in
    let mid = c.intern.new.config in
    let new = c.join.new.config in
    let t = new.heap.texts in
    let r = c.join.result in
    let f = c.args.frame in
    let env = env_in m old t f in
    let said = primitive_text (value_in t c.args.value) in
    follows_as m _ _ old new r (λ grows. ap (λ u. give_text u env) (append-nil said))
    (c.in_ok-empty.ensures.does.by (λ u. give_text (said ++ u) env) new r
    (subst (λ (e : Env). OnOk r (Follows m (give_text (said ++ text_in t c.in_ok-empty.empty) e) mid new)) (env_later m old mid t f c.in_ok-empty.ensures.later) c.join.ensures))

pub join-requires-clause-runs : goal.join-requires-clause-runs
join-requires-clause-runs g c = runs_later _ _ _ _ c.requires.runs c.in_ok-empty.ensures.later
