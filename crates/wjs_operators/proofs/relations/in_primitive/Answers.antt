use Rattle.std.proofs.Common.{subst}
use Rattle.std.specs.Prelude.{OnOk}
use Rattle.wjs_by_content.specs.Tables.{name_in}
use Rattle.wjs_meaning.specs.Deeds.{Env}
use Rattle.wjs_meaning.specs.Operators.{in_name}
use Rattle.wjs_frames.specs.Following.{Follows}
use Rattle.wjs_frames.specs.Parts.{env_in}
use Rattle.wjs_step_common.proofs.Following.{env_later}
use Rattle.wjs_frames.proofs.Handling.{runs_later}
use Rattle.wjs_operators.proofs.relations.in_primitive.Goals as goal

pub returns : goal.returns
returns g c =
    let m = g.S.WorldStore.meaning in
    let t = c.in_name.new.config.heap.texts in
    let P : Env → Type 0 = λ env. OnOk c.in_name.result (Follows m (in_name c.args.object env (name_in t c.in_ok-name.name)) c.name_of_value.new.config c.in_name.new.config) in
    c.in_ok-name.ensures.does.by (in_name c.args.object (env_in m c.args.config.now t c.args.frame)) _ _ (subst P (env_later m _ _ t c.args.frame c.in_ok-name.ensures.later) c.in_name.ensures)

pub in_name-requires-clause-runs : goal.in_name-requires-clause-runs
in_name-requires-clause-runs g c = runs_later _ _ _ _ c.requires.runs c.in_ok-name.ensures.later
