use Rattle.std.proofs.Common.{Option, sym, ap, ◌∙◌}
use Rattle.std.specs.Prelude.{map}
use Rattle.wjs_base.specs.declared.ids.ObjId.{ObjId}
use Rattle.wjs_by_content.specs.Objects.{Arena, function_of}
use Rattle.wjs_by_content.specs.Tables.{value_in}
use Rattle.wjs_meaning.specs.Deeds.{Act}
use Rattle.wjs_meaning.specs.NativesOfObjects as line
use Rattle.wjs_frames.specs.Parts.{env_in}
use Rattle.wjs_frames.proofs.Shorter.{follows_look}
use Rattle.wjs_step_common.proofs.Following.{follows_as}
use Rattle.wjs_native_core.proofs.applies.apply.Goals as goal

pub returns-in-Some : goal.returns-in-Some
returns-in-Some g c =
    let m = g.S.WorldStore.meaning in
    let old = c.args.config.now in
    let new = c.apply_to.new.config in
    let t = new.heap.texts in
    let r = c.apply_to.result in
    let env = env_in m old t c.args.frame in
    let vs = map (value_in t) c.args.args.now in
    let f = c.in-Some.function in
    let by : Option ObjId → Act = λ x. line.apply_found x (line.value_at vs 0) (line.value_at vs 1) env in
    follows_look m (λ (arena : Arena). by (function_of arena (value_in t c.args.this))) _ old new r (λ arena s. ap by (c.in-Some.ensures.is t arena s))
    (follows_as m _ _ old new r
    (λ grows.
    ap (λ a. line.apply_list f a (value_in t c.value_at-in-Some.result) env) (sym (c.value_at.ensures.means t))
    ∙ ap (λ b. line.apply_list f (line.value_at vs 0) b env) (sym (c.value_at-in-Some.ensures.means t)))
    c.apply_to.ensures)

pub returns-in-None : goal.returns-in-None
returns-in-None g c =
    let m = g.S.WorldStore.meaning in
    let old = c.args.config.now in
    let new = c.throw.new.config in
    let t = new.heap.texts in
    let r = c.throw.result in
    let env = env_in m old t c.args.frame in
    let vs = map (value_in t) c.args.args.now in
    let by : Option ObjId → Act = λ x. line.apply_found x (line.value_at vs 0) (line.value_at vs 1) env in
    follows_look m (λ (arena : Arena). by (function_of arena (value_in t c.args.this))) _ old new r (λ arena s. ap by (c.in-None.ensures.is t arena s)) c.throw.ensures
