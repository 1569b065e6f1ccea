use Rattle.std.proofs.Common.{◌++◌, sym, ap, ◌∙◌}
use Rattle.std.specs.Prelude.{codes}
use Rattle.wjs_meaning.specs.Errors.{give_text}
use Rattle.wjs_meaning.specs.NativesOfObjects as line
use Rattle.wjs_meaning.specs.Table.{row_of}
use Rattle.wjs_frames.specs.Parts.{env_in}
use Rattle.wjs_step_common.proofs.Following.{follows_as}
use Rattle.wjs_heap_steps.proofs.Seeing.{plainly}
use Rattle.wjs_native_core.proofs.functions.give_source_of.Goals as goal

pub returns : goal.returns
returns g c =
    let m = g.S.WorldStore.meaning in
    let old = c.args.config.now in
    let new = c.give_text.new.config in
    let t = new.heap.texts in
    let env = env_in m old t c.args.frame in
    follows_as m _ _ old new c.give_text.result
    (λ grows. ap (λ u. give_text u env) (c.as_slice.ensures.value ∙ sym (c.in_ok-units.ensures t grows) ∙ ap (λ k. codes "function " ++ line.code_name k (λ k. (row_of k).name) env ++ codes "() { }") (sym (c.code_of.ensures.is t _ (plainly old.heap.arena t)))))
    c.give_text.ensures
