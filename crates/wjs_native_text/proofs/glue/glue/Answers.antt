use Rattle.std.proofs.Common.{[], ◌∷◌, sym, ap, ◌∙◌, subst}
use Rattle.std.specs.Prelude.{map}
use Rattle.wjs_base.specs.declared.values.Value.{Value as NumberedValue}
use Rattle.wjs_num.specs.Bits.{uint32}
use Rattle.wjs_by_content.specs.Tables.{value_in}
use Rattle.wjs_meaning.specs.NativesOfObjects.{text_at, whole_at, text_of}
use Rattle.wjs_meaning.specs.NativesOfTexts as line
use Rattle.wjs_model.specs.declared.frame.Held.TheVariants as holds
use Rattle.wjs_model.specs.Soundness.{HasValue}
use Rattle.wjs_frames.specs.Parts.{env_in}
use Rattle.wjs_step_common.proofs.Following.{follows_as}
use Rattle.wjs_native_text.proofs.Gluing.{held_first, glue_first, argument_there}
use Rattle.wjs_frames.specs.Handling.{Runs}
use Rattle.wjs_frames.proofs.Handling.{runs_held}
use Rattle.wjs_native_text.proofs.glue.glue.Goals as goal

pub returns-then-count-eq0 : goal.returns-then-count-eq0
returns-then-count-eq0 g c =
    let m = g.S.WorldStore.meaning in
    let old = c.args.config.now in
    let new = c.give_text.new.config in
    let t = new.heap.texts in
    let r = c.give_text.result in
    let f = c.args.frame in
    let env = env_in m old t f in
    let vs = map (value_in t) c.args.args.now in
    follows_as m _ _ old new r
    (λ grows.
    ap (λ k. line.glue_from k 0 [] (text_at vs 2) c.in-Object.object env) (sym c.if-count-eq0.true ∙ c.to_uint32-count.ensures ∙ ap uint32 (sym (c.whole_at.ensures t)))
    ∙ ap (λ v. line.glue v (whole_at vs 1) (text_at vs 2) env) (sym (c.value_at.ensures.means t ∙ ap (value_in t) c.in-Object.is)))
    c.give_text.ensures

pub due_later-requires-clause-runs : goal.due_later-requires-clause-runs
due_later-requires-clause-runs g c =
    let m = g.S.WorldStore.meaning in
    let old = c.args.config.now in
    let f = c.args.frame in
    let sep = c.value_at-2.result in
    let frame = held_first c.hold_separator.new.frame c.set_held.new.self f c.nothing_held.result sep c.in-Object.object c.to_uint32-count.result c.in_ok-hold_separator.ensures c.set_held.ensures c.nothing_held.ensures in
    let vs = c.args.args.now in
    let object = subst (λ (x : NumberedValue). HasValue old x) c.in-Object.is (argument_there old vs 0 c.value_at.result c.requires.args c.value_at.ensures.is) in
    subst (Runs m old) (sym frame) (runs_held m old f (holds.Elements c.in-Object.object c.to_uint32-count.result ∷ holds.Value sep ∷ []) c.requires.runs
    (object, (argument_there old vs 2 sep c.requires.args c.value_at-2.ensures.is, tt)))

pub returns : goal.returns
returns g c =
    let m = g.S.WorldStore.meaning in
    let old = c.args.config.now in
    let new = c.due_later.new.config in
    let t = new.heap.texts in
    let f = c.args.frame in
    let env = env_in m old t f in
    let vs = map (value_in t) c.args.args.now in
    let o = c.in-Object.object in
    let sep = c.value_at-2.result in
    let count = c.to_uint32-count.result in
    let frame = held_first c.hold_separator.new.frame c.set_held.new.self f c.nothing_held.result sep o count c.in_ok-hold_separator.ensures c.set_held.ensures c.nothing_held.ensures in
    follows_as m _ _ old new c.due_later.result
    (λ grows.
    glue_first t sep o count env (λ zero. absurd (c.if-count-eq0.false zero))
    ∙ ap (λ s. line.glue_from count 0 [] (text_of s) o env) (sym (c.value_at-2.ensures.means t))
    ∙ ap (λ k. line.glue_from k 0 [] (text_at vs 2) o env) (c.to_uint32-count.ensures ∙ ap uint32 (sym (c.whole_at.ensures t)))
    ∙ ap (λ v. line.glue v (whole_at vs 1) (text_at vs 2) env) (sym (c.value_at.ensures.means t ∙ ap (value_in t) c.in-Object.is)))
    (rw frame at c.due_later.ensures)
