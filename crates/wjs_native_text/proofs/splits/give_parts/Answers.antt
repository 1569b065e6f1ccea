use Rattle.std.proofs.Common.{sym, ap, ◌∙◌}
use Rattle.std.specs.Prelude.{map}
use Rattle.wjs_base.proofs.TextLaws.{Grows-trans}
use Rattle.wjs_by_content.specs.Tables.{value_in}
use Rattle.wjs_meaning.specs.Deeds.{Env}
use Rattle.wjs_meaning.specs.NativesOfObjects.{value_at, text_of, give_object}
use Rattle.wjs_meaning.specs.NativesOfTexts as line
use Rattle.wjs_frames.specs.Parts.{env_in}
use Rattle.wjs_step_common.proofs.Following.{follows_as, env_later}
use Rattle.wjs_meaning.specs.NewObjects.{make_array}
use Rattle.wjs_strings.specs.Pieces.{texts_of, up_to}
use Rattle.wjs_native_text.proofs.Limits.{up_to_at_most}
use Rattle.wjs_frames.proofs.Handling.{running_later}
use Rattle.wjs_native_text.proofs.splits.give_parts.Goals as goal

pub returns : goal.returns
returns g c =
    let m = g.S.WorldStore.meaning in
    let old = c.args.config.now in
    let new = c.give.new.config in
    let t = new.heap.texts in
    let vs = map (value_in t) c.args.args.now in
    let f = c.args.frame in
    let env = env_in m old t f in
    let mid = c.parts_of.new.config in
    let r = c.give.result in
    let x = text_of (value_in t c.args.this) in
    let due = line.split x (value_at vs 0) (value_at vs 1) env in
    let made = c.in_ok-array.ensures.does.by give_object new r c.give.ensures in
    c.in_ok-parts.ensures.does.by (λ z. due) new r
    (follows_as m _ due mid new r
    (λ more.
    let grows = Grows-trans old.heap.texts mid.heap.texts t c.in_ok-parts.ensures.later.texts more in
    ap (λ l. make_array l (env_in m mid t f) give_object)
    (ap (map (value_in t)) c.as_slice-2.ensures.value ∙ c.in_ok-parts.ensures.parts t more ∙ ap (texts_of x) c.as_slice.ensures.value ∙ c.in_ok-pieces.ensures t grows
    ∙ ap (λ l. up_to l (line.parts_of x (value_in t c.value_at.result))) (sym (c.limit_of.ensures t))
    ∙ up_to_at_most (value_in t c.value_at-2.result) (line.parts_of x (value_in t c.value_at.result))
    ∙ ap (λ v. line.at_most v (line.parts_of x (value_in t c.value_at.result))) (sym (c.value_at-2.ensures.means t))
    ∙ ap (λ v. line.at_most (value_at vs 1) (line.parts_of x v)) (sym (c.value_at.ensures.means t)))
    ∙ ap (λ (e : Env). make_array (line.at_most (value_at vs 1) (line.parts_of x (value_at vs 0))) e give_object) (env_later m old mid t f c.in_ok-parts.ensures.later))
    made)

pub make_array-requires-clause-there : goal.make_array-requires-clause-there
make_array-requires-clause-there g c = c.in_ok-parts.ensures.later.frames c.args.frame c.requires.runs.there

pub give-requires-clause-running : goal.give-requires-clause-running
give-requires-clause-running g c = running_later _ _ _ (running_later _ _ _ c.requires.runs.running c.in_ok-parts.ensures.later) c.in_ok-array.ensures.later
