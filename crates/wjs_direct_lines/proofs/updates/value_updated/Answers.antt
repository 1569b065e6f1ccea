use Rattle.std.proofs.Common.{◌∙◌, subst}
use Rattle.wjs_by_content.specs.Tables.{value_in}
use Rattle.wjs_by_content.specs.Values.{Whole}
use Rattle.wjs_meaning.specs.Expressions as line
use Rattle.wjs_model.specs.Contents.{reference_in}
use Rattle.wjs_model.specs.Waiting.{fix_in}
use Rattle.wjs_frames.specs.Parts.{env_in}
use Rattle.wjs_frames.specs.Shortening.{Shortens}
use Rattle.wjs_frames.proofs.Shorter.{shorten_sub}
use Rattle.wjs_step_common.proofs.Converting.{number_shortens}
use Rattle.wjs_stopping.specs.Ends.{gives_in}
use Rattle.wjs_direct_lines.specs.Deeds.{line_here}
use Rattle.wjs_direct_lines.proofs.Parts.{shortened}
use Rattle.wjs_direct_lines.proofs.updates.value_updated.Goals as goal

-- a primitive
pub returns-else-is_object-clause-does : goal.returns-else-is_object-clause-does
returns-else-is_object-clause-does g c =
    let m = g.S.WorldStore.meaning in
    let old = c.args.config.now in
    let f = c.args.frame.now in
    let q = c.args.reference in
    let fix = fix_in c.args.fix in
    let op = c.args.operator in
    let v = c.args.old in
    let x = c.to_number-number.result in
    let k = c.number_updated.new in
    shortened m gives_in (line_here m old f (λ t env. line.update_value fix op env (reference_in t q) (value_in t v))) (line_here m old f (λ t env. line.update_number fix op env (reference_in t q) x.number))
    c.number_updated.result k.stops.waits k.stops.top old k.config
    (λ t more go.
    let env = env_in m old t f in
    let P : Whole → Type 0 = λ y. Shortens (line.update_value fix op env (reference_in t q) (value_in t v)) (line.update_number fix op env (reference_in t q) y) in
    shorten_sub _ _ go (subst P (c.to_number-number.ensures t more) (number_shortens (value_in t v) env (line.update_number fix op env (reference_in t q)) (c.is_object.ensures t ∙ c.if-is_object.false)))) c.number_updated.ensures.does
