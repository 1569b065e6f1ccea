use Rattle.std.proofs.Common.{sym, subst}
use Rattle.wjs_base.specs.declared.values.Value.{Value as Numbered}
use Rattle.wjs_base.specs.declared.values.Value.TheVariants as values
use Rattle.wjs_by_content.specs.Tables.{value_in}
use Rattle.wjs_by_content.specs.Values.{Number}
use Rattle.wjs_meaning.specs.Deeds.{Gives, give}
use Rattle.wjs_meaning.specs.Expressions as line
use Rattle.wjs_meaning.specs.References.{store}
use Rattle.wjs_model.specs.Contents.{reference_in}
use Rattle.wjs_model.specs.Waiting.{fix_in}
use Rattle.wjs_frames.specs.Parts.{env_in}
use Rattle.wjs_frames.specs.Shortening.{Shortens}
use Rattle.wjs_effects.specs.declared.effect.Made.TheVariants.{There}
use Rattle.wjs_effects.specs.Effects.{Rest, updates}
use Rattle.wjs_effects.proofs.Leaving.{leaves_shorter, leaves_evaluated, leaves_stored}
use Rattle.wjs_effects.proofs.Lines.{update_shortens}
use Rattle.wjs_effects.proofs.stores.update_of.Goals as goal

pub returns-in-Ok : goal.returns-in-Ok
returns-in-Ok g c = λ left.
    let m = g.S.WorldStore.meaning in
    let now = c.args.config.now in
    let f = c.args.frame.now in
    let q = c.args.reference in
    let fix = fix_in c.args.fix in
    let op = c.args.operator in
    let old = c.in_ok-old.old in
    let x = c.in-Number.number in
    let next = c.in-Ok.next in
    let told = c.given.result in
    let stores : Rest = updates q next told in
    leaves_evaluated m now f q (λ t env. line.update_value fix op env (reference_in t q)) old stores left left c.in_ok-old.ensures.peeks
    (leaves_shorter m now f (λ t env. line.update_value fix op env (reference_in t q) (value_in t old)) (λ t env. store (reference_in t q) (Number next.number) env (give (Number told.number))) stores left left
    (λ t more.
    let env = env_in m now t f in
    let P : Numbered → Type 0 = λ w. Shortens (line.update_value fix op env (reference_in t q) (value_in t w)) (store (reference_in t q) (Number next.number) env (give (Number told.number))) in
    subst P (sym c.in-Number.is) (update_shortens fix op env (reference_in t q) x.number next.number told.number (sym c.in-Ok.ensures) c.given.ensures))
    (leaves_stored m now f q (There (values.Number next)) (λ t. Gives (Number told.number)) left))
