use Rattle.std.proofs.Common.{[], ◌∷◌, sym}
use Rattle.std.specs.Prelude.{Err}
use Rattle.wjs_base.specs.declared.values.Value.{Value}
use Rattle.wjs_base.specs.declared.values.Value.TheVariants as values
use Rattle.wjs_by_content.specs.Values.{Number}
use Rattle.wjs_meaning.specs.Deeds.{give}
use Rattle.wjs_meaning.specs.Expressions as line
use Rattle.wjs_meaning.specs.References.{store}
use Rattle.wjs_model.specs.declared.frame.Completion.TheVariants as completions
use Rattle.wjs_model.specs.declared.frame.Held.TheVariants as holds
use Rattle.wjs_model.specs.declared.frame.Phase.TheVariants as phases
use Rattle.wjs_model.specs.declared.point.ExprPoint.TheVariants as expr
use Rattle.wjs_model.specs.declared.point.Point.TheVariants as points
use Rattle.wjs_model.specs.Contents.{reference_in}
use Rattle.wjs_model.specs.Waiting.{fix_in}
use Rattle.wjs_frames.specs.Parts.{env_in}
use Rattle.wjs_effects.proofs.Lines.{update_stores}
use Rattle.wjs_stopping.specs.Ends.{gives_in}
use Rattle.wjs_direct_lines.proofs.Parts.{given_does, later_stopped, line_as, stop_found}
use Rattle.wjs_direct_lines.proofs.updates.number_updated.Goals as goal

-- it is stored
pub returns-in-Ok-clause-does : goal.returns-in-Ok-clause-does
returns-in-Ok-clause-does g c =
    let m = g.S.WorldStore.meaning in
    let old = c.args.config.now in
    let f = c.args.frame.now in
    let q = c.args.reference in
    let fix = fix_in c.args.fix in
    let op = c.args.operator in
    let x = c.args.number in
    let next = c.in-Ok.next in
    let told = c.given-told.result in
    let k = c.stored.new in
    line_as m gives_in old k.config f (λ t env. line.update_number fix op env (reference_in t q) x.number) c.stored.result k.stops.waits k.stops.top
    (λ t env. store (reference_in t q) (Number next.number) env (give (Number told.number)))
    (λ t more. update_stores fix op (env_in m old t f) (reference_in t q) x.number next.number told.number (sym c.in-Ok.ensures) c.given-told.ensures) c.stored.ensures.does

-- there is none, and a frame goes on with the number
pub returns-in-Err-clause-later : goal.returns-in-Err-clause-later
returns-in-Err-clause-later g c = later_stopped g.S.WorldStore.meaning {A = Value} c.args.config.now c.stop_holding.new.config (Err c.stop_holding.result) c.requires.base c.stop_holding.ensures.same

pub returns-in-Err-clause-found : goal.returns-in-Err-clause-found
returns-in-Err-clause-found g c =
    let s = c.stop_holding.new.stops in
    stop_found g.S.WorldStore.meaning c.args.config.now c.stop_holding.new.config c.args.frame.now c.args.node (holds.Reference c.args.reference ∷ []) (phases.Given (points.Expr (expr.UpdateNumber c.args.fix c.args.operator)) (completions.Gives (values.Number c.args.number))) c.stop_holding.result s.waits s.top c.stop_holding.ensures.same
    c.requires.there c.requires.node (c.requires.reference, tt) (tt, tt) c.stop_holding.ensures.stops

pub returns-in-Err-clause-does : goal.returns-in-Err-clause-does
returns-in-Err-clause-does g c =
    let s = c.stop_holding.new.stops in
    given_does g.S.WorldStore.meaning gives_in c.args.config.now c.stop_holding.new.config c.args.frame.now c.stop_holding.result s.waits s.top c.stop_holding.ensures.same
    c.args.node (holds.Reference c.args.reference ∷ []) (points.Expr (expr.UpdateNumber c.args.fix c.args.operator)) (completions.Gives (values.Number c.args.number)) c.stop_holding.ensures.stops
