use Rattle.std.proofs.Common.{[], refl, sym, ◌∙◌, subst}
use Rattle.std.specs.Prelude.{OnOk}
use Rattle.wjs_meaning.specs.Deeds.{Act, Sub, AtExpr}
use Rattle.wjs_model.specs.declared.point.Point.TheVariants as points
use Rattle.wjs_model.specs.Contents.{holding_in}
use Rattle.wjs_frames.specs.Following.{Follows}
use Rattle.wjs_frames.specs.Parts.{env_in, node_among, then_at}
use Rattle.wjs_frames.proofs.Handling.{runs_over}
use Rattle.wjs_frames.proofs.Parting.{stands_later}
use Rattle.wjs_effects.proofs.Nested.{above_there, above_stands, above_follows}
use Rattle.wjs_effects.proofs.Lines.{stmt_is}
use Rattle.wjs_effects.proofs.Only.{only_line, only_point, only_stands}
use Rattle.wjs_effects.proofs.entries.enter_nested.Goals as goal

pub returns : goal.returns
returns g c =
    let m = g.S.WorldStore.meaning in
    let old = c.args.config.now in
    let mid = c.wait_below.new.config in
    let new = c.enter.new.config in
    let t = new.heap.texts in
    let f = c.args.frame in
    let s = c.args.s in
    let o = c.args.only in
    let n = node_among old.units.items f.tree s in
    let env = env_in m old t f in
    let P : Act → Type 0 = λ a. OnOk c.enter.result (Follows m (Sub a (then_at m old f c.args.point t env)) old new) in
    subst P (sym (stmt_is m old f s n t refl ∙ only_line t s.0 n o (holding_in t []) env c.requires.only))
    (above_follows m f c.in_ok-inner.inner s c.in_ok-inner.ensures.inner c.args.point (points.Stmt o.behind) (AtExpr o.expression.0) old mid new c.enter.result
    c.in_ok-inner.ensures.same c.in_ok-inner.ensures.nests c.enter.ensures)

pub enter-requires-clause-runs : goal.enter-requires-clause-runs
enter-requires-clause-runs g c =
    let m = g.S.WorldStore.meaning in
    let old = c.args.config.now in
    let inner = c.in_ok-inner.inner in
    let l = c.in_ok-inner.ensures.later in
    runs_over m old c.wait_below.new.config c.args.frame inner c.requires.runs l
    (l.frames inner (above_there m c.args.frame inner c.args.s c.in_ok-inner.ensures.inner old c.requires.runs.there c.requires.part))

pub enter-requires-clause-point : goal.enter-requires-clause-point
enter-requires-clause-point g c =
    only_point c.wait_below.new.config c.in_ok-inner.inner (node_among c.args.config.now.units.items c.args.frame.tree c.args.s) c.args.only c.requires.only

pub enter-requires-clause-part : goal.enter-requires-clause-part
enter-requires-clause-part g c =
    let m = g.S.WorldStore.meaning in
    let old = c.args.config.now in
    let inner = c.in_ok-inner.inner in
    stands_later m old inner c.wait_below.new.config c.args.only.expression c.in_ok-inner.ensures.later
    (above_stands m c.args.frame inner c.args.s c.in_ok-inner.ensures.inner old c.args.only.expression
    (only_stands m old c.args.frame c.args.s c.args.only c.requires.runs.there c.requires.part c.requires.only))
