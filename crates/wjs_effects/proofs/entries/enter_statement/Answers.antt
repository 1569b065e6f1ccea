use Rattle.std.proofs.Common.{◌≡◌, ◌-◌, suc, refl, arith}
use Rattle.wjs_meaning.specs.Deeds.{AtStmt, Sub}
use Rattle.wjs_meaning.specs.Programs.{entry}
use Rattle.wjs_frames.specs.Parts.{env_in, then_at}
use Rattle.wjs_frames.proofs.Handling.{runs_later}
use Rattle.wjs_frames.proofs.Parting.{stands_later, point_later}
use Rattle.wjs_frames.proofs.Paying.{step_paid}
use Rattle.wjs_quick.proofs.Coming.{later_left}
use Rattle.wjs_effects.proofs.entries.enter_statement.Goals as goal

pub returns-in-Some : goal.returns-in-Some
returns-in-Some g c =
    let m = g.S.WorldStore.meaning in
    let f = c.args.frame in
    let old = c.args.config.now in
    let new = c.enter_only.new.config in
    let t = new.heap.texts in
    let env = env_in m old t f in
    let go = then_at m old f c.args.point t env in
    let left_is : old.left ≡ suc (old.left - 1) = omega (arith, c.if-config-eq0.false) in
    step_paid m (AtStmt c.args.s.0) env go (Sub (entry (AtStmt c.args.s.0) env) go) old new (old.left - 1) c.enter_only.result left_is (λ st n. refl) c.enter_only.ensures

pub enter_only-requires-clause-runs : goal.enter_only-requires-clause-runs
enter_only-requires-clause-runs g c =
    let old = c.args.config.now in
    runs_later _ _ _ _ c.requires.runs (later_left g.S.WorldStore.meaning old (old.left - 1) c.requires.runs.running.base)

pub enter_only-requires-clause-point : goal.enter_only-requires-clause-point
enter_only-requires-clause-point g c =
    let m = g.S.WorldStore.meaning in
    let old = c.args.config.now in
    point_later m old c.args.frame (record old { left = old.left - 1 }) c.args.point (later_left m old (old.left - 1) c.requires.runs.running.base) c.requires.point

pub enter_only-requires-clause-part : goal.enter_only-requires-clause-part
enter_only-requires-clause-part g c =
    let m = g.S.WorldStore.meaning in
    let old = c.args.config.now in
    stands_later m old c.args.frame (record old { left = old.left - 1 }) c.args.s (later_left m old (old.left - 1) c.requires.runs.running.base) c.requires.part
