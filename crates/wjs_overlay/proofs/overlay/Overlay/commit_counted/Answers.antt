use Rattle.std.proofs.Common.{ℕ, ◌+◌, ◌*◌, sym, ap, ◌∙◌, subst, arith}
use Rattle.wjs_base.specs.declared.ids.WorldId.{WorldId}
use Rattle.wjs_store.specs.Shown.{verdict_of}
use Rattle.wjs_store.specs.State.{State, verdict_at, commit, committed, after_commit}
use Rattle.wjs_layers.specs.Sparse.{full_of, depth_of}
use Rattle.wjs_layers.specs.Work.{rows_of, closed_of, rows_above}
use Rattle.wjs_store.specs.Naming.{plain}
use Rattle.wjs_overlay.specs.Store.{worlds_of}
use Rattle.wjs_overlay.specs.Touched.{Covered}
use Rattle.wjs_overlay.proofs.Handing.{covered_commit}
use Rattle.wjs_overlay.proofs.StoreLaws.{store_after, ids_commit, answers_store}
use Rattle.wjs_overlay.proofs.overlay.Overlay.commit_counted.Goals as goal

pub hand_up-requires : goal.hand_up-requires
hand_up-requires g c = (c.args.self.now.covered c.if-self.false).rising

pub invariant_of-self-2 : goal.invariant_of-self-2
invariant_of-self-2 g c =
    let layers = c.args.self.now.layers.items in
    let stored = c.args.self.now.kept c.if-self.false in
    let k = c.args.self.now.covered c.if-self.false in
    record {
      kept = λ e. store_after layers c.commit.new.layers.items c.args.self.now.places c.args.self.now.owners _ stored c.in_ok-answer.ensures.after (ids_commit (full_of layers) c.spot-at.result.world) c.in_ok-answer.ensures.len;
      covered = λ e. record {
        rising = c.in_ok-hand_up.ensures.rising;
        touched = subst (Covered c.hand_up.new.bounds.items) (sym c.in_ok-answer.ensures.after.full) (covered_commit c.args.self.now.bounds.items c.hand_up.new.bounds.items c.in_ok-hand_up.ensures.grows (full_of layers) c.spot-at.result.world c.spot-at.result.place c.place_above-above.result stored.sparse.reached c.spot-at.ensures.at c.place_above-above.ensures c.in_ok-hand_up.ensures.reached k.touched);
      };
    }

pub returns-clause-answers : goal.returns-clause-answers
returns-clause-answers g c = answers_store c.args.self.now.spent c.args.self.now.layers.items (full_of c.commit.new.layers.items) (commit c.args.world) (committed (verdict_of c.in_ok-answer.answer)) c.if-self.false (ap committed (c.in_ok-answer.ensures.verdict ∙ ap (λ w. verdict_at (full_of c.args.self.now.layers.items) w) c.spot-at.ensures.world)) (c.in_ok-answer.ensures.after.full ∙ ap (λ w. after_commit (full_of c.args.self.now.layers.items) w) c.spot-at.ensures.world)

pub returns-clause-steps : goal.returns-clause-steps
returns-clause-steps g c =
    let W : State plain → WorldId → ℕ = λ F w. (rows_of F w + closed_of F w + rows_above F w + 1) * (4 * depth_of F w + 20) in
    let a = ap (W (full_of c.args.self.now.layers.items)) c.spot-at.ensures.world in
    let b = ap (λ b. W (worlds_of b c.args.self.now.layers.items) c.args.world) c.if-self.false in
    omega (arith, a, b, c.commit.ensures.steps)

pub returns-in_err-answer-clause-steps : goal.returns-in_err-answer-clause-steps
returns-in_err-answer-clause-steps g c =
    let W : State plain → WorldId → ℕ = λ F w. (rows_of F w + closed_of F w + rows_above F w + 1) * (4 * depth_of F w + 20) in
    let a = ap (W (full_of c.args.self.now.layers.items)) c.spot-at.ensures.world in
    let b = ap (λ b. W (worlds_of b c.args.self.now.layers.items) c.args.world) c.if-self.false in
    omega (arith, a, b, c.commit.ensures.steps)
