use Rattle.std.proofs.Common.{inl, inr, refl}
use Rattle.wjs_base.specs.Text.{Table}
use Rattle.wjs_tree.specs.declared.node.Node.TheVariants as nodes
use Rattle.wjs_by_content.specs.Tables.{value_in}
use Rattle.wjs_meaning.specs.Deeds.{Completion, Gives, Eval, AtExpr, then_value}
use Rattle.wjs_meaning.specs.Expressions as line
use Rattle.wjs_frames.specs.Parts.{env_in}
use Rattle.wjs_frames.proofs.Handling.{runs_later, goes_on_after}
use Rattle.wjs_frames.proofs.Parting.{stands_here, stands_later}
use Rattle.wjs_assigns.proofs.conditions.cond_start.Goals as goal

-- the test's value was had at once
pub returns-in-Some : goal.returns-in-Some
returns-in-Some g c =
    let m = g.S.WorldStore.meaning in
    let old = c.args.config.now in
    let answer : Table → Completion = λ t. Gives (value_in t c.in-Some.value) in
    goes_on_after m c.args.frame old c.quick.new.config c.cond_test.new.config c.cond_test.result (λ t go. Eval (AtExpr c.args.test.0) (env_in m old t c.args.frame) go) answer
    (λ t env. then_value (line.cond_test c.args.yes.0 c.args.no.0 env)) c.in-Some.ensures.does c.quick.ensures.later c.cond_test.ensures

pub cond_test-requires-clause-runs : goal.cond_test-requires-clause-runs
cond_test-requires-clause-runs g c = runs_later _ _ _ _ c.requires.runs c.quick.ensures.later

pub cond_test-requires-clause-yes : goal.cond_test-requires-clause-yes
cond_test-requires-clause-yes g c =
    let m = g.S.WorldStore.meaning in
    stands_later m c.args.config.now c.args.frame c.quick.new.config c.args.yes c.quick.ensures.later
    (stands_here m c.args.config.now c.args.frame (nodes.Cond c.args.test c.args.yes c.args.no) c.args.yes c.requires.runs.there c.requires.node (inr (inl refl)))

pub cond_test-requires-clause-no : goal.cond_test-requires-clause-no
cond_test-requires-clause-no g c =
    let m = g.S.WorldStore.meaning in
    stands_later m c.args.config.now c.args.frame c.quick.new.config c.args.no c.quick.ensures.later
    (stands_here m c.args.config.now c.args.frame (nodes.Cond c.args.test c.args.yes c.args.no) c.args.no c.requires.runs.there c.requires.node (inr (inr (inl refl))))

-- it is entered
pub enter-requires-clause-runs : goal.enter-requires-clause-runs
enter-requires-clause-runs g c = runs_later _ _ _ _ c.requires.runs c.quick.ensures.later

pub enter-requires-clause-part : goal.enter-requires-clause-part
enter-requires-clause-part g c =
    let m = g.S.WorldStore.meaning in
    stands_later m c.args.config.now c.args.frame c.quick.new.config c.args.test c.quick.ensures.later
    (stands_here m c.args.config.now c.args.frame (nodes.Cond c.args.test c.args.yes c.args.no) c.args.test c.requires.runs.there c.requires.node (inl refl))

pub enter-requires-clause-point : goal.enter-requires-clause-point
enter-requires-clause-point g c =
    let m = g.S.WorldStore.meaning in
    let old = c.args.config.now in
    let here = c.requires.runs.there in
    let l = c.quick.ensures.later in
    let n = nodes.Cond c.args.test c.args.yes c.args.no in (
      stands_later m old c.args.frame c.quick.new.config c.args.yes l (stands_here m old c.args.frame n c.args.yes here c.requires.node (inr (inl refl))),
      stands_later m old c.args.frame c.quick.new.config c.args.no l (stands_here m old c.args.frame n c.args.no here c.requires.node (inr (inr (inl refl)))),
    )

pub returns-in-None : goal.returns-in-None
returns-in-None g c = let h = rw c.in-None.ensures.same at c.enter.ensures in h
