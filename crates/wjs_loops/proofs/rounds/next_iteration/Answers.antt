use Rattle.std.proofs.Common.{◌≡◌, ◌-◌, suc, ap, ◌∙◌, arith}
use Rattle.wjs_meaning.specs.Deeds.{Again}
use Rattle.wjs_meaning.specs.Statements.{again_of}
use Rattle.wjs_meaning.specs.Trees.{Node}
use Rattle.wjs_frames.specs.Parts.{env_in}
use Rattle.wjs_frames.proofs.Places.{node_same}
use Rattle.wjs_heap_steps.proofs.Later.{later_same}
use Rattle.wjs_quick.proofs.Coming.{later_left}
use Rattle.wjs_effects.proofs.Proceeding.{proceeds_paid}
use Rattle.wjs_loops.specs.Rounds.{position_in}
use Rattle.wjs_loops.proofs.Rounding.{position_later}
use Rattle.wjs_loops.proofs.rounds.next_iteration.Goals as goal

pub returns-in-Some-clause-proceeds : goal.returns-in-Some-clause-proceeds
returns-in-Some-clause-proceeds g c =
    let m = g.S.WorldStore.meaning in
    let f = c.args.frame.now in
    let old = c.args.config.now in
    let left_is : old.left ≡ suc (old.left - 1) = omega (arith, c.if-config-eq0.false) in
    proceeds_paid m f (Again f.node.0) (λ t env. position_in t f.node.0 env c.in-Some.position) old (old.left - 1) left_is
    (λ t. ap (λ (n : Node). again_of f.node.0 n (env_in m old t f)) (node_same t old.units.items f.tree f.node) ∙ c.in-Some.ensures.is t)

pub returns-in-Some-clause-later : goal.returns-in-Some-clause-later
returns-in-Some-clause-later g c = let old = c.args.config.now in later_left g.S.WorldStore.meaning old (old.left - 1) c.requires.base

pub returns-in-Some-clause-found : goal.returns-in-Some-clause-found
returns-in-Some-clause-found g c =
    let m = g.S.WorldStore.meaning in
    let old = c.args.config.now in
    position_later m old (record old { left = old.left - 1 }) c.args.frame.now c.in-Some.position (later_left m old (old.left - 1) c.requires.base) c.in-Some.ensures.found

pub returns-then-config-eq0-clause-later : goal.returns-then-config-eq0-clause-later
returns-then-config-eq0-clause-later g c = later_same g.S.WorldStore.meaning c.args.config.now c.requires.base

pub returns-in-None-clause-later : goal.returns-in-None-clause-later
returns-in-None-clause-later g c = later_same g.S.WorldStore.meaning c.args.config.now c.requires.base
