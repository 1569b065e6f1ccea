use Rattle.std.proofs.Common.{◌≡◌, Bool, sym, ap, subst}
use Rattle.std.specs.Prelude.{is_some}
use Rattle.wjs_by_content.specs.Tables.{slot_in}
use Rattle.wjs_meaning.specs.Deeds.{Do, Read}
use Rattle.wjs_model.specs.declared.frame.Activation.{Activation as Frame}
use Rattle.wjs_model.specs.Contents.{holding_in}
use Rattle.wjs_frames.specs.Doing.{Does}
use Rattle.wjs_frames.specs.Parts.{env_in}
use Rattle.wjs_heap_steps.proofs.Later.{later_twice}
use Rattle.wjs_loops.proofs.Visiting.{passes_on, reaches_on, held_twice}
use Rattle.wjs_loops.proofs.visits.next_present.Goals as goal

pub returns-then-branch-clause-reaches : goal.returns-then-branch-clause-reaches
returns-then-branch-clause-reaches g c =
    let m = g.S.WorldStore.meaning in
    let f = c.args.frame.now in
    let l = c.loop-slot.frame in
    let x = c.in-Some.slot in
    let next = c.next_visit.new.frame in
    let D : Bool → Type 0 = λ b. Does m (λ t go. Do (Read next.world (slot_in t x)) (λ found. go (is_some found))) (λ t. b) c.loop-slot.config c.is_present.new.config in
    let same : next ≡ record f { held = next.held } = held_twice f l next c.loop-slot.invariant.same c.in-Some.ensures.frame in
    reaches_on m (λ t. (holding_in t f.held).visits) l.held next.held x next.world (λ t. env_in m c.args.config.now t f) c.args.config.now c.loop-slot.config c.is_present.new.config c.loop-slot.invariant.passes c.in-Some.ensures.next (λ t. sym (ap (λ (y : Frame). y.world) same))
    (subst D c.if-branch.true c.in_ok-is_present.ensures.does)

pub returns-then-branch-clause-later : goal.returns-then-branch-clause-later
returns-then-branch-clause-later g c = later_twice g.S.WorldStore.meaning c.args.config.now c.loop-slot.config c.is_present.new.config c.loop-slot.invariant.later c.in_ok-is_present.ensures.later

pub loop-slot-preserved : goal.loop-slot-preserved
loop-slot-preserved g c =
    let m = g.S.WorldStore.meaning in
    let f = c.args.frame.now in
    let l = c.loop-slot.frame in
    let x = c.in-Some.slot in
    let next = c.next_visit.new.frame in
    let D : Bool → Type 0 = λ b. Does m (λ t go. Do (Read next.world (slot_in t x)) (λ found. go (is_some found))) (λ t. b) c.loop-slot.config c.is_present.new.config in
    let same : next ≡ record f { held = next.held } = held_twice f l next c.loop-slot.invariant.same c.in-Some.ensures.frame in
    record {
      later = later_twice m c.args.config.now c.loop-slot.config c.is_present.new.config c.loop-slot.invariant.later c.in_ok-is_present.ensures.later;
      same = same;
      there = c.in_ok-is_present.ensures.later.frames next c.in-Some.ensures.there;
      passes = passes_on m (λ t. (holding_in t f.held).visits) l.held next.held x next.world (λ t. env_in m c.args.config.now t f) c.args.config.now c.loop-slot.config c.is_present.new.config c.loop-slot.invariant.passes c.in-Some.ensures.next (λ t. sym (ap (λ (y : Frame). y.world) same))
          (subst D c.if-branch.false c.in_ok-is_present.ensures.does);
    }

pub returns-then-branch-clause-there : goal.returns-then-branch-clause-there
returns-then-branch-clause-there g c = c.in_ok-is_present.ensures.later.frames c.next_visit.new.frame c.in-Some.ensures.there
