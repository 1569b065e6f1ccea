use Rattle.std.proofs.Common.{sym, ◌∙◌, true, false, subst, ◌<◌, Option}
use Rattle.wjs_base.specs.declared.ids.ObjId.{ObjId}
use Rattle.wjs_arena.specs.Entries.{depth_of}
use Rattle.wjs_by_content.specs.Objects.{is_past}
use Rattle.wjs_props.proofs.Getting.{none_of}
use Rattle.std.specs.Prelude.{IfSome}
use Rattle.wjs_model.specs.Soundness.{HasObject}
use Rattle.wjs_heap_steps.proofs.Running.{does_ran}
use Rattle.wjs_heap_steps.proofs.Steps.{ran_look}
use Rattle.wjs_heap_steps.proofs.Seeing.{plainly, past_found}
use Rattle.wjs_heap_steps.proofs.Looking.{Passing, passing_starts, passing_on, passing_found, passing_ends, passing_falls}
use Rattle.wjs_heap_steps.proofs.looks.is_past.Goals as goal

pub up-init : goal.up-init
up-init g c = record { passing = passing_starts c.args.config.now.heap.arena c.args.prototype c.args.object c.prototype_of-at.result c.requires.base.heap.arena c.requires.object.0 (λ t. c.prototype_of-at.ensures.is t _ (plainly c.args.config.now.heap.arena t)); found = c.prototype_of-at.ensures.found }

pub prototype_of-at-requires-in-Some-clause-object : goal.prototype_of-at-requires-in-Some-clause-object
prototype_of-at-requires-in-Some-clause-object g c = subst (λ (x : Option ObjId). IfSome x (HasObject c.args.config.now)) c.in-Some.is c.up.invariant.found

pub up-preserved : goal.up-preserved
up-preserved g c =
    let a = c.args.config.now.heap.arena in
    record { passing = passing_on a c.args.prototype c.args.object c.in-Some.next c.prototype_of-at-in-Some.result c.requires.base.heap.arena (subst (Passing a c.args.prototype c.args.object) c.in-Some.is c.up.invariant.passing) (λ t. c.prototype_of-at-in-Some.ensures.is t _ (plainly c.args.config.now.heap.arena t)) (sym c.same_object.ensures ∙ c.if-same_object.false); found = c.prototype_of-at-in-Some.ensures.found }

pub up-smaller : goal.up-smaller
up-smaller g c =
    let a = c.args.config.now.heap.arena in
    subst (λ (x : Option ObjId). depth_of a c.prototype_of-at-in-Some.result < depth_of a x) (sym c.in-Some.is)
    (passing_falls a c.args.prototype c.args.object c.in-Some.next c.prototype_of-at-in-Some.result c.requires.base.heap.arena (subst (Passing a c.args.prototype c.args.object) c.in-Some.is c.up.invariant.passing) (λ t. c.prototype_of-at-in-Some.ensures.is t _ (plainly c.args.config.now.heap.arena t)))

pub returns-then-same_object-clause-does : goal.returns-then-same_object-clause-does
returns-then-same_object-clause-does g c =
    let m = g.S.WorldStore.meaning in
    let old = c.args.config.now in
    let a = old.heap.arena in
    does_ran m _ _ old old (ran_look m (λ t arena. is_past arena c.args.prototype c.args.object) (λ t. true) old (λ t more arena s.
    past_found _ t arena s c.requires.base.heap.arena c.args.prototype c.args.object c.requires.object.0
    ∙ passing_found a c.args.prototype c.args.object c.in-Some.next c.requires.base.heap.arena (subst (Passing a c.args.prototype c.args.object) c.in-Some.is c.up.invariant.passing) (sym c.same_object.ensures ∙ c.if-same_object.true) t))

pub returns-then-same_object-clause-is : goal.returns-then-same_object-clause-is
returns-then-same_object-clause-is g c =
    let a = c.args.config.now.heap.arena in
    λ t arena s. past_found _ t arena s c.requires.base.heap.arena c.args.prototype c.args.object c.requires.object.0 ∙ passing_found a c.args.prototype c.args.object c.in-Some.next c.requires.base.heap.arena (subst (Passing a c.args.prototype c.args.object) c.in-Some.is c.up.invariant.passing) (sym c.same_object.ensures ∙ c.if-same_object.true) t

pub returns-clause-does : goal.returns-clause-does
returns-clause-does g c =
    let m = g.S.WorldStore.meaning in
    let old = c.args.config.now in
    does_ran m _ _ old old (ran_look m (λ t arena. is_past arena c.args.prototype c.args.object) (λ t. false) old (λ t more arena s. past_found _ t arena s c.requires.base.heap.arena c.args.prototype c.args.object c.requires.object.0 ∙ passing_ends old.heap.arena c.args.prototype c.args.object c.up.at c.up.invariant.passing (none_of _ c.in_default.not-Some) t))

pub returns-clause-is : goal.returns-clause-is
returns-clause-is g c = λ t arena s. past_found _ t arena s c.requires.base.heap.arena c.args.prototype c.args.object c.requires.object.0 ∙ passing_ends c.args.config.now.heap.arena c.args.prototype c.args.object c.up.at c.up.invariant.passing (none_of _ c.in_default.not-Some) t
