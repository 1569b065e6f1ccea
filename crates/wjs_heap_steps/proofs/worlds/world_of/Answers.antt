use Rattle.std.proofs.Common.{Option, [], refl, sym, ap, subst}
use Rattle.wjs_base.specs.declared.ids.WorldId.{WorldId}
use Rattle.wjs_by_content.specs.Tables.{value_in}
use Rattle.wjs_meaning.specs.declared.trouble.Trouble.TheVariants as troubles
use Rattle.wjs_meaning.specs.Errors.{error_of}
use Rattle.wjs_meaning.specs.WorldValues as line
use Rattle.wjs_by_content.specs.Values.{Object}
use Rattle.wjs_frames.specs.Doing.{Does}
use Rattle.wjs_frames.specs.Parts.{env_in}
use Rattle.wjs_heap_steps.specs.Worlds.{world_then}
use Rattle.wjs_heap_steps.proofs.Composing.{does_same, does_then, does_at_once, fails_then, fails_same}
use Rattle.wjs_heap_steps.proofs.Later.{later_same}
use Rattle.wjs_heap_steps.proofs.Sprouting.{or_throw, world_line}
use Rattle.wjs_heap_steps.proofs.worlds.world_of.Goals as goal

pub returns-in-Some-clause-does : goal.returns-in-Some-clause-does
returns-in-Some-clause-does g c =
    let m = g.S.WorldStore.meaning in
    let old = c.args.config.now in
    let world = c.in-Some.world in
    does_same m (λ t go. world_then (value_in t c.args.value) (or_throw (env_in m old t c.args.frame.now) go)) (λ t. line.world_of (value_in t c.args.value) (env_in m old t c.args.frame.now)) (λ t. world) (λ t. world) old old
    (λ t more go. world_line (value_in t c.args.value) (env_in m old t c.args.frame.now) go) (λ t more. refl)
    (does_then m (λ t. world_then (value_in t c.args.value)) (λ t. c.in_ok-found.found) (λ t x go. or_throw (env_in m old t c.args.frame.now) go x) (λ t. world) old old old c.in_ok-found.ensures.does
    (subst (λ (x : Option WorldId). Does m (λ t go. or_throw (env_in m old t c.args.frame.now) go x) (λ t. world) old old) (sym c.in-Some.is) (does_at_once m (λ t. world) old)))

pub returns-in_ok-error-in-None-clause-does : goal.returns-in_ok-error-in-None-clause-does
returns-in_ok-error-in-None-clause-does g c =
    let m = g.S.WorldStore.meaning in
    let old = c.args.config.now in
    let error = c.in_ok-error-in-None in
    fails_same m (λ t go. world_then (value_in t c.args.value) (or_throw (env_in m old t c.args.frame.now) go)) (λ t. line.world_of (value_in t c.args.value) (env_in m old t c.args.frame.now)) (λ t. Object error.error) old c.create_error.new.config
    (λ t go. world_line (value_in t c.args.value) (env_in m old t c.args.frame.now) go)
    (fails_then m (λ t. world_then (value_in t c.args.value)) (λ t. c.in_ok-found.found) (λ t x go. or_throw (env_in m old t c.args.frame.now) go x) (λ t. error_of troubles.NotAWorld []) error.error old old c.create_error.new.config c.in_ok-found.ensures.does (later_same m old c.requires.base)
    (λ t go. ap (or_throw (env_in m old t c.args.frame.now) go) c.in-None.is) error.ensures.does)
