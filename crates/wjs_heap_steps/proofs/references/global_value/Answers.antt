use Rattle.std.proofs.Common.{ap, subst, sym}
use Rattle.wjs_base.specs.declared.values.Content.{Content}
use Rattle.wjs_by_content.specs.Tables.{name_in, value_in, content_in}
use Rattle.wjs_meaning.specs.declared.trouble.Trouble.TheVariants as troubles
use Rattle.wjs_meaning.specs.Errors.{error_of}
use Rattle.wjs_meaning.specs.Properties as line
use Rattle.wjs_meaning.specs.References.{defined_value}
use Rattle.wjs_frames.specs.Doing.{Does}
use Rattle.wjs_frames.specs.Parts.{env_in}
use Rattle.wjs_heap_steps.proofs.Composing.{does_then, does_at_once, fails_then}
use Rattle.wjs_heap_steps.proofs.Later.{later_twice}
use Rattle.wjs_heap_steps.proofs.references.global_value.Goals as goal

pub returns-in-Present-clause-does : goal.returns-in-Present-clause-does
returns-in-Present-clause-does g c =
    let m = g.S.WorldStore.meaning in
    let old = c.args.config.now in
    let mid = c.get.new.config in
    let v = c.in-Present.value in
    does_then m (λ t. line.get old.global (name_in t c.args.name) (env_in m old t c.args.frame.now)) (λ t. content_in t c.in_ok-found.found) (λ t x go. defined_value (name_in t c.args.name) (env_in m old t c.args.frame.now) go x) (λ t. value_in t v) old mid mid c.in_ok-found.ensures.does
    (subst (λ (x : Content). Does m (λ t go. defined_value (name_in t c.args.name) (env_in m old t c.args.frame.now) go (content_in t x)) (λ t. value_in t v) mid mid) (sym c.in-Present.is) (does_at_once m (λ t. value_in t v) mid))

pub returns-in_ok-error-in-Absent-clause-does : goal.returns-in_ok-error-in-Absent-clause-does
returns-in_ok-error-in-Absent-clause-does g c =
    let m = g.S.WorldStore.meaning in
    let old = c.args.config.now in
    let error = c.in_ok-error-in-Absent in
    fails_then m (λ t. line.get old.global (name_in t c.args.name) (env_in m old t c.args.frame.now)) (λ t. content_in t c.in_ok-found.found) (λ t x go. defined_value (name_in t c.args.name) (env_in m old t c.args.frame.now) go x) (λ t. error_of troubles.NotDefined (name_in t c.args.name)) error.error old c.get.new.config c.create_undefined.new.config c.in_ok-found.ensures.does c.in_ok-found.ensures.later
    (λ t go. ap (λ (x : Content). defined_value (name_in t c.args.name) (env_in m old t c.args.frame.now) go (content_in t x)) c.in-Absent.is) error.ensures.does

pub returns-in_ok-error-in-Absent-clause-later : goal.returns-in_ok-error-in-Absent-clause-later
returns-in_ok-error-in-Absent-clause-later g c = later_twice g.S.WorldStore.meaning c.args.config.now c.get.new.config c.create_undefined.new.config c.in_ok-found.ensures.later c.in_ok-error-in-Absent.ensures.later
