use Rattle.std.proofs.Common.{ap, []}
use Rattle.wjs_by_content.specs.Tables.{name_in, value_in}
use Rattle.wjs_by_content.specs.declared.answers.PutAnswer.{PutAnswer}
use Rattle.wjs_meaning.specs.declared.trouble.Trouble.TheVariants as troubles
use Rattle.wjs_meaning.specs.Errors.{error_of}
use Rattle.wjs_meaning.specs.Properties as line
use Rattle.wjs_meaning.specs.References.{after_put}
use Rattle.wjs_frames.specs.Parts.{env_in}
use Rattle.wjs_heap_steps.proofs.Composing.{does_first, first_at_once, fails_first}
use Rattle.wjs_heap_steps.proofs.Later.{later_twice}
use Rattle.wjs_heap_steps.proofs.references.store_property.Goals as goal

pub returns-in-Done-clause-does : goal.returns-in-Done-clause-does
returns-in-Done-clause-does g c =
    let m = g.S.WorldStore.meaning in
    let old = c.args.config.now in
    let mid = c.put.new.config in
    does_first m (λ t. line.put c.args.object (name_in t c.args.name) (value_in t c.args.value) (env_in m old t c.args.frame.now)) (λ t. c.in_ok-answer.answer) (λ t x act. after_put (env_in m old t c.args.frame.now) act x) old mid mid c.in_ok-answer.ensures.does
    (first_at_once m (λ t act. after_put (env_in m old t c.args.frame.now) act c.in_ok-answer.answer) mid (λ t act. ap (λ (x : PutAnswer). after_put (env_in m old t c.args.frame.now) act x) c.in-Done.is))

pub returns-in-Ignored-clause-does : goal.returns-in-Ignored-clause-does
returns-in-Ignored-clause-does g c =
    let m = g.S.WorldStore.meaning in
    let old = c.args.config.now in
    let mid = c.put.new.config in
    does_first m (λ t. line.put c.args.object (name_in t c.args.name) (value_in t c.args.value) (env_in m old t c.args.frame.now)) (λ t. c.in_ok-answer.answer) (λ t x act. after_put (env_in m old t c.args.frame.now) act x) old mid mid c.in_ok-answer.ensures.does
    (first_at_once m (λ t act. after_put (env_in m old t c.args.frame.now) act c.in_ok-answer.answer) mid (λ t act. ap (λ (x : PutAnswer). after_put (env_in m old t c.args.frame.now) act x) c.in-Ignored.is))

pub returns-in_ok-error-in-BadLength-clause-does : goal.returns-in_ok-error-in-BadLength-clause-does
returns-in_ok-error-in-BadLength-clause-does g c =
    let m = g.S.WorldStore.meaning in
    let old = c.args.config.now in
    let error = c.in_ok-error-in-BadLength in
    fails_first m (λ t. line.put c.args.object (name_in t c.args.name) (value_in t c.args.value) (env_in m old t c.args.frame.now)) (λ t. c.in_ok-answer.answer) (λ t x act. after_put (env_in m old t c.args.frame.now) act x) (λ t. error_of troubles.InvalidArrayLength []) error.error old c.put.new.config c.create_error.new.config c.in_ok-answer.ensures.does c.in_ok-answer.ensures.later
    (λ t act. ap (λ (x : PutAnswer). after_put (env_in m old t c.args.frame.now) act x) c.in-BadLength.is) error.ensures.does

pub returns-in_ok-error-in-BadLength-clause-later : goal.returns-in_ok-error-in-BadLength-clause-later
returns-in_ok-error-in-BadLength-clause-later g c = later_twice g.S.WorldStore.meaning c.args.config.now c.put.new.config c.create_error.new.config c.in_ok-answer.ensures.later c.in_ok-error-in-BadLength.ensures.later
