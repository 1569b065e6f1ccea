use Rattle.std.proofs.Common.{ℕ, subst, sym}
use Rattle.wjs_base.specs.declared.ids.ObjId.{ObjId}
use Rattle.wjs_base.specs.declared.values.Content.{Content}
use Rattle.wjs_base.specs.Text.{Table}
use Rattle.wjs_by_content.specs.Tables.{name_in, value_in, content_in}
use Rattle.wjs_by_content.specs.Values.{Object}
use Rattle.wjs_meaning.specs.declared.trouble.Trouble.TheVariants as troubles
use Rattle.wjs_meaning.specs.Deeds.{Completion, Gives, Throws, Do, Create}
use Rattle.wjs_meaning.specs.Errors.{error_of}
use Rattle.wjs_meaning.specs.Properties as line
use Rattle.wjs_model.specs.Operands.{defined_or_thrown}
use Rattle.wjs_frames.specs.Doing.{Does}
use Rattle.wjs_frames.specs.Parts.{env_in}
use Rattle.wjs_heap_steps.proofs.Composing.{does_then, does_map, does_at_once}
use Rattle.wjs_heap_steps.proofs.Later.{later_twice}
use Rattle.wjs_heap_steps.proofs.operands.global_completion.Goals as goal

pub returns-in-Present-clause-does : goal.returns-in-Present-clause-does
returns-in-Present-clause-does g c =
    let m = g.S.WorldStore.meaning in
    let old = c.args.config.now in
    let mid = c.get.new.config in
    let v = c.in-Present.value in
    let given : Table → Completion = λ t. Gives (value_in t v) in
    does_then m (λ t. line.get old.global (name_in t c.args.name) (env_in m old t c.args.frame.now)) (λ t. content_in t c.in_ok-found.found) (λ t x go. defined_or_thrown (name_in t c.args.name) (env_in m old t c.args.frame.now) go x) given old mid mid c.in_ok-found.ensures.does
    (subst (λ (x : Content). Does m (λ t go. defined_or_thrown (name_in t c.args.name) (env_in m old t c.args.frame.now) go (content_in t x)) given mid mid) (sym c.in-Present.is) (does_at_once m given mid))

pub returns-in_ok-error-in-Absent-clause-does : goal.returns-in_ok-error-in-Absent-clause-does
returns-in_ok-error-in-Absent-clause-does g c =
    let m = g.S.WorldStore.meaning in
    let old = c.args.config.now in
    let mid = c.get.new.config in
    let new = c.create_undefined.new.config in
    let error = c.in_ok-error-in-Absent in
    let thrown : Table → ObjId → Completion = λ t o. Throws (Object o) in
    let made = does_map m (λ t go. Do (Create mid.owner (error_of troubles.NotDefined (name_in t c.args.name))) go) (λ t. error.error) thrown mid new error.ensures.does in
    let owned = subst (λ (k : ℕ). Does m (λ t go. Do (Create k (error_of troubles.NotDefined (name_in t c.args.name))) (λ o. go (Throws (Object o)))) (λ t. thrown t error.error) mid new) c.in_ok-found.ensures.later.owner made in
    does_then m (λ t. line.get old.global (name_in t c.args.name) (env_in m old t c.args.frame.now)) (λ t. content_in t c.in_ok-found.found) (λ t x go. defined_or_thrown (name_in t c.args.name) (env_in m old t c.args.frame.now) go x) (λ t. thrown t error.error) old mid new c.in_ok-found.ensures.does
    (subst (λ (x : Content). Does m (λ t go. defined_or_thrown (name_in t c.args.name) (env_in m old t c.args.frame.now) go (content_in t x)) (λ t. thrown t error.error) mid new) (sym c.in-Absent.is) owned)

pub returns-in_ok-error-in-Absent-clause-later : goal.returns-in_ok-error-in-Absent-clause-later
returns-in_ok-error-in-Absent-clause-later g c = later_twice g.S.WorldStore.meaning c.args.config.now c.get.new.config c.create_undefined.new.config c.in_ok-found.ensures.later c.in_ok-error-in-Absent.ensures.later
