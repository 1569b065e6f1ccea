use Rattle.std.proofs.Common.{length, sym, ap, ◌∙◌, subst}
use Rattle.wjs_base.specs.Text.{Table}
use Rattle.wjs_arena.specs.Entries.{IsThere}
use Rattle.wjs_heap.specs.Means.{nothing}
use Rattle.wjs_meaning.specs.declared.builtin.Builtin.TheVariants as builtins
use Rattle.wjs_meaning.specs.Deeds.{Env, node_here}
use Rattle.wjs_meaning.specs.Trees.{formals_of}
use Rattle.wjs_meaning.specs.Functions.{function_object}
use Rattle.wjs_frames.specs.Parts.{env_in}
use Rattle.wjs_heap_steps.proofs.Composing.{if_ok, env_later}
use Rattle.wjs_heap_steps.proofs.Making.{made_after}
use Rattle.wjs_calls.proofs.Rows.{any_later}
use Rattle.wjs_calls.proofs.StandingFunctions.{script_stands, function_later}
use Rattle.wjs_calls.proofs.makes.create_function.Goals as goal

pub returns-clause-does : goal.returns-clause-does
returns-clause-does g c =
    let m = g.S.WorldStore.meaning in
    let old = c.args.config.now in
    let mid = c.function_names.new.config in
    let f = c.args.frame.now in
    let as_made = λ (env : Env). function_object f.tree c.args.body.0 (length (formals_of (node_here env c.args.body.0))) c.args.scope in
    let said = λ (t : Table). as_made (env_in m old t f) in
    if_ok _ _ c.create.result
    (λ o k. made_after m (λ t. nothing) (λ t. nothing) said o old mid c.create.new.config c.in_ok-names.ensures.does c.in_ok-names.ensures.later
    (k said (λ t more. c.in_ok-object.ensures.is t more ∙ ap as_made (env_later m old mid t f c.in_ok-names.ensures.later))))
    c.create.ensures.makes

pub returns-clause-later : goal.returns-clause-later
returns-clause-later g c = any_later g.S.WorldStore.meaning c.args.config.now c.function_names.new.config c.create.new.config c.create.result c.in_ok-names.ensures.later c.create.ensures.later

pub function_object-requires-clause-near : goal.function_object-requires-clause-near
function_object-requires-clause-near g c = (c.in_ok-names.ensures.later.objects c.args.scope c.requires.scope).1

pub create-requires-clause-code : goal.create-requires-clause-code
create-requires-clause-code g c =
    let old = c.args.config.now in
    let mid = c.function_names.new.config in
    let f = c.args.frame.now in
    script_stands mid.units.items mid.heap.arena c.in_ok-object.object f.tree c.args.body c.args.scope c.in_ok-object.ensures.code c.in_ok-object.ensures.scope (function_later g.S.WorldStore.meaning old mid f.tree c.args.body c.args.scope 0 c.in_ok-names.ensures.later c.requires.stands)

pub create-requires-clause-prototype : goal.create-requires-clause-prototype
create-requires-clause-prototype g c =
    subst (IsThere c.function_names.new.config.heap.arena) (sym c.in_ok-object.ensures.prototype) (c.in_ok-names.ensures.later.base.builtins builtins.FunctionPrototype).0
