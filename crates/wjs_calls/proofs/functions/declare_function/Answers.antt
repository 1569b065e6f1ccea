use Rattle.std.proofs.Common.{sym, ap, ◌∙◌, subst}
use Rattle.std.specs.Option.{option_map}
use Rattle.std.proofs.lemmas.Result.{on_ok_weaker}
use Rattle.wjs_base.specs.declared.ids.ObjId.{ObjId}
use Rattle.wjs_base.specs.Text.{Table}
use Rattle.wjs_by_content.specs.Tables.{text_in}
use Rattle.wjs_meaning.specs.Trees.{name_of}
use Rattle.wjs_meaning.specs.Deeds.{Env, node_here}
use Rattle.wjs_meaning.specs.Functions.{make_function_in}
use Rattle.wjs_frames.specs.Doing.{Does, DoesFirst}
use Rattle.wjs_frames.specs.Parts.{env_in}
use Rattle.wjs_heap_steps.proofs.Composing.{env_later}
use Rattle.wjs_calls.specs.Making.{declared_as}
use Rattle.wjs_calls.proofs.Rows.{first_env, ok_later}
use Rattle.wjs_calls.proofs.Declaring.{declares_one}
use Rattle.wjs_calls.proofs.functions.declare_function.Goals as goal

pub returns-clause-does : goal.returns-clause-does
returns-clause-does g c =
    let m = g.S.WorldStore.meaning in
    let old = c.args.config.now in
    let mid = c.make_function_in.new.config in
    let new = c.declare_as.new.config in
    let f = c.args.frame.now in
    let o = c.in_ok-made.made in
    let name = λ (t : Table). option_map (text_in t) c.own_name-name.result in
    on_ok_weaker c.declare_as.result
    (λ (w : DoesFirst m (λ t. declared_as (name t) c.args.holder o (env_in m mid t f)) mid new).
    declares_one m c.args.function.0 c.args.holder o (λ t. env_in m old t f) name old mid new
    (subst (λ (s : ObjId). Does m (λ t. make_function_in c.args.function.0 s (env_in m old t f)) (λ t. o) old mid) c.scope.ensures c.in_ok-made.ensures.does)
    (λ t more. ap (λ (env : Env). name_of (node_here env c.args.function.0)) (sym (env_later m old mid t f c.in_ok-made.ensures.later)) ∙ c.own_name-name.ensures.is t)
    (first_env m f (λ (env : Env) (t : Table). declared_as (name t) c.args.holder o env) old mid new c.in_ok-made.ensures.later w))
    c.declare_as.ensures.does

pub returns-clause-later : goal.returns-clause-later
returns-clause-later g c = ok_later g.S.WorldStore.meaning c.args.config.now c.make_function_in.new.config c.declare_as.new.config c.declare_as.result c.in_ok-made.ensures.later c.declare_as.ensures.later

pub declare_as-requires-clause-there : goal.declare_as-requires-clause-there
declare_as-requires-clause-there g c = c.in_ok-made.ensures.later.frames c.args.frame.now c.requires.there
