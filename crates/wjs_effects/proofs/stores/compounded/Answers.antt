use Rattle.wjs_by_content.specs.Tables.{value_in}
use Rattle.wjs_meaning.specs.Deeds.{Gives, Ret, AtExpr, then_value}
use Rattle.wjs_meaning.specs.Expressions as line
use Rattle.wjs_meaning.specs.Operators.{operate}
use Rattle.wjs_meaning.specs.References.{store}
use Rattle.wjs_model.specs.Contents.{reference_in}
use Rattle.wjs_frames.specs.Parts.{env_in}
use Rattle.wjs_frames.proofs.Shorter.{shorten_ended}
use Rattle.wjs_heap_steps.proofs.Peeking.{if_some}
use Rattle.wjs_effects.specs.Effects.{Rest, assigns}
use Rattle.wjs_effects.specs.Making.{made_in}
use Rattle.wjs_effects.proofs.Leaving.{leaves_yielded, leaves_shorter, leaves_evaluated, leaves_stored}
use Rattle.wjs_effects.proofs.stores.compounded.Goals as goal

pub returns-clause-leaves : goal.returns-clause-leaves
returns-clause-leaves g c =
    let m = g.S.WorldStore.meaning in
    let now = c.args.config.now in
    let f = c.args.frame.now in
    let q = c.args.reference in
    let op = c.args.operator in
    let old = c.in_ok-old.old in
    let second = c.in_ok-second.second in
    let before = c.args.steps.now in
    let mid = c.made_at.new.steps in
    if_some _ _ c.compound.result (λ v ends.
    let x : Rest = assigns q v in
    leaves_evaluated m now f q (λ t env. line.compound_old op c.args.right.0 (reference_in t q) env) old x before mid c.in_ok-old.ensures.peeks
    (leaves_yielded m now f (AtExpr c.args.right.0) (λ t env. then_value (line.compound_value op (value_in t old) (reference_in t q) env)) (λ t. made_in t second) x before mid mid c.in_ok-second.ensures.does
    (leaves_shorter m now f (λ t env. line.compound_value op (value_in t old) (reference_in t q) env (made_in t second)) (λ t env. store (reference_in t q) (made_in t v) env (Ret (Gives (made_in t v)))) x mid mid
    (λ t more.
    let env = env_in m now t f in
    shorten_ended (operate op (value_in t old) (made_in t second) env) (Gives (made_in t v)) (then_value (line.assign_value (reference_in t q) env)) (ends t more env))
    (leaves_stored m now f q v (λ t. Gives (made_in t v)) mid)))) c.compound.ensures.ends
