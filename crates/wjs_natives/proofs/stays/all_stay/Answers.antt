use Rattle.std.proofs.Common.{◌≡◌, ◌<◌, length, get_or, sym, ap, ◌∙◌, subst, arith}
use Rattle.std.specs.Prelude.{ℕ, map}
use Rattle.std.proofs.lemmas.List.{get_or-map, length-map}
use Rattle.wjs_by_content.specs.Tables.{value_in}
use Rattle.wjs_by_content.specs.Values.{Value, Undefined}
use Rattle.wjs_meaning.specs.Deeds.{give}
use Rattle.wjs_meaning.specs.Kinds.{convert, kinds_of}
use Rattle.wjs_frames.specs.Shortening.{Shortens}
use Rattle.wjs_natives.proofs.Staying.{StaysTo, stays_more, stays_all, none_there}
use Rattle.wjs_natives.proofs.stays.all_stay.Goals as goal

pub loop-at-preserved : goal.loop-at-preserved
loop-at-preserved c = λ t native by_new done env.
    let args = c.args.args.now in
    let ks = kinds_of c.args.kinds (length args) in
    let vs = map (value_in t) args in
    let at = c.loop-at.at in
    let v = c.index-args-at.result in
    let k = c.in-Some.kind in
    let here : get_or vs at Undefined ≡ value_in t v = get_or-map (value_in t) args at v Undefined c.loop-at-test.true ∙ ap (value_in t) (sym c.index-args-at.is) in
    let below : at < length vs = let n = length-map args (value_in t) in omega (arith, c.loop-at-test.true) in
    stays_more native by_new env done ks vs at k below (sym c.argument_kind.ensures ∙ c.in-Some.is)
    (subst (λ (x : Value). Shortens (convert k x env) (give x)) (sym here) (c.stays.ensures c.if-not-stays.false t env)) (c.loop-at.invariant t native by_new done env)

pub returns : goal.returns
returns c = λ h t native by_new done env.
    let args = c.args.args.now in
    let ks = kinds_of c.args.kinds (length args) in
    let vs = map (value_in t) args in
    let n = length args in
    let all : c.loop-at.at ≡ n = omega (arith, c.loop-at-test.false, c.loop-at.auto.at-end) in
    stays_all native by_new env done ks vs n (length-map args (value_in t)) (sym c.argument_kind-2.ensures ∙ none_there c.argument_kind-2.result c.is_none.result c.is_none.ensures h)
    (subst (λ (i : ℕ). StaysTo native by_new env done ks vs i) all (c.loop-at.invariant t native by_new done env))
