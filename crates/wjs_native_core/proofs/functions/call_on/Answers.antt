use Rattle.std.proofs.Common.{List, All, sym, subst}
use Rattle.std.proofs.lemmas.List.Elements.{All-head, All-tail}
use Rattle.std.specs.Prelude.{OnOk, map}
use Rattle.std.proofs.lemmas.List.{nil_from_length}
use Rattle.wjs_base.specs.declared.values.Value.{Value}
use Rattle.wjs_by_content.specs.Tables.{value_in}
use Rattle.wjs_meaning.specs.NativesOfObjects as line
use Rattle.wjs_model.specs.Soundness.{HasValue}
use Rattle.wjs_frames.specs.Following.{Follows}
use Rattle.wjs_frames.specs.Parts.{env_in}
use Rattle.wjs_native_core.proofs.functions.call_on.Goals as goal

pub returns-in-None : goal.returns-in-None
returns-in-None g c =
    let m = g.S.WorldStore.meaning in
    let old = c.args.config.now in
    let new = c.call_with.new.config in
    let t = new.heap.texts in
    let r = c.call_with.result in
    subst (λ (vs : List Value). OnOk r (Follows m (line.function_call (value_in t c.args.this) (map (value_in t) vs) (env_in m old t c.args.frame)) old new)) (sym (nil_from_length c.args.args.now c.in-None.ensures.cases)) c.call_with.ensures

pub returns-in-Some : goal.returns-in-Some
returns-in-Some g c =
    let m = g.S.WorldStore.meaning in
    let old = c.args.config.now in
    let new = c.call_with-in-Some.new.config in
    let t = new.heap.texts in
    let r = c.call_with-in-Some.result in
    subst (λ (vs : List Value). OnOk r (Follows m (line.function_call (value_in t c.args.this) (map (value_in t) vs) (env_in m old t c.args.frame)) old new)) (sym c.in-Some.ensures.cases.0) c.call_with-in-Some.ensures

pub call_with-requires-in-Some-clause-this : goal.call_with-requires-in-Some-clause-this
call_with-requires-in-Some-clause-this g c =
    let P : Value → Type 0 = λ v. HasValue c.args.config.now v in
    All-head P c.in-Some.receiver.now c.in-Some.others.now (subst (λ (vs : List Value). All P vs) c.in-Some.ensures.cases.0 c.requires.args)

pub call_with-requires-in-Some-clause-args : goal.call_with-requires-in-Some-clause-args
call_with-requires-in-Some-clause-args g c =
    let P : Value → Type 0 = λ v. HasValue c.args.config.now v in
    All-tail P c.in-Some.receiver.now c.in-Some.others.now (subst (λ (vs : List Value). All P vs) c.in-Some.ensures.cases.0 c.requires.args)
