use Rattle.std.proofs.Common.{List, All, sym, subst}
use Rattle.std.proofs.lemmas.List.Elements.{All-head, All-tail}
use Rattle.wjs_base.specs.declared.values.Value.{Value}
use Rattle.wjs_model.specs.Soundness.{HasValue}
use Rattle.std.specs.Prelude.{OnOk, map}
use Rattle.wjs_by_content.specs.Tables.{value_in}
use Rattle.wjs_meaning.specs.Natives.{native_run}
use Rattle.wjs_frames.specs.Following.{Follows}
use Rattle.wjs_frames.specs.Parts.{env_in}
use Rattle.wjs_native_core.proofs.runs.run.Goals as goal

pub run_line-requires-clause-this : goal.run_line-requires-clause-this
run_line-requires-clause-this g c =
    let P : Value → Type 0 = λ v. HasValue c.args.config.now v in
    All-head P c.in-Some.this.now c.in-Some.args.now (subst (λ (vs : List Value). All P vs) c.in-Some.ensures.cases.0 c.requires.values)

pub run_line-requires-clause-args : goal.run_line-requires-clause-args
run_line-requires-clause-args g c =
    let P : Value → Type 0 = λ v. HasValue c.args.config.now v in
    All-tail P c.in-Some.this.now c.in-Some.args.now (subst (λ (vs : List Value). All P vs) c.in-Some.ensures.cases.0 c.requires.values)

pub returns-in-Some : goal.returns-in-Some
returns-in-Some g c =
    let m = g.S.WorldStore.meaning in
    let old = c.args.config.now in
    let new = c.run_line.new.config in
    let t = new.heap.texts in
    λ by_new. subst (λ (vs : List Value). OnOk c.run_line.result (Follows m (native_run c.args.native by_new (map (value_in t) vs) (env_in m old t c.args.frame)) old new)) (sym c.in-Some.ensures.cases.0) (c.run_line.ensures by_new)
