use Rattle.std.proofs.Common.{◌≡◌, List, [], sym, ap, ◌∙◌, subst}
use Rattle.std.specs.Prelude.{All, OnOk, map}
use Rattle.wjs_base.specs.declared.values.Value.{Value as Numbered}
use Rattle.wjs_by_content.specs.Tables.{value_in}
use Rattle.wjs_by_content.specs.Values.{Value}
use Rattle.wjs_meaning.specs.Deeds.{Env, Act}
use Rattle.wjs_meaning.specs.Functions.{body_run}
use Rattle.wjs_model.specs.declared.frame.Activation.{Activation as Frame}
use Rattle.wjs_model.specs.declared.frame.Held.{Held}
use Rattle.wjs_model.specs.Contents.{holding_in, values_held}
use Rattle.wjs_model.specs.Soundness.{HasValue, IsThere}
use Rattle.wjs_frames.specs.Following.{Follows}
use Rattle.wjs_frames.specs.Parts.{env_in}
use Rattle.wjs_frames.proofs.Handling.{runs_held, runs_over}
use Rattle.wjs_frames.proofs.Held.{values_there}
use Rattle.wjs_variables.specs.Entering.{entered_then}
use Rattle.wjs_direct_lines.proofs.Entering.{body_runs, earliest_each}
use Rattle.wjs_direct.proofs.entries.begin_scope.Goals as goal

pub enter_scope-requires-clause-there : goal.enter_scope-requires-clause-there
enter_scope-requires-clause-there g c =
    let m = g.S.WorldStore.meaning in
    let old = c.args.config.now in
    let f = c.args.frame in
    let bare : c.set_held.new.self ≡ record f { held = [] } = c.set_held.ensures ∙ ap (λ (l : List Held). record f { held = l }) c.nothing_held.ensures in
    subst (IsThere m old) (sym bare) (runs_held m old f [] c.requires.runs tt).there

pub enter_scope-requires-clause-values : goal.enter_scope-requires-clause-values
enter_scope-requires-clause-values g c =
    let old = c.args.config.now in
    subst (λ (vs : List Numbered). All (HasValue old) vs) (sym (c.as_slice.ensures.value ∙ c.in_ok-values.ensures)) (values_there old c.args.frame.held c.requires.runs.there.held)

pub go_on-requires-clause-runs : goal.go_on-requires-clause-runs
go_on-requires-clause-runs g c = runs_over _ _ _ _ _ c.requires.runs c.in_ok-enter_scope.ensures.later c.in_ok-enter_scope.ensures.there

pub returns : goal.returns
returns g c =
    let m = g.S.WorldStore.meaning in
    let old = c.args.config.now in
    let mid = c.enter_scope.new.config in
    let new = c.go_on.new.config in
    let r = c.go_on.result in
    let t = new.heap.texts in
    let f = c.args.frame in
    let body = c.args.node.0 in
    let run : Env → Act = body_run body in
    let inner = c.enter_scope.new.frame in
    let entered : List Value → Frame → Act = λ vs q. entered_then body c.args.scope c.args.function vs (record (env_in m old t q) { tree = c.args.tree }) run in
    let said : map (value_in t) c.as_slice.result.now ≡ (holding_in t f.held).values = ap (map (value_in t)) (c.as_slice.ensures.value ∙ c.in_ok-values.ensures) ∙ earliest_each (value_in t) (values_held f.held) in
    let at : inner.node ≡ c.args.node = ap (λ (q : Frame). q.node) c.in_ok-enter_scope.ensures.frame in
    let runs : OnOk r (Follows m (run (env_in m mid t inner)) mid new) = subst (λ (a : Act). OnOk r (Follows m a mid new)) (sym (body_runs m mid t inner c.args.node at)) c.go_on.ensures in
    subst (λ (vs : List Value). OnOk r (Follows m (entered vs f) old new)) said
    (subst (λ (q : Frame). OnOk r (Follows m (entered (map (value_in t) c.as_slice.result.now) q) old new)) c.set_held.ensures
    (c.in_ok-enter_scope.ensures.does.by run new r runs))
