use Rattle.std.proofs.Common.{◌∷◌, ap, sym, subst, drop, ◌∙◌}
use Rattle.wjs_meaning.specs.Deeds.{then_value}
use Rattle.wjs_meaning.specs.Reading.{node_in}
use Rattle.wjs_meaning.specs.Statements.{switch_value, switch_cases}
use Rattle.wjs_model.specs.declared.frame.Activation.{Activation as Frame}
use Rattle.wjs_model.specs.declared.frame.Completion.{Completion}
use Rattle.wjs_model.specs.declared.frame.Held.TheVariants as holds
use Rattle.wjs_model.specs.Contents.{completion_in, holding_in}
use Rattle.wjs_model.specs.Lists.{clauses_of}
use Rattle.wjs_model.specs.Soundness.{HasCompletion}
use Rattle.wjs_frames.specs.Parts.{env_in, node_now}
use Rattle.wjs_step_common.proofs.Following.{follows_as}
use Rattle.wjs_blocks.proofs.Standing.{holding_value}
use Rattle.wjs_frames.proofs.Handling.{runs_as}
use Rattle.wjs_blocks.proofs.switches.switch_value.Goals as goal

pub returns-in_ok-hold-in-Gives : goal.returns-in_ok-hold-in-Gives
returns-in_ok-hold-in-Gives g c =
    let meaning = g.S.WorldStore.meaning in
    let old = c.args.config.now in
    let f = c.args.frame in
    let t = c.cases_from.new.config.heap.texts in
    let Cases = λ (x : Frame). let all = clauses_of (node_in t (node_now meaning old x)) in switch_cases (holding_in t x.held).value all (drop 0 all) (env_in meaning old t x) in
    follows_as meaning _ _ _ _ c.cases_from.result (λ grows.
    ap Cases {y = record f { held = holds.Value c.in-Gives.value ∷ f.held }} c.in_ok-hold-in-Gives.ensures
    ∙ sym (ap (λ (e : Completion). then_value (switch_value (clauses_of (node_in t (node_now meaning old f))) (env_in meaning old t f)) (completion_in t e))
    c.in-Gives.is)) c.cases_from.ensures

pub cases_from-requires : goal.cases_from-requires
cases_from-requires g c =
    let old = c.args.config.now in
    let has = subst (λ (e : Completion). HasCompletion old e) c.in-Gives.is c.requires.completion in
    record {
      runs = runs_as _ _ _ _ c.requires.runs (holding_value g.S.WorldStore.meaning old c.args.frame c.requires.runs.there c.hold.new.frame c.in-Gives.value
          has c.in_ok-hold-in-Gives.ensures);
    }
