use Rattle.std.proofs.Common.{◌≡◌, [], sym, ap, ◌∙◌, subst}
use Rattle.std.proofs.lemmas.Result.{MatchResult-at_ok, MatchResult-at_err}
use Rattle.wjs_model.specs.declared.config.Config.{Config}
use Rattle.wjs_model.specs.declared.frame.Activation.{Activation as Frame}
use Rattle.wjs_model.specs.Soundness.{Base, HasValue, IsThere}
use Rattle.wjs_frames.specs.Following.{Later}
use Rattle.wjs_stopping.specs.Waiting.{at_node}
use Rattle.wjs_direct.specs.Visits.{ListsVisits, RefusesVisits}
use Rattle.wjs_direct_lines.proofs.Forming.{node_there}
use Rattle.wjs_direct.proofs.Visiting.{holds_others, visits_listed, visits_refused}
use Rattle.wjs_direct.proofs.for_ins.list_visits.Goals as goal

pub hold_visits-requires-clause-base : goal.hold_visits-requires-clause-base
hold_visits-requires-clause-base g c =
    let old = c.args.config.now in
    let first : Config g.row.S.Denot = record old { frames = c.begun.new.self } in
    let begun : first ≡ old = λ i. record old { frames = c.in_ok-visits.ensures.same i } in
    subst (Base g.S.WorldStore.meaning) (sym begun) c.requires.base

pub hold_visits-requires-clause-there : goal.hold_visits-requires-clause-there
hold_visits-requires-clause-there g c =
    let m = g.S.WorldStore.meaning in
    let old = c.args.config.now in
    let first : Config g.row.S.Denot = record old { frames = c.begun.new.self } in
    let begun : first ≡ old = λ i. record old { frames = c.in_ok-visits.ensures.same i } in
    subst (λ (x : Config g.row.S.Denot). IsThere m x c.in_ok-visits.visits) (sym begun)
    (subst (λ (y : Frame). IsThere m old y) (sym c.in_ok-visits.ensures.frame) (node_there m old c.args.frame.now c.args.node [] c.requires.there c.requires.node tt))

pub hold_visits-requires-clause-value : goal.hold_visits-requires-clause-value
hold_visits-requires-clause-value g c =
    let old = c.args.config.now in
    let first : Config g.row.S.Denot = record old { frames = c.begun.new.self } in
    let begun : first ≡ old = λ i. record old { frames = c.in_ok-visits.ensures.same i } in
    subst (λ (x : Config g.row.S.Denot). HasValue x c.args.over) (sym begun) c.requires.over

pub returns-in-Ok-clause-later : goal.returns-in-Ok-clause-later
returns-in-Ok-clause-later g c =
    let old = c.args.config.now in
    let first : Config g.row.S.Denot = record old { frames = c.begun.new.self } in
    let begun : first ≡ old = λ i. record old { frames = c.in_ok-visits.ensures.same i } in
    subst (λ (x : Config g.row.S.Denot). Later g.S.WorldStore.meaning x c.hold_visits.new.config) begun c.in_ok-listed.ensures.later

pub returns-in-Ok-clause-found : goal.returns-in-Ok-clause-found
returns-in-Ok-clause-found g c =
    let f = c.args.frame.now in
    let v = c.in_ok-visits.visits in
    let ev = c.in_ok-visits.ensures.frame in
    let alone : v ≡ at_node f c.args.node v.held = ev ∙ sym (ap (λ (x : Frame). at_node f c.args.node x.held) ev) in
    holds_others g.S.WorldStore.meaning f c.args.node c.hold_visits.new.config v c.hold_visits.new.frame alone c.in_ok-listed.ensures.frame c.in_ok-listed.ensures.there

pub returns-in-Ok-clause-does : goal.returns-in-Ok-clause-does
returns-in-Ok-clause-does g c =
    let m = g.S.WorldStore.meaning in
    let old = c.args.config.now in
    let first : Config g.row.S.Denot = record old { frames = c.begun.new.self } in
    let begun : first ≡ old = λ i. record old { frames = c.in_ok-visits.ensures.same i } in
    let mid = c.hold_visits.new.config in
    let f = c.args.frame.now in
    let v = c.in_ok-visits.visits in
    let ev = c.in_ok-visits.ensures.frame in
    let alone : v ≡ at_node f c.args.node v.held = ev ∙ sym (ap (λ (x : Frame). at_node f c.args.node x.held) ev) in
    let held = c.hold_visits.new.frame.held in
    subst (λ (x : Config g.row.S.Denot). ListsVisits m c.args.over f c.args.node held x mid) begun
    (visits_listed m f c.args.node first mid v c.args.over alone held c.in_ok-listed.ensures.later (MatchResult-at_ok _ _ c.in-Ok.field-0 c.in-Ok.is c.in_ok-listed.ensures.lists))

pub returns-in-Err-clause-later : goal.returns-in-Err-clause-later
returns-in-Err-clause-later g c =
    let old = c.args.config.now in
    let first : Config g.row.S.Denot = record old { frames = c.begun.new.self } in
    let begun : first ≡ old = λ i. record old { frames = c.in_ok-visits.ensures.same i } in
    subst (λ (x : Config g.row.S.Denot). Later g.S.WorldStore.meaning x c.hold_visits.new.config) begun c.in_ok-listed.ensures.later

pub returns-in-Err-clause-found : goal.returns-in-Err-clause-found
returns-in-Err-clause-found g c = MatchResult-at_err _ _ c.in-Err.error c.in-Err.is c.in_ok-listed.ensures.found

pub returns-in-Err-clause-does : goal.returns-in-Err-clause-does
returns-in-Err-clause-does g c =
    let m = g.S.WorldStore.meaning in
    let old = c.args.config.now in
    let first : Config g.row.S.Denot = record old { frames = c.begun.new.self } in
    let begun : first ≡ old = λ i. record old { frames = c.in_ok-visits.ensures.same i } in
    let mid = c.hold_visits.new.config in
    let f = c.args.frame.now in
    let v = c.in_ok-visits.visits in
    let ev = c.in_ok-visits.ensures.frame in
    let alone : v ≡ at_node f c.args.node v.held = ev ∙ sym (ap (λ (x : Frame). at_node f c.args.node x.held) ev) in
    subst (λ (x : Config g.row.S.Denot). RefusesVisits m c.args.over c.in-Err.error f c.args.node x mid) begun
    (visits_refused m f c.args.node first mid v c.args.over alone c.in-Err.error (MatchResult-at_err _ _ c.in-Err.error c.in-Err.is c.in_ok-listed.ensures.lists))
