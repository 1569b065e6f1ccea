use Rattle.std.proofs.Common.{[], ap, ◌++◌, ◌∙◌}
use Rattle.wjs_by_content.specs.Tables.{value_in}
use Rattle.wjs_model.specs.declared.frame.Activation.{Activation as Frame}
use Rattle.wjs_step_common.specs.Lists.{visits_as_items}
use Rattle.wjs_loops.proofs.Visiting.{lists_held, items_there, held_alone, holding_there, refuses_none}
use Rattle.wjs_loops.proofs.visits.hold_visits.Goals as goal

pub returns-in_ok-push_visits-in-Some-clause-lists :
    goal.returns-in_ok-push_visits-in-Some-clause-lists
returns-in_ok-push_visits-in-Some-clause-lists g c =
    let f = c.args.frame.now in
    lists_held g.S.WorldStore.meaning (λ t. value_in t c.args.value) c.in-Some.object c.in_ok-visits-in-Some.visits c.push_visits.new.frame.held f c.args.config.now c.visits.new.config c.in-Some.ensures.is (held_alone f c.push_visits.new.frame _ c.nothing_held.result (c.in_ok-push_visits-in-Some.ensures ∙ ap (λ (x : Frame). record x { held = visits_as_items c.in_ok-visits-in-Some.visits ++ x.held }) c.set_held.ensures) c.nothing_held.ensures).0 c.in_ok-visits-in-Some.ensures.does

pub returns-in_ok-push_visits-in-Some-clause-there :
    goal.returns-in_ok-push_visits-in-Some-clause-there
returns-in_ok-push_visits-in-Some-clause-there g c =
    let m = g.S.WorldStore.meaning in
    let vs = c.in_ok-visits-in-Some.visits in
    let f = c.args.frame.now in
    let mid = c.visits.new.config in
    holding_there m mid f c.push_visits.new.frame (visits_as_items vs ++ []) (c.in_ok-visits-in-Some.ensures.later.frames f c.requires.there) (items_there mid vs c.in_ok-visits-in-Some.ensures.found) (held_alone f c.push_visits.new.frame _ c.nothing_held.result (c.in_ok-push_visits-in-Some.ensures ∙ ap (λ (x : Frame). record x { held = visits_as_items c.in_ok-visits-in-Some.visits ++ x.held }) c.set_held.ensures) c.nothing_held.ensures).1

pub returns-in_ok-error-in-None-clause-there : goal.returns-in_ok-error-in-None-clause-there
returns-in_ok-error-in-None-clause-there g c = c.in_ok-error-in-None.ensures.later.frames c.args.frame.now c.requires.there

pub returns-in_ok-error-in-None-clause-lists : goal.returns-in_ok-error-in-None-clause-lists
returns-in_ok-error-in-None-clause-lists g c =
    refuses_none g.S.WorldStore.meaning (λ t. value_in t c.args.value) c.in_ok-error-in-None.error c.args.frame.now c.args.config.now c.create_error.new.config c.in-None.ensures.is c.in_ok-error-in-None.ensures.does
