use Rattle.std.proofs.Common.{List, sym, ap, ◌∙◌, ◌++◌}
use Rattle.wjs_props.specs.declared.visits.Visit.{Visit}
use Rattle.wjs_model.specs.declared.frame.Activation.{Activation as Frame}
use Rattle.wjs_step_common.specs.Lists.{visits_as_items}
use Rattle.wjs_loops.proofs.Visiting.{items_snoc, held_twice, held_is}
use Rattle.wjs_loops.proofs.visits.push_visits.Goals as goal

pub loop-visit-preserved : goal.loop-visit-preserved
loop-visit-preserved c =
    let l = c.loop-visit.frame in
    let left = c.pop.new.self in
    record {
      same = held_twice c.args.frame.now l c.hold.new.frame c.loop-visit.invariant.same (held_is l c.hold.new.frame _ c.in_ok-hold.ensures);
      all =
          ap (λ (f : Frame). visits_as_items left ++ f.held) c.in_ok-hold.ensures
          ∙ sym (items_snoc left c.in-Some.visit l.held)
          ∙ sym (ap (λ (vs : List Visit). visits_as_items vs ++ l.held) c.in-Some.ensures.last)
          ∙ c.loop-visit.invariant.all;
    }
